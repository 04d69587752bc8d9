use Rattle.std.proofs.Common.{◌≢◌}
use Rattle.md_engine.specs.World.{world}
use Rattle.md_engine.specs.declared.state.raw_flow.State.TheVariants as its
use Rattle.md_engine.specs.declared.state.Name.TheVariants as n
use Rattle.md_engine.specs.declared.state.State.TheVariants.{Error}
use Rattle.md_engine.proofs.StayLemmas.{within-world}
use Rattle.md_registry.proofs.LinesAtOnce.{Proceeds}
use Rattle.md_at_once.proofs.FenceLines.{breaks, still-seen}
use Rattle.md_at_once.proofs.FlowRuns.{run-through}
use Rattle.md_at_once.proofs.WantOfMemory.{state-wants}
use Rattle.md_at_once.proofs.fences.tried.Goals as goal

pub line-requires : goal.line-requires
line-requires c =
    let w = world c.args.tokenizer.now in
    let u = world c.at_non_lazy_break-to.new.tokenizer in
    let proceeds : c.at_non_lazy_break-to.result ≢ Error → Proceeds (n.RawFlow its.AtNonLazyBreak) w
    c.at_non_lazy_break-to.result u =
    breaks w c.at_non_lazy_break-to.result u c.requires.current (within-world c.args.tokenizer.now)
    c.at_non_lazy_break-to.ensures.to c.at_non_lazy_break-to.ensures.world in
    record {
      current =
          still-seen (n.RawFlow its.AtNonLazyBreak) (n.RawFlow its.ContentStart) w u c.at_non_lazy_break-to.result
          (c.is_start.ensures c.if-is_start.true) proceeds;
      has = tt;
    }

pub returns-then-is_start : goal.returns-then-is_start
returns-then-is_start c =
    let w = world c.args.tokenizer.now in
    let u = world c.at_non_lazy_break-to.new.tokenizer in
    let proceeds : c.at_non_lazy_break-to.result ≢ Error → Proceeds (n.RawFlow its.AtNonLazyBreak) w
    c.at_non_lazy_break-to.result u =
    breaks w c.at_non_lazy_break-to.result u c.requires.current (within-world c.args.tokenizer.now)
    c.at_non_lazy_break-to.ensures.to c.at_non_lazy_break-to.ensures.world in
    run-through (n.RawFlow its.AtNonLazyBreak) (n.RawFlow its.ContentStart) w u c.at_non_lazy_break-to.result
    c.line.result c.line.new.tokenizer c.requires.current (c.is_start.ensures c.if-is_start.true) proceeds
    c.line.ensures

pub returns : goal.returns
returns c =
    let w = world c.args.tokenizer.now in
    let u = world c.at_non_lazy_break-to.new.tokenizer in
    let proceeds : c.at_non_lazy_break-to.result ≢ Error → Proceeds (n.RawFlow its.AtNonLazyBreak) w
    c.at_non_lazy_break-to.result u =
    breaks w c.at_non_lazy_break-to.result u c.requires.current (within-world c.args.tokenizer.now)
    c.at_non_lazy_break-to.ensures.to c.at_non_lazy_break-to.ensures.world in
    record {
      runs = λ fine. (proceeds fine).0;
      sees = λ fine. (proceeds fine).1;
      full =
          state-wants (n.RawFlow its.AtNonLazyBreak) w c.at_non_lazy_break-to.result
          c.at_non_lazy_break-to.new.tokenizer c.at_non_lazy_break-to.ensures.full;
    }
