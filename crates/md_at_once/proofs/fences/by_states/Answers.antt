use Rattle.std.proofs.Common.{◌≢◌}
use Rattle.md_engine.specs.World.{world}
use Rattle.md_engine.specs.declared.state.document.State.TheVariants as document
use Rattle.md_engine.specs.declared.state.raw_flow.State.TheVariants as its
use Rattle.md_engine.specs.declared.state.Name.TheVariants as n
use Rattle.md_engine.specs.declared.state.State.TheVariants.{Error}
use Rattle.md_engine.proofs.StayLemmas.{within-world}
use Rattle.md_registry.proofs.LinesAtOnce.{Proceeds, inside-leaves, leaves-once}
use Rattle.md_at_once.proofs.FenceLines.{still-seen}
use Rattle.md_at_once.proofs.FlowRuns.{run-through}
use Rattle.md_at_once.proofs.WantOfMemory.{state-wants}
use Rattle.md_at_once.proofs.fences.by_states.Goals as goal

pub further-requires : goal.further-requires
further-requires c =
    let w = world c.args.tokenizer.now in
    let u = world c.flow_inside-to.new.tokenizer in
    let proceeds : c.flow_inside-to.result ≢ Error → Proceeds (n.Document document.FlowInside) w
    c.flow_inside-to.result u =
    λ fine. leaves-once (n.Document document.FlowInside) w c.flow_inside-to.result u (inside-leaves w)
    (c.flow_inside-to.ensures.state.to fine)
    (c.flow_inside-to.ensures.state.world fine) fine c.requires.current (within-world c.args.tokenizer.now) in
    record {
      current =
          still-seen (n.Document document.FlowInside) (n.RawFlow its.AtNonLazyBreak) w u c.flow_inside-to.result
          (c.is_further.ensures c.if-is_further.true) proceeds;
      has = tt;
    }

pub returns-then-is_further : goal.returns-then-is_further
returns-then-is_further c =
    let w = world c.args.tokenizer.now in
    let u = world c.flow_inside-to.new.tokenizer in
    let proceeds : c.flow_inside-to.result ≢ Error → Proceeds (n.Document document.FlowInside) w
    c.flow_inside-to.result u =
    λ fine. leaves-once (n.Document document.FlowInside) w c.flow_inside-to.result u (inside-leaves w)
    (c.flow_inside-to.ensures.state.to fine)
    (c.flow_inside-to.ensures.state.world fine) fine c.requires.current (within-world c.args.tokenizer.now) in
    run-through (n.Document document.FlowInside) (n.RawFlow its.AtNonLazyBreak) w u c.flow_inside-to.result
    c.further.result c.further.new.tokenizer c.requires.current (c.is_further.ensures c.if-is_further.true) proceeds
    c.further.ensures

pub returns : goal.returns
returns c =
    let w = world c.args.tokenizer.now in
    let u = world c.flow_inside-to.new.tokenizer in
    let proceeds : c.flow_inside-to.result ≢ Error → Proceeds (n.Document document.FlowInside) w
    c.flow_inside-to.result u =
    λ fine. leaves-once (n.Document document.FlowInside) w c.flow_inside-to.result u (inside-leaves w)
    (c.flow_inside-to.ensures.state.to fine)
    (c.flow_inside-to.ensures.state.world fine) fine c.requires.current (within-world c.args.tokenizer.now) in
    record {
      runs = λ fine. (proceeds fine).0;
      sees = λ fine. (proceeds fine).1;
      full =
          state-wants (n.Document document.FlowInside) w c.flow_inside-to.result c.flow_inside-to.new.tokenizer
          c.flow_inside-to.ensures.state.full;
    }
