use Rattle.std.proofs.Common.{◌≢◌}
use Rattle.md_engine.specs.World.{world}
use Rattle.md_engine.specs.declared.state.html_flow.State.TheVariants as its
use Rattle.md_engine.specs.declared.state.Name.TheVariants as n
use Rattle.md_engine.specs.declared.state.State.TheVariants.{Error}
use Rattle.md_engine.proofs.StayLemmas.{within-world}
use Rattle.md_registry.proofs.LinesAtOnce.{Proceeds, proceeds-through}
use Rattle.md_at_once.proofs.FenceLines.{still-seen}
use Rattle.md_at_once.proofs.HtmlLines.{furthers}
use Rattle.md_at_once.proofs.html_lines.further.Goals as goal

pub further_inside-requires : goal.further_inside-requires
further_inside-requires c =
    let w = world c.args.tokenizer.now in
    let u = world c.continuation_start-to.new.tokenizer in
    let proceeds : c.continuation_start-to.result ≢ Error →
    Proceeds (n.HtmlFlow its.ContinuationStart) w c.continuation_start-to.result u =
    furthers w c.continuation_start-to.result u c.requires.current (within-world c.args.tokenizer.now)
    c.continuation_start-to.ensures.to
    c.continuation_start-to.ensures.world in
    record {
      current =
          still-seen (n.HtmlFlow its.ContinuationStart) (n.HtmlFlow its.BlankLineBefore) w u
          c.continuation_start-to.result
          (c.is_open.ensures c.if-is_open.true) proceeds;
      has = tt;
    }

pub returns-then-is_open : goal.returns-then-is_open
returns-then-is_open c =
    let w = world c.args.tokenizer.now in
    let u = world c.continuation_start-to.new.tokenizer in
    let proceeds : c.continuation_start-to.result ≢ Error →
    Proceeds (n.HtmlFlow its.ContinuationStart) w c.continuation_start-to.result u =
    furthers w c.continuation_start-to.result u c.requires.current (within-world c.args.tokenizer.now)
    c.continuation_start-to.ensures.to
    c.continuation_start-to.ensures.world in
    let all = λ (fine : c.further_inside.result ≢ Error).
    proceeds-through (n.HtmlFlow its.ContinuationStart) (n.HtmlFlow its.BlankLineBefore) w u
    c.continuation_start-to.result c.further_inside.result
    (world c.further_inside.new.tokenizer) c.requires.current (c.is_open.ensures c.if-is_open.true) proceeds
    (λ saw. (c.further_inside.ensures.runs fine, c.further_inside.ensures.sees fine)) in
    record { runs = λ fine. (all fine).0; sees = λ fine. (all fine).1; full = c.further_inside.ensures.full }

pub returns : goal.returns
returns c =
    let w = world c.args.tokenizer.now in
    let u = world c.continuation_start-to.new.tokenizer in
    let proceeds : c.continuation_start-to.result ≢ Error →
    Proceeds (n.HtmlFlow its.ContinuationStart) w c.continuation_start-to.result u =
    furthers w c.continuation_start-to.result u c.requires.current (within-world c.args.tokenizer.now)
    c.continuation_start-to.ensures.to
    c.continuation_start-to.ensures.world in
    record {
      runs = λ fine. (proceeds fine).0;
      sees = λ fine. (proceeds fine).1;
      full = c.continuation_start-to.ensures.full;
    }
