use Rattle.std.proofs.Common.{◌≢◌}
use Rattle.md_engine.specs.World.{world}
use Rattle.md_engine.specs.declared.state.html_flow.State.TheVariants as its
use Rattle.md_engine.specs.declared.state.Name.TheVariants as n
use Rattle.md_engine.specs.declared.state.State.TheVariants.{Error}
use Rattle.md_engine.proofs.StayLemmas.{within-world}
use Rattle.md_registry.proofs.LinesAtOnce.{Proceeds, proceeds-through}
use Rattle.md_at_once.proofs.FenceLines.{still-seen}
use Rattle.md_at_once.proofs.HtmlLines.{overs}
use Rattle.md_at_once.proofs.html_lines.rest_done.Goals as goal

pub continuation_after-requires : goal.continuation_after-requires
continuation_after-requires c =
    let w = world c.args.tokenizer.now in
    let u = world c.rest-to.new.tokenizer in
    let proceeds : c.rest-to.result ≢ Error → Proceeds (n.HtmlFlow its.ContinuationClose) w c.rest-to.result u =
    λ fine. (c.rest-to.ensures.runs fine, c.rest-to.ensures.sees fine) in
    record {
      current =
          still-seen (n.HtmlFlow its.ContinuationClose) (n.HtmlFlow its.ContinuationAfter) w u c.rest-to.result
          (c.is_over.ensures c.if-is_over.true) proceeds;
      has = tt;
    }

pub returns-then-is_over : goal.returns-then-is_over
returns-then-is_over c =
    let w = world c.args.tokenizer.now in
    let u = world c.rest-to.new.tokenizer in
    let proceeds : c.rest-to.result ≢ Error → Proceeds (n.HtmlFlow its.ContinuationClose) w c.rest-to.result u =
    λ fine. (c.rest-to.ensures.runs fine, c.rest-to.ensures.sees fine) in
    let all = λ (fine : c.continuation_after.result ≢ Error).
    proceeds-through (n.HtmlFlow its.ContinuationClose) (n.HtmlFlow its.ContinuationAfter) w u c.rest-to.result
    c.continuation_after.result
    (world c.continuation_after.new.tokenizer) c.requires.current (c.is_over.ensures c.if-is_over.true) proceeds
    (λ saw. overs u c.continuation_after.result (world c.continuation_after.new.tokenizer) saw
    (within-world c.rest-to.new.tokenizer)
    c.continuation_after.ensures.to c.continuation_after.ensures.world fine) in
    record { runs = λ fine. (all fine).0; sees = λ fine. (all fine).1; full = c.continuation_after.ensures.full }

pub returns : goal.returns
returns c =
    let w = world c.args.tokenizer.now in
    let u = world c.rest-to.new.tokenizer in
    let proceeds : c.rest-to.result ≢ Error → Proceeds (n.HtmlFlow its.ContinuationClose) w c.rest-to.result u =
    λ fine. (c.rest-to.ensures.runs fine, c.rest-to.ensures.sees fine) in
    record { runs = λ fine. (proceeds fine).0; sees = λ fine. (proceeds fine).1; full = c.rest-to.ensures.full }
