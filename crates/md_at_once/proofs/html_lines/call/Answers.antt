use Rattle.std.proofs.Common.{◌≢◌, subst, sym}
use Rattle.md_engine.specs.declared.state.Name.TheVariants as n
use Rattle.md_engine.specs.declared.state.State.TheVariants.{Error}
use Rattle.md_engine.specs.declared.tokenizer.Tokenizer.{Tokenizer}
use Rattle.md_engine.specs.World.{World, world}
use Rattle.md_at_once.specs.AtOnce.{FlowFull, Proceeds}
use Rattle.md_registry.proofs.GfmTable.Calls.{answers-fine, is_valid-first, is_valid-proceeds, is_valid-leaves}
use Rattle.md_at_once.proofs.FlowRuns.{run-ends}
use Rattle.md_at_once.proofs.WantOfMemory.{state-wants, wants-kept}
use Rattle.md_at_once.proofs.html_lines.call.Goals as goal

pub loop-next-init : goal.loop-next-init
loop-next-init c =
    is_valid-first (n.HtmlFlow c.args.first) (world c.args.tokenizer.now) c.requires.current c.requires.valid

pub loop-next-preserved : goal.loop-next-preserved
loop-next-preserved c =
    let to = c.call_state-to.result in
    let u = world c.call_state-to.new.tokenizer in
    let fine : to ≢ Error = answers-fine to _ u _ c.in-Some.ensures.some in
    (is_valid-proceeds (n.HtmlFlow c.args.first) (world c.args.tokenizer.now) (n.HtmlFlow c.loop-next.state)
    (world c.loop-next.tokenizer) to u _ _ c.loop-next.invariant (c.call_state-to.ensures.runs fine)
    (c.call_state-to.ensures.sees fine) c.in-Some.ensures.some).0

pub loop-next-smaller : goal.loop-next-smaller
loop-next-smaller c =
    let to = c.call_state-to.result in
    let u = world c.call_state-to.new.tokenizer in
    let fine : to ≢ Error = answers-fine to _ u _ c.in-Some.ensures.some in
    (is_valid-proceeds (n.HtmlFlow c.args.first) (world c.args.tokenizer.now) (n.HtmlFlow c.loop-next.state)
    (world c.loop-next.tokenizer) to u _ _ c.loop-next.invariant (c.call_state-to.ensures.runs fine)
    (c.call_state-to.ensures.sees fine) c.in-Some.ensures.some).1

pub returns-in_default : goal.returns-in_default
returns-in_default c =
    let first = n.HtmlFlow c.args.first in
    let old = world c.args.tokenizer.now in
    let to = c.call_state-to.result in
    let u = world c.call_state-to.new.tokenizer in
    let v = c.call_state-to.new.tokenizer in
    let mid = c.next.new.tokenizer in
    let proceeds : to ≢ Error → Proceeds first old to (world mid) = λ good.
    let left : Proceeds first old to u =
    is_valid-leaves first old (n.HtmlFlow c.loop-next.state) (world c.loop-next.tokenizer) to u c.loop-next.invariant
    (c.call_state-to.ensures.runs good) (c.call_state-to.ensures.sees good) in
    subst (λ (x : World). Proceeds first old to x) (sym (c.next.ensures.none c.in_default.is)) left in
    run-ends first old to mid c.end.result c.end.new.tokenizer c.requires.current proceeds
    (wants-kept to (λ (t : Tokenizer). FlowFull first old t) v mid c.next.ensures.error
    (state-wants first old to v c.call_state-to.ensures.full)) c.end.ensures
