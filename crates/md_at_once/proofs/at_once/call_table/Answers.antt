use Rattle.std.proofs.Common.{◌≢◌, subst, sym}
use Rattle.md_engine.specs.declared.state.Name.TheVariants as n
use Rattle.md_engine.specs.declared.state.State.TheVariants.{Error}
use Rattle.md_engine.specs.Full.{IsFull}
use Rattle.md_engine.specs.Going.{SeesOn}
use Rattle.md_engine.specs.Run.{RunsHere}
use Rattle.md_engine.specs.World.{World, world}
use Rattle.md_registry.specs.States.{FlowStep}
use Rattle.md_registry.proofs.GfmTable.Calls.{answers-fine, is_valid-first, is_valid-proceeds, is_valid-leaves}
use Rattle.md_at_once.proofs.WantOfMemory.{wants-none}
use Rattle.md_at_once.proofs.at_once.call_table.Goals as goal

pub loop-to-init : goal.loop-to-init
loop-to-init c =
    is_valid-first (n.GfmTable c.args.first) (world c.args.tokenizer.now) c.requires.current c.requires.valid

pub loop-to-preserved : goal.loop-to-preserved
loop-to-preserved c =
    let to = c.call_in_table-to.result in
    let u = world c.call_in_table-to.new.tokenizer in
    let fine : to ≢ Error = answers-fine to _ u _ c.in-Some.ensures.some in
    (is_valid-proceeds (n.GfmTable c.args.first) (world c.args.tokenizer.now) (n.GfmTable c.loop-to.state)
    (world c.loop-to.tokenizer) to u _ _ c.loop-to.invariant (c.call_in_table-to.ensures.runs fine)
    (c.call_in_table-to.ensures.sees fine) c.in-Some.ensures.some).0

pub loop-to-smaller : goal.loop-to-smaller
loop-to-smaller c =
    let to = c.call_in_table-to.result in
    let u = world c.call_in_table-to.new.tokenizer in
    let fine : to ≢ Error = answers-fine to _ u _ c.in-Some.ensures.some in
    (is_valid-proceeds (n.GfmTable c.args.first) (world c.args.tokenizer.now) (n.GfmTable c.loop-to.state)
    (world c.loop-to.tokenizer) to u _ _ c.loop-to.invariant (c.call_in_table-to.ensures.runs fine)
    (c.call_in_table-to.ensures.sees fine) c.in-Some.ensures.some).1

pub returns-in_default-next : goal.returns-in_default-next
returns-in_default-next c =
    let first = n.GfmTable c.args.first in
    let old = world c.args.tokenizer.now in
    let to = c.call_in_table-to.result in
    let all = λ (fine : to ≢ Error).
    is_valid-leaves first old (n.GfmTable c.loop-to.state) (world c.loop-to.tokenizer) to
    (world c.call_in_table-to.new.tokenizer) c.loop-to.invariant (c.call_in_table-to.ensures.runs fine)
    (c.call_in_table-to.ensures.sees fine) in
    let same = sym (c.next.ensures.none c.in_default-next.is) in
    record {
      runs = λ fine. subst (λ (x : World). RunsHere FlowStep first old to x) same (all fine).0;
      sees = λ fine. subst (λ (x : World). SeesOn to old x) same (all fine).1;
      full = wants-none to (IsFull c.next.new.tokenizer) c.in_default.not-Error;
    }
