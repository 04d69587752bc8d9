use Rattle.std.proofs.Common.{◌≡◌, refl, subst, sym}
use Rattle.md_engine.specs.Full.{OnError}
use Rattle.md_engine.specs.Going.{SeesOn}
use Rattle.md_engine.specs.Run.{Runs}
use Rattle.md_engine.specs.Run.Runs.{Stays, ThenLeaves}
use Rattle.md_engine.specs.World.{World, world}
use Rattle.md_engine.specs.declared.state.Name.TheVariants as n
use Rattle.md_engine.specs.declared.state.State.{State}
use Rattle.md_engine.specs.declared.state.State.TheVariants.{Next, Ok}
use Rattle.md_registry.specs.Flow.{leaf_end}
use Rattle.md_registry.specs.States.{FlowStep}
use Rattle.md_at_once.specs.AtOnce.{LineFull}
use Rattle.md_at_once.proofs.LineEnds.{end-runs, left-after}
use Rattle.md_at_once.proofs.WantOfMemory.{accepted-wants}
use Rattle.md_leaves.proofs.HeadingCalls.{ahead}
use Rattle.md_at_once.proofs.line_ends.accepted.Goals as goal

pub returns-then-see_or_wait : goal.returns-then-see_or_wait
returns-then-see_or_wait c =
    let w = world c.args.tokenizer.now in
    let next = c.in-Some.next in
    let new = c.see_or_wait.new.self in
    let is : next ≡ Next (n.Flow (leaf_end c.args.shuts)) =
    left-after c.args.shuts w (world c.leave.new.tokenizer) next c.requires c.in-Some.ensures.leaves in
    record {
      runs = λ fine is_end.
          subst (λ (x : World). Runs FlowStep is_end Ok w next x) (sym (c.if-see_or_wait.ensures.same refl))
          (ThenLeaves Ok w next (world c.leave.new.tokenizer) Stays c.in-Some.ensures.leaves);
      sees = λ fine from. subst (λ (s : State). SeesOn s from (world new)) (sym is) tt;
      full = subst (λ (s : State). OnError s (LineFull w new)) (sym is) tt;
    }

pub returns-else-see_or_wait : goal.returns-else-see_or_wait
returns-else-see_or_wait c =
    let w = world c.args.tokenizer.now in
    let u = world c.leave.new.tokenizer in
    let v = world c.see_or_wait.new.self in
    let lt = ahead (c.if-see_or_wait.ensures.is_continued refl) in
    record {
      runs = λ fine.
          end-runs c.args.shuts w u v c.in-Some.next c.line_ends.result (world c.line_ends.new.tokenizer) c.requires
          c.in-Some.ensures.leaves (c.if-see_or_wait.ensures.sees refl) lt (c.line_ends.ensures.runs fine);
      sees = c.line_ends.ensures.sees;
      full =
          accepted-wants c.args.shuts w u v c.in-Some.next c.line_ends.result c.line_ends.new.tokenizer c.requires
          c.in-Some.ensures.leaves (c.if-see_or_wait.ensures.sees refl) lt c.line_ends.ensures.full;
    }
