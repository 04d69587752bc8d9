use Rattle.std.proofs.Common.{arith, length, length-drop, ◌∙◌, ◌+◌, ◌≤◌, ◌≡◌, ◌-◌, take, drop, ℕ, List}
use Rattle.std.proofs.lemmas.List.{length-take-le, take_rest}
use Rattle.md_engine.specs.declared.event.Event.{Event}
use Rattle.md_events.specs.Rewritten.{written_of}
use Rattle.md_events.proofs.MovingLemmas.{piece-appended}
use Rattle.md_events.proofs.rewriting.Rewriting.push_all.Goals as goal

pub loop-at-preserved : goal.loop-at-preserved
loop-at-preserved c =
    let es : List Event = c.args.events.now in
    let many : ℕ = c.min-many.result in
    let at : ℕ = c.loop-at.at in
    let within : many ≤ length es - at = omega (arith, c.min-many.ensures) in
    let size : length (take many (drop at es)) ≡ many = length-take-le many (drop at es) (simp length-drop within) in
    let further : c.put_piece.new.self.written ≡ c.loop-at.self.written + length (take many (drop at es)) =
    rw (take_rest es at) at c.put_piece.ensures.room.0 in
    record {
      left = c.put_piece.ensures.left ∙ c.loop-at.invariant.left;
      held = c.put_piece.ensures.held ∙ c.loop-at.invariant.held;
      written = piece-appended es (written_of c.loop-at.self) (written_of c.put_piece.new.self) _ at many
          (rw (take_rest es at) at c.put_piece.ensures.written) c.loop-at.invariant.written;
      room = omega (
        arith,
        further,
        size,
        within,
        c.put_piece.ensures.room.1,
        c.loop-at.invariant.room,
        c.loop-at-test.true,
      );
    }
