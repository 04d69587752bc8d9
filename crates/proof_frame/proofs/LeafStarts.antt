-- The start of a leaf after a small indent, as flow knows it: what is left of a line is no longer than it was.
use Rattle.std.proofs.Common.{ℕ, ◌≤◌, Bool, List, length, arith}
use Rattle.md_engine.specs.declared.configuration.ParseOptions.{ParseOptions}
use Rattle.md_engine.specs.declared.event.Name.{Name}
use Rattle.md_engine.specs.Meaning.{Cell, Here, Outcome}
use Rattle.md_leaves.specs.LeafStart.{start_at}
use Rattle.md_events.specs.Ahead.{begins_white}
use Rattle.md_events.specs.Spaces.{small_indent}
use Rattle.md_events.proofs.RestCells.{white-length}
use Rattle.proof_frame.proofs.LeafLaws.{Shrinks, cond-shrinks}

pub start-shrinks : (name : Name) (on : Bool) (following : List Cell → Here → Outcome) (options : ParseOptions)
    (cells : List Cell) (h : Here) →
    ((n : ℕ) (cells : List Cell) (h : Here) → length cells ≤ n → Shrinks n (following cells h)) →
    Shrinks (length cells) (start_at name on following options cells h)
unfolding start_at
start-shrinks name on following options cells h shrinks =
    cond-shrinks _ on _ _
    (cond-shrinks _ (begins_white cells) _ _ (shrinks _ _ _ (white-length (small_indent options) cells))
    (shrinks _ cells _ (omega arith)))
    tt
