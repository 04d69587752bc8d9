-- The columns of whitespace that a line loses, by its cells.
use Rattle.std.proofs.Common.{◌≡◌, ℕ, Bool, cond, ◌&&◌, List, [], ◌++◌, ap₂}
use Rattle.std.specs.Prelude.{nat_lt}
use Rattle.md_engine.specs.declared.event.Name.TheVariants as n
use Rattle.md_engine.specs.declared.event.Point.{Point}
use Rattle.md_engine.specs.declared.tokenizer.Line.{Line}
use Rattle.md_engine.specs.Meaning.{Cell}
use Rattle.md_meaning.specs.Rest.{Rest}
use Rattle.md_literal.specs.FenceLine.{spaces}
use Rattle.md_events.specs.Events.Nested.{pair}
use Rattle.md_events.proofs.FeedLines.{Stops}
use Rattle.md_events.proofs.RestCells.{RestAt, rest_cells}
use Rattle.proof_frame.specs.LineColumns.{columns_part}
use Rattle.proof_frame.proofs.IndentRemoved.Columns.{columns-end, first-white}

-- their part is over them
pub columns-part : (said : Line) (text following : List ℕ) (room : ℕ) (r : Rest) (p : Point) (stop : List Cell) →
    RestAt text following r p → Stops stop → spaces room (rest_cells said r p ++ stop) p ≡ columns_part room r p
columns-part said text following room r p stop is k =
    ap₂ (λ (x : Bool) (q : Point). cond (nat_lt 0 room && x) (pair n.SpaceOrTab p q) [])
    (first-white said text following r p stop is k) (columns-end said text following room r p stop is k)
