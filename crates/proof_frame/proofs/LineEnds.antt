-- Where a line ends by its cells.
use Rattle.std.proofs.Common.{◌≡◌, ℕ, List, ◌++◌, ◌∙◌, arith}
use Rattle.md_engine.specs.declared.event.Point.{Point}
use Rattle.md_engine.specs.declared.tokenizer.Line.{Line}
use Rattle.md_engine.specs.Meaning.{Cell}
use Rattle.md_meaning.specs.Rest.{Rest}
use Rattle.md_meaning.proofs.TextsLemmas.{NoEnding}
use Rattle.md_events.specs.Ahead.{line_end}
use Rattle.md_events.specs.Events.Places.{past_text}
use Rattle.md_events.proofs.FeedLines.{Stops}
use Rattle.md_events.proofs.RestCells.{RestAt, rest_cells}
use Rattle.md_events.proofs.RestLines.{rest-past}
use Rattle.proof_frame.specs.RestLine.{rest_line}
use Rattle.proof_frame.proofs.IndentRemoved.Columns.{past-line}

-- the line ends where its bytes do
pub line-ends : (said : Line) (text following : List ℕ) (r : Rest) (p : Point) (stop : List Cell) →
    RestAt text following r p → NoEnding r.bytes → Stops stop →
    line_end (rest_cells said r p ++ stop) p ≡ past_text (rest_line r) p
line-ends said text following r p stop is h k =
    rest-past said r p stop h k (let at = is.column in omega arith) ∙ past-line text following r p is
