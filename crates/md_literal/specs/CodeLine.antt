-- The line that the events of a line of code show, and how what is kept goes with the line definition.
use Rattle.std.specs.Prelude.{ℕ, List}
use Rattle.md_engine.specs.declared.event.Point.{Point}
use Rattle.md_meaning.specs.Tree.{Line}
use Rattle.md_events.specs.Events.Spelled.{begun, text_to}

-- a chunk from a point to a point is read as this line: a tab that it begins in is so many spaces
abbrev pub chunk_line : List ℕ → Point → Point → Line
chunk_line text q r = record { spaces = (begun q).spaces; text = text_to text r.index (begun q) }
