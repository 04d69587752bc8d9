-- Every byte of a text is in a piece that says what it is, and no block holds bytes of its own.
use Rattle.std.specs.Prelude.{ℕ, not, IsTrue, List}
use Rattle.std.specs.List.{Contains}
use Rattle.md_engine.specs.declared.event.Point.{Point}
use Rattle.md_events.specs.Events.Inline.{Piece}
use Rattle.md_events.specs.Events.Pieces.{is_piece_name, is_valid_piece}
use Rattle.md_events.specs.Events.Places.{at_or_before, first_point}

-- where a byte begins; a tab has further columns after it
abbrev pub byte_point : ℕ → Point
byte_point index = record first_point { index = index }

-- A piece in which a byte is: it begins at the byte or before, and ends after the byte's first column. It is over what
-- its name says, and that is the name of no block, group or part. A tab may be in further pieces by its other columns.
pub record Holds (bytes : List ℕ) (pieces : List Piece) (index : ℕ) : Type 0 where
  pub piece : Piece
  pub among : Contains pieces piece
  pub begins : IsTrue (at_or_before piece.first (byte_point index))
  pub ends : IsTrue (not (at_or_before piece.after (byte_point index)))
  pub valid : IsTrue (is_valid_piece bytes piece)
  pub name : IsTrue (is_piece_name piece.name)
