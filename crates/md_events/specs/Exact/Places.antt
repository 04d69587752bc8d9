-- The lines of a text, and the pieces of a line: each reaches from where one rest of the line begins to where another
-- does.
use Rattle.std.specs.Prelude.{ℕ, ◌+◌, ◌-◌, Bool, false, ◌&&◌, ◌==◌, if◌then◌else◌, List, [], ◌∷◌, length, take, drop}
use Rattle.md_engine.specs.declared.event.Content.{Content}
use Rattle.md_engine.specs.declared.event.Event.{Event}
use Rattle.md_engine.specs.declared.event.Name.{Name}
use Rattle.md_engine.specs.declared.event.Name.TheVariants as n
use Rattle.md_engine.specs.declared.event.Point.{Point}
use Rattle.md_meaning.specs.Bytes.{is_end}
use Rattle.md_meaning.specs.Lines.{without_ending}
use Rattle.md_meaning.specs.Rest.{Rest}
use Rattle.md_events.specs.Events.Nested.{around, enter_link, exit, pair}
use Rattle.md_events.specs.Events.Places.{columns_from}

-- A line: its number from 1, the byte where it begins, the column of that from 0, its bytes, and those of its ending,
-- which are none where the text ends.
pub record TextLine : Type 0 where
  pub number : ℕ
  pub index : ℕ
  pub column : ℕ
  pub bytes : List ℕ
  pub ending : List ℕ

-- a line that begins here, given with its ending
abbrev pub line_at : ℕ → ℕ → ℕ → List ℕ → TextLine
line_at number index column full = record {
  number = number;
  index = index;
  column = column;
  bytes = without_ending full;
  ending = drop (length (without_ending full)) full;
}

-- the lines from here on, given with their endings: after the last ending is one more line, which is empty
abbrev pub lines_from : ℕ → ℕ → ℕ → List (List ℕ) → List TextLine
lines_from number index column [] = line_at number index column [] ∷ []
lines_from number index column (full ∷ more) =
    let line = line_at number index column full in
    line ∷ (if is_end line.ending then [] else lines_from (number + 1) (index + length full) 0 more)

-- all of a line, and what is left at its end
abbrev pub whole : TextLine → Rest
whole line = record { column = line.column; spaces = 0; bytes = line.bytes }

abbrev pub line_end : TextLine → Rest
line_end line = record { column = columns_from line.column line.bytes; spaces = 0; bytes = [] }

-- after so many bytes of a rest
abbrev pub past : ℕ → Rest → Rest
past size r = record {
  column = columns_from (r.column + r.spaces) (take size r.bytes);
  spaces = 0;
  bytes = drop size r.bytes;
}

-- Points.

-- The point where a rest of a line begins: at its first byte, or at the tab of which columns are left, after as many of
-- its columns as were taken.
abbrev pub place : TextLine → Rest → Point
place line r =
    let before = length line.bytes - length r.bytes - (if r.spaces == 0 then 0 else 1) in
    record {
      line = line.number;
      column = r.column + 1;
      index = line.index + before;
      vs = r.column - columns_from line.column (take before line.bytes);
    }

-- after the ending of a line, or where it ends if it has none
abbrev pub next_line : TextLine → Point
next_line line =
    if is_end line.ending then place line (line_end line)
    else record {
      line = line.number + 1;
      column = 1;
      index = line.index + length line.bytes + length line.ending;
      vs = 0;
    }

-- whether two rests of a line begin at one point
abbrev pub is_same : Rest → Rest → Bool
is_same r s = (length r.bytes == length s.bytes) && (r.spaces == s.spaces)

-- Events.

-- a part of a line, from where one rest begins to where another does
abbrev pub part : TextLine → Name → Rest → Rest → List Event → List Event
part line name r s inside = around name (place line r) (place line s) inside

-- a piece of a line, and whitespace; none if it would be empty
abbrev pub piece : TextLine → Name → Rest → Rest → List Event
piece line name r s = if is_same r s then [] else part line name r s []

abbrev pub white : TextLine → Rest → Rest → List Event
white line r s = piece line n.SpaceOrTab r s

-- a chunk of a text part, which the inline layer reads later
abbrev pub chunk : Content → Point → Point → List Event
chunk content p q =
    enter_link n.Data p (record { previous = false; next = false; content = content }) ∷ exit n.Data q ∷ []

-- a text part of one line; none if it would be empty
abbrev pub text_part : TextLine → Content → Name → Rest → Rest → List Event
text_part line content name r s =
    if is_same r s then [] else part line name r s (chunk content (place line r) (place line s))

-- the ending of a line, if it has one
abbrev pub ending : Name → TextLine → List Event
ending name line = if is_end line.ending then [] else pair name (place line (line_end line)) (next_line line)
