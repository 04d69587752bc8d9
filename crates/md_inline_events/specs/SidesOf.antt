-- What values of this crate are in the words of its definitions.
use Rattle.std.specs.Prelude.{◌≡◌, ℕ, ◌+◌, ◌^◌, ◌<◌, Bool, List, [], ◌∷◌, length}
use Rattle.md_events.specs.declared.inline.Chunk.{Chunk}
use Rattle.md_events.specs.Events.Inline.{Part}
use Rattle.md_inline_events.specs.Woven.{Sides, is_text, next_side, read_chunks}
use Rattle.md_inline_events.specs.Cursor.{marks_left}
use Rattle.md_inline_events.specs.Marks.{Mark}
use Rattle.md_inline_events.specs.declared.cursor.Cursor.{Cursor}
use Rattle.md_inline_events.specs.declared.text.PartText.{PartText}
use Rattle.md_inline_events.specs.declared.text.PartText.TheVariants.{Lent, Copied}
use Rattle.md_inline_events.specs.declared.sides.Sides.{Sides as Lent_sides}

abbrev pub sides_of : Lent_sides → Sides
sides_of side = record {
  indent = side.indent.now;
  text = side.text.now;
  trail = side.trail.now;
  ending = side.ending.now;
}

abbrev pub text_bytes : PartText → List ℕ
text_bytes (Lent side) = side.text.now
text_bytes (Copied text) = text.items

-- What is read of a chunk of a part, before these others; points have room for it.
pub record IsSideOf (bytes : List ℕ) (starts ends : Bool) (chunk : Chunk) (chunks : List Chunk) (side : Lent_sides) :
    Type 0 where
  pub is : sides_of side ≡ next_side bytes starts ends chunk chunks
  pub sized :
      chunk.first.index + (length side.indent.now + (length side.text.now + length side.trail.now)) < 2 ^ 61

-- What is read of the only chunk of a part.
pub record IsOneSide (bytes : List ℕ) (leaves_out : Bool) (chunks : List Chunk) (side : Lent_sides) : Type 0 where
  pub chunk : Chunk
  pub alone : chunks ≡ chunk ∷ []
  pub is : IsSideOf bytes leaves_out leaves_out chunk [] side

-- the text of some chunks
abbrev pub IsReadOf : List ℕ → Bool → List Chunk → PartText → Type 0
IsReadOf bytes leaves_out chunks (Lent side) = IsOneSide bytes leaves_out chunks side
IsReadOf bytes leaves_out chunks (Copied text) = text.items ≡ read_chunks bytes leaves_out leaves_out chunks

-- the text of a part
abbrev pub IsTextOf : List ℕ → Part → PartText → Type 0
IsTextOf bytes held text = IsReadOf bytes (is_text held.kind) held.chunks text

-- of a part on one line, this is read of its next chunk
abbrev pub IsNextOf : List ℕ → Bool → Bool → Chunk → List Chunk → PartText → Type 0
IsNextOf bytes starts ends chunk chunks (Lent side) = IsSideOf bytes starts ends chunk chunks side
IsNextOf bytes starts ends chunk chunks (Copied text) = Unit {0}

-- the marks of what a cursor has not passed
abbrev pub cursor_marks : Cursor → List Mark
cursor_marks cursor = marks_left cursor.left cursor.tokens.now
