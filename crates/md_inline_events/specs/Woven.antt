-- The text of a part as its layer reads it, and the events of a forest over that text.
--
-- The whitespace before each line is not read, nor that after the last line; each line ending is read as a LF. What is
-- not read has pieces of its own in the events, woven into those of the forest: `SpaceOrTab` over the whitespace, and
-- `LineEnding` over each ending. Of a string, whitespace is left out only before its further lines.
use Rattle.std.specs.Prelude.{ℕ, ◌-◌, Bool, true, false, ◌&&◌, if◌then◌else◌, List, [], ◌∷◌, ◌++◌, length, take, drop}
use Rattle.std.specs.List.{prefix_len, suffix_len}
use Rattle.md_engine.specs.declared.event.Event.{Event}
use Rattle.md_engine.specs.declared.event.Name.{Name}
use Rattle.md_engine.specs.declared.event.Name.TheVariants as n
use Rattle.md_engine.specs.declared.event.Point.{Point}
use Rattle.md_meaning.specs.Ascii.{line_feed}
use Rattle.md_meaning.specs.Lines.{without_ending}
use Rattle.md_meaning.specs.Rest.{is_white}
use Rattle.md_events.specs.declared.inline.Chunk.{Chunk}
use Rattle.md_events.specs.declared.inline.PartKind.{PartKind}
use Rattle.md_events.specs.declared.inline.PartKind.TheVariants as kind
use Rattle.md_events.specs.Events.Inline.{Part, chunk_text, is_none, pair_unless_empty, together}
use Rattle.md_events.specs.Events.Places.{past_text}
use Rattle.md_inline_events.specs.Forest.{Forest, marks}
use Rattle.md_inline_events.specs.Marks.{Mark, closes_in, entered, exited, last_name, line_events, opens_in}

-- A chunk: the whitespace before its text, its text, the whitespace after it, and its ending.
pub record Sides : Type 0 where
  pub indent : List ℕ
  pub text : List ℕ
  pub trail : List ℕ
  pub ending : List ℕ

-- how many bytes of a line are whitespace that is left out, before its text and after it
abbrev pub indent_len : Bool → List ℕ → ℕ
indent_len leaves_out line = if leaves_out then prefix_len is_white line else 0

abbrev pub text_len : Bool → List ℕ → ℕ
text_len leaves_out rest = if leaves_out then length rest - suffix_len is_white rest else length rest

-- a line after its indent, and its ending
abbrev pub sides_of_rest : List ℕ → Bool → List ℕ → List ℕ → Sides
sides_of_rest indent ends rest ending = record {
  indent = indent;
  text = take (text_len ends rest) rest;
  trail = drop (text_len ends rest) rest;
  ending = ending;
}

abbrev pub sides_of_line : Bool → Bool → List ℕ → List ℕ → Sides
sides_of_line starts ends line ending =
    sides_of_rest (take (indent_len starts line) line) ends (drop (indent_len starts line) line) ending

-- whether whitespace before its text is left out, and after it
abbrev pub sides : Bool → Bool → List ℕ → Sides
sides starts ends text =
    sides_of_line starts ends (without_ending text) (drop (length (without_ending text)) text)

-- an ending as it is read
abbrev pub as_feed : List ℕ → List ℕ
as_feed [] = []
as_feed (b ∷ ending) = line_feed ∷ []

-- what is read of a chunk
abbrev pub read_side : Sides → List ℕ
read_side side = side.text ++ as_feed side.ending

-- The events of an ending, whose byte has the first of these marks.
abbrev pub ending_events : Point → Point → List ℕ → List Mark → List Event
ending_events end after [] marks = pair_unless_empty n.LineEnding end after
ending_events end after (b ∷ ending) [] = pair_unless_empty n.LineEnding end after
ending_events end after (b ∷ ending) (mark ∷ marks) =
    entered (opens_in mark.front) end
    ++ (pair_unless_empty n.LineEnding end after ++ exited (closes_in mark.back) after)

-- The events of a chunk, whose bytes that are read have the first of these marks; it begins in a piece of this name.
abbrev pub side_events : Chunk → Sides → List Mark → Name → List Event
side_events chunk side marks piece =
    let first : Point = past_text side.indent chunk.first in
    let after : Point = past_text side.text first in
    let end : Point = past_text side.trail after in
    pair_unless_empty n.SpaceOrTab chunk.first first
    ++ (line_events side.text marks piece first first
    ++ (pair_unless_empty n.SpaceOrTab after end
    ++ ending_events end chunk.after side.ending (drop (length side.text) marks)))

-- A part is read from chunk to chunk. `starts` says whether whitespace before the next text is left out, `ends` whether
-- that after the last is.

abbrev pub next_side : List ℕ → Bool → Bool → Chunk → List Chunk → Sides
next_side bytes starts ends chunk chunks = sides starts (ends && is_none chunks) (chunk_text bytes chunk)

abbrev pub read_chunks : List ℕ → Bool → Bool → List Chunk → List ℕ
read_chunks bytes starts ends [] = []
read_chunks bytes starts ends (chunk ∷ chunks) =
    read_side (next_side bytes starts ends chunk chunks) ++ read_chunks bytes true ends chunks

-- the events of each chunk, where these are the marks of all bytes that are read of them
abbrev pub chunks_events : List ℕ → Bool → Bool → List Chunk → List Mark → Name → List (List Event)
chunks_events bytes starts ends [] marks piece = []
chunks_events bytes starts ends (chunk ∷ chunks) marks piece =
    let side : Sides = next_side bytes starts ends chunk chunks in
    side_events chunk side marks piece
    ∷ chunks_events bytes true ends chunks (drop (length (read_side side)) marks)
    (last_name piece (take (length (read_side side)) marks))

abbrev pub is_text : PartKind → Bool
is_text kind.Text = true
is_text kind.String = false

-- what a layer reads of a part
abbrev pub read_text : List ℕ → Part → List ℕ
read_text bytes held = read_chunks bytes (is_text held.kind) (is_text held.kind) held.chunks

-- the events of a part whose bytes that are read have these marks
abbrev pub marked_events : List ℕ → Part → List Mark → List Event
marked_events bytes held marks =
    together (chunks_events bytes (is_text held.kind) (is_text held.kind) held.chunks marks n.Data)

-- The events of a forest over what is read of a part.
abbrev pub woven_events : List ℕ → Part → Forest → List Event
woven_events bytes held forest = marked_events bytes held (marks forest)
