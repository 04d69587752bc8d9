-- A line that was read, groups of lines, and the events of each: what holds whatever leaves there are.
use Rattle.md_engine.specs.declared.tokenizer.held_leaf.HeldLeaf.{HeldLeaf}
use Rattle.std.specs.Prelude.{ℕ, Bool, true, false, ◌||◌, ◌==◌, if◌then◌else◌, List, [], ◌∷◌, ◌++◌, drop, map}
use Rattle.std.specs.Prelude.{slice_range, Option, Some, None}
use Rattle.md_events.specs.Events.Tiles.{plain_read}
use Rattle.md_events.specs.Events.Spelled.{role, without_last}
use Rattle.md_engine.specs.declared.event.Event.{Event}
use Rattle.md_engine.specs.declared.event.Name.{Name}
use Rattle.md_engine.specs.declared.event.Name.TheVariants as n
use Rattle.md_engine.specs.declared.event.Point.{Point}
use Rattle.md_leaves.specs.Spanned.{has_lines, renamed}
use Rattle.md_leaves.specs.declared.spans.Place.TheVariants.{Outside}
use Rattle.md_events.specs.declared.inline.Chunk.{Chunk}
use Rattle.md_events.specs.Events.Inline.{plain_chunk}
use Rattle.md_events.specs.Events.Places.{past_text}
use Rattle.md_events.specs.Events.Nested.{around, pair}
use Rattle.md_meaning.specs.State.{Container}
use Rattle.proof_frame.specs.Laid.{LineBreak}
use Rattle.proof_frame.specs.EndingName.{ending_name}
use Rattle.proof_frame.specs.LeafName.{LeafName}
use Rattle.proof_frame.specs.TurnLeaf.{TurnLeaf}
use Rattle.proof_frame.specs.Change.{Change}

-- what the rest of a line is, after the prefixes of its containers
pub data RowKind : Type 0 where
  BlankRow : RowKind
  LeafRow : LeafName → RowKind
  TextRow : RowKind

-- A line that was read.
pub record Row : Type 0 where
  pub kind : RowKind
  -- the leaf that it meets, and the one that is open after it
  pub on : HeldLeaf
  pub following : HeldLeaf
  -- what is before it: the prefixes of its containers, and the begins of those that open on it
  pub front : List Event
  -- what it does to the containers that were open before it
  pub change : Change
  -- those that end after it, the outermost first
  pub closed_after : List Container
  -- after its containers: where it begins, whether its ending is that of a blank line if a leaf takes it, what flow
  -- adds for it unless it is text (the whitespace of a blank line, or a leaf from its begin to its end), where its
  -- ending begins, and where it has ended, if it has an ending
  pub first : Point
  pub empty : Bool
  pub inside : List Event
  pub end : Point
  pub after : Option Point

-- by the bytes of a blank line, its whitespace
abbrev pub blank_line : List ℕ → Point → List Event
blank_line [] p = []
blank_line (b ∷ bs) p = pair n.SpaceOrTab p (past_text (b ∷ bs) p)

-- the ending of a line
abbrev pub ending_events : Name → Row → List Event
ending_events name row = elim row.after [ None ↦ [] | Some q ↦ pair name row.end q ]

-- whether nothing is on the rest of a line
abbrev pub is_empty_row : Row → Bool
is_empty_row row = row.first.index == row.end.index

-- whether a line is blank to its ending: so is a line of a leaf that stays blank, and an empty one, without a prefix; a
-- line of text never is
abbrev pub is_blank_by : RowKind → Row → Bool
is_blank_by BlankRow row = true
is_blank_by (LeafRow l) row = row.empty
is_blank_by TextRow row = false

abbrev pub is_blank_row : Row → Bool
is_blank_row row = is_blank_by row.kind row

abbrev pub ending_of : RowKind → Row → Name
ending_of kind row = ending_name (is_blank_by kind row)

-- the bytes of a line
abbrev pub row_line : List ℕ → Row → List ℕ
row_line bytes row = slice_range bytes row.first.index row.end.index

abbrev pub last_row : Row → List Row → Row
last_row row [] = row
last_row row (next ∷ rows) = last_row next rows

-- after the ending of a line
abbrev pub after_row : Row → Point
after_row row = elim row.after [ None ↦ row.end | Some q ↦ q ]

-- the chunks of a text: each line with its ending but the last
abbrev pub chunks_of : Row → List Row → List Chunk
chunks_of row [] = (record { first = row.first; after = row.end }) ∷ []
chunks_of row (next ∷ rows) = (record { first = row.first; after = after_row row }) ∷ chunks_of next rows

-- the lines of a text, once they are read: before each further line are the prefixes of its containers
abbrev pub read_lines : List ℕ → Row → List Row → List Event
read_lines bytes row [] = plain_chunk bytes (record { first = row.first; after = row.end })
read_lines bytes row (next ∷ rows) =
    plain_chunk bytes (record { first = row.first; after = after_row row }) ++ next.front ++ read_lines bytes next rows

-- between lines: where each ends, and what is before the next
abbrev pub breaks_of : Row → List Row → List LineBreak
breaks_of row [] = []
breaks_of row (next ∷ rows) = (record { after = after_row row; front = next.front }) ∷ breaks_of next rows

-- What a line turns these lines into: their text, the ending of the last, and that line after the prefixes of its
-- containers.
abbrev pub turned_by : TurnLeaf → List Event → Row → List Row → Row → List Event
turned_by turn text row rows under =
    around turn.name row.first under.end
    (around turn.text row.first (last_row row rows).end text
    ++ ending_events n.LineEnding (last_row row rows) ++ under.front ++ under.inside)

abbrev pub but_end : List Event → List Event
but_end es = without_last es

abbrev pub but_ends : List Event → List Event
but_ends es = drop 1 (without_last es)

abbrev pub end_of : List Event → List Event
end_of [] = []
end_of (e ∷ []) = e ∷ []
end_of (e ∷ f ∷ es) = end_of (f ∷ es)

-- whether a line is such a pair: it begins and ends a block
abbrev pub is_framed : List Event → Bool
is_framed [] = false
is_framed (e ∷ es) = has_lines (role e.name) || is_framed es

-- whether any of these lines is
abbrev pub any_framed : (Row → List Event) → List Row → Bool
any_framed f [] = false
any_framed f (row ∷ rows) = is_framed (f row) || any_framed f rows

-- what a further line adds inside of the leaf: all but its begin and its end, or all of a bare one
abbrev pub inside_leaf : List Event → List Event
inside_leaf es = if is_framed es then but_ends es else es

-- the end of the leaf, which is that of this line if it has one, and else that of a line in front
abbrev pub end_by : List Event → List Event → List Event
end_by end es = if is_framed es then end_of es else end

-- after the leaf: bare lines, as whitespace, each after the ending of the line in front
abbrev pub span_after : (Row → List Event) → Row → List Row → List Event
span_after f row [] = []
span_after f row (next ∷ rows) =
    ending_events (ending_of row.kind row) row ++ next.front ++ map (renamed Outside) (f next)
    ++ span_after f next rows

-- after the first line, where this is the end of the leaf so far
abbrev pub span_rest : (Row → List Event) → List Event → Row → List Row → List Event
span_rest f end row [] = end
span_rest f end row (next ∷ rows) =
    if any_framed f (next ∷ rows)
    then
    ending_events n.LineEnding row ++ next.front ++ inside_leaf (f next)
    ++ span_rest f (end_by end (f next)) next rows
    else end ++ span_after f row (next ∷ rows)

abbrev pub span_by : (Row → List Event) → Row → List Row → List Event
span_by f row rows = but_end (f row) ++ span_rest f (end_of (f row)) row rows

-- once their text parts are read
abbrev pub span_done : List ℕ → Row → List Row → List Event
span_done bytes row rows = plain_read bytes (span_by (λ (r : Row). r.inside) row rows)
