-- What every inline layer promises of the events that it answers for a text part, and what the plain layer answers.
use Rattle.std.specs.Prelude.{◌≡◌, ℕ, ◌<◌, Bool, true, false, ◌&&◌, ◌==◌, if◌then◌else◌, IsTrue, List, [], ◌∷◌, ◌++◌}
use Rattle.std.specs.Prelude.{length, not, take, drop, slice_range, Some, None}
use Rattle.std.specs.List.{list_all}
use Rattle.md_engine.specs.declared.event.Point.{Point}
use Rattle.md_engine.specs.declared.event.Event.{Event}
use Rattle.md_engine.specs.declared.event.Kind.{Kind}
use Rattle.md_engine.specs.declared.event.Kind.TheVariants.{Enter, Exit}
use Rattle.md_engine.specs.declared.event.Name.{Name}
use Rattle.md_engine.specs.declared.event.Name.TheVariants as n
use Rattle.md_events.specs.declared.inline.PartKind.{PartKind}
use Rattle.md_events.specs.declared.inline.Chunk.{Chunk}
use Rattle.md_meaning.specs.Lines.{without_ending}
use Rattle.md_meaning.specs.Texts.{split_lines}
use Rattle.md_events.specs.Events.Names.{facts}
use Rattle.md_events.specs.Events.Places.{first_point, is_placed, are_placed, same_place, at_or_before, past_text}
use Rattle.md_events.specs.Events.Nested.{Balanced, Forward, last_point, pair}
use Rattle.md_events.specs.Substituted.{share}

-- A text part: what it may hold, and its chunks, one a line.
pub record Part : Type 0 where
  pub kind : PartKind
  pub chunks : List Chunk

-- A piece of the text: an enter with its exit right after it. `linked` holds of a chunk that is not read yet.
pub record Piece : Type 0 where
  pub name : Name
  pub linked : Bool
  pub first : Point
  pub after : Point

abbrev pub is_linked : Event → Bool
is_linked e = elim e.link [ None ↦ false | Some link ↦ true ]

abbrev pub piece_of : Event → Event → Kind → Kind → List Piece
piece_of e f Enter Exit = (record { name = e.name; linked = is_linked e; first = e.point; after = f.point }) ∷ []
piece_of e f _ _ = []

abbrev pub pieces_from : Event → List Event → List Piece
pieces_from e [] = []
pieces_from e (f ∷ es) = piece_of e f e.kind f.kind ++ pieces_from f es

-- the innermost pairs of some events
abbrev pub pieces : List Event → List Piece
pieces [] = []
pieces (e ∷ es) = pieces_from e es

-- Each piece begins where the one before ended, from a point to a point. A tab may be cut between its columns.
abbrev pub Covers : Point → List Piece → Point → Type 0
Covers from [] to = IsTrue (same_place from to)
Covers from (piece ∷ pieces) to = IsTrue (same_place from piece.first) × Covers piece.after pieces to

-- whether chunks are after a point, one after the other
abbrev pub in_order : Point → List Chunk → Bool
in_order p [] = true
in_order p (chunk ∷ chunks) =
    at_or_before p chunk.first && at_or_before chunk.first chunk.after && in_order chunk.after chunks

-- whether both ends of a chunk are points of the text
abbrev pub chunk_placed : List ℕ → Chunk → Bool
chunk_placed bytes chunk = is_placed bytes chunk.first && is_placed bytes chunk.after

-- The line of a chunk, and its ending, of which it may have none.

abbrev pub chunk_text : List ℕ → Chunk → List ℕ
chunk_text bytes chunk = slice_range bytes chunk.first.index chunk.after.index

-- whether there is no chunk
abbrev pub is_none : List Chunk → Bool
is_none [] = true
is_none (chunk ∷ chunks) = false

-- whether the lines of a chunk are one, which ends with its ending, or is not empty and ends with the part
abbrev pub is_one_line : List (List ℕ) → Bool → Bool
is_one_line ((b ∷ bs) ∷ []) ends_part = ends_part
is_one_line (line ∷ [] ∷ []) ends_part = true
is_one_line _ ends_part = false

-- whether each chunk is a line and its ending; the last has none if the part ends there
abbrev pub are_lines : List ℕ → Point → List Chunk → Bool
are_lines bytes end [] = true
are_lines bytes end (chunk ∷ chunks) =
    is_one_line (split_lines (chunk_text bytes chunk)) (is_none chunks && same_place chunk.after end)
    && are_lines bytes end chunks

-- whether a chunk is one line, with its ending or not
abbrev pub is_line : List ℕ → Chunk → Bool
is_line bytes chunk = is_one_line (split_lines (chunk_text bytes chunk)) true

-- whether a chunk ends between two bytes, and not within a tab
abbrev pub ends_whole : Chunk → Bool
ends_whole chunk = chunk.after.vs == 0

-- the point at the end of its line
abbrev pub line_end : List ℕ → Chunk → Point
line_end bytes chunk = past_text (without_ending (chunk_text bytes chunk)) chunk.first

-- a part of this name between two points, or none if it would be empty
abbrev pub pair_unless_empty : Name → Point → Point → List Event
pair_unless_empty name p q = if same_place p q then [] else pair name p q

-- a `LineEnding` over each ending of the chunks
abbrev pub endings_of : List ℕ → List Chunk → List Event
endings_of bytes [] = []
endings_of bytes (chunk ∷ chunks) =
    pair_unless_empty n.LineEnding (line_end bytes chunk) chunk.after ++ endings_of bytes chunks

-- what the plain layer gives for a chunk: `Data` over its line, and a `LineEnding` over its ending
abbrev pub plain_chunk : List ℕ → Chunk → List Event
plain_chunk bytes chunk =
    pair_unless_empty n.Data chunk.first (line_end bytes chunk)
    ++ pair_unless_empty n.LineEnding (line_end bytes chunk) chunk.after

abbrev pub plain_chunks : List ℕ → List Chunk → List (List Event)
plain_chunks bytes [] = []
plain_chunks bytes (chunk ∷ chunks) = plain_chunk bytes chunk ∷ plain_chunks bytes chunks

-- lists one after the other
abbrev pub together : {A : Type 0} → List (List A) → List A
together [] = []
together (xs ∷ xss) = xs ++ together xss

-- What the plain layer answers for a part.
abbrev pub plain_events : List ℕ → Part → List Event
plain_events bytes part = together (plain_chunks bytes part.chunks)

-- The promise of every layer.

-- whether a name may be inside a text part: the others are names of blocks and of their parts
abbrev pub is_inline : Name → Bool
is_inline name = (facts name).is_inline

-- whether an event may be inside: its name may, and nothing is left there to be read later
abbrev pub may_be_inside : Event → Bool
may_be_inside e = is_inline e.name && not (is_linked e)

abbrev pub is_line_ending : Name → Bool
is_line_ending n.LineEnding = true
is_line_ending _ = false

-- the `LineEnding`s among some events
abbrev pub line_endings : List Event → List Event
line_endings [] = []
line_endings (e ∷ es) = if is_line_ending e.name then e ∷ line_endings es else line_endings es

-- what is in the place of each chunk lies in it, never goes back, and covers it with its innermost pairs
abbrev pub Fills : List Chunk → List (List Event) → Type 0
Fills [] [] = Unit {0}
Fills (chunk ∷ chunks) (events ∷ rest) =
    Forward chunk.first events × IsTrue (at_or_before (last_point chunk.first events) chunk.after) ×
    Covers chunk.first (pieces events) chunk.after × Fills chunks rest
Fills [] (events ∷ rest) = ⊥
Fills (chunk ∷ chunks) [] = ⊥

-- what is in the place of each chunk: by bytes, what begins before the end of a chunk belongs to it, and what ends
-- there at last
abbrev pub cut_at : List Chunk → List Event → List (List Event)
cut_at [] events = []
cut_at (chunk ∷ chunks) events =
    take (share (length chunks) events chunk.after.index) events
    ∷ cut_at chunks (drop (share (length chunks) events chunk.after.index) events)

-- What the events of a text part are in every layer: brackets over the whole part, at points of the text, with no name
-- of a block, none of which is read later, and with one `LineEnding` over each ending of a chunk and none elsewhere. What is in the place of each
-- chunk covers it with its innermost pairs, so that none reaches over two.
pub record Framed (bytes : List ℕ) (part : Part) (events : List Event) : Type 0 where
  pub balanced : Balanced events
  pub placed : IsTrue (are_placed bytes events)
  pub inline : IsTrue (list_all may_be_inside events)
  pub endings : line_endings events ≡ endings_of bytes part.chunks
  pub fills : Fills part.chunks (cut_at part.chunks events)

-- A text part that may be read: it has a chunk at least, and its chunks are in the text, one after the other, one a
-- line, and none ends within a tab.
pub record IsPart (bytes : List ℕ) (part : Part) : Type 0 where
  pub end : Point
  pub lines : IsTrue (are_lines bytes end part.chunks)
  pub whole : IsTrue (list_all ends_whole part.chunks)
  pub some : 0 < length part.chunks
  pub order : IsTrue (in_order first_point part.chunks)
  pub placed : IsTrue (list_all (chunk_placed bytes) part.chunks)

-- a layer that keeps the promise of every layer
abbrev pub KeepsFrame : List ℕ → (Part → List Event → Type 0) → Type 0
KeepsFrame bytes reads =
    (part : Part) (events : List Event) → IsPart bytes part → reads part events → Framed bytes part events
