-- Every byte of a text is accounted for: the innermost pairs of its events lie side by side.
use Rattle.std.specs.Prelude.{◌≡◌, ℕ, zero, suc, Bool, true, false, ◌&&◌, ◌||◌, ◌==◌, not, if◌then◌else◌, IsTrue, List}
use Rattle.std.specs.Prelude.{[], ◌∷◌, ◌++◌, length, map, slice_range, Option, Some, None}
use Rattle.std.specs.List.{list_all}
use Rattle.md_engine.specs.declared.event.Content.{Content}
use Rattle.md_engine.specs.declared.event.Content.TheVariants as c
use Rattle.md_engine.specs.declared.event.Point.{Point}
use Rattle.md_engine.specs.declared.event.Event.{Event}
use Rattle.md_engine.specs.declared.event.Kind.{Kind}
use Rattle.md_engine.specs.declared.event.Kind.TheVariants.{Enter, Exit}
use Rattle.md_engine.specs.declared.event.Name.{Name}
use Rattle.md_engine.specs.declared.event.Name.TheVariants as n
use Rattle.md_events.specs.declared.inline.PartKind.{PartKind}
use Rattle.md_events.specs.declared.inline.PartKind.TheVariants as k
use Rattle.md_events.specs.declared.inline.Chunk.{Chunk}
use Rattle.md_meaning.specs.Rest.{is_blank}
use Rattle.md_events.specs.Events.Names.{facts}
use Rattle.md_events.specs.Events.Prefix.{is_prefix}
use Rattle.md_events.specs.Events.Places.{first_point, are_placed, same_place}
use Rattle.md_events.specs.Events.Nested.{Nested, is_exit}
use Rattle.md_events.specs.Events.Pieces.{are_valid_pieces}
use Rattle.md_events.specs.Events.Endings.{endings_are_right}
use Rattle.md_events.specs.Events.Grammar.{keeps_grammar, unread_text}
use Rattle.md_events.specs.Events.Inline.{Part, Piece, pieces, Covers, Fills, are_lines, is_linked, plain_chunks}
use Rattle.md_events.specs.Events.Inline.{together}

-- the point after the last byte
abbrev pub end_point : List ℕ → Point
end_point bytes = record first_point { index = length bytes }

-- Text parts.

-- What a text part of each name may hold; a name that has no kind is no text part's.
abbrev pub part_kind : Name → Option PartKind
part_kind name = (facts name).part

-- What may be inside a text part beside the enters of its chunks: their exits, container prefixes, and spaces and tabs.
abbrev pub may_be_in_part : Kind → Name → Bool
may_be_in_part Exit n.Data = true
may_be_in_part kind name = is_prefix name

abbrev pub is_data : Name → Bool
is_data n.Data = true
is_data _ = false

abbrev pub is_part : Name → Bool
is_part name = elim (part_kind name) [ None ↦ false | Some kind ↦ true ]

-- the events up to the end of a text part, and the point of that end
abbrev pub inside_part : List Event → List Event
inside_part [] = []
inside_part (e ∷ es) = if is_part e.name && is_exit e.kind then [] else e ∷ inside_part es

abbrev pub part_end : List Event → Point
part_end [] = first_point
part_end (e ∷ es) = if is_part e.name && is_exit e.kind then e.point else part_end es

-- the pieces that are not read yet
abbrev pub chunks : List Piece → List Chunk
chunks [] = []
chunks (piece ∷ pieces) =
    if piece.linked then (record { first = piece.first; after = piece.after }) ∷ chunks pieces else chunks pieces

-- a part, if it has anything to read
abbrev pub part_of : PartKind → List Chunk → List Part
part_of kind [] = []
part_of kind (chunk ∷ chunks) = (record { kind = kind; chunks = chunk ∷ chunks }) ∷ []

abbrev pub part_at : Kind → Option PartKind → List Event → List Part
part_at Enter (Some kind) es = part_of kind (chunks (pieces (inside_part es)))
part_at Enter None es = []
part_at Exit kind es = []

-- the text parts of a block list
abbrev pub parts : List Event → List Part
parts [] = []
parts (e ∷ es) = part_at e.kind (part_kind e.name) es ++ parts es

-- Block lists.

abbrev pub is_space_or_tab : Name → Bool
is_space_or_tab n.SpaceOrTab = true
is_space_or_tab _ = false

-- whether a piece that is called spaces and tabs holds nothing else
abbrev pub is_white_piece : List ℕ → Piece → Bool
is_white_piece bytes piece =
    not (is_space_or_tab piece.name) || is_blank (slice_range bytes piece.first.index piece.after.index)

-- whether the first chunk begins at a point; there is one, since a part that would be empty is not
abbrev pub begins_at : Point → List Chunk → Bool
begins_at p [] = false
begins_at p (chunk ∷ chunks) = same_place p chunk.first

-- what an event of a part with this kind is linked by, if it is
abbrev pub of_kind : PartKind → Content → Bool
of_kind k.Text c.Text = true
of_kind k.String c.String = true
of_kind _ _ = false

abbrev pub links_kind : PartKind → Event → Bool
links_kind kind e = elim e.link [ None ↦ true | Some link ↦ of_kind kind link.content ]

abbrev pub is_whole_part : List ℕ → Kind → Option PartKind → Point → List Event → Bool
is_whole_part bytes Enter (Some kind) p es =
    begins_at p (chunks (pieces (inside_part es))) && list_all (is_white_piece bytes) (pieces (inside_part es))
    && are_lines bytes (part_end es) (chunks (pieces (inside_part es))) && list_all (links_kind kind) (inside_part es)
is_whole_part bytes Enter None p es = true
is_whole_part bytes Exit kind p es = true

-- Whether each text part is as one chunk a line, from where it begins, and each reaches over the line's ending where
-- the part continues after it; nothing else is left out of the chunks but spaces, tabs and container prefixes. The
-- chunks are linked as what the part may hold.
abbrev pub are_whole_parts : List ℕ → List Event → Bool
are_whole_parts bytes [] = true
are_whole_parts bytes (e ∷ es) = is_whole_part bytes e.kind (part_kind e.name) e.point es && are_whole_parts bytes es

-- how many parts are open after an event
abbrev pub depth_following : Kind → ℕ → ℕ
depth_following Enter depth = suc depth
depth_following Exit zero = zero
depth_following Exit (suc depth) = depth

-- whether an event begins a chunk, which ends with the next
abbrev pub is_chunk : Event → List Event → Bool
is_chunk e [] = false
is_chunk e (f ∷ es) = not (is_exit e.kind) && is_data e.name && is_exit f.kind && is_data f.name

-- Whether chunks are only in text parts, directly inside of them, and nothing else but container prefixes does. The
-- depth is 0 outside of text parts, and 1 directly inside of one.
abbrev pub chunks_in_parts : ℕ → List Event → Bool
chunks_in_parts depth [] = true
chunks_in_parts zero (e ∷ es) =
    not (is_linked e) && chunks_in_parts (if is_part e.name && not (is_exit e.kind) then 1 else 0) es
chunks_in_parts (suc depth) (e ∷ es) =
    if is_part e.name then is_exit e.kind && (depth == 0) && not (is_linked e) && chunks_in_parts 0 es
    else (if is_linked e then (depth == 0) && is_chunk e es else may_be_in_part e.kind e.name)
    && chunks_in_parts (depth_following e.kind (suc depth)) es

-- A list of events, at points of the text, whose text parts are not read yet.
pub record IsBlockList (bytes : List ℕ) (events : List Event) : Type 0 where
  pub nested : Nested events
  pub placed : IsTrue (are_placed bytes events)
  pub lines : IsTrue (are_whole_parts bytes events)
  pub chunks : IsTrue (chunks_in_parts 0 events)
  -- each part is where the grammar has it, with what it must hold
  pub grammar : IsTrue (keeps_grammar unread_text events)
  -- each piece is over what its name says, and no block is a piece
  pub pieces_are : IsTrue (are_valid_pieces bytes (pieces events))
  -- endings of blank lines are distinguished from others
  pub endings : IsTrue (endings_are_right events)

-- The chunks are read.

-- The events with the next of some lists in the place of each chunk; `inside` a chunk only its exit is left.
abbrev pub first_list : List (List Event) → List Event
first_list [] = []
first_list (events ∷ rest) = events

abbrev pub further_lists : List (List Event) → List (List Event)
further_lists [] = []
further_lists (events ∷ rest) = rest

abbrev pub filled_from : Bool → List Event → List (List Event) → List Event
filled_from inside [] lists = []
filled_from true (e ∷ es) lists = filled_from false es lists
filled_from false (e ∷ es) lists =
    if is_linked e then first_list lists ++ filled_from true es (further_lists lists)
    else e ∷ filled_from false es lists

abbrev pub filled : List Event → List (List Event) → List Event
filled events lists = filled_from false events lists

-- what the plain layer reads in the place of each chunk of these parts
abbrev pub plain_lists : List ℕ → List Part → List (List (List Event))
plain_lists bytes parts = map (λ (part : Part). plain_chunks bytes part.chunks) parts

-- a block list with what the plain layer reads in the place of each chunk
abbrev pub plain_read : List ℕ → List Event → List Event
plain_read bytes blocks = filled blocks (together (plain_lists bytes (parts blocks)))

-- each part is read as the layer reads it, chunk by chunk
abbrev pub EachRead : (Part → List Event → Type 0) → List Part → List (List (List Event)) → Type 0
EachRead reads [] [] = Unit {0}
EachRead reads (part ∷ parts) (lists ∷ rest) =
    Fills part.chunks lists × reads part (together lists) × EachRead reads parts rest
EachRead reads [] (lists ∷ rest) = ⊥
EachRead reads (part ∷ parts) [] = ⊥

-- The events of a text tile it, if text parts are read so: they are a block list whose innermost pairs, the chunks
-- among them, lie side by side from the first byte to the last, with the events that a layer reads in the place of each
-- chunk.
pub record Tiles (reads : Part → List Event → Type 0) (bytes : List ℕ) (events : List Event) : Type 0 where
  pub blocks : List Event
  pub block_list : IsBlockList bytes blocks
  pub covers : Covers first_point (pieces blocks) (end_point bytes)
  pub lists : List (List (List Event))
  pub each : EachRead reads (parts blocks) lists
  pub read : events ≡ filled blocks (together lists)
  pub empty : bytes ≡ [] → events ≡ []
