-- Linked parts, and the events that are in their places once they are read.
use Rattle.std.specs.Prelude.{◌≡◌, ℕ, zero, suc, Bool, nat_lt, nat_le, ◌&&◌, if◌then◌else◌, List, [], ◌∷◌, ◌++◌, length}
use Rattle.std.specs.Prelude.{take, drop, Option, Some, None, is_none}
use Rattle.std.specs.Option.{is_some}
use Rattle.std.specs.List.{prefix_len}
use Rattle.md_engine.specs.declared.event.Content.{Content}
use Rattle.md_engine.specs.declared.event.Event.{Event}
use Rattle.md_engine.specs.declared.event.Kind.{Kind}
use Rattle.md_engine.specs.declared.event.Kind.TheVariants.{Enter, Exit}
use Rattle.md_engine.specs.declared.event.Link.{Link}
use Rattle.md_events.specs.declared.inline.Chunk.{Chunk}
use Rattle.md_events.specs.Events.Prefix.{is_prefix}

-- what a reader may give for a part: of which content it is, and its chunks
abbrev pub Readings : Type 1
Readings = Content → List Chunk → List Event → Type 0

-- which parts a reader may be asked for: of which content they are, and their chunks
abbrev pub Asked : Type 1
Asked = Content → List Chunk → Type 0

abbrev pub wanted_link : (Content → Bool) → Option Link → Option Content
wanted_link wants None = None
wanted_link wants (Some link) = if wants link.content then Some link.content else None

abbrev pub wanted_at : (Content → Bool) → Kind → Option Link → Option Content
wanted_at wants Enter link = wanted_link wants link
wanted_at wants Exit link = None

-- what the chunk that begins with an event holds, if one does that the reader wants
abbrev pub wanted : (Content → Bool) → Event → Option Content
wanted wants e = wanted_at wants e.kind e.link

-- whether no chunk begins with an event that the reader wants
abbrev pub stays : (Content → Bool) → Event → Bool
stays wants e = is_none (wanted wants e)

-- whether an event belongs to a container prefix, and begins no chunk since it has no link
abbrev pub is_plain_prefix : Event → Bool
is_plain_prefix e = is_prefix e.name && is_none e.link

-- an event that begins a chunk, and the one after it
abbrev pub chunk_of : Event → Event → Chunk
chunk_of e f = record { first = e.point; after = f.point }

-- the chunks that continue a part, after its first: between them are container prefixes alone
abbrev pub chunks_after : (Content → Bool) → List Event → List Chunk
chunks_after wants [] = []
chunks_after wants (e ∷ []) = []
chunks_after wants (e ∷ f ∷ es) =
    if is_some (wanted wants e) then chunk_of e f ∷ chunks_after wants es
    else if is_prefix e.name then chunks_after wants (f ∷ es)
    else []

-- the chunks of the part that begins with some events
abbrev pub chunks_from : (Content → Bool) → List Event → List Chunk
chunks_from wants [] = []
chunks_from wants (e ∷ []) = []
chunks_from wants (e ∷ f ∷ es) = chunk_of e f ∷ chunks_after wants es

abbrev pub belongs_by : ℕ → Kind → ℕ → Bool
belongs_by end Enter index = nat_lt index end
belongs_by end Exit index = nat_le index end

-- whether an event belongs to a chunk that ends at this byte, or to one before it
abbrev pub belongs : ℕ → Event → Bool
belongs end e = belongs_by end e.kind e.point.index

-- how many of the events that are left are in the place of a chunk that ends at this byte: all of them in the last one
abbrev pub share : ℕ → List Event → ℕ → ℕ
share zero left end = length left
share (suc more) left end = prefix_len (belongs end) left

-- A part of so many chunks is begun, of which such events may be read, unless chunks of another part are left: the
-- events that are left, and for how many chunks, before and after.
abbrev pub Begun : (List Event → Type 0) → ℕ → List Event → ℕ → List Event → ℕ → Type 0
Begun reads many left zero now chunks = reads now × (chunks ≡ many)
Begun reads many left (suc more) now chunks = (now ≡ left) × (chunks ≡ suc more)

-- The events with what was read in the places of the parts that the reader wants. Of a part that has begun, these
-- events are left, for so many chunks.
abbrev pub Substituted : (Content → Bool) → Readings → List Event → ℕ → List Event → List Event → Type 0
Substituted wants reads left chunks [] out = out ≡ []
Substituted wants reads left chunks (e ∷ []) out = out ≡ e ∷ []
Substituted wants reads left chunks (e ∷ f ∷ es) out = elim (wanted wants e) [
  | None ↦ (rest : List Event) × (is : out ≡ e ∷ rest) × Substituted wants reads left chunks (f ∷ es) rest
  | Some content ↦ elim chunks [
    | zero ↦
        (answer rest : List Event) × (read : reads content (chunk_of e f ∷ chunks_after wants es) answer)
        × (is : out ≡ take (share (length (chunks_after wants es)) answer f.point.index) answer ++ rest)
        × Substituted wants reads (drop (share (length (chunks_after wants es)) answer f.point.index) answer)
        (length (chunks_after wants es)) es rest
    | suc more ↦
        (rest : List Event) × (is : out ≡ take (share more left f.point.index) left ++ rest)
        × Substituted wants reads (drop (share more left f.point.index) left) more es rest
  ]
]

-- Whether the reader may be asked for each part that begins among some events. Of a part that has begun, so many chunks
-- are left.
abbrev pub EachAsked : (Content → Bool) → Asked → ℕ → List Event → Type 0
EachAsked wants asked chunks [] = Unit {0}
EachAsked wants asked chunks (e ∷ []) = Unit {0}
EachAsked wants asked chunks (e ∷ f ∷ es) = elim (wanted wants e) [
  | None ↦ EachAsked wants asked chunks (f ∷ es)
  | Some content ↦ elim chunks [
    | zero ↦
        asked content (chunk_of e f ∷ chunks_after wants es)
        × EachAsked wants asked (length (chunks_after wants es)) es
    | suc more ↦ EachAsked wants asked more es
  ]
]
