-- Where each text part of a document is, in the order of the text; and where one of them is.
use Rattle.std.specs.Prelude.{◌≡◌, ℕ, zero, suc, Bool, false, ◌&&◌, not, if◌then◌else◌, List, [], ◌∷◌, ◌++◌}
use Rattle.std.specs.Prelude.{drop, take, Option, Some, None}
use Rattle.md_engine.specs.declared.event.Event.{Event}
use Rattle.md_events.specs.declared.inline.Chunk.{Chunk}
use Rattle.md_events.specs.declared.inline.PartPlace.{PartPlace}
use Rattle.md_events.specs.Events.Inline.{Part, is_linked, is_none, pieces}
use Rattle.md_events.specs.Events.Nested.{is_exit}
use Rattle.md_events.specs.Events.Tiles.{chunks, inside_part, is_part, part_at, part_kind}
use Rattle.md_events.specs.Substituted.{chunk_of}
use Rattle.md_events.specs.TextPart.{Document, IsTextPartAt, is_of_block, last_of_block, place_by, place_of}

-- whether a chunk begins with an event inside of a text part, by the events after it
abbrev pub begins_chunk : Event → List Event → Bool
begins_chunk e [] = false
begins_chunk e (f ∷ es) = not (is_exit e.kind) && is_linked e && is_exit f.kind && not (is_part f.name)

-- the chunk that begins with such an event, if one does
abbrev pub chunk_at : Event → List Event → Option Chunk
chunk_at e [] = None
chunk_at e (f ∷ es) = if begins_chunk e (f ∷ es) then Some (chunk_of e f) else None

-- the chunks of a text part, by the events after the one with which it begins
abbrev pub chunks_in : List Event → List Chunk
chunks_in es = chunks (pieces (inside_part es))

-- whether it has one
abbrev pub holds_chunk : List Event → Bool
holds_chunk es = not (is_none (chunks_in es))

-- whether a text part that has a chunk begins with an event: a layer reads no other
abbrev pub begins_part : Event → List Event → Bool
begins_part e es = not (is_exit e.kind) && is_part e.name && holds_chunk es

-- the last event of a block, an event later
abbrev pub last_after : Option Event → Event → Option Event
last_after last e = if is_of_block e then Some e else last

-- where the text part is that begins with an event, if one does, by the last event of a block before it
abbrev pub places_at : Option Event → Event → List Event → List PartPlace
places_at last e es = if begins_part e es then place_by last e.name ∷ [] else []

-- where the text parts are that begin among some events, by the last event of a block before these
abbrev pub part_places : Option Event → List Event → List PartPlace
part_places last [] = []
part_places last (e ∷ es) = places_at last e es ++ part_places (last_after last e) es

-- where they are that begin after so many of some events
abbrev pub places_from : List Event → ℕ → List PartPlace
places_from blocks at = part_places (last_of_block (take at blocks)) (drop at blocks)

-- whether no text part begins with an event
abbrev pub begins_no_part : Event → Bool
begins_no_part e = not (not (is_exit e.kind) && is_part e.name)

-- A part of a document is at the first of some places.
pub record IsNext (document : Document) (places : List PartPlace) (part : Part) : Type 0 where
  pub place : PartPlace
  pub following : List PartPlace
  pub are : places ≡ place ∷ following
  pub at : IsTextPartAt document part place

-- the places of the parts that follow once a part is begun, unless so many chunks of another part are left
abbrev pub places_after : ℕ → List PartPlace → List PartPlace
places_after zero places = drop 1 places
places_after (suc more) places = places

-- A text part begins with one of some events, and is at this place.
pub record IsPartAt (blocks : List Event) (part : Part) (place : PartPlace) : Type 0 where
  pub before : List Event
  pub begin : Event
  pub following : List Event
  pub among : blocks ≡ before ++ begin ∷ following
  pub begins : part_at begin.kind (part_kind begin.name) following ≡ part ∷ []
  pub place_is : place ≡ place_of before begin

-- The place of a text part of a document: it is there, and nowhere else.
pub record IsPlaceOf (document : Document) (part : Part) (place : PartPlace) : Type 0 where
  pub at : IsTextPartAt document part place
  pub only : (other : PartPlace) → IsTextPartAt document part other → other ≡ place
