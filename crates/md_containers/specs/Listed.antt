-- Lists around items, among the events (CommonMark 5.3).
--
-- Neighbouring items with the same marker are one list, which begins where its first item begins and ends where its
-- last item ends. What is between two items of one list (line endings, whitespace, prefixes of quotes) is in the list,
-- and what follows the last of them does not. So where an item ends one looks ahead to the next block: the list
-- continues if that is an item with the same marker.
use Rattle.std.specs.Prelude.{ℕ, Bool, true, false, ◌&&◌, ◌==◌, not, if◌then◌else◌, List, []}
use Rattle.std.specs.Prelude.{◌∷◌, ◌++◌, get_or, Option, Some, None}
use Rattle.md_engine.specs.declared.event.Event.{Event}
use Rattle.md_engine.specs.declared.event.Kind.{Kind}
use Rattle.md_engine.specs.declared.event.Kind.TheVariants.{Enter, Exit}
use Rattle.md_engine.specs.declared.event.Name.{Name}
use Rattle.md_engine.specs.declared.event.Name.TheVariants as n
use Rattle.md_engine.specs.declared.event.Point.{Point}
use Rattle.md_events.specs.Events.Blocks.{is_block}
use Rattle.md_events.specs.Events.Nested.{enter, exit, is_enter}
use Rattle.md_events.specs.Events.Spelled.{AsItemMarker, ContainerRole, ItemShape, Role, TextRole, is_ordered, role}

-- Roles.

abbrev pub is_item : Role → Bool
is_item (ContainerRole (ItemShape marker digits)) = true
is_item _ = false

abbrev pub is_marker : Role → Bool
is_marker (TextRole AsItemMarker) = true
is_marker _ = false

-- What is ahead.

-- The marker of an item that has begun: the byte at the first marker after it, before all further blocks; 0 if there is
-- none.
abbrev pub marker_by : Kind → Role → ℕ → ℕ → ℕ
marker_by kind role byte following =
    if is_block role then 0 else if is_enter kind && is_marker role then byte else following

abbrev pub marker_ahead : List ℕ → List Event → ℕ
marker_ahead bytes [] = 0
marker_ahead bytes (e ∷ es) = marker_by e.kind (role e.name) (get_or bytes e.point.index 0) (marker_ahead bytes es)

-- The marker of the next block, if that is an item.
abbrev pub next_by : Kind → Role → ℕ → Option ℕ → Option ℕ
next_by kind role ahead following =
    if is_block role then (if is_enter kind && is_item role then Some ahead else None) else following

abbrev pub next_item : List ℕ → List Event → Option ℕ
next_item bytes [] = None
next_item bytes (e ∷ es) = next_by e.kind (role e.name) (marker_ahead bytes es) (next_item bytes es)

-- whether the list of an item with this marker continues, by what the next block is
abbrev pub is_continued : ℕ → Option ℕ → Bool
is_continued marker None = false
is_continued marker (Some next) = marker == next

-- Lists.

-- `.` and `)` are markers of ordered lists, all others of bullet lists
abbrev pub list_name : ℕ → Name
list_name marker = if is_ordered marker then n.ListOrdered else n.ListUnordered

-- Where one is between two events.
pub record Place : Type 0 where
  -- whether a list continues here: it is open, and the next block is an item of it
  pub within : Bool
  -- the markers of the items that are open, the innermost first
  pub markers : List ℕ

-- outside of items
abbrev pub outside : Place
outside = record { within = false; markers = [] }

-- what is before an item, which begins at this point: the begin of its list, if it is the first in it
abbrev pub list_begin : Bool → ℕ → Point → List Event
list_begin within marker p = if within then [] else enter (list_name marker) p ∷ []

-- what follows an item, which ends at this point: the end of its list, if it is the last in it
abbrev pub list_end : List ℕ → Option ℕ → Point → List Event
list_end [] next p = []
list_end (marker ∷ markers) next p = if is_continued marker next then [] else exit (list_name marker) p ∷ []

-- after the end of an item
abbrev pub place_following : Place → Option ℕ → Place
place_following place next = following place.markers
  where
    following : List ℕ → Place
    following [] = place
    following (marker ∷ markers) = record { within = is_continued marker next; markers = markers }

-- what an event does to items
pub data Turn : Type 0 where
  Begins : Turn
  Ends : Turn
  Stays : Turn

abbrev pub turn : Kind → Role → Turn
turn Enter role = if is_item role then Begins else Stays
turn Exit role = if is_item role then Ends else Stays

-- an event with the begins and ends of lists around it, by the marker of the item that begins here and what the next
-- block is
abbrev pub given_by : Turn → Place → ℕ → Option ℕ → Event → List Event
given_by Begins place marker next e = list_begin place.within marker e.point ++ e ∷ []
given_by Ends place marker next e = e ∷ list_end place.markers next e.point
given_by Stays place marker next e = e ∷ []

-- where one is after it
abbrev pub place_by : Turn → Place → ℕ → Option ℕ → Place
place_by Begins place marker next = record { within = false; markers = marker ∷ place.markers }
place_by Ends place marker next = place_following place next
place_by Stays place marker next = place

abbrev pub given : List ℕ → Place → Event → List Event → List Event
given bytes place e es =
    given_by (turn e.kind (role e.name)) place (marker_ahead bytes es) (next_item bytes es) e

abbrev pub place_after : List ℕ → Place → Event → List Event → Place
place_after bytes place e es =
    place_by (turn e.kind (role e.name)) place (marker_ahead bytes es) (next_item bytes es)

-- whether an event passes as it is: no item begins or ends
abbrev pub passes : Event → Bool
passes e = not (is_item (role e.name))

-- what is given for the events from a place on
abbrev pub listed_from : List ℕ → Place → List Event → List Event
listed_from bytes place [] = []
listed_from bytes place (e ∷ es) = given bytes place e es ++ listed_from bytes (place_after bytes place e es) es

-- the events of a text with the lists around its items
abbrev pub listed : List ℕ → List Event → List Event
listed bytes events = listed_from bytes outside events
