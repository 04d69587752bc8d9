-- The text of an ATX heading, among the events: one part from the run after its opening sequence to the last run that
-- is no closing sequence (CommonMark 4.2).
use Rattle.std.specs.Prelude.{Bool, true, false, ◌&&◌, ◌||◌, not, if◌then◌else◌, List}
use Rattle.std.specs.Prelude.{[], ◌∷◌, ◌++◌, Option, Some, None}
use Rattle.md_engine.specs.declared.event.Event.{Event}
use Rattle.md_engine.specs.declared.event.Name.{Name}
use Rattle.md_engine.specs.declared.event.Name.TheVariants as n
use Rattle.md_engine.specs.declared.event.Point.{Point}
use Rattle.md_leaves.specs.HeadingRuns.{heading_link}
use Rattle.md_events.specs.declared.inline.Chunk.{Chunk}
use Rattle.md_events.specs.Events.Nested.{around, enter_link, exit, is_enter, is_exit}
use Rattle.md_events.specs.Events.Tiles.{is_data}

abbrev pub is_heading : Name → Bool
is_heading n.HeadingAtx = true
is_heading _ = false

abbrev pub is_sequence : Name → Bool
is_sequence n.HeadingAtxSequence = true
is_sequence _ = false

-- a run of `#`, or text
abbrev pub is_run : Name → Bool
is_run name = is_data name || is_sequence name

-- whether a part with such a name begins or ends here
abbrev pub begins : (Name → Bool) → Event → Bool
begins is_name e = is_enter e.kind && is_name e.name

abbrev pub ends : (Name → Bool) → Event → Bool
ends is_name e = is_exit e.kind && is_name e.name

-- whether no heading begins here
abbrev pub is_outside : Event → Bool
is_outside e = not (begins is_heading e)

-- the text of a heading, as one part that is read later
abbrev pub linked_text : Option Chunk → List Event
linked_text None = []
linked_text (Some chunk) =
    around n.HeadingAtxText chunk.first chunk.after
    (enter_link n.Data chunk.first heading_link ∷ exit n.Data chunk.after ∷ [])

-- the text between two points, if it has an end
abbrev pub text_between : Point → Option Point → List Event
text_between first None = []
text_between first (Some after) = linked_text (Some (record { first = first; after = after }))

-- Where a walk over the events is.
pub data Place : Type 0 where
  Outside : Place
  -- in a heading, before the end of its opening sequence
  Before : Place
  -- after it, before a further run
  Opened : Place
  -- after the begin of a further run: where the first such run begins; where the text ends, if there is text; where the
  -- last run has ended; the events after the text up to that end; and the events after that end
  Within : Point → Option Point → Option Point → List Event → List Event → Place

-- what is left of the events from a place on: a run of `#` closes the heading, until another run begins after it
abbrev pub resolved : Place → List Event → List Event
resolved Outside [] = []
resolved Before [] = []
resolved Opened [] = []
resolved (Within first after last closing since) [] = text_between first after ++ closing ++ since
resolved Outside (e ∷ es) = e ∷ resolved (if begins is_heading e then Before else Outside) es
resolved Before (e ∷ es) =
    e ∷ resolved (if ends is_sequence e then Opened else if ends is_heading e then Outside else Before) es
resolved Opened (e ∷ es) =
    if begins is_run e then resolved (Within e.point None None [] (e ∷ [])) es
    else e ∷ resolved (if ends is_heading e then Outside else Opened) es
resolved (Within first after last closing since) (e ∷ es) =
    if ends is_data e then resolved (Within first (Some e.point) (Some e.point) [] []) es
    else if ends is_sequence e then resolved (Within first last (Some e.point) (since ++ e ∷ []) []) es
    else if ends is_heading e then text_between first after ++ closing ++ since ++ e ∷ resolved Outside es
    else resolved (Within first after last closing (since ++ e ∷ [])) es

-- the events with the text of each heading set
abbrev pub headings_resolved : List Event → List Event
headings_resolved events = resolved Outside events
