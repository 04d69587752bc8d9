-- Setext headings, among the events (CommonMark 4.3).
--
-- At first the text of such a heading is as a paragraph, and its underline after the ending of that and the prefixes of
-- containers. Where an underline follows a paragraph so, both are one heading: the paragraph is its text, and the
-- heading ends with the underline.
use Rattle.std.specs.Prelude.{◌≡◌, Bool, true, false, ◌&&◌, not, if◌then◌else◌, List, [], ◌∷◌, ◌++◌}
use Rattle.md_engine.specs.declared.event.Event.{Event}
use Rattle.md_engine.specs.declared.event.Kind.{Kind}
use Rattle.md_engine.specs.declared.event.Kind.TheVariants.{Enter, Exit}
use Rattle.md_engine.specs.declared.event.Name.{Name}
use Rattle.md_engine.specs.declared.event.Name.TheVariants as n
use Rattle.md_events.specs.Events.Inline.{is_line_ending}
use Rattle.md_events.specs.Events.Nested.{enter, exit, is_enter, is_exit}
use Rattle.md_events.specs.Events.Prefix.{is_prefix}

-- Names.

abbrev pub is_paragraph : Name → Bool
is_paragraph n.Paragraph = true
is_paragraph _ = false

abbrev pub is_underline : Name → Bool
is_underline n.HeadingSetextUnderline = true
is_underline _ = false

-- What is ahead.

-- whether an underline begins after container prefixes
abbrev pub underline_after : List Event → Bool
underline_after [] = false
underline_after (e ∷ es) =
    if is_prefix e.name then underline_after es else is_enter e.kind && is_underline e.name

-- whether one follows a paragraph that ends before these events: after its ending
abbrev pub has_underline : List Event → Bool
has_underline (e ∷ f ∷ es) = is_line_ending e.name && underline_after es
has_underline _ = false

-- whether one follows the paragraph that has begun before these events
abbrev pub is_turned : List Event → Bool
is_turned [] = false
is_turned (e ∷ es) = if is_exit e.kind && is_paragraph e.name then has_underline es else is_turned es

-- Headings.

-- what an event does to headings
pub data Turn : Type 0 where
  BeginsText : Turn
  EndsText : Turn
  EndsUnderline : Turn
  Stays : Turn

abbrev pub turn_by : Kind → Name → Turn
turn_by Enter n.Paragraph = BeginsText
turn_by Exit n.Paragraph = EndsText
turn_by Exit n.HeadingSetextUnderline = EndsUnderline
turn_by kind name = Stays

abbrev pub turn : Event → Turn
turn e = turn_by e.kind e.name

-- what is given for an event, by whether a heading is open here, and whether one begins
abbrev pub given_by : Turn → Bool → Bool → Event → List Event
given_by BeginsText on begins e =
    if begins then enter n.HeadingSetext e.point ∷ enter n.HeadingSetextText e.point ∷ [] else e ∷ []
given_by EndsText on begins e = if on then exit n.HeadingSetextText e.point ∷ [] else e ∷ []
given_by EndsUnderline on begins e = if on then e ∷ exit n.HeadingSetext e.point ∷ [] else e ∷ []
given_by Stays on begins e = e ∷ []

-- whether one is open after it
abbrev pub on_by : Turn → Bool → Bool → Bool
on_by BeginsText on begins = begins
on_by EndsText on begins = on
on_by EndsUnderline on begins = false
on_by Stays on begins = on

abbrev pub given : Bool → Event → List Event → List Event
given on e es = given_by (turn e) on (is_turned es) e

abbrev pub on_after : Bool → Event → List Event → Bool
on_after on e es = on_by (turn e) on (is_turned es)

-- whether an event passes as it is: it is of no paragraph, and of no underline
abbrev pub passes : Event → Bool
passes e = if is_paragraph e.name then false else if is_underline e.name then false else true

-- whether it is of no underline: where all events are so, they stay as they are
abbrev pub is_no_underline : Event → Bool
is_no_underline e = not (is_underline e.name)

-- what is given for the events from a place on
abbrev pub turned_from : Bool → List Event → List Event
turned_from on [] = []
turned_from on (e ∷ es) = given on e es ++ turned_from (on_after on e es) es

-- the events, with each paragraph that has an underline and that underline as a heading
abbrev pub turned : List Event → List Event
turned events = turned_from false events

-- whether no event of some is of an underline
abbrev pub HoldNoUnderline : List Event → Type 0
HoldNoUnderline [] = Unit {0}
HoldNoUnderline (e ∷ es) = (is_underline e.name ≡ false) × HoldNoUnderline es
