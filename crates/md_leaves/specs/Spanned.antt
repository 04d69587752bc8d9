-- Leaf blocks of several lines, among the events (CommonMark 4.4, 4.5, 4.6, GFM 4.10).
--
-- At first each line of such a block is as a block by itself; the begin of a further line says by its link that it
-- continues the block of the line before. Where a block ends and the next one is such a line, neither that end nor the
-- begin of the line is left: the block continues. So what is between two of its lines (line endings, whitespace,
-- prefixes of containers) is in the block, and what follows the last of them does not.
--
-- Whether a blank line belongs to a block shows only after it. Between two lines of the block it does: its ending is a
-- line ending like any other, and whitespace that is left of it after the indent of code is a line of code. Else it
-- does not, and such whitespace is only whitespace.
use Rattle.std.specs.Prelude.{Bool, true, false, ◌&&◌, not, if◌then◌else◌, List, [], ◌∷◌, ◌++◌, Option, Some, None}
use Rattle.md_engine.specs.declared.event.Event.{Event}
use Rattle.md_engine.specs.declared.event.Kind.{Kind}
use Rattle.md_engine.specs.declared.event.Kind.TheVariants.{Enter, Exit}
use Rattle.md_engine.specs.declared.event.Link.{Link}
use Rattle.md_engine.specs.declared.event.Name.{Name}
use Rattle.md_engine.specs.declared.event.Name.TheVariants as n
use Rattle.md_leaves.specs.declared.spans.Place.{Place}
use Rattle.md_leaves.specs.declared.spans.Place.TheVariants.{Between, Inside, Outside}
use Rattle.md_leaves.specs.Turned.{is_no_underline}
use Rattle.md_events.specs.Events.Blocks.{is_block}
use Rattle.md_events.specs.Events.Nested.{is_enter}
use Rattle.md_events.specs.Events.Spelled.{OfCode, OfFence, OfHtml, OfMath, OfTable, LeafRole, Role, role}

-- Names.

-- whether it is a leaf block of several lines
abbrev pub has_lines : Role → Bool
has_lines (LeafRole OfCode) = true
has_lines (LeafRole OfFence) = true
has_lines (LeafRole OfMath) = true
has_lines (LeafRole OfHtml) = true
has_lines (LeafRole OfTable) = true
has_lines _ = false

-- whether it is a line of code
abbrev pub is_code_line : Name → Bool
is_code_line n.CodeFlowChunk = true
is_code_line _ = false

abbrev pub is_blank_ending : Name → Bool
is_blank_ending n.BlankLineEnding = true
is_blank_ending _ = false

-- What is ahead.

-- whether a link says that the part continues the one before
abbrev pub links_back : Option Link → Bool
links_back None = false
links_back (Some link) = link.previous

-- whether a further line of a block begins here
abbrev pub begins_further : Event → Bool
begins_further e = is_enter e.kind && (has_lines (role e.name) && links_back e.link)

-- whether the next block is a further line
abbrev pub is_continued : List Event → Bool
is_continued [] = false
is_continued (e ∷ es) = if is_block (role e.name) then begins_further e else is_continued es

-- Blocks.

-- what an event does to blocks of several lines
pub data Turn : Type 0 where
  Begins : Turn
  -- a further line begins
  IsContinued : Turn
  Ends : Turn
  Stays : Turn

abbrev pub turn_by : Kind → Bool → Bool → Turn
turn_by kind false further = Stays
turn_by Enter true further = if further then IsContinued else Begins
turn_by Exit true further = Ends

abbrev pub turn : Event → Turn
turn e = turn_by e.kind (has_lines (role e.name)) (links_back e.link)

-- whether a part that is at a place gets another name, and its name there
abbrev pub is_renamed : Place → Name → Bool
is_renamed Outside name = is_code_line name
is_renamed Inside name = false
is_renamed Between name = is_blank_ending name

abbrev pub name_at : Place → Name → Name
name_at Outside name = if is_code_line name then n.SpaceOrTab else name
name_at Inside name = name
name_at Between name = if is_blank_ending name then n.LineEnding else name

abbrev pub renamed : Place → Event → Event
renamed place e = record e { name = name_at place e.name }

-- the begin of a further line: it is left only where no line of its block is before it
abbrev pub further_begin : Place → Event → List Event
further_begin Between e = []
further_begin _ e = e ∷ []

-- what is given for an event, by whether the next block is a further line
abbrev pub given_by : Turn → Place → Bool → Event → List Event
given_by Begins place further e = e ∷ []
given_by IsContinued place further e = further_begin place e
given_by Ends place further e = if further then [] else e ∷ []
given_by Stays place further e = renamed place e ∷ []

-- where one is after it
abbrev pub place_by : Turn → Place → Bool → Place
place_by Begins place further = Inside
place_by IsContinued place further = Inside
place_by Ends place further = if further then Between else Outside
place_by Stays place further = place

abbrev pub given : Place → Event → List Event → List Event
given place e es = given_by (turn e) place (is_continued es) e

abbrev pub place_after : Place → Event → List Event → Place
place_after place e es = place_by (turn e) place (is_continued es)

-- whether an event passes a place as it is
abbrev pub passes : Place → Event → Bool
passes place e = not (has_lines (role e.name)) && not (is_renamed place e.name)

-- whether it does, and is of no underline
abbrev pub passes_on : Place → Event → Bool
passes_on place e = passes place e && is_no_underline e

-- what is given for the events from a place on
abbrev pub spanned_from : Place → List Event → List Event
spanned_from place [] = []
spanned_from place (e ∷ es) = given place e es ++ spanned_from (place_after place e es) es

-- the events with the lines of each block joined
abbrev pub spanned : List Event → List Event
spanned events = spanned_from Outside events
