-- The rule of a definition, as what is left of it at each state (CommonMark 4.7).
use Rattle.std.specs.Prelude.{◌≡◌, Bool, ◌==◌, if◌then◌else◌, List, [], ◌∷◌, ◌++◌, Option, Some, None}
use Rattle.md_meaning.specs.Ascii.{colon}
use Rattle.md_meaning.specs.Definition.{Destination, destination_at as found_destination}
use Rattle.md_engine.specs.declared.event.Event.{Event}
use Rattle.md_engine.specs.declared.event.Point.{Point}
use Rattle.md_engine.specs.declared.configuration.ParseOptions.{ParseOptions}
use Rattle.md_engine.specs.declared.event.Name.TheVariants.{Definition, DefinitionMarker}
use Rattle.md_engine.specs.declared.state.Name.TheVariants as n
use Rattle.md_engine.specs.declared.state.definition.State.{State as DefinitionState}
use Rattle.md_engine.specs.declared.state.definition.State.TheVariants as its
use Rattle.md_engine.specs.declared.state.State.{State}
use Rattle.md_engine.specs.declared.tokenizer.Scratch.{Scratch}
use Rattle.md_engine.specs.Meaning.{Accepts, Behaviour, Cell, Fails, Here, Outcome, Refuses}
use Rattle.md_engine.specs.Sees.{IsStep}
use Rattle.md_engine.specs.World.{Flags, World}
use Rattle.md_link_definitions.specs.DestinationRule.{HasDestination, begins_literal, destination_at, destination_last}
use Rattle.md_link_definitions.specs.DestinationRule.{destination_left, destination_part}
use Rattle.md_link_definitions.specs.GapRule.{HasGap, begins_gap, gap_at, gap_end, gap_part, gap_rest, past_white}
use Rattle.md_link_definitions.specs.GapRule.{white_part}
use Rattle.md_link_definitions.specs.LabelRule.{HasLabel, LabelParts, label_at, label_events, label_parts}
use Rattle.md_link_definitions.specs.TitleRule.{HasTitle, TitleParts, title_at, title_events, title_parts}
use Rattle.md_events.specs.Ahead.{line_bytes, white_end, white_rest}
use Rattle.md_events.specs.Events.Nested.{around, enter, exit, pair}
use Rattle.md_events.specs.Look.{first_seen}
use Rattle.md_events.specs.Spaces.{IsRest, any_size, ends_line}
use Rattle.md_link_definitions.specs.Definition.{definition_transition}
use Rattle.md_events.specs.States.{IsState, IsSureState}
use Rattle.md_engine.specs.declared.tokenizer.Tokenizer.{Tokenizer}
use Rattle.md_engine.specs.Full.{IsFull}

-- continues by what a trial became: after what it took, or here
abbrev pub tried : Outcome → (List Cell → Here → Outcome) → (Scratch → Flags → Outcome) → Outcome
tried (Accepts h rest) onward otherwise = onward rest h
tried (Refuses s g) onward otherwise = otherwise s g
tried Fails onward otherwise = Fails

-- A part that may be left out.
abbrev pub or_none : (List Cell → Here → Outcome) → Outcome → List Cell → Here → Outcome
or_none onward o cells h = tried o onward (λ s g. onward cells (record h { scratch = s; flags = g }))

-- From its end to its begin.

-- at the end of its last line
unfoldable pub at_end : List Cell → Here → Outcome
at_end cells h =
    if ends_line (first_seen cells)
    then Accepts (record h { events = h.events ++ exit Definition h.point ∷ [] }) cells
    else Refuses h.scratch h.flags

-- after its parts, before whitespace
unfoldable pub after_parts : List Cell → Here → Outcome
after_parts cells h = at_end (white_rest any_size cells) (past_white cells h)

-- a title ends its line, up to whitespace
unfoldable pub at_title_end : List Cell → Here → Outcome
at_title_end cells h = if ends_line (first_seen cells) then Accepts h cells else Refuses h.scratch h.flags

unfoldable pub after_title : List Cell → Here → Outcome
after_title cells h = at_title_end (white_rest any_size cells) (past_white cells h)

-- the title
unfoldable pub at_title : List Cell → Here → Outcome
at_title cells h = tried (title_at cells h) after_title Refuses

-- and the gap before it
unfoldable pub before_title : List Cell → Here → Outcome
before_title cells h = tried (gap_at cells h) at_title Refuses

-- a title, if one is there
unfoldable pub after_destination : List Cell → Here → Outcome
after_destination cells h = or_none after_parts (before_title cells h) cells h

-- the destination
unfoldable pub before_destination : List Cell → Here → Outcome
before_destination cells h = tried (destination_at cells h) after_destination Refuses

-- a gap, if one is there
unfoldable pub after_marker : List Cell → Here → Outcome
after_marker cells h = or_none before_destination (gap_at cells h) cells h

-- the colon
unfoldable pub after_label : List Cell → Here → Outcome
after_label [] h = Refuses h.scratch h.flags
after_label (c ∷ cs) h =
    if c.byte == colon
    then after_marker cs (record h { events = h.events ++ pair DefinitionMarker h.point c.after; point = c.after })
    else Refuses h.scratch h.flags

-- the label, at whose `[` the definition begins
unfoldable pub before_label : List Cell → Here → Outcome
before_label cells h =
    tried (label_at cells (record h { events = h.events ++ enter Definition h.point ∷ [] })) after_label Refuses

-- the whole rule, if definitions are on: any indent, a label, a colon, a destination, and perhaps a title
unfoldable pub definition_at : ParseOptions → List Cell → Here → Outcome
definition_at options cells h =
    if options.constructs.definition then before_label (white_rest any_size cells) (past_white cells h)
    else Refuses h.scratch h.flags

-- what is left at each state
abbrev pub definition_behaves : ParseOptions → DefinitionState → List Cell → Here → Outcome
definition_behaves options its.Start cells h = definition_at options cells h
definition_behaves options its.Before cells h = before_label cells h
definition_behaves options its.LabelAfter cells h = after_label cells h
definition_behaves options its.LabelNok cells h = Refuses h.scratch h.flags
definition_behaves options its.MarkerAfter cells h = after_marker cells h
definition_behaves options its.DestinationBefore cells h = before_destination cells h
definition_behaves options its.DestinationAfter cells h = after_destination cells h
definition_behaves options its.DestinationMissing cells h = Refuses h.scratch h.flags
definition_behaves options its.After cells h = after_parts cells h
definition_behaves options its.AfterWhitespace cells h = at_end cells h
definition_behaves options its.TitleBefore cells h = before_title cells h
definition_behaves options its.TitleBeforeMarker cells h = at_title cells h
definition_behaves options its.TitleAfter cells h = after_title cells h
definition_behaves options its.TitleAfterOptionalWhitespace cells h = at_title_end cells h

pub record HasDefinition (B : Behaviour) (options : ParseOptions) : Type 0 where
  pub gap : HasGap B
  pub label : HasLabel B
  pub destination : HasDestination B
  pub title : HasTitle B
  pub each : (state : DefinitionState) (cells : List Cell) (h : Here) →
      B (n.Definition state) cells h ≡ definition_behaves options state cells h

-- A definition as a whole: its parts, and where they are.

pub record DefinitionParts : Type 0 where
  -- from its indent on
  pub cells : List Cell
  pub label : LabelParts
  pub colon : Cell
  -- after the colon
  pub more : List Cell
  pub destination : Destination
  pub title : Option TitleParts

-- where the label begins, if the indent begins here
abbrev pub label_begin : DefinitionParts → Point → Point
label_begin d p = white_end any_size d.cells p

-- The destination is after a gap: where it begins, and whether it is between angle brackets,
abbrev pub destination_begin : DefinitionParts → Point
destination_begin d = gap_end d.more d.colon.after

abbrev pub is_literal : DefinitionParts → Bool
is_literal d = begins_literal (gap_rest d.more)

-- where it ends, and what follows it
abbrev pub destination_end : DefinitionParts → Point
destination_end d = destination_last d.destination (gap_rest d.more) (destination_begin d)

abbrev pub destination_rest : DefinitionParts → List Cell
destination_rest d = destination_left d.destination (gap_rest d.more)

-- A title, if there is one, is after a gap: its events,
abbrev pub titled_part : Option TitleParts → List Cell → Point → List Event
titled_part None cells p = []
titled_part (Some t) cells p = gap_part cells p ++ title_events t (gap_end cells p)

-- where it ends, and what follows it
abbrev pub titled_end : Option TitleParts → Point → Point
titled_end None p = p
titled_end (Some t) p = t.closer.after

abbrev pub titled_rest : Option TitleParts → List Cell → List Cell
titled_rest None cells = cells
titled_rest (Some t) cells = t.rest

-- so all parts end here, before whitespace
abbrev pub parts_end : DefinitionParts → Point
parts_end d = titled_end d.title (destination_end d)

abbrev pub parts_rest : DefinitionParts → List Cell
parts_rest d = titled_rest d.title (destination_rest d)

-- and the definition after it
abbrev pub definition_end : DefinitionParts → Point
definition_end d = white_end any_size (parts_rest d) (parts_end d)

abbrev pub definition_rest : DefinitionParts → List Cell
definition_rest d = white_rest any_size (parts_rest d)

-- the events of one whose indent begins here
abbrev pub definition_events : DefinitionParts → Point → List Event
definition_events d p =
    white_part d.cells p
    ++ around Definition (label_begin d p) (definition_end d)
    (label_events d.label (label_begin d p) ++ pair DefinitionMarker d.label.closer.after d.colon.after
    ++ gap_part d.more d.colon.after
    ++ destination_part (is_literal d) d.destination.text (gap_rest d.more) (destination_begin d)
    ++ titled_part d.title (destination_rest d) (destination_end d) ++ white_part (parts_rest d) (parts_end d))

-- whether the line ends after whitespace
abbrev pub ends_after : List Cell → Bool
ends_after cells = ends_line (first_seen (white_rest any_size cells))

-- a title that ends its line
abbrev pub lone : Option TitleParts → Option TitleParts
lone None = None
lone (Some t) = if ends_after t.rest then Some t else None

-- the title after a destination that these cells follow, if one is there
abbrev pub title_following : List Cell → Option TitleParts
title_following cells = if begins_gap cells then lone (title_parts (gap_rest cells)) else None

-- a definition whose line ends after its parts
abbrev pub ended : DefinitionParts → Option DefinitionParts
ended d = if ends_after (parts_rest d) then Some d else None

-- the definition from these cells on, with this label and colon, by the destination after them
abbrev pub parts_with : List Cell → LabelParts → Cell → List Cell → Option Destination → Option DefinitionParts
parts_with cells label c cs None = None
parts_with cells label c cs (Some found) =
    ended (record {
      cells = cells;
      label = label;
      colon = c;
      more = cs;
      destination = found;
      title = title_following (destination_left found (gap_rest cs));
    })

-- by what follows the label
abbrev pub parts_after : List Cell → LabelParts → List Cell → Option DefinitionParts
parts_after cells label [] = None
parts_after cells label (c ∷ cs) =
    if c.byte == colon then parts_with cells label c cs (found_destination (line_bytes (gap_rest cs))) else None

-- by the label
abbrev pub parts_labelled : List Cell → Option LabelParts → Option DefinitionParts
parts_labelled cells None = None
parts_labelled cells (Some label) = parts_after cells label label.rest

-- the definition that these cells begin with, if they begin with one
unfoldable pub definition_parts : List Cell → Option DefinitionParts
definition_parts cells = parts_labelled cells (label_parts (white_rest any_size cells))

-- what a state of a definition means: at rest, its call is one step of the rule
unfoldable pub DefinitionMeans : DefinitionState → World → State → World → Type 0
DefinitionMeans state old to new =
    IsRest old.scratch →
    IsStep (λ B. HasDefinition B old.setting.options) (n.Definition state) to old new

-- what a state of a definition promises
abbrev pub IsDefinitionState : DefinitionState → World → State → Tokenizer → Type 0
IsDefinitionState state old answer new =
    IsState (definition_transition state old) (DefinitionMeans state old) (IsFull new) answer new

-- the same of a state that wants no memory
abbrev pub IsSureDefinitionState : DefinitionState → World → State → Tokenizer → Type 0
IsSureDefinitionState state old answer new =
    IsSureState (definition_transition state old) (DefinitionMeans state old) answer new
