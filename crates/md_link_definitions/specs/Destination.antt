-- The destination of a definition (CommonMark 6.3).
use Rattle.std.specs.Prelude.{refl, ℕ, ◌+◌, ◌-◌, ◌≤◌, Bool, true, false, ◌==◌, if◌then◌else◌, nat_lt}
use Rattle.std.specs.Prelude.{Option, Some, None}
use Rattle.md_meaning.specs.Ascii.{backslash, greater_than, left_parenthesis, less_than, line_feed, right_parenthesis}
use Rattle.md_meaning.specs.Definition.{is_raw_byte}
use Rattle.md_engine.specs.declared.event.Name.TheVariants.{Data, DefinitionDestination, DefinitionDestinationLiteral}
use Rattle.md_engine.specs.declared.event.Name.TheVariants.{DefinitionDestinationLiteralMarker}
use Rattle.md_engine.specs.declared.event.Name.TheVariants.{DefinitionDestinationRaw, DefinitionDestinationString}
use Rattle.md_engine.specs.declared.state.Name.{Name as StateName}
use Rattle.md_engine.specs.declared.state.Name.TheVariants as n
use Rattle.md_engine.specs.declared.state.destination.State.{State as DestinationState}
use Rattle.md_engine.specs.declared.state.destination.State.TheVariants as its
use Rattle.md_engine.specs.declared.state.State.TheVariants.{Ok, Nok, Next, Retry}
use Rattle.md_engine.specs.declared.tokenizer.Scratch.{Scratch}
use Rattle.md_engine.specs.Scheme.{After, Ends, Rank, Scheme, Position, cells_before, ranked, seen}
use Rattle.md_engine.specs.World.{World}
use Rattle.md_link_definitions.specs.Chunks.{string_link}
use Rattle.md_events.specs.Spaces.{IsRest, is_current}
use Rattle.md_events.specs.Transition.{Transition, entered, entered_link, exited, taken}

abbrev pub without_size : Scratch → Scratch
without_size s = record s { size = 0 }

abbrev pub with_size : ℕ → Scratch → Scratch
with_size size s = record s { size = size }

-- What is in a destination.
pub data Piece : Type 0 where
  -- an opening mark, and a closing one
  Opens : Piece
  Closes : Piece
  -- a backslash
  Escapes : Piece
  -- another byte of it
  Other : Piece
  -- none of it
  Stops : Piece

-- between angle brackets
abbrev pub enclosed_piece : Option ℕ → Piece
enclosed_piece None = Stops
enclosed_piece (Some b) =
    if b == less_than then Opens
    else if b == greater_than then Closes
    else if b == backslash then Escapes
    else if b == line_feed then Stops
    else Other

-- without them
abbrev pub raw_piece : Option ℕ → Piece
raw_piece None = Stops
raw_piece (Some b) =
    if b == left_parenthesis then Opens
    else if b == right_parenthesis then Closes
    else if b == backslash then Escapes
    else if is_raw_byte b then Other
    else Stops

-- whether a backslash in front takes it
abbrev pub is_escaped : Piece → Bool
is_escaped Opens = true
is_escaped Closes = true
is_escaped Escapes = true
is_escaped Other = false
is_escaped Stops = false

-- where the text of a destination begins, and ends
abbrev pub text_entered : World → World
text_entered w = entered_link (entered w DefinitionDestinationString) Data string_link

abbrev pub text_exited : World → World
text_exited w = exited (exited w Data) DefinitionDestinationString

-- an angle bracket is taken
abbrev pub marker_taken : World → World
marker_taken w = exited (taken (entered w DefinitionDestinationLiteralMarker)) DefinitionDestinationLiteralMarker

-- what may begin one
pub data Begin : Type 0 where
  Literal : Begin
  Raw : Begin
  Neither : Begin

abbrev pub begins : Option ℕ → Begin
begins None = Neither
begins (Some b) = if b == less_than then Literal else if is_raw_byte b then Raw else Neither

-- by what is here
abbrev pub start_code : World → Begin → Transition
start_code w Literal = record {
  to = Next (n.Destination its.EnclosedBefore);
  world = marker_taken (entered (entered w DefinitionDestination) DefinitionDestinationLiteral);
}
start_code w Raw = record {
  to = Retry (n.Destination its.Raw);
  world = text_entered (entered (entered w DefinitionDestination) DefinitionDestinationRaw);
}
start_code w Neither = record { to = Nok; world = w }

-- by whether `>` is here
abbrev pub enclosed_before_code : World → Bool → Transition
enclosed_before_code w true = record {
  to = Ok;
  world = exited (exited (marker_taken w) DefinitionDestinationLiteral) DefinitionDestination;
}
enclosed_before_code w false = record { to = Retry (n.Destination its.Enclosed); world = text_entered w }

-- by what is here
abbrev pub enclosed_code : World → Piece → Transition
enclosed_code w Opens = record { to = Nok; world = w }
enclosed_code w Closes = record { to = Retry (n.Destination its.EnclosedBefore); world = text_exited w }
enclosed_code w Escapes = record { to = Next (n.Destination its.EnclosedEscape); world = taken w }
enclosed_code w Other = record { to = Next (n.Destination its.Enclosed); world = taken w }
enclosed_code w Stops = record { to = Nok; world = w }

-- by whether the backslash takes what is here
abbrev pub escape_code : DestinationState → World → Bool → Transition
escape_code inside w true = record { to = Next (n.Destination inside); world = taken w }
escape_code inside w false = record { to = Retry (n.Destination inside); world = w }

-- by what is here, and whether a parenthesis is open
abbrev pub raw_code : World → Piece → Bool → Transition
raw_code w Opens some = record {
  to = Next (n.Destination its.Raw);
  world = record (taken w) { scratch = with_size (w.scratch.size + 1) w.scratch };
}
raw_code w Closes true = record {
  to = Next (n.Destination its.Raw);
  world = record (taken w) { scratch = with_size (w.scratch.size - 1) w.scratch };
}
raw_code w Closes false = record { to = Nok; world = w }
raw_code w Escapes some = record { to = Next (n.Destination its.RawEscape); world = taken w }
raw_code w Other some = record { to = Next (n.Destination its.Raw); world = taken w }
raw_code w Stops true = record { to = Nok; world = record w { scratch = without_size w.scratch } }
raw_code w Stops false =
    record { to = Ok; world = exited (exited (text_exited w) DefinitionDestinationRaw) DefinitionDestination }

-- each state with what it does, where there is memory
abbrev pub start_transition : World → Transition
start_transition w = start_code w (begins w.current)

abbrev pub enclosed_before_transition : World → Transition
enclosed_before_transition w = enclosed_before_code w (is_current greater_than w.current)

abbrev pub enclosed_transition : World → Transition
enclosed_transition w = enclosed_code w (enclosed_piece w.current)

abbrev pub enclosed_escape_transition : World → Transition
enclosed_escape_transition w = escape_code its.Enclosed w (is_escaped (enclosed_piece w.current))

abbrev pub raw_transition : World → Transition
raw_transition w = raw_code w (raw_piece w.current) (nat_lt 0 w.scratch.size)

abbrev pub raw_escape_transition : World → Transition
raw_escape_transition w = escape_code its.Raw w (is_escaped (raw_piece w.current))

-- all of them
abbrev pub destination_transition : DestinationState → World → Transition
destination_transition its.Start w = start_transition w
destination_transition its.EnclosedBefore w = enclosed_before_transition w
destination_transition its.Enclosed w = enclosed_transition w
destination_transition its.EnclosedEscape w = enclosed_escape_transition w
destination_transition its.Raw w = raw_transition w
destination_transition its.RawEscape w = raw_escape_transition w

-- Without angle brackets, the parentheses that are open lie before the point.
pub record IsNested (x : Position) : Type 0 where
  pub size : x.scratch.size ≤ cells_before x.point
  pub rest : IsRest (without_size x.scratch)

abbrev pub DestinationNeeds : StateName → World → Type 0
DestinationNeeds (n.Destination its.Raw) w = w.scratch.size ≤ cells_before w.point
DestinationNeeds _ w = Unit {0}

abbrev pub DestinationInvariant : StateName → Position → Type 0
DestinationInvariant (n.Destination its.Raw) x = IsNested x
DestinationInvariant (n.Destination its.RawEscape) x = IsNested x
DestinationInvariant _ x = IsRest x.scratch

abbrev pub destination_ready : StateName → Position → After → Type 0
destination_ready name x K = DestinationInvariant name x × Ends IsRest IsRest x K

abbrev pub destination_rank : StateName → Position → Rank
destination_rank (n.Destination its.Enclosed) x =
    if is_current greater_than (seen x) then ranked 2 refl else ranked 0 refl
destination_rank (n.Destination its.EnclosedEscape) x = ranked 3 refl
destination_rank (n.Destination its.Raw) x = ranked 0 refl
destination_rank _ x = ranked 1 refl

abbrev pub destination_scheme : Scheme
destination_scheme =
    record { ready = destination_ready; level = λ n. 0; rank = destination_rank; tries = λ n. ranked 0 refl }
