-- The rule of a blank line, as what is left of it at each state (CommonMark 4.9).
use Rattle.std.specs.Prelude.{◌≡◌, if◌then◌else◌, List, [], ◌++◌}
use Rattle.md_events.specs.Spaces.{IsRest}
use Rattle.md_engine.specs.World.{World}
use Rattle.md_engine.specs.Sees.{IsStep}
use Rattle.md_engine.specs.declared.state.State.{State}
use Rattle.md_engine.specs.declared.event.Event.{Event}
use Rattle.md_engine.specs.declared.event.Name.TheVariants.{SpaceOrTab}
use Rattle.md_engine.specs.declared.event.Point.{Point}
use Rattle.md_engine.specs.declared.state.Name.TheVariants as n
use Rattle.md_engine.specs.declared.state.blank_line.State.{State as BlankState}
use Rattle.md_engine.specs.declared.state.blank_line.State.TheVariants as its
use Rattle.md_engine.specs.Meaning.{Accepts, Behaviour, Cell, Here, Outcome, Refuses}
use Rattle.md_events.specs.Ahead.{HasWhite, begins_white, from_ending, line_bytes, line_end}
use Rattle.md_meaning.specs.Bytes.{is_end}
use Rattle.md_events.specs.Events.Nested.{pair}
use Rattle.md_meaning.specs.Rest.{is_blank}
use Rattle.md_leaves.specs.Blank.{blank_transition}
use Rattle.md_events.specs.States.{IsState, IsSureState}
use Rattle.md_engine.specs.declared.tokenizer.Tokenizer.{Tokenizer}
use Rattle.md_engine.specs.Full.{IsFull}

-- after the whitespace: the line ends
unfoldable pub after_blank : List Cell → Here → Outcome
after_blank cells h = if is_end (line_bytes cells) then Accepts h cells else Refuses h.scratch h.flags

-- the whitespace of a blank line is one part, if there is any
abbrev pub blank_events : List Cell → Point → List Event
blank_events cells p = if begins_white cells then pair SpaceOrTab p (line_end cells p) else []

-- the whole rule: nothing but whitespace
unfoldable pub blank_at : List Cell → Here → Outcome
blank_at cells h =
    if is_blank (line_bytes cells)
    then Accepts (record h { events = h.events ++ blank_events cells h.point; point = line_end cells h.point })
    (from_ending cells)
    else Refuses h.scratch h.flags

-- what is left at each state
abbrev pub blank_behaves : BlankState → List Cell → Here → Outcome
blank_behaves its.Start cells h = blank_at cells h
blank_behaves its.After cells h = after_blank cells h

pub record HasBlank (B : Behaviour) : Type 0 where
  pub white : HasWhite B
  pub each : (state : BlankState) (cells : List Cell) (h : Here) →
      B (n.BlankLine state) cells h ≡ blank_behaves state cells h

-- what a state of a blank line means: at rest, its call is one step of the rule
unfoldable pub BlankMeans : BlankState → World → State → World → Type 0
BlankMeans state old to new = IsRest old.scratch → IsStep HasBlank (n.BlankLine state) to old new

-- what a state of a blank line promises
abbrev pub IsBlankState : BlankState → World → State → Tokenizer → Type 0
IsBlankState state old answer new = IsState (blank_transition state old) (BlankMeans state old) (IsFull new) answer new

-- the same of a state that wants no memory
abbrev pub IsSureBlankState : BlankState → World → State → Tokenizer → Type 0
IsSureBlankState state old answer new = IsSureState (blank_transition state old) (BlankMeans state old) answer new
