-- The rule of a thematic break, as what is left of it at each state (CommonMark 4.1).
use Rattle.std.specs.Prelude.{◌≡◌, ℕ, ◌+◌, ◌&&◌, ◌||◌, ◌==◌, not, nat_le, if◌then◌else◌, List, [], ◌∷◌, ◌++◌, count_by}
use Rattle.std.specs.List.{list_all}
use Rattle.md_engine.specs.declared.configuration.ParseOptions.{ParseOptions}
use Rattle.md_engine.specs.declared.event.Event.{Event}
use Rattle.md_engine.specs.declared.event.Name.TheVariants.{ThematicBreak, ThematicBreakSequence}
use Rattle.md_engine.specs.declared.event.Point.{Point}
use Rattle.md_engine.specs.declared.state.Name.TheVariants as n
use Rattle.md_engine.specs.declared.state.thematic_break.State.{State as BreakState}
use Rattle.md_engine.specs.declared.state.thematic_break.State.TheVariants as its
use Rattle.md_engine.specs.declared.state.State.{State}
use Rattle.md_engine.specs.Meaning.{Accepts, Behaviour, Cell, Here, Outcome, Refuses}
use Rattle.md_engine.specs.Scheme.{position}
use Rattle.md_engine.specs.Sees.{IsStep}
use Rattle.md_engine.specs.World.{World}
use Rattle.md_leaves.specs.LeafStart.{start_at}
use Rattle.md_leaves.specs.Break.{BreakInvariant, without_marker, break_transition}
use Rattle.md_leaves.specs.HeadingSetext.{turns_nothing}
use Rattle.md_leaves.specs.HeadingSetextRule.{is_run, is_underline}
pub use Rattle.md_leaves.specs.MarkRuns.{Apart, Marks, Run, White}
use Rattle.md_leaves.specs.MarkRuns.{mark_runs}
use Rattle.md_events.specs.Ahead.{HasWhite, begins_white, from_ending, line_bytes, line_cells, line_end}
use Rattle.md_meaning.specs.Leaves.{is_rule}
use Rattle.md_events.specs.Events.Nested.{exit}
use Rattle.md_meaning.specs.Rest.{is_white}
use Rattle.md_events.specs.Look.{first_seen}
use Rattle.md_events.specs.Spaces.{ends_line}
use Rattle.md_events.specs.States.{IsState, IsSureState}
use Rattle.md_engine.specs.declared.tokenizer.Tokenizer.{Tokenizer}
use Rattle.md_engine.specs.Full.{IsFull}

-- the runs of markers and of whitespace that are left of a line
abbrev pub runs : Run → ℕ → List Cell → Point → List Event
runs run m cells p = mark_runs ThematicBreakSequence run m cells p

-- a break to the end of the line
abbrev pub broken : Run → ℕ → List Cell → Here → Outcome
broken run m cells h =
    let p = line_end cells h.point in
    Accepts
    (record h {
      events = h.events ++ runs run m (line_cells cells) h.point ++ exit ThematicBreak p ∷ [];
      point = p;
      scratch = without_marker h.scratch;
    })
    (from_ending cells)

-- how many of the marker there are
unfoldable pub marks : ℕ → List ℕ → ℕ
marks m bytes = count_by (λ b. b == m) bytes

-- what is left of a break in a line, in this run: only the marker and whitespace, and three markers in all
unfoldable pub in_break : Run → List Cell → Here → Outcome
in_break run cells h =
    let m = h.scratch.marker in
    let bytes = line_bytes cells in
    if list_all (λ b. (b == m) || is_white b) bytes && nat_le 3 (h.scratch.size + marks m bytes)
    then broken run m cells h
    else Refuses (without_marker h.scratch) h.flags

-- after a run
unfoldable pub at_break : List Cell → Here → Outcome
at_break cells h = if begins_white cells then Refuses (without_marker h.scratch) h.flags else in_break Apart cells h

-- in the first run, where that may not be all of the line
unfoldable pub in_one_run : List Cell → Here → Outcome
in_one_run cells h =
    if is_run h.scratch.marker (line_bytes cells) then Refuses (without_marker h.scratch) h.flags
    else in_break Marks cells h

-- after that run, and the whitespace that follows it
unfoldable pub after_one_run : List Cell → Here → Outcome
after_one_run cells h =
    if ends_line (first_seen cells) then Refuses (without_marker h.scratch) h.flags else at_break cells h

-- after the indent: no underline that has nothing to turn
unfoldable pub before_marker : ParseOptions → List Cell → Here → Outcome
before_marker options [] h = Refuses (without_marker h.scratch) h.flags
before_marker options (c ∷ cs) h =
    let bytes = line_bytes (c ∷ cs) in
    if is_rule bytes && not (turns_nothing options h.flags.leaf && is_underline bytes)
    then broken Apart c.byte (c ∷ cs) h
    else Refuses (without_marker h.scratch) h.flags

-- the whole rule, if breaks are on: a small indent, and a rule after it that is no underline with nothing to turn
abbrev pub break_at : ParseOptions → List Cell → Here → Outcome
break_at options cells h =
    start_at ThematicBreak options.constructs.thematic_break (before_marker options) options cells h

-- what is left at each state
abbrev pub break_behaves : ParseOptions → BreakState → List Cell → Here → Outcome
break_behaves options its.Start cells h = break_at options cells h
break_behaves options its.Before cells h = before_marker options cells h
break_behaves options its.AtBreak cells h = at_break cells h
break_behaves options its.Sequence cells h = in_break Marks cells h
break_behaves options its.OneRun cells h = in_one_run cells h
break_behaves options its.OneRunAfter cells h = after_one_run cells h

pub record HasBreak (B : Behaviour) (options : ParseOptions) : Type 0 where
  pub white : HasWhite B
  pub each : (state : BreakState) (cells : List Cell) (h : Here) →
      B (n.ThematicBreak state) cells h ≡ break_behaves options state cells h

-- what a state of a break means: where what it needs holds, its call is one step of the rule
unfoldable pub BreakMeans : BreakState → World → State → World → Type 0
BreakMeans state old to new =
    BreakInvariant (n.ThematicBreak state) (position old) →
    IsStep (λ B. HasBreak B old.setting.options) (n.ThematicBreak state) to old new

-- what a state of a thematic break promises
abbrev pub IsBreakState : BreakState → World → State → Tokenizer → Type 0
IsBreakState state old answer new = IsState (break_transition state old) (BreakMeans state old) (IsFull new) answer new

-- the same of a state that wants no memory
abbrev pub IsSureBreakState : BreakState → World → State → Tokenizer → Type 0
IsSureBreakState state old answer new = IsSureState (break_transition state old) (BreakMeans state old) answer new
