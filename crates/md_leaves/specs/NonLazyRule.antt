-- The rule that a further line is not lazy, as what is left of it at each state (CommonMark 5.1).
use Rattle.std.specs.Prelude.{◌≡◌, Bool, ◌&&◌, ◌==◌, not, if◌then◌else◌, List, [], ◌∷◌, ◌++◌}
use Rattle.md_engine.specs.World.{World}
use Rattle.md_engine.specs.Sees.{Sees}
use Rattle.md_engine.specs.declared.state.State.TheVariants.{Next}
use Rattle.md_engine.specs.declared.state.State.{State}
use Rattle.md_engine.specs.declared.event.Name.TheVariants.{LineEnding}
use Rattle.md_engine.specs.declared.state.Name.TheVariants as n
use Rattle.md_engine.specs.declared.state.non_lazy_continuation.State.{State as NonLazyState}
use Rattle.md_engine.specs.declared.state.non_lazy_continuation.State.TheVariants as its
use Rattle.md_engine.specs.declared.tokenizer.Line.{Line}
use Rattle.md_engine.specs.Meaning.{Steps, Feed, Accepts, Behaviour, Cell, Here, Outcome, Refuses, line_of}
use Rattle.md_events.specs.Events.Nested.{pair}
use Rattle.md_leaves.specs.NonLazy.{non_lazy_transition}
use Rattle.md_events.specs.States.{IsState, IsSureState}
use Rattle.md_engine.specs.declared.tokenizer.Tokenizer.{Tokenizer}
use Rattle.md_engine.specs.Full.{IsFull}

-- whether the line of these cells is lazy; where no cell is left, it is what the parent says of the end
abbrev pub is_lazy : Line → List Cell → Bool
is_lazy none cells = (line_of none cells).lazy

-- after the ending: the line that begins here is not lazy
unfoldable pub after_ending : Line → List Cell → Here → Outcome
after_ending none cells h = if is_lazy none cells then Refuses h.scratch h.flags else Accepts h cells

-- the whole rule: an ending, and after it a line that is not lazy
unfoldable pub continuation_at : Line → List Cell → Here → Outcome
continuation_at none [] h = Refuses h.scratch h.flags
continuation_at none (c ∷ cs) h =
    if (c.byte == 10) && not (is_lazy none cs)
    then Accepts (record h { events = h.events ++ pair LineEnding h.point c.after; point = c.after }) cs
    else Refuses h.scratch h.flags

-- what is left at each state
abbrev pub non_lazy_behaves : Line → NonLazyState → List Cell → Here → Outcome
non_lazy_behaves none its.Start cells h = continuation_at none cells h
non_lazy_behaves none its.After cells h = after_ending none cells h

pub record HasNonLazy (B : Behaviour) (none : Line) : Type 0 where
  pub each : (state : NonLazyState) (cells : List Cell) (h : Here) →
      B (n.NonLazyContinuation state) cells h ≡ non_lazy_behaves none state cells h

-- what a state of the check means: where the line that follows is the one of which the parent says whether it is lazy,
-- its call is one step of the rule
unfoldable pub NonLazyMeans : NonLazyState → World → State → World → Type 0
NonLazyMeans state old to new =
    (none : Line) (B : Behaviour) (feed : Feed) → HasNonLazy B none → Sees feed old →
    line_of none (feed old.point) ≡ old.setting.line → Steps B feed (Next (n.NonLazyContinuation state)) old to new

-- what a state of a line that is not lazy promises
abbrev pub IsNonLazyState : NonLazyState → World → State → Tokenizer → Type 0
IsNonLazyState state old answer new =
    IsState (non_lazy_transition state old) (NonLazyMeans state old) (IsFull new) answer new

-- the same of a state that wants no memory
abbrev pub IsSureNonLazyState : NonLazyState → World → State → Tokenizer → Type 0
IsSureNonLazyState state old answer new =
    IsSureState (non_lazy_transition state old) (NonLazyMeans state old) answer new
