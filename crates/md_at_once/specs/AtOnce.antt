-- What functions that take several states in one call know of the states before them and after them.
use Rattle.std.specs.Prelude.{◌≡◌, ◌≢◌, ℕ, ◌+◌, ◌<◌, ◌⊎◌, ◌==◌, Bool, true, false, List, [], ◌∷◌, Option, Some}
use Rattle.std.specs.Prelude.{slice_index}
use Rattle.std.specs.Vec.{vec_capacity, vec_len}
use Rattle.md_engine.specs.declared.state.Name.{Name as StateName}
use Rattle.md_engine.specs.declared.state.Name.TheVariants as n
use Rattle.md_engine.specs.declared.state.State.{State}
use Rattle.md_engine.specs.declared.state.State.TheVariants.{Error, Next, Nok, Ok}
use Rattle.md_engine.specs.declared.state.flow.State.TheVariants as flow
use Rattle.md_engine.specs.declared.state.list_item.State.TheVariants as its
use Rattle.md_engine.specs.declared.tokenizer.container.Container.{Container}
use Rattle.md_engine.specs.declared.tokenizer.Frame.{Frame}
use Rattle.md_engine.specs.declared.tokenizer.Tokenizer.{Tokenizer}
use Rattle.md_engine.specs.declared.event.Point.{Point}
use Rattle.md_engine.specs.Full.{IsFull, IsFullOf, OnError}
use Rattle.md_engine.specs.Full.Grown.{Containers, Frames, Resolvers}
use Rattle.md_engine.specs.Going.{SeesOn}
use Rattle.md_engine.specs.Run.{Runs, RunsHere, plain, reading}
use Rattle.md_engine.specs.World.{World, looks, world as world_of}
use Rattle.md_literal.specs.Fence.{cleared, held_marker, line_entered}
use Rattle.md_meaning.specs.Ascii.{caret, left_bracket}
use Rattle.md_meaning.specs.Rest.{is_white}
use Rattle.md_events.specs.Look.{looks_after}
use Rattle.md_events.specs.Spaces.{calmed, sees_white}
use Rattle.md_events.specs.States.{IsRun}
use Rattle.md_registry.specs.AtOnce.{opens_none}
use Rattle.md_registry.specs.LineFlags.{next_container}
use Rattle.md_registry.specs.Registry.{continues_with}
use Rattle.md_registry.specs.Flow.{leaf_end}
use Rattle.md_registry.specs.FlowRule.{HasOpen}
use Rattle.md_registry.specs.States.{FlowStep}

-- what is at the point may be read, and is seen
abbrev pub SeesAhead : World → Type 0
SeesAhead w = (w.current ≡ looks w) × (w.point.index < w.setting.limit)

-- something else than whitespace is here, which does not end the line
pub record IsVisible (o : Option ℕ) : Type 0 where
  pub byte : ℕ
  pub here : o ≡ Some byte
  pub dark : is_white byte ≡ false
  pub filled : (byte == 10) ≡ false

-- A container is open that was not asked yet, whose further lines begin with an indent; none is here, on a line that is
-- not blank, and of no whitespace a part was counted.
pub record EndsAtOnce (w : World) : Type 0 where
  pub held : Container
  pub next : next_container w.flags ≡ Some held
  pub indented : continues_with held.kind ≡ n.ListItem its.ContStart
  pub out : IsVisible w.current
  pub rest : w.scratch.whitespace.max ≡ 0

-- The innermost attempt is one at a leaf: where it holds, the line ends, and the leaf is shut or may be open after it.
pub record IsTried (shuts : Bool) (w : World) : Type 0 where
  pub frame : Frame
  pub outer : List Frame
  pub frames : w.frames ≡ frame ∷ outer
  pub moves_on : frame.is_check ≡ false
  pub ok : frame.ok ≡ Next (n.Flow (leaf_end shuts))

-- an attempt at a line of content that begins after so many events, at this point
abbrev pub line_frame : ℕ → Point → Frame
line_frame count p = record {
  ok = Next (n.Flow flow.After);
  nok = Nok;
  is_check = false;
  events_len = count;
  point = p;
}

-- it has begun after the line has
abbrev pub line_tried : ℕ → Point → World → World
line_tried count p w = record w { frames = line_frame count p ∷ w.frames }

-- a run from a state to an answer, where it leaves the tokenizer so
abbrev pub Proceeds : StateName → World → State → World → Type 0
Proceeds name w to new = RunsHere FlowStep name w to new × SeesOn to w new

-- each run that becomes an answer continues to another
abbrev pub IsContinued : State → World → State → World → Type 0
IsContinued s w to new = (first : StateName) (old : World) → old.current ≡ looks old → Proceeds first old s w →
    Proceeds first old to new

-- A bracket is here, and something else than a caret after it: no footnote definition opens.
pub record IsNoLabel (w : World) : Type 0 where
  pub bracket : w.current ≡ Some left_bracket
  pub inside : w.point.index + 1 < w.setting.limit
  pub other : (slice_index w.setting.bytes (w.point.index + 1) == caret) ≡ false

-- no container opens, by what is here or by the byte after it
abbrev pub OpensNone : World → Type 0
OpensNone w = (opens_none w.current ≡ true) ⊎ IsNoLabel w

-- Whitespace is here where fenced code or math may continue, and something else than its marker first after it: no
-- fence closes it.
pub record IsNoClose (w : World) : Type 0 where
  pub white : sees_white w.current ≡ true
  pub byte : ℕ
  pub following : looks_after w ≡ Some byte
  pub other : (byte == held_marker w.flags.leaf) ≡ false
  pub dark : is_white (held_marker w.flags.leaf) ≡ false

-- a further line has begun that closes nothing, as where a closing fence was tried
abbrev pub unclosed : World → World
unclosed w = record (line_entered w) { scratch = calmed (cleared w.scratch) }

-- Why a call that takes several states at once wants memory.

-- the list of events has no room for so many more
abbrev pub LacksRoom : ℕ → Tokenizer → Type 0
LacksRoom count t = vec_capacity t.events < vec_len t.events + count

-- A list has no room: that of events for the four of a line of code, or another for one more.
abbrev pub IsShort : Tokenizer → Type 0
IsShort t = LacksRoom 4 t ⊎ IsFullOf (Frames ∷ Resolvers ∷ Containers ∷ []) t

-- A run from this state gets to where containers are open. These may end there, and their ends are put in a list of its
-- own, of which nothing is said.
pub record GetsToOpen (is_end : Bool) (s : State) (w : World) : Type 0 where
  pub to : State
  pub at : World
  pub runs : Runs FlowStep is_end s w to at
  pub opened : HasOpen at

-- so does one from each state of this name that sees what is seen here
abbrev pub MeetsOpen : StateName → World → Type 0
MeetsOpen name old =
    (is_end : Bool) (s : State) (w : World) → plain s ≡ Next name → reading w ≡ old →
    (is_end ≡ true) ⊎ (w.point.index < w.setting.limit) → GetsToOpen is_end s w

abbrev pub FlowFull : StateName → World → Tokenizer → Type 0
FlowFull name old new = IsShort new ⊎ MeetsOpen name old

-- the same after a leaf has accepted its line
abbrev pub LineFull : World → Tokenizer → Type 0
LineFull old new = IsShort new ⊎ ((is_end : Bool) → GetsToOpen is_end Ok old)

-- the same after any answer, which may be want of memory itself
abbrev pub EndFull : State → Tokenizer → Tokenizer → Type 0
EndFull to old new = ((to ≡ Error) × (new ≡ old)) ⊎ ((to ≡ Ok) × LineFull (world_of old) new)

-- What such a call promises: the states of flow run one after the other, and it sees what is at its point after them;
-- or it answers want of memory, and this is why.
abbrev pub IsFlowRun : StateName → World → State → Tokenizer → Type 0
IsFlowRun name old answer new = IsRun FlowStep name old (FlowFull name old new) answer new

-- the same of one that ends no line: there is no room for one more event or attempt
abbrev pub IsRunInLine : StateName → World → State → Tokenizer → Type 0
IsRunInLine name old answer new = IsRun FlowStep name old (IsFull new) answer new

-- the same of one that only ends a line, and so stays nowhere, from wherever one sees
pub record IsLineEnd (name : StateName) (old : World) (answer : State) (new : Tokenizer) : Type 0 where
  pub runs : answer ≢ Error → RunsHere FlowStep name old answer (world_of new)
  pub sees : answer ≢ Error → (from : World) → SeesOn answer from (world_of new)
  pub full : OnError answer (FlowFull name old new)

-- the same where the leaf of a line has accepted it
pub record IsAccepted (old : World) (answer : State) (new : Tokenizer) : Type 0 where
  pub runs : answer ≢ Error → (is_end : Bool) → Runs FlowStep is_end Ok old answer (world_of new)
  pub sees : answer ≢ Error → (from : World) → SeesOn answer from (world_of new)
  pub full : OnError answer (LineFull old new)

-- What a call promises that ends the line after an answer: each run that becomes the answer continues to what the call
-- answers.
pub record IsEnded (to : State) (old : Tokenizer) (answer : State) (new : Tokenizer) : Type 0 where
  pub fine : answer ≢ Error → to ≢ Error
  pub is_continued : answer ≢ Error → IsContinued to (world_of old) answer (world_of new)
  pub full : OnError answer (EndFull to old new)
