-- One contract for all states of a construct.
use Rattle.std.specs.Prelude.{◌≡◌, ◌≢◌}
use Rattle.md_engine.specs.Full.{OnError}
use Rattle.md_engine.specs.Going.{SeesOn}
use Rattle.md_engine.specs.Run.{RunsHere, Step}
use Rattle.md_engine.specs.World.{World, world as world_of}
use Rattle.md_engine.specs.declared.state.Name.{Name as StateName}
use Rattle.md_engine.specs.declared.state.State.{State}
use Rattle.md_engine.specs.declared.state.State.TheVariants.{Error}
use Rattle.md_engine.specs.declared.tokenizer.Tokenizer.{Tokenizer}
use Rattle.md_events.specs.Transition.{Transition}

-- What a state promises: its answer and the tokenizer that it leaves are those of its transition, and they mean what
-- the state means in the rule of its construct; or it answers want of memory, and this is why.
pub record IsState (t : Transition) (Means : State → World → Type 0) (Full : Type 0) (answer : State)
    (new : Tokenizer) :
    Type 0 where
  pub to : answer ≢ Error → answer ≡ t.to
  pub world : answer ≢ Error → world_of new ≡ t.world
  pub rule : answer ≢ Error → Means answer (world_of new)
  pub full : OnError answer Full

-- The same of a state that wants no memory.
pub record IsSureState (t : Transition) (Means : State → World → Type 0) (answer : State)
    (new : Tokenizer) : Type 0 where
  pub to : answer ≡ t.to
  pub world : world_of new ≡ t.world
  pub rule : Means answer (world_of new)

-- What a call that takes several states at once promises: it runs as they do one after the other, and sees what is at
-- its point after it; or it answers want of memory, and this is why.
pub record IsRun (S : Step) (name : StateName) (old : World) (Full : Type 0) (answer : State) (new : Tokenizer) :
    Type 0 where
  pub runs : answer ≢ Error → RunsHere S name old answer (world_of new)
  pub sees : answer ≢ Error → SeesOn answer old (world_of new)
  pub full : OnError answer Full
