-- What answers as a transition says keeps the contract of a state, by the rule of its construct.
use Rattle.std.proofs.Common.{◌≡◌, ◌≢◌}
use Rattle.md_engine.specs.Full.{OnError}
use Rattle.md_engine.specs.World.{World, world}
use Rattle.md_engine.specs.declared.state.State.{State}
use Rattle.md_engine.specs.declared.state.State.TheVariants.{Error}
use Rattle.md_engine.specs.declared.tokenizer.Tokenizer.{Tokenizer}
use Rattle.md_events.specs.States.{IsState, IsSureState}
use Rattle.md_events.specs.Transition.{Transition}

pub state-is : (t : Transition) (M : State → World → Type 0) (Full : Type 0) (to : State) (new : Tokenizer) →
    (to ≡ t.to → world new ≡ t.world → M to (world new)) → (to ≢ Error → to ≡ t.to) →
    (to ≢ Error → world new ≡ t.world) → OnError to Full → IsState t M Full to new
state-is t M Full to new means proceeds leaves full = record {
  to = proceeds;
  world = leaves;
  rule = λ ok. means (proceeds ok) (leaves ok);
  full = full;
}

pub sure-state-is : (t : Transition) (M : State → World → Type 0) (to : State) (new : Tokenizer) →
    (to ≡ t.to → world new ≡ t.world → M to (world new)) → to ≡ t.to → world new ≡ t.world → IsSureState t M to new
sure-state-is t M to new means proceeds leaves = record {
  to = proceeds;
  world = leaves;
  rule = means proceeds leaves;
}
