use Rattle.std.proofs.Common.{ap, sym}
use Rattle.md_engine.specs.declared.state.Name.{Name as StateName}
use Rattle.md_engine.specs.declared.state.Name.TheVariants as n
use Rattle.md_engine.specs.declared.state.State.{State}
use Rattle.md_engine.specs.World.{World, world}
use Rattle.md_engine.proofs.Walks.{runs-in}
use Rattle.md_events.specs.Spaces.{WhiteStep}
use Rattle.md_events.specs.Transition.{Transition}
use Rattle.md_registry.specs.States.{FlowStep}
use Rattle.md_at_once.proofs.at_once.call_white.Goals as goal

-- what whitespace does, it does in the table
white-flows : (name : StateName) (w : World) (to : State) (new : World) → WhiteStep name w to new →
    FlowStep name w to new
white-flows (n.SpaceOrTab state) w to new e = record {
  to_is = sym (ap (λ (a : Transition). a.to) e);
  new_is = sym (ap (λ (a : Transition). a.world) e);
}
white-flows name w to new e = absurd e

pub returns : goal.returns
returns c = record {
  runs = λ fine is_end s v named from may.
      runs-in WhiteStep FlowStep is_end s v c.call_at_once.result (world c.call_at_once.new.tokenizer) white-flows
      (c.call_at_once.ensures.runs fine is_end s v named from may);
  sees = c.call_at_once.ensures.sees;
  full = c.call_at_once.ensures.full;
}
