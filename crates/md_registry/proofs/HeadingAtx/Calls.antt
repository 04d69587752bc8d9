-- Calls of the states of a heading, one or several at once, are calls of the table of flow.
use Rattle.md_engine.specs.declared.state.Name.{Name as StateName}
use Rattle.md_engine.specs.declared.state.Name.TheVariants as n
use Rattle.md_engine.specs.declared.state.State.{State}
use Rattle.md_engine.specs.World.{World}
use Rattle.md_leaves.specs.HeadingCalls.{HeadingStep}
use Rattle.md_registry.specs.States.{FlowStep}

pub heading-flows : (name : StateName) (w : World) (to : State)
    (new : World) → HeadingStep name w to new → FlowStep name w to new
heading-flows (n.HeadingAtx state) w to new h = record { to_is = h.0; new_is = h.1 }
heading-flows (n.SpaceOrTab state) w to new h = record { to_is = h.0; new_is = h.1 }
heading-flows name w to new h = absurd h
