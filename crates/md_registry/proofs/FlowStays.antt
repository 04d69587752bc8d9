-- The table of flow stays on what the states of its constructs only take.
use Rattle.std.proofs.Common.{Option, Some, None, IfSome}
use Rattle.md_engine.specs.declared.state.Name.{Name as StateName}
use Rattle.md_engine.specs.declared.stay.Stay.{Stay}
use Rattle.md_engine.specs.Staying.{StaysOn}
use Rattle.md_registry.specs.States.{FlowStep, flow_table_scheme, flow_transition}
use Rattle.md_registry.proofs.States.{flow_terminates}
use Rattle.md_events.specs.Stays.{TakesEach}
use Rattle.md_events.proofs.StaysLemmas.{stays-on}

-- of a state that only takes and counts, whichever resolver is looked for
pub flow-stays : (name : StateName) (o : Option Stay) →
    IfSome o (λ k. TakesEach k name (flow_transition name)) →
    IfSome o (λ k. StaysOn FlowStep flow_table_scheme name k)
flow-stays name None h = tt
flow-stays name (Some k) h =
    stays-on FlowStep flow_table_scheme name k (flow_transition name)
    (λ w to new e k. record { to_is = e; new_is = k }) (flow_terminates name) h
