-- Calls of the table of flow, one or several at once.
use Rattle.std.proofs.Common.{◌≡◌, ◌≢◌, false}
use Rattle.md_engine.specs.declared.state.Name.{Name as StateName}
use Rattle.md_engine.specs.declared.state.Name.TheVariants as n
use Rattle.md_engine.specs.declared.state.State.{State}
use Rattle.md_engine.specs.declared.state.State.TheVariants.{Error, Next}
use Rattle.md_engine.specs.Going.{SeesOn}
use Rattle.md_engine.specs.Run.{RunsHere}
use Rattle.md_engine.specs.Scheme.{valid}
use Rattle.md_engine.specs.World.{World, looks}
use Rattle.md_engine.proofs.Loops.{call-runs, call-sees}
use Rattle.md_engine.proofs.Walks.{EachKeeps, Within}
use Rattle.md_events.proofs.SpacesTermination.{does-fall, does-remain, does-setting, does-valid}
use Rattle.md_registry.specs.Registry.{construct_transition}
use Rattle.md_registry.specs.States.{FlowStep, flow_table_scheme, flow_transition, is_flow_own}
use Rattle.md_registry.proofs.States.{flow_terminates}

-- each keeps what the table needs
pub flow-keeps : EachKeeps FlowStep flow_table_scheme
flow-keeps name w to new seen at step =
    let does = flow_terminates name w seen at in (
      does-valid flow_table_scheme name w (flow_transition name w) to new step.to_is step.new_is does,
      does-fall flow_table_scheme name w (flow_transition name w) to new step.to_is step.new_is does,
    )

-- one call of a state is a run
pub called-once : (name : StateName) (w : World) (to : State)
    (new : World) →
    w.current ≡ looks w → valid flow_table_scheme w (Next name) → Within w → to ≢ Error →
    to ≡ (flow_transition name w).to → new ≡ (flow_transition name w).world →
    RunsHere FlowStep name w to new × SeesOn to w new
called-once name w to new seen at within fine to_is new_is =
    let does = flow_terminates name w seen at in
    let same : new.setting ≡ w.setting = does-setting flow_table_scheme name w _ _ new_is does in (
      call-runs FlowStep name w to new (record { to_is = to_is; new_is = new_is }) fine same within,
      call-sees to w new (does-remain flow_table_scheme name w _ to new to_is new_is does) same seen,
    )

-- the states that flow has not itself are those of constructs
pub flow-constructs : (name : StateName) (w : World) →
    is_flow_own name ≡ false → construct_transition name w ≡ flow_transition name w
flow-constructs (n.BlankLine state) w e = cc
flow-constructs _ w e = cc
