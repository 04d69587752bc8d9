use Rattle.std.proofs.Common.{rules}
use Rattle.md_engine.specs.declared.state.flow.State.TheVariants as flow
use Rattle.md_engine.specs.World.{world}
use Rattle.md_events.proofs.StatesLemmas.{state-is}
use Rattle.md_registry.proofs.FlowSteps.{flow_rule}
use Rattle.md_flow.proofs.flow.blank_line_before.Goals as goal

pub returns-2 : goal.returns-2
returns-2 c =
    state-is _ _ _ _ _ (flow_rule flow.BlankLineBefore (world c.args.tokenizer.now) _ _) (search rules) (search rules)
    (search rules)
