use Rattle.std.proofs.Common.{rules}
use Rattle.md_engine.specs.declared.state.flow.State.TheVariants as flow
use Rattle.md_engine.specs.World.{world}
use Rattle.md_events.proofs.StatesLemmas.{sure-state-is}
use Rattle.md_registry.proofs.FlowSteps.{flow_rule}
use Rattle.md_flow.proofs.flow.blank_line_after.Goals as goal

pub returns : goal.returns
returns c =
    sure-state-is _ _ _ _ (flow_rule flow.BlankLineAfter (world c.args.tokenizer.now) _ _) (search rules)
    c.leaf_after.ensures.world
