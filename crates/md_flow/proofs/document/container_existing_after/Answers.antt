use Rattle.std.proofs.Common.{arith, rules}
use Rattle.std.proofs.lemmas.Grind.{common_steps}
use Rattle.md_engine.specs.declared.state.document.State.TheVariants as document
use Rattle.md_engine.specs.World.{world}
use Rattle.md_registry.proofs.FlowSteps.{document_rule}
use Rattle.md_flow.proofs.document.container_existing_after.Goals as goal
use Rattle.md_events.proofs.StatesLemmas.{sure-state-is}

pub returns-else-continued-len : goal.returns-else-continued-len
returns-else-continued-len c =
    sure-state-is _ _ _ _ (document_rule document.ContainerExistingAfter (world c.args.tokenizer.now) _ _)
    (search rules)
    (grind (arith, common_steps))
