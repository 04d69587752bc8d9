use Rattle.std.proofs.Common.{refl, rules}
use Rattle.md_engine.specs.declared.state.document.State.TheVariants as document
use Rattle.md_engine.specs.World.{world}
use Rattle.md_events.proofs.StatesLemmas.{state-is}
use Rattle.md_registry.proofs.FlowSteps.{document_rule}
use Rattle.md_flow.proofs.document.start.Goals as goal

pub returns-2 : goal.returns-2
returns-2 c =
    state-is _ _ _ _ _ (document_rule document.Start (world c.args.tokenizer.now) _ _) (λ _. refl) (search rules)
    (search rules)
