use Rattle.md_engine.specs.declared.state.destination.State.TheVariants as its
use Rattle.std.proofs.Common.{arith, rules}
use Rattle.std.proofs.lemmas.Grind.{common_steps}
use Rattle.md_engine.specs.World.{world}
use Rattle.md_events.proofs.StatesLemmas.{sure-state-is}
use Rattle.md_link_definitions.proofs.DestinationMeaning.{destination_rule}
use Rattle.md_link_definitions.proofs.destination.raw_escape.Goals as goal

pub returns-in_default : goal.returns-in_default
returns-in_default c =
    sure-state-is _ _ _ _ (destination_rule its.RawEscape (world c.args.tokenizer.now) _ _)
    (first_of (search rules, grind (arith, common_steps)))
    (first_of (search rules, grind (arith, common_steps)))
