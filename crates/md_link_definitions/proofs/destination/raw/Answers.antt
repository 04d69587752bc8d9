use Rattle.std.proofs.Common.{arith, rules}
use Rattle.md_engine.specs.declared.state.destination.State.TheVariants as its
use Rattle.md_link_definitions.proofs.DestinationMeaning.{destination_rule}
use Rattle.std.proofs.lemmas.Grind.{common_steps}
use Rattle.md_engine.specs.World.{world}
use Rattle.md_events.proofs.StatesLemmas.{state-is}
use Rattle.md_link_definitions.proofs.destination.raw.Goals as goal

pub returns-then-tokenizer-gt0 : goal.returns-then-tokenizer-gt0
returns-then-tokenizer-gt0 c = record {
  to = first_of (search rules, grind (arith, common_steps));
  world = first_of (search rules, grind (arith, common_steps));
  rule = λ fine. destination_rule its.Raw _ _ _ (search rules) (search rules);
  full = search rules;
}

pub returns-else-tokenizer-eq0 : goal.returns-else-tokenizer-eq0
returns-else-tokenizer-eq0 c = record {
  to = first_of (search rules, grind (arith, common_steps));
  world = first_of (search rules, grind (arith, common_steps));
  rule = λ fine. destination_rule its.Raw _ _ _ (search rules) (search rules);
  full = search rules;
}

pub returns-else-tokenizer-gt0 : goal.returns-else-tokenizer-gt0
returns-else-tokenizer-gt0 c = record {
  to = first_of (search rules, grind (arith, common_steps));
  world = first_of (search rules, grind (arith, common_steps));
  rule = λ fine. destination_rule its.Raw _ _ _ (search rules) (search rules);
  full = search rules;
}

pub returns-in-Some : goal.returns-in-Some
returns-in-Some c =
    state-is _ _ _ _ _ (destination_rule its.Raw (world c.args.tokenizer.now) _ _)
    (first_of (search rules, grind (arith, common_steps)))
    (first_of (search rules, grind (arith, common_steps)))
    (search rules)
