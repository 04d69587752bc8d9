use Rattle.std.proofs.Common.{arith, rules}
use Rattle.std.proofs.lemmas.Grind.{common_steps}
use Rattle.md_engine.specs.declared.state.raw_flow.State.TheVariants as its
use Rattle.md_literal.proofs.FenceMeaning.{fence_rule}
use Rattle.md_engine.specs.World.{world}
use Rattle.md_events.proofs.StatesLemmas.{state-is}
use Rattle.md_literal.proofs.raw_flow.sequence_open.Goals as goal

pub returns-then-tokenizer-least_size : goal.returns-then-tokenizer-least_size
returns-then-tokenizer-least_size c = record {
  to = first_of (search rules, grind (arith, common_steps));
  world = first_of (search rules, grind (arith, common_steps));
  rule = λ fine. fence_rule its.SequenceOpen _ _ _ (search rules) (search rules);
  full = search rules;
}

pub returns-then-marker-eq36 : goal.returns-then-marker-eq36
returns-then-marker-eq36 c = record {
  to = first_of (search rules, grind (arith, common_steps));
  world = first_of (search rules, grind (arith, common_steps));
  rule = λ fine. fence_rule its.SequenceOpen _ _ _ (search rules) (search rules);
  full = search rules;
}

pub returns-else-marker-eq36 : goal.returns-else-marker-eq36
returns-else-marker-eq36 c =
    state-is _ _ _ _ _ (fence_rule its.SequenceOpen (world c.args.tokenizer.now) _ _)
    (first_of (search rules, grind (arith, common_steps)))
    (first_of (search rules, grind (arith, common_steps)))
    (search rules)
