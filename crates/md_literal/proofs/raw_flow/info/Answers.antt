use Rattle.std.proofs.Common.{arith, rules}
use Rattle.std.proofs.lemmas.Grind.{common_steps}
use Rattle.md_engine.specs.declared.state.raw_flow.State.TheVariants as its
use Rattle.md_literal.proofs.FenceMeaning.{fence_rule}
use Rattle.md_literal.proofs.raw_flow.info.Goals as goal

pub returns-then-is_refused : goal.returns-then-is_refused
returns-then-is_refused c = record {
  to = first_of (search rules, grind (arith, common_steps));
  world = first_of (search rules, grind (arith, common_steps));
  rule = λ fine. fence_rule its.Info _ _ _ (search rules) (search rules);
  full = search rules;
}

pub returns-else-is_refused : goal.returns-else-is_refused
returns-else-is_refused c = record {
  to = first_of (search rules, grind (arith, common_steps));
  world = first_of (search rules, grind (arith, common_steps));
  rule = λ fine. fence_rule its.Info _ _ _ (search rules) (search rules);
  full = search rules;
}

pub returns-in-None-3 : goal.returns-in-None-3
returns-in-None-3 c = record {
  to = first_of (search rules, grind (arith, common_steps));
  world = first_of (search rules, grind (arith, common_steps));
  rule = λ fine. fence_rule its.Info _ _ _ (search rules) (search rules);
  full = search rules;
}
