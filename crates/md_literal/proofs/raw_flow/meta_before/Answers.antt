use Rattle.std.proofs.Common.{arith, rules}
use Rattle.std.proofs.lemmas.Grind.{common_steps}
use Rattle.md_engine.specs.declared.state.raw_flow.State.TheVariants as its
use Rattle.md_literal.proofs.FenceMeaning.{fence_rule}
use Rattle.md_literal.proofs.raw_flow.meta_before.Goals as goal

pub returns-in-Some-3 : goal.returns-in-Some-3
returns-in-Some-3 c = record {
  to = first_of (search rules, grind (arith, common_steps));
  world = first_of (search rules, grind (arith, common_steps));
  rule = λ fine. fence_rule its.MetaBefore _ _ _ (search rules) (search rules);
  full = search rules;
}
