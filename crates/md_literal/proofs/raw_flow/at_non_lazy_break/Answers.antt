use Rattle.std.proofs.Common.{arith, rules}
use Rattle.std.proofs.lemmas.Grind.{common_steps}
use Rattle.md_literal.proofs.FenceMeaning.{fence_rule}
use Rattle.md_literal.proofs.raw_flow.at_non_lazy_break.Goals as goal

pub returns-then-eq-2 : goal.returns-then-eq-2
returns-then-eq-2 c = record {
  to = first_of (search rules, grind (arith, common_steps));
  world = first_of (search rules, grind (arith, common_steps));
  rule = search (rules, fence_rule);
  full = search rules;
}
