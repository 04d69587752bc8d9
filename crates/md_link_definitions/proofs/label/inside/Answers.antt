use Rattle.std.proofs.Common.{arith, rules}
use Rattle.std.proofs.lemmas.Grind.{common_steps}
use Rattle.md_engine.specs.declared.state.label.State.TheVariants as its
use Rattle.md_link_definitions.proofs.LabelMeaning.{label_rule}
use Rattle.md_link_definitions.proofs.label.inside.Goals as goal

pub returns-in-Some : goal.returns-in-Some
returns-in-Some c = record {
  to = first_of (search rules, grind (arith, common_steps));
  world = first_of (search rules, grind (arith, common_steps));
  rule = λ fine. label_rule its.Inside _ _ _ (search rules) (search rules);
  full = search rules;
}
