use Rattle.std.proofs.Common.{arith, rules}
use Rattle.std.proofs.lemmas.Grind.{common_steps}
use Rattle.md_engine.specs.declared.state.html_flow.State.TheVariants as its
use Rattle.md_literal.proofs.HtmlMeaning.{html_rule}
use Rattle.md_literal.proofs.html_flow.open.Goals as goal

pub returns-in_default : goal.returns-in_default
returns-in_default c = record {
  to = first_of (search rules, grind (arith, common_steps));
  world = first_of (search rules, grind (arith, common_steps));
  rule = html_rule its.Open _ _ _ (search rules) (search rules);
}
