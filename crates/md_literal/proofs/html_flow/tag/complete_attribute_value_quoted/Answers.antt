use Rattle.std.proofs.Common.{arith, rules}
use Rattle.std.proofs.lemmas.Grind.{common_steps}
use Rattle.md_engine.specs.declared.state.html_flow.State.TheVariants as its
use Rattle.md_literal.proofs.HtmlMeaning.{html_rule}
use Rattle.md_literal.proofs.html_flow.tag.complete_attribute_value_quoted.Goals as goal

pub returns-then-byte-tokenizer : goal.returns-then-byte-tokenizer
returns-then-byte-tokenizer c = record {
  to = first_of (search rules, grind (arith, common_steps));
  world = first_of (search rules, grind (arith, common_steps));
  rule = html_rule its.CompleteAttributeValueQuoted _ _ _ (grind (arith, common_steps)) (grind (arith, common_steps));
}

pub returns-else-byte-tokenizer : goal.returns-else-byte-tokenizer
returns-else-byte-tokenizer c = record {
  to = first_of (search rules, grind (arith, common_steps));
  world = first_of (search rules, grind (arith, common_steps));
  rule = html_rule its.CompleteAttributeValueQuoted _ _ _ (search rules) (search rules);
}
