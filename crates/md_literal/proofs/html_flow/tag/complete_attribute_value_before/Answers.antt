use Rattle.md_engine.specs.declared.state.html_flow.State.TheVariants as its
use Rattle.std.proofs.Common.{arith, rules}
use Rattle.std.proofs.lemmas.Grind.{common_steps}
use Rattle.md_engine.specs.World.{world}
use Rattle.md_events.proofs.StatesLemmas.{sure-state-is}
use Rattle.md_literal.proofs.HtmlMeaning.{html_rule}
use Rattle.md_literal.proofs.html_flow.tag.complete_attribute_value_before.Goals as goal

pub returns-else-is_value_byte : goal.returns-else-is_value_byte
returns-else-is_value_byte c =
    sure-state-is _ _ _ _ (html_rule its.CompleteAttributeValueBefore (world c.args.tokenizer.now) _ _)
    (first_of (search rules, grind (arith, common_steps)))
    (first_of (search rules, grind (arith, common_steps)))
