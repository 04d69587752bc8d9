use Rattle.std.proofs.Common.{arith, rules}
use Rattle.std.proofs.lemmas.Grind.{common_steps}
use Rattle.md_engine.specs.declared.state.html_flow.State.TheVariants as its
use Rattle.md_literal.proofs.HtmlMeaning.{html_rule}
use Rattle.md_engine.specs.World.{world}
use Rattle.md_events.proofs.StatesLemmas.{sure-state-is}
use Rattle.md_literal.proofs.html_flow.cdata_open_inside.Goals as goal

pub returns-then-tokenizer-lt5 : goal.returns-then-tokenizer-lt5
returns-then-tokenizer-lt5 c = record {
  to = first_of (search rules, grind (arith, common_steps));
  world = first_of (search rules, grind (arith, common_steps));
  rule = html_rule its.CdataOpenInside _ _ _ (grind (arith, common_steps)) (search rules);
}

pub returns-else-tokenizer-lt5 : goal.returns-else-tokenizer-lt5
returns-else-tokenizer-lt5 c =
    sure-state-is _ _ _ _ (html_rule its.CdataOpenInside (world c.args.tokenizer.now) _ _)
    (first_of (search rules, grind (arith, common_steps)))
    (first_of (search rules, grind (arith, common_steps)))
