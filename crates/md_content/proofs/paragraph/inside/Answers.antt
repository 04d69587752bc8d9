use Rattle.std.proofs.Common.{arith, rules}
use Rattle.std.proofs.lemmas.Grind.{common_steps}
use Rattle.md_content.proofs.ParagraphMeaning.{paragraph_rule}
use Rattle.md_content.proofs.paragraph.inside.Goals as goal

pub returns-in-Some-eq10-2 : goal.returns-in-Some-eq10-2
returns-in-Some-eq10-2 c = record {
  to = first_of (search rules, grind (arith, common_steps));
  world = first_of (search rules, grind (arith, common_steps));
  rule = search (rules, paragraph_rule);
  full = search rules;
}
