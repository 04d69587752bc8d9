use Rattle.std.proofs.Common.{arith, rules}
use Rattle.std.proofs.lemmas.Grind.{common_steps}
use Rattle.md_content.proofs.ContentMeaning.{chunk_rule}
use Rattle.md_content.proofs.content.chunk_inside.Goals as goal

pub returns-in-None-3 : goal.returns-in-None-3
returns-in-None-3 c = record {
  to = first_of (search rules, grind (arith, common_steps));
  world = first_of (search rules, grind (arith, common_steps));
  rule = search (rules, chunk_rule);
  full = search rules;
}
