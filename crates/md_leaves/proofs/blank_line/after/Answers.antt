use Rattle.std.proofs.Common.{rules}
use Rattle.md_leaves.proofs.BlankMeaning.{blank_rule}
use Rattle.md_leaves.proofs.blank_line.after.Goals as goal

pub returns-in_default : goal.returns-in_default
returns-in_default c = record {
  to = search rules;
  world = search rules;
  rule = search (rules, blank_rule);
}
