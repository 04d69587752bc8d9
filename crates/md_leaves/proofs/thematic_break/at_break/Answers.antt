use Rattle.std.proofs.Common.{rules}
use Rattle.md_leaves.proofs.BreakMeaning.{break_rule}
use Rattle.md_leaves.proofs.thematic_break.at_break.Goals as goal

pub returns-then-is_break-2 : goal.returns-then-is_break-2
returns-then-is_break-2 c = record {
  to = search rules;
  world = search rules;
  rule = search (rules, break_rule);
  full = search rules;
}

pub returns-else-is_break : goal.returns-else-is_break
returns-else-is_break c = record {
  to = search rules;
  world = search rules;
  rule = search (rules, break_rule);
  full = search rules;
}
