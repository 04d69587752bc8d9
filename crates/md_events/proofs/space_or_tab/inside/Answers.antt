use Rattle.std.proofs.Common.{rules}
use Rattle.md_events.proofs.WhiteMeaning.{white_rule}
use Rattle.md_events.proofs.space_or_tab.inside.Goals as goal

pub returns-then-size-max : goal.returns-then-size-max
returns-then-size-max c = record {
  to = search rules;
  world = search rules;
  rule = search (rules, white_rule);
  full = search rules;
}
