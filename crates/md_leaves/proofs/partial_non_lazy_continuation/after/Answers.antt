use Rattle.std.proofs.Common.{rules}
use Rattle.md_leaves.proofs.NonLazyMeaning.{non_lazy_rule}
use Rattle.md_leaves.proofs.partial_non_lazy_continuation.after.Goals as goal

pub returns-then-tokenizer : goal.returns-then-tokenizer
returns-then-tokenizer c = record {
  to = search rules;
  world = search rules;
  rule = search (rules, non_lazy_rule);
}

pub returns-else-tokenizer : goal.returns-else-tokenizer
returns-else-tokenizer c = record {
  to = search rules;
  world = search rules;
  rule = search (rules, non_lazy_rule);
}
