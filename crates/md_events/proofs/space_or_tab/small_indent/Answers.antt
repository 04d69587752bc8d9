use Rattle.std.proofs.Common.{rules}
use Rattle.md_events.proofs.space_or_tab.small_indent.Goals as goal

pub returns-then-tokenizer : goal.returns-then-tokenizer
returns-then-tokenizer c = search rules
