use Rattle.std.proofs.Common.{◌≡◌}
use Rattle.markdown_inlines.proofs.labels.split_lines.Given as goal

abbrev pub invariant-loop-line : goal.invariant-loop-line
invariant-loop-line l = l.made.items ≡ l.yielded
