use Rattle.std.proofs.Common.{◌≤◌, ◌-◌}
use Rattle.markdown_blocks.proofs.parts.line_begin.Given as goal

abbrev pub invariant-loop-begin : goal.invariant-loop-begin
invariant-loop-begin l = record { first : l.from ≤ l.begin; last : l.begin ≤ l.at }

abbrev pub decreases-loop-begin : goal.decreases-loop-begin
decreases-loop-begin l = l.begin - l.from
