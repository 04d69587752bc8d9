use Rattle.std.proofs.Common.{◌≤◌, ◌-◌, length}
use Rattle.markdown_blocks.proofs.parts.part_end.Given as goal

abbrev pub invariant-loop-begin : goal.invariant-loop-begin
invariant-loop-begin l = record { after : l.from ≤ l.begin; within : l.begin ≤ length l.text }

abbrev pub decreases-loop-begin : goal.decreases-loop-begin
decreases-loop-begin l = length l.text - l.begin
