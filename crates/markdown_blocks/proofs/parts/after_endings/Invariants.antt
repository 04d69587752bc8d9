use Rattle.std.proofs.Common.{◌≤◌, ◌-◌, length}
use Rattle.markdown_blocks.proofs.parts.after_endings.Given as goal

abbrev pub invariant-loop-at : goal.invariant-loop-at
invariant-loop-at l = record { after : l.from ≤ l.at; within : l.at ≤ length l.text }

abbrev pub decreases-loop-at : goal.decreases-loop-at
decreases-loop-at l = length l.text - l.at
