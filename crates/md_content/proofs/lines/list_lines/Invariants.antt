use Rattle.std.proofs.Common.{◌≡◌, ◌≤◌, ◌-◌, ◌++◌, drop, length}
use Rattle.md_content.specs.Lines.{lines_from}
use Rattle.md_content.proofs.lines.list_lines.Given as goal

abbrev pub invariant-loop-at : goal.invariant-loop-at
invariant-loop-at l = record {
  within : l.at ≤ length l.events;
  chunks : l.chunks.items ++ lines_from (drop l.at l.events) ≡ lines_from l.events;
}

abbrev pub decreases-loop-at : goal.decreases-loop-at
decreases-loop-at l = length l.events - l.at
