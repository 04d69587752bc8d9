use Rattle.std.proofs.Common.{◌≡◌, ◌-◌, ◌<◌, drop, length}
use Rattle.md_content.specs.WholeLines.{are_lines}
use Rattle.md_content.proofs.content.are_lines.Given as goal

abbrev pub invariant-loop-at : goal.invariant-loop-at
invariant-loop-at l = record {
  within : l.at < length l.chunks;
  rest : are_lines (drop l.at l.chunks) ≡ are_lines l.chunks;
}

abbrev pub decreases-loop-at : goal.decreases-loop-at
decreases-loop-at l = length l.chunks - l.at
