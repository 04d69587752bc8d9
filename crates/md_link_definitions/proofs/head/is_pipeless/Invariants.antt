use Rattle.std.proofs.Common.{◌-◌, ◌≡◌, ◌≤◌, length, take, true}
use Rattle.md_link_definitions.specs.Head.{is_pipeless}
use Rattle.md_link_definitions.proofs.head.is_pipeless.Given as goal

abbrev pub invariant-loop-at : goal.invariant-loop-at
invariant-loop-at l = record {
  within : l.at ≤ length l.line;
  each : is_pipeless (take l.at l.line) ≡ true;
}

abbrev pub decreases-loop-at : goal.decreases-loop-at
decreases-loop-at l = length l.line - l.at
