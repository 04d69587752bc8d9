use Rattle.std.proofs.Common.{◌-◌, ◌≤◌}
use Rattle.md_containers.specs.PlainItem.{AreSpaces}
use Rattle.md_containers.proofs.plain_item.are_spaces.Given as goal

abbrev pub invariant-loop-at : goal.invariant-loop-at
invariant-loop-at l = record { following : l.from ≤ l.at; each : AreSpaces l.bytes l.from l.at }

abbrev pub decreases-loop-at : goal.decreases-loop-at
decreases-loop-at l = l.to - l.at
