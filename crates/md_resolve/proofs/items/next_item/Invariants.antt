use Rattle.std.proofs.Common.{◌≡◌, ◌-◌, drop, length}
use Rattle.md_containers.specs.Listed.{next_item}
use Rattle.md_resolve.proofs.items.next_item.Given as goal

abbrev pub invariant-loop-at : goal.invariant-loop-at
invariant-loop-at l = next_item l.bytes (drop l.at l.events) ≡ next_item l.bytes l.events

abbrev pub decreases-loop-at : goal.decreases-loop-at
decreases-loop-at l = length l.events - l.at
