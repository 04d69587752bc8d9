use Rattle.std.proofs.Common.{◌≡◌, ◌-◌, drop, length}
use Rattle.md_containers.specs.Listed.{marker_ahead}
use Rattle.md_resolve.proofs.items.marker_ahead.Given as goal

abbrev pub invariant-loop-at : goal.invariant-loop-at
invariant-loop-at l = marker_ahead l.bytes (drop l.at l.events) ≡ marker_ahead l.bytes l.events

abbrev pub decreases-loop-at : goal.decreases-loop-at
decreases-loop-at l = length l.events - l.at
