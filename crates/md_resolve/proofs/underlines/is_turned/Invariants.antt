use Rattle.std.proofs.Common.{◌≡◌, ◌-◌, drop, length}
use Rattle.md_leaves.specs.Turned.{is_turned}
use Rattle.md_resolve.proofs.underlines.is_turned.Given as goal

abbrev pub invariant-loop-at : goal.invariant-loop-at
invariant-loop-at l = is_turned (drop l.at l.events) ≡ is_turned l.events

abbrev pub decreases-loop-at : goal.decreases-loop-at
decreases-loop-at l = length l.events - l.at
