use Rattle.std.proofs.Common.{◌≡◌, ◌+◌, ◌-◌, ◌≤◌, drop, length}
use Rattle.std.specs.List.{prefix_len}
use Rattle.md_events.proofs.walks.passing_each.Given as goal

abbrev pub invariant-loop-at : goal.invariant-loop-at
invariant-loop-at g l =
    (prefix_len (g.T.Test.passes l.test) l.events ≡ l.at + prefix_len (g.T.Test.passes l.test) (drop l.at l.events))
    × (l.at ≤ length l.events)

abbrev pub decreases-loop-at : goal.decreases-loop-at
decreases-loop-at g l = length l.events - l.at
