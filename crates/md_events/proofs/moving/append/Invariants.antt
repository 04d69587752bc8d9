use Rattle.std.proofs.Common.{length, ◌-◌, ◌≡◌, ◌++◌, drop}
use Rattle.md_events.proofs.moving.append.Given as goal

abbrev pub invariant-loop-at : goal.invariant-loop-at
invariant-loop-at l = l.events.items ++ drop l.at l.more ≡ l.fn.events.items ++ l.more

abbrev pub decreases-loop-at : goal.decreases-loop-at
decreases-loop-at l = length l.more - l.at
