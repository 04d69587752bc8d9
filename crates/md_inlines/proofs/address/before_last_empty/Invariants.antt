use Rattle.std.proofs.Common.{◌≤◌, length}
use Rattle.md_inlines.proofs.address.before_last_empty.Given as goal

abbrev pub invariant-loop-at : goal.invariant-loop-at
invariant-loop-at l = l.at ≤ length l.text

abbrev pub decreases-loop-at : goal.decreases-loop-at
decreases-loop-at l = l.at
