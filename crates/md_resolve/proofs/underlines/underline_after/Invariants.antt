use Rattle.std.proofs.Common.{◌≡◌, ◌-◌, drop, length}
use Rattle.md_leaves.specs.Turned.{underline_after}
use Rattle.md_resolve.proofs.underlines.underline_after.Given as goal

abbrev pub invariant-loop-at : goal.invariant-loop-at
invariant-loop-at l = underline_after (drop l.at l.events) ≡ underline_after l.events

abbrev pub decreases-loop-at : goal.decreases-loop-at
decreases-loop-at l = length l.events - l.at
