use Rattle.std.proofs.Common.{◌≤◌}
use Rattle.md_tables.proofs.heads.until_head.Given as goal

abbrev pub invariant-loop-at : goal.invariant-loop-at
invariant-loop-at l = l.at ≤ l.row

abbrev pub decreases-loop-at : goal.decreases-loop-at
decreases-loop-at l = l.at
