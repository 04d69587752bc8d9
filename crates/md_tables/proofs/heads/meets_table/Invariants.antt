use Rattle.std.proofs.Common.{◌≡◌, ◌-◌, drop, length}
use Rattle.md_tables.specs.Heads.{meets_table}
use Rattle.md_tables.proofs.heads.meets_table.Given as goal

abbrev pub invariant-loop-at : goal.invariant-loop-at
invariant-loop-at l = meets_table (drop l.at l.events) ≡ meets_table l.events

abbrev pub decreases-loop-at : goal.decreases-loop-at
decreases-loop-at l = length l.events - l.at
