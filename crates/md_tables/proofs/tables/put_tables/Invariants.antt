use Rattle.std.proofs.Common.{◌≡◌, ◌++◌, ◌-◌, drop, length}
use Rattle.md_tables.specs.Tabled.{tabled, tabled_from}
use Rattle.md_tables.proofs.tables.put_tables.Given as goal

abbrev pub invariant-loop-at : goal.invariant-loop-at
invariant-loop-at l =
    l.walk.rows.given.items ++ tabled_from l.walk.section l.walk.rows.stage (drop l.at l.events) ≡ tabled l.events

abbrev pub decreases-loop-at : goal.decreases-loop-at
decreases-loop-at l = length l.events - l.at
