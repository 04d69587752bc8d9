use Rattle.std.proofs.Common.{◌≡◌, ◌≤◌, ◌-◌, drop, length, true}
use Rattle.md_tables.specs.Proceeds.{in_all, in_table}
use Rattle.md_tables.proofs.tables.Walk.parts.Given as goal

abbrev pub invariant-loop-at : goal.invariant-loop-at
invariant-loop-at l =
    (in_table l.self.section ≡ true) × (l.at ≤ length l.events)
    × (in_all l.self (drop l.at l.events) ≡ in_all l.fn.self l.fn.events)

abbrev pub decreases-loop-at : goal.decreases-loop-at
decreases-loop-at l = length l.events - l.at
