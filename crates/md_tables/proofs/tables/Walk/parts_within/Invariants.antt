use Rattle.std.proofs.Common.{◌≡◌, ◌≤◌, ◌-◌, drop, length, true}
use Rattle.md_tables.specs.Proceeds.{in_all, in_table}
use Rattle.md_tables.specs.declared.cells.Stage.TheVariants.{Within}
use Rattle.md_tables.proofs.tables.Walk.parts_within.Given as goal

abbrev pub invariant-loop-many : goal.invariant-loop-many
invariant-loop-many l =
    (l.self.rows.stage ≡ Within l.kind) × (in_table l.self.section ≡ true) × (l.at ≤ length l.events)
    × (in_all l.self (drop l.at l.events) ≡ in_all l.fn.self l.fn.events)

abbrev pub decreases-loop-many : goal.decreases-loop-many
decreases-loop-many l = length l.events - l.at
