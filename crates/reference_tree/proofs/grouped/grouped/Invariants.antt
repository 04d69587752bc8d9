use Rattle.std.proofs.Common.{◌≡◌}
use Rattle.md_meaning.specs.Grouped.{grouped}
use Rattle.reference_tree.specs.Groups.{left_to_group}
use Rattle.reference_tree.specs.Held.{blocks_meaning}
use Rattle.reference_tree.proofs.grouped.grouped.Given as goal

abbrev pub invariant-loop-round : goal.invariant-loop-round
invariant-loop-round l = left_to_group l.grouping ≡ grouped (blocks_meaning l.fn.blocks)
