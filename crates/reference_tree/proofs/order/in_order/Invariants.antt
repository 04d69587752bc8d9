use Rattle.std.proofs.Common.{◌≡◌, ◌++◌}
use Rattle.reference_tree.specs.Trees.{meanings}
use Rattle.reference_tree.specs.Placed.{places, placed, left}
use Rattle.reference_tree.proofs.order.in_order.Given as goal

abbrev pub invariant-loop-round : goal.invariant-loop-round
invariant-loop-round l = places l.found.items ++ left l.levels.items ≡ placed 0 (meanings l.fn.blocks)
