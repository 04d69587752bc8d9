use Rattle.std.proofs.Common.{◌≡◌}
use Rattle.reference_inlines.specs.Rounds.{emphasis_nodes, rounds}
use Rattle.reference_inlines.proofs.emphasis.emphasis.Given as goal

abbrev pub invariant-loop-left : goal.invariant-loop-left
invariant-loop-left l = rounds l.single l.left l.list.items ≡ emphasis_nodes l.single l.nodes

abbrev pub decreases-loop-left : goal.decreases-loop-left
decreases-loop-left l = l.left
