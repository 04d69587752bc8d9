use Rattle.std.proofs.Common.{◌≡◌, ◌++◌, length}
use Rattle.plain_inlines.specs.PrintedNodes.{printed_nodes}
use Rattle.plain_inlines.proofs.printed.push_nodes.Given as goal

abbrev pub invariant-loop-node : goal.invariant-loop-node
invariant-loop-node l =
    l.made.items ++ printed_nodes l.depth l.left l.rest ≡
    l.initial.made.items ++ printed_nodes 0 l.text l.fn.list

abbrev pub decreases-loop-node : goal.decreases-loop-node
decreases-loop-node l = length l.rest
