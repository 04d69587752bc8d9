use Rattle.std.proofs.Common.{◌≡◌, ◌++◌, drop}
use Rattle.reference_inlines.specs.Nodes.{kept}
use Rattle.reference_inlines.proofs.node.push_kept.Given as goal

abbrev pub invariant-loop-node : goal.invariant-loop-node
invariant-loop-node l =
    l.nodes.items ++ kept (drop l.node-index l.more) ≡ l.initial.nodes.items ++ kept l.more
