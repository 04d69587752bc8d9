use Rattle.std.proofs.Common.{◌≡◌, ◌++◌, drop}
use Rattle.reference_inlines.specs.Nodes.{texts}
use Rattle.reference_inlines.proofs.node.push_texts.Given as goal

abbrev pub invariant-loop-node : goal.invariant-loop-node
invariant-loop-node l =
    l.nodes.items ++ texts (drop l.node-index l.more) ≡ l.initial.nodes.items ++ texts l.more
