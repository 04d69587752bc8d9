use Rattle.std.proofs.Common.{◌≡◌, ◌+◌, drop}
use Rattle.reference_inlines.specs.Nodes.{len_of_all}
use Rattle.reference_inlines.proofs.node.len_of_all.Given as goal

abbrev pub invariant-loop-node : goal.invariant-loop-node
invariant-loop-node l = l.len + len_of_all (drop l.node-index l.nodes) ≡ len_of_all l.nodes
