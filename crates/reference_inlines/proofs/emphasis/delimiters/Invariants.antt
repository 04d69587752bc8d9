use Rattle.std.proofs.Common.{◌≡◌, ◌+◌, drop}
use Rattle.reference_inlines.specs.Rounds.{delimiters}
use Rattle.reference_inlines.proofs.emphasis.delimiters.Given as goal

abbrev pub invariant-loop-node : goal.invariant-loop-node
invariant-loop-node l = l.count + delimiters (drop l.node-index l.nodes) ≡ delimiters l.nodes
