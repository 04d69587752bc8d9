use Rattle.std.proofs.Common.{◌≡◌, length}
use Rattle.reference_inlines.specs.Rounds.{last_opener}
use Rattle.reference_inlines.proofs.emphasis.last_opener.Given as goal

abbrev pub invariant-loop-node : goal.invariant-loop-node
invariant-loop-node l = last_opener l.single l.closer l.rest ≡ last_opener l.single l.closer l.fn.nodes

abbrev pub decreases-loop-node : goal.decreases-loop-node
decreases-loop-node l = length l.rest
