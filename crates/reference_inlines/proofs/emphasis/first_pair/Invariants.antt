use Rattle.std.proofs.Common.{◌≡◌, [], take, drop}
use Rattle.reference_inlines.specs.Rounds.{pair_from}
use Rattle.reference_inlines.proofs.emphasis.first_pair.Given as goal

abbrev pub invariant-loop-index : goal.invariant-loop-index
invariant-loop-index l =
    pair_from l.single (take l.index l.nodes) (drop l.index l.nodes) ≡ pair_from l.single [] l.nodes
