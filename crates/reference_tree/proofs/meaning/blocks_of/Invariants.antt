use Rattle.std.proofs.Common.{◌≡◌, take}
use Rattle.md_meaning.specs.State.{At}
use Rattle.md_meaning.specs.Step.{spot_of, steps}
use Rattle.md_meaning.specs.Tree.{End}
use Rattle.reference_tree.specs.Rests.{rest_meanings}
use Rattle.reference_tree.specs.States.{path_meaning}
use Rattle.reference_tree.proofs.meaning.blocks_of.Given as goal

abbrev pub invariant-loop-rest : goal.invariant-loop-rest
invariant-loop-rest l =
    path_meaning l.path ≡ steps l.options (At (spot_of End)) (rest_meanings (take l.rest-index l.rests))
