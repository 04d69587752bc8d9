use Rattle.std.proofs.Common.{rules}
use Rattle.md_meaning.specs.State.{At}
use Rattle.md_meaning.specs.Step.{spot_of}
use Rattle.md_meaning.specs.Tree.{End}
use Rattle.reference_tree.specs.States.{path_meaning}
use Rattle.reference_tree.proofs.StepLemmas.{steps-next}
use Rattle.reference_tree.proofs.meaning.blocks_of.Goals as goal

pub loop-rest-preserved : goal.loop-rest-preserved
loop-rest-preserved c =
    steps-next c.args.options.now (At (spot_of End)) (path_meaning c.loop-rest.path)
    (path_meaning c.in_ok-path.path) c.args.rests.now c.rest-item.result c.loop-rest.rest-index
    (search rules) c.rest-item.is c.loop-rest.invariant c.in_ok-path.ensures
