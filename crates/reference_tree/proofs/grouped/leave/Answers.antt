use Rattle.reference_tree.specs.Trees.{meaning}
use Rattle.reference_tree.specs.Held.{blocks_meaning}
use Rattle.reference_tree.proofs.LevelLemmas.{left-level}
use Rattle.reference_tree.proofs.grouped.leave.Goals as goal

pub returns : goal.returns
returns c =
    left-level c.args.levels.items c.args.level c.in_ok-groups.groups (meaning c.container_block.result.block)
    (blocks_meaning c.args.inner) c.container_block.ensures c.in_ok-groups.ensures
