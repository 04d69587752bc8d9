-- What finished blocks mean.
use Rattle.md_meaning.specs.Tree as t
use Rattle.reference_tree.specs.Trees.{meanings}
use Rattle.reference_tree.specs.declared.blocks.Blocks.{Blocks}

abbrev pub blocks_meaning : Blocks → t.Blocks
blocks_meaning bs = meanings bs.list.items
