-- A table of the leaves of the line definition that are no text: as which kind each is held where it is open.
use Rattle.md_engine.specs.declared.tokenizer.held_leaf.HeldLeaf.{HeldLeaf}
use Rattle.md_engine.specs.declared.tokenizer.held_leaf.HeldLeaf.TheVariants as held_leaf
use Rattle.md_meaning.specs.State.{Leaf, OpenCode, OpenFence, OpenHtml, OpenTable}

abbrev pub kind_of_other : Leaf → HeldLeaf
kind_of_other (OpenCode lines) = held_leaf.Code
kind_of_other (OpenFence o lines) = held_leaf.Fence o.marker o.size o.indent
kind_of_other (OpenHtml kind lines) = held_leaf.Html kind
kind_of_other (OpenTable delimiter rows) = held_leaf.Table
kind_of_other leaf = held_leaf.None
