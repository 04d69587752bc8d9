-- What a block means, by what its parts mean: frontmatter.
use Rattle.std.proofs.Common.{◌≡◌, ℕ, List, Bor, Vec, Global, sym, ◌∙◌, ap}
use Rattle.md_meaning.specs.Tree as t
use Rattle.reference_tree.specs.declared.tree.Block.{Block}
use Rattle.reference_tree.specs.declared.tree.Block.TheVariants as b
use Rattle.reference_tree.specs.declared.tree.Block.TheOpen as layer
use Rattle.reference_tree.specs.declared.tree.Block.TheFolds.{fold-roll-Block}
use Rattle.reference_tree.specs.Trees.{block_step, meaning, slices}

pub meaning-Frontmatter : (m : ℕ) (ls : Vec (Bor (List ℕ)) Global) →
    meaning (b.Frontmatter m ls) ≡ t.Frontmatter m (slices ls.items)
meaning-Frontmatter m ls =
    ap meaning (sym (b.rolls-Frontmatter m ls)) ∙ fold-roll-Block t.Block block_step (layer.Frontmatter m ls)
