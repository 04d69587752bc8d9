-- What lists of blocks mean.
use Rattle.std.proofs.Common.{◌≡◌, List, [], ◌∷◌, ◌++◌, refl, ap}
use Rattle.md_meaning.specs.Tree as t
use Rattle.md_meaning.specs.State.{then_block}
use Rattle.reference_tree.specs.declared.tree.Block.{Block}
use Rattle.reference_tree.specs.Trees.{meaning, meanings}

-- a block that is added is the last
pub meanings_push : (bs : List Block) (b : Block) → meanings (bs ++ b ∷ []) ≡ then_block (meanings bs) (meaning b)
meanings_push [] b = refl
meanings_push (a ∷ bs) b = ap (λ rest. t.More (meaning a) rest) (meanings_push bs b)
