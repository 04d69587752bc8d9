-- The blocks of a tree in the order in which they begin, each with its depth.
use Rattle.std.specs.Prelude.{ℕ, ◌+◌, List, [], ◌∷◌, ◌++◌, map}
use Rattle.md_meaning.specs.Tree.{Block, Quote, ListOf, Item, Footnote, Blocks, End, More}
use Rattle.reference_tree.specs.Trees.{meaning, meanings}
use Rattle.reference_tree.specs.declared.order.Level.{Level}
use Rattle.reference_tree.specs.declared.order.Place as program

-- a block, and the number of blocks that it is in
pub record Place : Type 0 where
  pub depth : ℕ
  pub block : Block

abbrev pub place : ℕ → Block → Place
place depth block = record { depth = depth; block = block }

-- the blocks in a block
abbrev pub blocks_in : Block → Blocks
blocks_in (Quote kind bs) = bs
blocks_in (ListOf marker items) = items
blocks_in (Item marker digits bs) = bs
blocks_in (Footnote label bs) = bs
blocks_in _ = End

abbrev mutual
  -- a block at this depth, and then those in it
  pub placed_block : ℕ → Block → List Place
  placed_block depth (Quote kind bs) = place depth (Quote kind bs) ∷ placed (depth + 1) bs
  placed_block depth (ListOf marker items) = place depth (ListOf marker items) ∷ placed (depth + 1) items
  placed_block depth (Item marker digits bs) = place depth (Item marker digits bs) ∷ placed (depth + 1) bs
  placed_block depth (Footnote label bs) = place depth (Footnote label bs) ∷ placed (depth + 1) bs
  placed_block depth b = place depth b ∷ []

  pub placed : ℕ → Blocks → List Place
  placed depth End = []
  placed depth (More b bs) = placed_block depth b ++ placed depth bs

abbrev pub place_of : program.Place → Place
place_of p = place p.depth (meaning p.block.now)

abbrev pub places : List program.Place → List Place
places ps = map place_of ps

-- what is still to be visited: the blocks of the last level, then those of the one before it
abbrev pub left : List Level → List Place
left [] = []
left (level ∷ levels) = left levels ++ placed level.depth (meanings level.blocks.now)
