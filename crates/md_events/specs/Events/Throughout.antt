-- What holds of all blocks of a tree, at any depth.
use Rattle.std.specs.Prelude.{Bool, true, ◌&&◌}
use Rattle.md_meaning.specs.Tree.{Block, Blocks, End, Footnote, Item, ListOf, More, Quote}

abbrev mutual
  -- whether it holds of a block, and of all blocks in it
  pub all_within : (Block → Bool) → Block → Bool
  all_within p (Quote kind blocks) = p (Quote kind blocks) && all_blocks p blocks
  all_within p (ListOf marker items) = p (ListOf marker items) && all_blocks p items
  all_within p (Item marker digits blocks) = p (Item marker digits blocks) && all_blocks p blocks
  all_within p (Footnote label blocks) = p (Footnote label blocks) && all_blocks p blocks
  all_within p block = p block

  pub all_blocks : (Block → Bool) → Blocks → Bool
  all_blocks p End = true
  all_blocks p (More block blocks) = all_within p block && all_blocks p blocks
