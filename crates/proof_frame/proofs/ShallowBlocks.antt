-- Blocks that an outline can show, with one more at their end.
use Rattle.std.proofs.Common.{◌≡◌, true}
use Rattle.std.proofs.lemmas.Bool.{and_from, and_parts}
use Rattle.md_meaning.specs.State.{then_block}
use Rattle.md_meaning.specs.Tree.{Block, Blocks, End, More}
use Rattle.md_outline.specs.HeadingDepths.{are_shallow, is_shallow}

pub shallow-then : (bs : Blocks) (b : Block) → are_shallow bs ≡ true → is_shallow b ≡ true →
    are_shallow (then_block bs b) ≡ true
shallow-then End b h k = and_from (is_shallow b) (are_shallow End) k h
shallow-then (More a bs) b h k =
    let both = and_parts (is_shallow a) (are_shallow bs) h in
    and_from (is_shallow a) (are_shallow (then_block bs b)) both.0 (shallow-then bs b both.1 k)
