-- What holds of all blocks of a tree holds of those that it is made of.
use Rattle.std.proofs.Common.{◌≡◌, Bool, true, ◌&&◌, refl, sym, ◌∙◌}
use Rattle.std.proofs.lemmas.Bool.{and_from, and_parts}
use Rattle.md_events.specs.Events.Spelled.{ItemShape, Shape, block_around}
use Rattle.md_events.specs.Events.Throughout.{all_blocks, all_within}
use Rattle.md_meaning.specs.State.{then_block}
use Rattle.md_meaning.specs.Tree.{Block, Blocks, End, More}

-- of the blocks before the last, and of the last
pub all-then : (p : Block → Bool) (bs : Blocks) (b : Block) → all_blocks p (then_block bs b) ≡ true →
    (all_blocks p bs ≡ true) × (all_within p b ≡ true)
all-then p End b h = (refl, (and_parts (all_within p b) true h).0)
all-then p (More a bs) b h =
    let parts = and_parts (all_within p a) (all_blocks p (then_block bs b)) h in
    let rest = all-then p bs b parts.1 in
    (and_from (all_within p a) (all_blocks p bs) parts.0 rest.0, rest.1)

-- of a container, and of the blocks in it
all-around : (p : Block → Bool) (shape : Shape) (bs : Blocks) →
    all_within p (block_around shape bs) ≡ (p (block_around shape bs) && all_blocks p bs)
all-around p (ItemShape marker digits) bs = refl
all-around p _ bs = refl

pub all-inside : (p : Block → Bool) (shape : Shape) (bs : Blocks) → all_within p (block_around shape bs) ≡ true →
    all_blocks p bs ≡ true
all-inside p shape bs h = (and_parts (p (block_around shape bs)) (all_blocks p bs) (sym (all-around p shape bs) ∙ h)).1
