use Rattle.std.proofs.Common.{◌∙◌, arith, sym}
use Rattle.markdown_blocks.proofs.PlacedParts.{last-found}
use Rattle.markdown_blocks.proofs.part_places.last_of_block.Goals as goal

pub returns-then-is_block : goal.returns-then-is_block
returns-then-is_block c =
    last-found c.args.events.now c.loop-at.at _ (omega (arith, c.loop-at-test.true)) c.loop-at.invariant.within
    (sym c.is_block.ensures ∙ c.if-is_block.true) c.loop-at.invariant.same
