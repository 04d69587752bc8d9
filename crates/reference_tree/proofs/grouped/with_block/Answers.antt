use Rattle.std.proofs.Common.{◌≡◌, true, ◌∙◌, ap}
use Rattle.md_meaning.specs.Grouped.{with_front}
use Rattle.reference_tree.specs.Trees.{meaning, meanings}
use Rattle.reference_tree.specs.Held.{blocks_meaning}
use Rattle.reference_tree.specs.Groups.{then_blocks, with_items, then_groups}
use Rattle.reference_tree.proofs.GroupLemmas.{is_other, other-block, then_blocks-push, flushed-other}
use Rattle.reference_tree.proofs.grouped.with_block.Goals as goal

pub returns-in_ok-push-in_default : goal.returns-in_ok-push-in_default
returns-in_ok-push-in_default c bs =
    let g = c.args.groups in
    let other : is_other (meaning c.into_block.result) ≡
    true = other-block c.into_block.result c.in_default.not-ListOf c.in_default.not-Item in
    ap (λ xs. then_blocks (blocks_meaning c.push.new.blocks) (with_items g.marker (meanings xs) bs)) c.new.ensures
    ∙ then_blocks-push bs c.in_ok-done-in_default.done.list.items c.push.new.blocks.list.items c.into_block.result
    c.in_ok-push-in_default.ensures
    ∙ flushed-other g.marker (blocks_meaning g.done) (blocks_meaning g.items)
    (blocks_meaning c.in_ok-done-in_default.done) bs (meaning c.into_block.result) c.in_ok-done-in_default.ensures other
    ∙ ap (λ b. then_groups g (with_front (meaning b) bs)) c.into_block.ensures
