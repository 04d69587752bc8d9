use Rattle.std.proofs.Common.{[], ◌∷◌, ◌++◌, sym, ◌∙◌, ap, eqb-true}
use Rattle.md_meaning.specs.Grouped.{with_item}
use Rattle.reference_tree.specs.Trees.{meaning, meanings}
use Rattle.reference_tree.specs.Held.{blocks_meaning}
use Rattle.reference_tree.specs.Groups.{then_blocks, with_items, then_groups}
use Rattle.reference_tree.proofs.GroupLemmas.{with_items-push, flushed-item}
use Rattle.reference_tree.proofs.grouped.with_item.Goals as goal

pub returns-then-joins : goal.returns-then-joins
returns-then-joins c bs =
    with_items-push c.args.groups.marker
    (blocks_meaning c.args.groups.done) bs c.args.groups.items.list.items c.push.new.blocks.list.items c.args.item.block
    c.in_ok-push.ensures
    ∙ ap (λ m. then_groups c.args.groups (with_item m (meaning c.args.item.block) bs))
    (eqb-true c.args.groups.marker c.args.marker (sym c.joins.ensures ∙ c.if-joins.true))

pub returns : goal.returns
returns c bs =
    ap (λ items. then_blocks (blocks_meaning c.in_ok-done.done) (with_items c.args.marker (meanings items) bs))
    (c.in_ok-push-2.ensures ∙ ap (λ items. items ++ c.args.item.block ∷ []) c.new-items.ensures)
    ∙ flushed-item c.args.groups.marker c.args.marker (blocks_meaning c.args.groups.done)
    (blocks_meaning c.args.groups.items) (blocks_meaning c.in_ok-done.done) bs
    (meaning c.args.item.block) c.in_ok-done.ensures
    (sym c.joins.ensures ∙ c.if-joins.false)
