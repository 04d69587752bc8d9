use Rattle.std.proofs.Common.{◌≡◌, sym, ◌∙◌, ap, eqb-true}
use Rattle.md_meaning.specs.Tree as t
use Rattle.reference_tree.specs.Trees.{meanings}
use Rattle.reference_tree.specs.Held.{blocks_meaning}
use Rattle.reference_tree.specs.Groups.{then_blocks, with_items, then_groups}
use Rattle.reference_tree.proofs.GroupLemmas.{meanings-append, with_items-list, then_blocks-push, flushed-list}
use Rattle.reference_tree.proofs.grouped.with_list.Goals as goal

pub returns-then-joins : goal.returns-then-joins
returns-then-joins c bs =
    let g = c.args.groups in
    let joined : blocks_meaning c.append.new.blocks ≡
    then_blocks (blocks_meaning g.items) (blocks_meaning c.args.list) = ap
    (λ xs. meanings xs) c.in_ok-append.ensures
    ∙ meanings-append g.items.list.items c.args.list.list.items in
    ap (λ xs. then_blocks (blocks_meaning c.push.new.blocks) (with_items g.marker (meanings xs) bs)) c.new.ensures
    ∙ then_blocks-push bs g.done.list.items c.push.new.blocks.list.items c.list_of.result.block c.in_ok-push.ensures
    ∙ ap (λ b. then_blocks (blocks_meaning g.done) (t.More b bs))
    (c.list_of.ensures ∙ ap (t.ListOf g.marker) joined)
    ∙ ap (then_blocks (blocks_meaning g.done))
    (sym (with_items-list g.marker (blocks_meaning g.items) (blocks_meaning c.args.list) bs))
    ∙ ap (λ m. then_groups g (t.More (t.ListOf m (blocks_meaning c.args.list)) bs))
    (eqb-true g.marker c.args.marker (sym c.joins.ensures ∙ c.if-joins.true))

pub returns : goal.returns
returns c bs =
    let g = c.args.groups in
    ap
    (λ xs.
    then_blocks (blocks_meaning c.push-2.new.blocks) (with_items c.args.marker (meanings xs) bs)) c.new-2.ensures
    ∙ then_blocks-push bs c.in_ok-done.done.list.items c.push-2.new.blocks.list.items c.list_of-2.result.block
    c.in_ok-push-2.ensures
    ∙ ap (λ b. then_blocks (blocks_meaning c.in_ok-done.done) (t.More b bs)) c.list_of-2.ensures
    ∙ flushed-list g.marker c.args.marker (blocks_meaning g.done) (blocks_meaning g.items)
    (blocks_meaning c.in_ok-done.done) (blocks_meaning c.args.list) bs c.in_ok-done.ensures
    (sym c.joins.ensures ∙ c.if-joins.false)
