use Rattle.std.proofs.Common.{◌≡◌, ◌==◌, true, false, length, rules, ◌∙◌, ap, sym}
use Rattle.md_meaning.specs.Tree as t
use Rattle.reference_tree.specs.Held.{blocks_meaning}
use Rattle.reference_tree.specs.Groups.{then_blocks}
use Rattle.reference_tree.proofs.GroupLemmas.{flushed-none, flushed-items, then_blocks-push, then_blocks-end}
use Rattle.reference_tree.proofs.grouped.flushed.Goals as goal

pub returns-then-is_empty : goal.returns-then-is_empty
returns-then-is_empty c =
    let none : (length c.args.groups.items.list.items == 0) ≡ true = search rules in
    flushed-none c.args.groups.marker (blocks_meaning c.args.groups.done) c.args.groups.items.list.items none

pub returns : goal.returns
returns c =
    let g = c.args.groups in
    let some : (length g.items.list.items == 0) ≡ false = search rules in
    sym (then_blocks-end (blocks_meaning c.push.new.blocks))
    ∙ then_blocks-push t.End g.done.list.items c.push.new.blocks.list.items c.list_of.result.block c.in_ok-push.ensures
    ∙ ap (λ b. then_blocks (blocks_meaning g.done) (t.More b t.End)) c.list_of.ensures
    ∙ flushed-items g.marker (blocks_meaning g.done) g.items.list.items some
