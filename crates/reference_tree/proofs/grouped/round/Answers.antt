use Rattle.std.proofs.Common.{◌≡◌, length, rules, sym, ◌∙◌, ap}
use Rattle.md_meaning.specs.Grouped.{grouped}
use Rattle.reference_tree.specs.Groups.{then_groups, around_all}
use Rattle.reference_tree.specs.Held.{blocks_meaning}
use Rattle.reference_tree.proofs.LevelLemmas.{forward-last, around_pop, around-none, nothing-after}
use Rattle.reference_tree.proofs.grouped.round.Goals as goal

pub returns-in-Some : goal.returns-in-Some
returns-in-Some c =
    let g = c.args.grouping in
    c.in_ok-grouping.ensures
    ∙ ap (λ bs. around_all g.levels.items (then_groups g.groups (grouped bs)))
    (sym (forward-last g.after.list.items c.pop.new.self.items c.pop.result c.in-Some.block c.in-Some.is
    c.pop.ensures.items))

pub returns-in-Some-pop : goal.returns-in-Some-pop
returns-in-Some-pop c =
    let g = c.args.grouping in
    let none : length g.after.list.items ≡ 0 = search rules in
    c.in_ok-grouping-in-Some-pop.ensures
    ∙ around_pop g.levels.items c.pop-2.new.self.items c.pop-2.result c.in-Some-pop.level
    (blocks_meaning c.in_ok-inner.inner) c.in-Some-pop.is c.pop-2.ensures.items
    ∙ nothing-after g.levels.items g.groups g.after.list.items (blocks_meaning c.in_ok-inner.inner) none
    c.in_ok-inner.ensures

pub returns : goal.returns
returns c =
    let g = c.args.grouping in
    let none : length g.after.list.items ≡ 0 = search rules in
    let outermost : length g.levels.items ≡ 0 = search rules in
    sym (around-none g.levels.items (blocks_meaning c.in_ok-inner.inner) outermost)
    ∙ nothing-after g.levels.items g.groups g.after.list.items (blocks_meaning c.in_ok-inner.inner) none
    c.in_ok-inner.ensures
