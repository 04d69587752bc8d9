use Rattle.std.proofs.Common.{◌≡◌, IfOk, refl, sym, ◌∙◌, ap, subst}
use Rattle.md_meaning.specs.Grouped.{grouped_block}
use Rattle.md_meaning.specs.Tree as t
use Rattle.reference_tree.specs.Trees.{meaning}
use Rattle.reference_tree.specs.Groups.{OpensTo, forward, left_to_group, with_next}
use Rattle.reference_tree.proofs.LevelLemmas.{other-level}
use Rattle.reference_tree.proofs.grouped.take.Goals as goal

pub returns-in-Container : goal.returns-in-Container
returns-in-Container c =
    let opens = subst (OpensTo (meaning c.args.whole.block)) c.in-Container.is c.open.ensures in
    subst (λ (x : t.Blocks). IfOk c.enter.result (λ g. left_to_group g ≡ x))
    (ap (with_next c.args.grouping) (sym opens)) c.enter.ensures

pub returns-in_ok-groups-in-Other : goal.returns-in_ok-groups-in-Other
returns-in_ok-groups-in-Other c =
    let opens = subst (OpensTo (meaning c.args.whole.block)) c.in-Other.is c.open.ensures in
    let g = c.args.grouping in
    other-level g.levels.items g.groups c.in_ok-groups-in-Other.groups
    (t.More (meaning c.in-Other.whole.block) (forward g.after)) (forward g.after) (meaning c.in-Other.whole.block)
    refl (ap grouped_block (sym opens.0) ∙ opens.1 ∙ opens.0) c.in_ok-groups-in-Other.ensures
    ∙ ap (with_next g) (sym opens.0)
