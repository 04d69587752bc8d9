use Rattle.std.proofs.Common.{refl, ◌∙◌, ap}
use Rattle.md_meaning.specs.Grouped.{grouped}
use Rattle.md_meaning.specs.State.{container_block}
use Rattle.reference_tree.specs.Groups.{forward, around_all}
use Rattle.reference_tree.specs.States.{container_meaning}
use Rattle.reference_tree.proofs.LevelLemmas.{opened-level}
use Rattle.reference_tree.proofs.grouped.enter.Goals as goal

pub returns : goal.returns
returns c =
    let g = c.args.grouping in
    ap (around_all c.push.new.items.items) (c.no_groups.ensures (grouped (forward c.args.inner)))
    ∙ opened-level g.levels.items c.push.new.items.items
    (record { groups = g.groups; container = c.args.container; after = g.after }) _
    (container_block (container_meaning c.args.container) (forward c.args.inner)) (forward c.args.inner)
    c.in_ok-push.ensures refl refl
