-- What blocks represent while they are grouped into lists.
use Rattle.std.specs.Prelude.{◌≡◌, ℕ, List, [], ◌∷◌, reverse}
use Rattle.md_meaning.specs.Tree.{Block, Blocks, End, More}
use Rattle.md_meaning.specs.Grouped as g
use Rattle.md_meaning.specs.State.{container_block}
use Rattle.reference_tree.specs.Trees.{meaning, meanings}
use Rattle.reference_tree.specs.declared.blocks.Blocks as program
use Rattle.reference_tree.specs.declared.grouped.Grouping.{Grouping}
use Rattle.reference_tree.specs.declared.grouped.Groups.{Groups}
use Rattle.reference_tree.specs.declared.grouped.Level.{Level}
use Rattle.reference_tree.specs.declared.grouped.Opened.{Opened}
use Rattle.reference_tree.specs.declared.grouped.Opened.TheVariants as opened
use Rattle.reference_tree.specs.declared.grouped.Progress.{Progress}
use Rattle.reference_tree.specs.declared.grouped.Progress.TheVariants as progress
use Rattle.reference_tree.specs.Held.{blocks_meaning}
use Rattle.reference_tree.specs.States.{container_meaning}

-- these blocks, and then those
abbrev pub then_blocks : Blocks → Blocks → Blocks
then_blocks End cs = cs
then_blocks (More b bs) cs = More b (then_blocks bs cs)

-- items with this marker, before these blocks
abbrev pub with_items : ℕ → Blocks → Blocks → Blocks
with_items marker End bs = bs
with_items marker (More item items) bs = g.with_item marker item (with_items marker items bs)

-- what is done, and then the items joined with these blocks
abbrev pub then_groups : Groups → Blocks → Blocks
then_groups groups bs =
    then_blocks (blocks_meaning groups.done) (with_items groups.marker (blocks_meaning groups.items) bs)

-- with this item before what follows
abbrev pub AddsItem : Groups → ℕ → Block → Groups → Type 0
AddsItem before marker item after =
    (bs : Blocks) → then_groups after bs ≡ then_groups before (g.with_item marker item bs)

-- with this block before what follows
abbrev pub Adds : Groups → Block → Groups → Type 0
Adds before block after = (bs : Blocks) → then_groups after bs ≡ then_groups before (g.with_front block bs)

-- blocks that the program keeps with the last first
abbrev pub forward : program.Blocks → Blocks
forward bs = meanings (reverse bs.list.items)

-- what a block opens to: a container and the blocks in it, or a block whose own are not grouped
abbrev pub OpensTo : Block → Opened → Type 0
OpensTo b (opened.Container container inner) = b ≡ container_block (container_meaning container) (forward inner)
OpensTo b (opened.Other whole) = (b ≡ meaning whole.block) × (g.grouped_block b ≡ b)

-- a container with these blocks in it, where it is: after what is grouped, before what is not
abbrev pub around : Level → Blocks → Blocks
around level bs =
    then_groups level.groups
    (g.with_front (container_block (container_meaning level.container) bs) (g.grouped (forward level.after)))

-- these containers, the outermost first, and in the innermost these blocks
abbrev pub around_all : List Level → Blocks → Blocks
around_all [] bs = bs
around_all (level ∷ levels) bs = around level (around_all levels bs)

-- what all blocks are grouped to, where so much is done
abbrev pub left_to_group : Grouping → Blocks
left_to_group x = around_all x.levels.items (then_groups x.groups (g.grouped (forward x.after)))

-- the same, with this block before those that are left
abbrev pub with_next : Grouping → Block → Blocks
with_next x b = around_all x.levels.items (then_groups x.groups (g.grouped (More b (forward x.after))))

abbrev pub progress_meaning : Progress → Blocks
progress_meaning (progress.Left x) = left_to_group x
progress_meaning (progress.Done bs) = blocks_meaning bs
