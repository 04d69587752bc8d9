-- Containers that are open while blocks are grouped.
use Rattle.std.proofs.Common.{◌≡◌, List, [], ◌∷◌, ◌++◌, reverse, Option, Some, option_to_list, length, refl, sym, ◌∙◌}
use Rattle.std.proofs.Common.{ap}
use Rattle.std.proofs.lemmas.List.{reverse-append}
use Rattle.md_meaning.specs.Tree as t
use Rattle.md_meaning.specs.State.{Container, InQuote, InItem, InFootnote, container_block}
use Rattle.md_meaning.specs.Grouped.{grouped, grouped_block, with_front}
use Rattle.reference_tree.specs.declared.tree.Block.{Block}
use Rattle.reference_tree.specs.Trees.{meaning, meanings}
use Rattle.reference_tree.specs.declared.grouped.Groups.{Groups}
use Rattle.reference_tree.specs.declared.grouped.Level.{Level}
use Rattle.reference_tree.specs.States.{container_meaning}
use Rattle.reference_tree.specs.Groups.{then_groups, Adds, forward, around, around_all}

-- a level that is added is the innermost
pub around_push : (levels : List Level) (l : Level) (bs : t.Blocks) →
    around_all (levels ++ l ∷ []) bs ≡ around_all levels (around l bs)
around_push [] l bs = refl
around_push (k ∷ levels) l bs = ap (around k) (around_push levels l bs)

-- the last of reversed blocks comes first
pub forward-last : (old new : List Block) (o : Option Block) (b : Block) → o ≡ Some b → old ≡ new ++ option_to_list o →
    meanings (reverse old) ≡ t.More (meaning b) (meanings (reverse new))
forward-last old new o b e h =
    ap (λ xs. meanings (reverse xs)) (h ∙ ap (λ p. new ++ option_to_list p) e)
    ∙ ap (λ xs. meanings xs) (reverse-append new (b ∷ []))

-- a container is grouped by grouping what is in it
pub grouped-container : (c : Container) (bs : t.Blocks) →
    grouped_block (container_block c bs) ≡ container_block c (grouped bs)
grouped-container (InQuote kind) bs = refl
grouped-container (InItem digits marker width starts_blank) bs = refl
grouped-container (InFootnote label) bs = refl

-- a container opens: what is in it is grouped apart
pub opened-level : (levels more : List Level) (l : Level) (bs : t.Blocks) (b : t.Block) (inner : t.Blocks) →
    more ≡ levels ++ l ∷ [] → bs ≡ t.More b (forward l.after) → b ≡
    container_block (container_meaning l.container) inner →
    around_all more (grouped inner) ≡ around_all levels (then_groups l.groups (grouped bs))
opened-level levels more l bs b inner added first is =
    ap (λ ls. around_all ls (grouped inner)) added ∙ around_push levels l (grouped inner)
    ∙ ap (λ x. around_all levels (then_groups l.groups (with_front x (grouped (forward l.after)))))
    (sym (ap grouped_block is ∙ grouped-container (container_meaning l.container) inner))
    ∙ ap (λ xs. around_all levels (then_groups l.groups (grouped xs))) (sym first)

-- another block is added as it is
pub other-level : (levels : List Level) (before after : Groups) (bs rest : t.Blocks) (b : t.Block) →
    bs ≡ t.More b rest → grouped_block b ≡ b → Adds before b after →
    around_all levels (then_groups after (grouped rest)) ≡ around_all levels (then_groups before (grouped bs))
other-level levels before after bs rest b first same adds =
    ap (around_all levels)
    (adds (grouped rest)
    ∙ ap (λ x. then_groups before (with_front x (grouped rest))) (sym same)
    ∙ ap (λ xs. then_groups before (grouped xs)) (sym first))

-- a container closes: it is added with what is grouped in it
pub left-level : (levels : List Level) (l : Level) (after : Groups) (b : t.Block) (inner : t.Blocks) →
    b ≡ container_block (container_meaning l.container) inner → Adds l.groups b after →
    around_all levels (then_groups after (grouped (forward l.after))) ≡ around_all levels (around l inner)
left-level levels l after b inner is adds =
    ap (around_all levels)
    (adds (grouped (forward l.after))
    ∙ ap (λ x. then_groups l.groups (with_front x (grouped (forward l.after)))) is)

-- the innermost level
pub around_pop : (old new : List Level) (o : Option Level) (l : Level) (bs : t.Blocks) →
    o ≡ Some l → old ≡ new ++ option_to_list o → around_all new (around l bs) ≡ around_all old bs
around_pop old new o l bs e h =
    sym (ap (λ ls. around_all ls bs) (h ∙ ap (λ p. new ++ option_to_list p) e) ∙ around_push new l bs)

-- no container is open
pub around-none : (levels : List Level) (bs : t.Blocks) → length levels ≡ 0 → around_all levels bs ≡ bs
around-none [] bs none = refl
around-none (l ∷ levels) bs none = absurd (cc)

-- no block is left
pub nothing-after : (levels : List Level) (groups : Groups) (after : List Block) (bs : t.Blocks) →
    length after ≡ 0 → bs ≡ then_groups groups t.End →
    around_all levels bs ≡ around_all levels (then_groups groups (grouped (meanings (reverse after))))
nothing-after levels groups [] bs none flushed = ap (around_all levels) flushed
nothing-after levels groups (b ∷ after) bs none flushed = absurd (cc)
