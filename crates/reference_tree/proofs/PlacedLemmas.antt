-- The blocks of a tree in order: its outline and its labels are those of each.
use Rattle.std.proofs.Common.{◌≡◌, ℕ, ◌+◌, List, [], ◌∷◌, ◌++◌, length, refl, sym, ◌∙◌, ap, append_assoc, append-nil}
use Rattle.std.proofs.lemmas.List.{map-append}
use Rattle.md_meaning.specs.Label.{Labels, both, block_labels, labels}
use Rattle.md_meaning.specs.Outline.{entry, entry_with, quote_word, block_entries, outline}
use Rattle.md_meaning.specs.declared.outline.Word.TheVariants as word
use Rattle.md_meaning.specs.Tree as t
use Rattle.reference_tree.specs.Labels.{own_labels, labels_at}
use Rattle.reference_tree.specs.Outlined.{own_entries, own_lines}
use Rattle.reference_tree.specs.Trees.{meaning, meanings}
use Rattle.reference_tree.specs.declared.tree.Block.{Block}
use Rattle.reference_tree.specs.declared.order.Level.{Level}
use Rattle.reference_tree.specs.declared.order.Place as program
use Rattle.reference_tree.specs.Placed.{Place, place, blocks_in, placed_block, placed, place_of, places, left}

own_lines-append : (ps qs : List Place) → own_lines (ps ++ qs) ≡ own_lines ps ++ own_lines qs
own_lines-append [] qs = refl
own_lines-append (p ∷ ps) qs =
    ap (λ xs. own_entries p.depth p.block ++ xs) (own_lines-append ps qs)
    ∙ sym (append_assoc (own_entries p.depth p.block) (own_lines ps) (own_lines qs))

mutual
  outline-block : (depth : ℕ) (b : t.Block) → block_entries depth b ≡ own_lines (placed_block depth b)
  outline-block depth (t.Quote kind bs) = ap (λ xs. entry depth (quote_word kind) ∷ xs) (outline_placed (depth + 1) bs)
  outline-block depth (t.ListOf m is) = ap (λ xs. entry depth (word.List m) ∷ xs) (outline_placed (depth + 1) is)
  outline-block depth (t.Item m digits bs) = ap (λ xs. entry depth word.Item ∷ xs) (outline_placed (depth + 1) bs)
  outline-block depth (t.Footnote label bs) =
      ap (λ xs. entry depth word.Footnote ∷ entry_with (depth + 1) word.Label label ∷ xs)
      (outline_placed (depth + 1) bs)
  outline-block depth _ = sym (append-nil _)

  pub outline_placed : (depth : ℕ) (bs : t.Blocks) → outline depth bs ≡ own_lines (placed depth bs)
  outline_placed depth t.End = refl
  outline_placed depth (t.More b bs) =
      ap (λ xs. xs ++ outline depth bs) (outline-block depth b)
      ∙ ap (λ xs. own_lines (placed_block depth b) ++ xs) (outline_placed depth bs)
      ∙ sym (own_lines-append (placed_block depth b) (placed depth bs))

both-assoc : (a b c : Labels) → both (both a b) c ≡ both a (both b c)
both-assoc a b c =
    ap (λ (xs : List (List ℕ)). record { definitions = xs; footnotes = (a.footnotes ++ b.footnotes) ++ c.footnotes })
    (append_assoc a.definitions b.definitions c.definitions)
    ∙ ap
    (λ (xs : List (List ℕ)).
    record { definitions = a.definitions ++ (b.definitions ++ c.definitions); footnotes = xs })
    (append_assoc a.footnotes b.footnotes c.footnotes)

labels_at-append : (ps qs : List Place) → labels_at (ps ++ qs) ≡ both (labels_at ps) (labels_at qs)
labels_at-append [] qs = refl
labels_at-append (p ∷ ps) qs =
    ap (both (own_labels p.block)) (labels_at-append ps qs)
    ∙ sym (both-assoc (own_labels p.block) (labels_at ps) (labels_at qs))

mutual
  labels-block : (depth : ℕ) (b : t.Block) → block_labels b ≡ labels_at (placed_block depth b)
  labels-block depth (t.Quote kind bs) = labels_placed (depth + 1) bs
  labels-block depth (t.ListOf m is) = labels_placed (depth + 1) is
  labels-block depth (t.Item m digits bs) = labels_placed (depth + 1) bs
  labels-block depth (t.Footnote label bs) =
      ap (both (own_labels (t.Footnote label bs))) (labels_placed (depth + 1) bs)
  labels-block depth _ = refl

  pub labels_placed : (depth : ℕ) (bs : t.Blocks) → labels bs ≡ labels_at (placed depth bs)
  labels_placed depth t.End = refl
  labels_placed depth (t.More b bs) =
      ap (λ x. both x (labels bs)) (labels-block depth b)
      ∙ ap (both (labels_at (placed_block depth b))) (labels_placed depth bs)
      ∙ sym (labels_at-append (placed_block depth b) (placed depth bs))

-- a level that is added is visited first
pub left_push : (levels : List Level) (l : Level) →
    left (levels ++ l ∷ []) ≡ placed l.depth (meanings l.blocks.now) ++ left levels
left_push [] l = sym (append-nil (placed l.depth (meanings l.blocks.now)))
left_push (k ∷ levels) l =
    ap (λ xs. xs ++ placed k.depth (meanings k.blocks.now)) (left_push levels l)
    ∙ append_assoc (placed l.depth (meanings l.blocks.now)) (left levels) (placed k.depth (meanings k.blocks.now))

-- a block, and then those in it
pub placed-inside : (depth : ℕ) (b : t.Block) → placed_block depth b ≡ place depth b ∷ placed (depth + 1) (blocks_in b)
placed-inside depth (t.Quote kind bs) = refl
placed-inside depth _ = refl

-- the first block of a level is visited: then those in it, then those after it
pub visited : (before found : List program.Place) (p : program.Place) (old mid new : List Level)
    (level after inner : Level) →
    found ≡ before ++ p ∷ [] → mid ≡ old ++ after ∷ [] → new ≡ mid ++ inner ∷ [] →
    meanings level.blocks.now ≡ t.More (meaning p.block.now) (meanings after.blocks.now) →
    p.depth ≡ level.depth → after.depth ≡ level.depth → inner.depth ≡ level.depth + 1 →
    meanings inner.blocks.now ≡ blocks_in (meaning p.block.now) →
    places found ++ left new ≡ places before ++ left (old ++ level ∷ [])
visited before found p old mid new level after inner added_p added_after added_inner split same_p same_after deeper
    within =
    let d : ℕ = level.depth in
    let b : t.Block = meaning p.block.now in
    let rest : t.Blocks = meanings after.blocks.now in
    let later : List Place = placed d rest ++ left old in
    let all : List Place = placed (d + 1) (blocks_in b) ++ later in
    let to_visit : left new ≡ all =
    ap left added_inner ∙ left_push mid inner
    ∙ ap (λ n. placed n (meanings inner.blocks.now) ++ left mid) deeper
    ∙ ap (λ bs. placed (d + 1) bs ++ left mid) within
    ∙ ap (λ ls. placed (d + 1) (blocks_in b) ++ left ls) added_after
    ∙ ap (λ xs. placed (d + 1) (blocks_in b) ++ xs)
    (left_push old after ∙ ap (λ n. placed n rest ++ left old) same_after) in
    let whole : left (old ++ level ∷ []) ≡ (placed_block d b ++ placed d rest) ++ left old =
    left_push old level ∙ ap (λ bs. placed d bs ++ left old) split in
    let front : places found ≡ places before ++ place d b ∷ [] =
    ap places added_p ∙ map-append place_of before (p ∷ [])
    ∙ ap (λ n. places before ++ place n b ∷ []) same_p in
    ap (λ xs. places found ++ xs) to_visit ∙ ap (λ xs. xs ++ all) front
    ∙ append_assoc (places before) (place d b ∷ []) all
    ∙ ap (λ xs. places before ++ xs)
    (sym (ap (λ xs. xs ++ later) (placed-inside d b)) ∙ sym (append_assoc (placed_block d b) (placed d rest) (left old))
    ∙ sym whole)

-- a level with no block adds none
pub visited-none : (found : List program.Place) (levels : List Level) (level : Level) → 0 ≡ length level.blocks.now →
    places found ++ left levels ≡ places found ++ left (levels ++ level ∷ [])
visited-none found levels level none =
    ap (λ xs. places found ++ xs)
    (sym (left_push levels level ∙ ap (λ bs. placed level.depth (meanings bs) ++ left levels)
    (empty level.blocks.now none)))
  where
    empty : (xs : List Block) → 0 ≡ length xs → xs ≡ []
    empty [] e = refl
    empty (x ∷ xs) e = absurd (cc)
