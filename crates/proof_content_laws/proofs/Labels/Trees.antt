-- The labels of the definitions of a tree, in the order of the text: lists around its items change none.
use Rattle.std.proofs.Common.{◌≡◌, ℕ, Bool, true, false, cond, List, ◌++◌, refl, ap, ap₂, sym, ◌∙◌, append_assoc}
use Rattle.std.proofs.Common.{append-nil}
use Rattle.std.specs.Prelude.{◌==◌}
use Rattle.md_meaning.specs.Grouped.{grouped, grouped_block, with_front, with_item}
use Rattle.md_meaning.specs.Label.{Labels, block_labels, both, labels, no_labels}
use Rattle.md_meaning.specs.State.{then_block}
use Rattle.md_meaning.specs.Tree.{Block, Blocks, End, Footnote, Item, ListOf, More, Quote}

abbrev pub defined_in : Blocks → List (List ℕ)
defined_in bs = (labels bs).definitions

abbrev pub defined_by : Block → List (List ℕ)
defined_by b = (block_labels b).definitions

-- and those of its footnote definitions
abbrev pub noted_in : Blocks → List (List ℕ)
noted_in bs = (labels bs).footnotes

abbrev pub noted_by : Block → List (List ℕ)
noted_by b = (block_labels b).footnotes

abbrev labels_of : List (List ℕ) → List (List ℕ) → Labels
labels_of definitions footnotes = record { definitions = definitions; footnotes = footnotes }

same-labels : (a b c d : List (List ℕ)) → a ≡ b → c ≡ d → labels_of a c ≡ labels_of b d
same-labels a b c d e f = ap₂ labels_of e f

none-following : (a : Labels) → both a no_labels ≡ a
none-following a = same-labels _ _ _ _ (append-nil a.definitions) (append-nil a.footnotes)

three : (a b c : Labels) → both (both a b) c ≡ both a (both b c)
three a b c =
    same-labels _ _ _ _ (append_assoc a.definitions b.definitions c.definitions)
    (append_assoc a.footnotes b.footnotes c.footnotes)

-- with one block more after them
labels-then : (bs : Blocks) (b : Block) → labels (then_block bs b) ≡ both (labels bs) (block_labels b)
labels-then End b = none-following (block_labels b)
labels-then (More a bs) b =
    ap (both (block_labels a)) (labels-then bs b) ∙ sym (three (block_labels a) (labels bs) (block_labels b))

pub defined-then : (bs : Blocks) (b : Block) → defined_in (then_block bs b) ≡ defined_in bs ++ defined_by b
defined-then bs b = ap (λ (l : Labels). l.definitions) (labels-then bs b)

pub noted-then : (bs : Blocks) (b : Block) → noted_in (then_block bs b) ≡ noted_in bs ++ noted_by b
noted-then bs b = ap (λ (l : Labels). l.footnotes) (labels-then bs b)

-- an item before lists
labels-item : (m : ℕ) (item : Block) (bs : Blocks) → labels (with_item m item bs) ≡ both (block_labels item) (labels bs)
labels-item m item (More (ListOf k items) bs) = go (m == k)
  where
    go : (x : Bool) →
        labels
        (cond x (More (ListOf k (More item items)) bs) (More (ListOf m (More item End)) (More (ListOf k items) bs))) ≡
        both (block_labels item) (labels (More (ListOf k items) bs))
    go true = three (block_labels item) (labels items) (labels bs)
    go false = ap (λ (l : Labels). both l (labels (More (ListOf k items) bs))) (none-following (block_labels item))
labels-item m item bs = ap (λ (l : Labels). both l (labels bs)) (none-following (block_labels item))

labels-front : (b : Block) (bs : Blocks) → labels (with_front b bs) ≡ both (block_labels b) (labels bs)
labels-front (Item m d x) bs = labels-item m (Item m d x) bs
labels-front b bs = refl

mutual
  block-grouped : (b : Block) → block_labels (grouped_block b) ≡ block_labels b
  block-grouped (Quote alert bs) = grouped-labels bs
  block-grouped (Item m d bs) = grouped-labels bs
  block-grouped (Footnote label bs) =
      ap
      (both (block_labels (Footnote label End)))
      (grouped-labels bs)
  block-grouped b = refl

  grouped-labels : (bs : Blocks) → labels (grouped bs) ≡ labels bs
  grouped-labels End = refl
  grouped-labels (More b bs) =
      labels-front (grouped_block b) (grouped bs) ∙ ap₂ both (block-grouped b) (grouped-labels bs)

pub grouped-defined : (bs : Blocks) → defined_in (grouped bs) ≡ defined_in bs
grouped-defined bs = ap (λ (l : Labels). l.definitions) (grouped-labels bs)

pub grouped-noted : (bs : Blocks) → noted_in (grouped bs) ≡ noted_in bs
grouped-noted bs = ap (λ (l : Labels). l.footnotes) (grouped-labels bs)
