-- Blocks that are grouped into lists have headings as deep as before.
use Rattle.std.proofs.Common.{◌≡◌, ℕ, Bool, true, false, cond, refl}
use Rattle.std.specs.Prelude.{◌==◌}
use Rattle.std.proofs.lemmas.Bool.{and_from, and_parts}
use Rattle.md_meaning.specs.Grouped.{grouped, grouped_block, with_front, with_item}
use Rattle.md_meaning.specs.Tree.{Block, Blocks, End, Footnote, Item, ListOf, More, Quote}
use Rattle.md_outline.specs.HeadingDepths.{are_shallow, is_shallow}

-- an item before lists
item-shallow : (m : ℕ) (item : Block) (bs : Blocks) → is_shallow item ≡ true → are_shallow bs ≡ true →
    are_shallow (with_item m item bs) ≡ true
item-shallow m item (More (ListOf k items) bs) h i = go (m == k)
  where
    go : (x : Bool) →
        are_shallow
        (cond x (More (ListOf k (More item items)) bs) (More (ListOf m (More item End)) (More (ListOf k items) bs)))
        ≡ true
    go true =
        let parts = and_parts (are_shallow items) (are_shallow bs) i in
        and_from (are_shallow (More item items)) (are_shallow bs)
        (and_from (is_shallow item) (are_shallow items) h parts.0) parts.1
    go false =
        and_from (are_shallow (More item End)) (are_shallow (More (ListOf k items) bs))
        (and_from (is_shallow item) true h refl) i
item-shallow m item bs h i =
    and_from (are_shallow (More item End)) (are_shallow bs) (and_from (is_shallow item) true h refl) i

front-shallow : (b : Block) (bs : Blocks) → is_shallow b ≡ true → are_shallow bs ≡ true →
    are_shallow (with_front b bs) ≡ true
front-shallow (Item m d x) bs h i = item-shallow m (Item m d x) bs h i
front-shallow b bs h i = and_from (is_shallow b) (are_shallow bs) h i

mutual
  block-shallow : (b : Block) → is_shallow b ≡ true → is_shallow (grouped_block b) ≡ true
  block-shallow (Quote alert bs) h = grouped-shallow bs h
  block-shallow (Item m d bs) h = grouped-shallow bs h
  block-shallow (Footnote label bs) h = grouped-shallow bs h
  block-shallow b h = h

  pub grouped-shallow : (bs : Blocks) → are_shallow bs ≡ true → are_shallow (grouped bs) ≡ true
  grouped-shallow End h = h
  grouped-shallow (More b bs) h =
      let parts = and_parts (is_shallow b) (are_shallow bs) h in
      front-shallow (grouped_block b) (grouped bs) (block-shallow b parts.0) (grouped-shallow bs parts.1)
