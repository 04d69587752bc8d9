-- The first cell of a row by its bytes: it reaches up to the first pipe that no backslash takes.
use Rattle.std.proofs.Common.{◌≡◌, ℕ, suc, Bool, true, false, cond, nat_eq, List, [], ◌∷◌, take, drop, refl, sym, ap}
use Rattle.std.proofs.Common.{◌∙◌, ◌+◌, subst, arith}
use Rattle.std.proofs.lemmas.Bool.{eqb-true}
use Rattle.md_meaning.specs.Rest.{is_blank}
use Rattle.md_tables.specs.RowCells.{Cells, Divides, Ends, Shut, cells_of, onto}
use Rattle.md_tables.proofs.RowCellLemmas.{cells-escaped, cells-none, cells-other, cells-pipe}
use Rattle.md_events.specs.Exact.Leaves.{cell_len}

-- cells, by the first and by the bytes from its end on
abbrev pub from_first : List ℕ → List ℕ → Cells
from_first cell [] = Ends cell
from_first cell (b ∷ bs) = cond (is_blank bs) (Shut cell bs) (Divides cell (cells_of false bs))

-- a byte before the first
onto-first : (b : ℕ) (cell back : List ℕ) → onto b (from_first cell back) ≡ from_first (b ∷ cell) back
onto-first b cell [] = refl
onto-first b cell (c ∷ bs) = go (is_blank bs)
  where
    go : (t : Bool) →
        onto b (cond t (Shut cell bs) (Divides cell (cells_of false bs))) ≡
        cond t (Shut (b ∷ cell) bs) (Divides (b ∷ cell) (cells_of false bs))
    go true = refl
    go false = refl

-- How long the first is.

one-more : (n : ℕ) → 1 + n ≡ suc n
one-more n = omega arith

len-escaped : (b : ℕ) (bs : List ℕ) → cell_len true (b ∷ bs) ≡ suc (cell_len false bs)
len-escaped b bs = one-more (cell_len false bs)

len-pipe : (b : ℕ) (bs : List ℕ) → nat_eq b 124 ≡ true → cell_len false (b ∷ bs) ≡ 0
len-pipe b bs e = rw e refl

pub len-other : (b : ℕ) (bs : List ℕ) → nat_eq b 124 ≡ false →
    cell_len false (b ∷ bs) ≡ suc (cell_len (nat_eq b 92) bs)
len-other b bs e = rw e (one-more (cell_len (nat_eq b 92) bs))

-- The cells of some bytes.

-- cut after so many
abbrev cut_at : ℕ → List ℕ → Cells
cut_at size bs = from_first (take size bs) (drop size bs)

pub first-cell : (escaped : Bool) (bs : List ℕ) →
    cells_of escaped bs ≡ from_first (take (cell_len escaped bs) bs) (drop (cell_len escaped bs) bs)
first-cell true [] = cells-none true
first-cell false [] = cells-none false
first-cell true (b ∷ bs) =
    cells-escaped b bs ∙ ap (onto b) (first-cell false bs)
    ∙ onto-first b (take (cell_len false bs) bs) (drop (cell_len false bs) bs)
    ∙ ap (λ (k : ℕ). cut_at k (b ∷ bs)) (sym (len-escaped b bs))
first-cell false (b ∷ bs) = go (nat_eq b 124) refl (first-cell (nat_eq b 92) bs)
  where
    size : ℕ
    size = cell_len (nat_eq b 92) bs

    go : (t : Bool) → nat_eq b 124 ≡ t → cells_of (nat_eq b 92) bs ≡ cut_at size bs →
        cells_of false (b ∷ bs) ≡ cut_at (cell_len false (b ∷ bs)) (b ∷ bs)
    go true e more =
        ap (λ (c : ℕ). cells_of false (c ∷ bs)) (eqb-true b 124 e) ∙ cells-pipe bs
        ∙ ap (λ (k : ℕ). cut_at k (b ∷ bs)) (sym (len-pipe b bs e))
    go false e more =
        cells-other b bs e ∙ ap (onto b) more ∙ onto-first b (take size bs) (drop size bs)
        ∙ ap (λ (k : ℕ). cut_at k (b ∷ bs)) (sym (len-other b bs e))

-- After the first is a pipe, or nothing.

abbrev pub IsPiped : List ℕ → Type 0
IsPiped [] = Unit {0}
IsPiped (b ∷ bs) = nat_eq b 124 ≡ true

pub back-piped : (escaped : Bool) (bs : List ℕ) → IsPiped (drop (cell_len escaped bs) bs)
back-piped true [] = tt
back-piped false [] = tt
back-piped true (b ∷ bs) =
    subst (λ (k : ℕ). IsPiped (drop k (b ∷ bs))) (sym (len-escaped b bs)) (back-piped false bs)
back-piped false (b ∷ bs) = go (nat_eq b 124) refl (back-piped (nat_eq b 92) bs)
  where
    go : (t : Bool) → nat_eq b 124 ≡ t → IsPiped (drop (cell_len (nat_eq b 92) bs) bs) →
        IsPiped (drop (cell_len false (b ∷ bs)) (b ∷ bs))
    go true e more = subst (λ (k : ℕ). IsPiped (drop k (b ∷ bs))) (sym (len-pipe b bs e)) e
    go false e more = subst (λ (k : ℕ). IsPiped (drop k (b ∷ bs))) (sym (len-other b bs e)) more
