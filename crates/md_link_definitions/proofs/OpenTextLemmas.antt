-- The indent of a line, by the column where it begins: that shows it up to a multiple of 4, as tabs do.
use Rattle.std.proofs.Common.{◌≡◌, ℕ, ◌+◌, ◌-◌, ◌%◌, Bool, true, false, cond, nat_eq, List, [], ◌∷◌, refl, ap, ap₂}
use Rattle.std.proofs.Common.{arith}
use Rattle.md_meaning.specs.Rest.{indent, tab_columns, white_columns}
use Rattle.md_link_definitions.specs.OpenText.{begun_rest}

tab-turns : (m n : ℕ) → m % 4 ≡ n % 4 → tab_columns m ≡ tab_columns n
tab-turns m n e = ap (λ (k : ℕ). 4 - k) e

white-turns : (m n : ℕ) (bs : List ℕ) → m % 4 ≡ n % 4 → white_columns m bs ≡ white_columns n bs
white-turns m n [] e = refl
white-turns m n (b ∷ bs) e =
    go (nat_eq b 9) (nat_eq b 32) (tab-turns m n e)
    (white-turns (m + tab_columns m) (n + tab_columns n) bs (omega (arith, tab-turns m n e)))
    (white-turns (m + 1) (n + 1) bs (omega arith))
  where
    go : (x y : Bool) → tab_columns m ≡ tab_columns n →
        white_columns (m + tab_columns m) bs ≡ white_columns (n + tab_columns n) bs →
        white_columns (m + 1) bs ≡ white_columns (n + 1) bs →
        cond x (tab_columns m + white_columns (m + tab_columns m) bs) (cond y (1 + white_columns (m + 1) bs) 0) ≡
        cond x (tab_columns n + white_columns (n + tab_columns n) bs) (cond y (1 + white_columns (n + 1) bs) 0)
    go true y columns following next = ap₂ (λ (j k : ℕ). j + k) columns following
    go false true columns following next = ap (λ (k : ℕ). 1 + k) next
    go false false columns following next = refl

-- after what is left of a tab a multiple of 4 is reached
pub indent-cut : (column : ℕ) (line : List ℕ) →
    tab_columns column + white_columns 0 line ≡ indent (begun_rest column true line)
indent-cut column line =
    ap (λ (k : ℕ). tab_columns column + k) (white-turns 0 (column + tab_columns column) line (omega arith))

pub indent-whole : (column : ℕ) (line : List ℕ) → white_columns (column % 4) line ≡
    indent (begun_rest column false line)
indent-whole column line =
    let same : white_columns (column % 4) line ≡ white_columns (column + 0) line =
    white-turns (column % 4) (column + 0) line (omega arith) in
    omega (arith, same)
