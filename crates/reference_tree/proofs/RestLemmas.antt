-- Losing columns of whitespace.
use Rattle.std.proofs.Common.{◌≡◌, ℕ, zero, suc, ◌+◌, ◌-◌, ◌<◌, Bool, true, false, cond, ◌==◌, List, [], ◌∷◌, refl, sym}
use Rattle.std.proofs.Common.{◌∙◌, ap, subst, arith}
use Rattle.md_meaning.specs.Rest as r

abbrev rest : ℕ → ℕ → List ℕ → r.Rest
rest c s bytes = record { column = c; spaces = s; bytes = bytes }

-- where the column stays, nothing is lost
without_column-still : (c s : ℕ) (bytes : List ℕ) → (r.without_column c s bytes).column ≡ c →
    r.without_column c s bytes ≡ rest c s bytes
without_column-still c (suc s) bytes e = absurd (omega (arith, e))
without_column-still c zero [] e = refl
without_column-still c zero (b ∷ bytes) e = by (b == 9) (b == 32) e
  where
    by : (p q : Bool) →
        (cond p (rest (c + 1) (r.tab_columns c - 1) bytes)
        (cond q (rest (c + 1) 0 bytes) (rest c 0 (b ∷ bytes)))).column ≡
        c
        → cond p (rest (c + 1) (r.tab_columns c - 1) bytes) (cond q (rest (c + 1) 0 bytes) (rest c 0 (b ∷ bytes))) ≡
        rest c 0 (b ∷ bytes)
    by true q h = absurd (omega (arith, h))
    by false true h = absurd (omega (arith, h))
    by false false h = refl

pub lose-still : (n : ℕ) (x : r.Rest) → (r.without_column x.column x.spaces x.bytes).column ≡ x.column → r.lose n x ≡ x
lose-still zero x e = refl
lose-still (suc n) x e =
    ap (λ y. r.lose n y) (without_column-still x.column x.spaces x.bytes e) ∙ lose-still n x e

-- one column lost, and then the others
pub lose-next : (n i : ℕ) (x y : r.Rest) → i < n → y ≡ r.without_column x.column x.spaces x.bytes →
    r.lose (n - i) x ≡ r.lose (n - (i + 1)) y
lose-next n i x y below e =
    let left : suc (n - (i + 1)) ≡ n - i = omega (arith, below) in
    subst (λ k. r.lose k x ≡ r.lose (n - (i + 1)) y) left (ap (λ z. r.lose (n - (i + 1)) z) (sym e))
