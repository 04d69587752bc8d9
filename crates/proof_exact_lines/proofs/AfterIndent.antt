-- The indent of a rest of a line is the whitespace that comes first, and so is what is after it.
use Rattle.std.proofs.Common.{◌≡◌, ℕ, zero, suc, ◌+◌, ◌-◌, Bool, true, false, cond, ◌||◌, List, [], ◌∷◌, take, drop}
use Rattle.std.proofs.Common.{refl, sym, ap, ◌∙◌, arith}
use Rattle.std.specs.Prelude.{◌==◌}
use Rattle.std.specs.List.{prefix_len}
use Rattle.md_meaning.specs.Rest.{Rest, after_indent, indent, is_white, lose, tab_columns, white_columns}
use Rattle.md_events.specs.Events.Places.{column_past, columns_from}
use Rattle.md_events.proofs.RestLines.{count-none, count-one}
use Rattle.md_events.specs.Exact.Places.{past}
use Rattle.proof_exact_lines.proofs.BeginsAt.{rest_at}

abbrev rest : ℕ → ℕ → List ℕ → Rest
rest column spaces bytes = record { column = column; spaces = spaces; bytes = bytes }

-- the columns that are left of a cut tab are lost first
lose-spaces : (n more all column : ℕ) (bytes : List ℕ) → all ≡ n + more →
    lose all (rest column n bytes) ≡ lose more (rest_at (column + n) bytes)
lose-spaces zero more all column bytes e =
    let size : all ≡ more = omega (arith, e) in
    ap (λ (n : ℕ). lose n (rest_at column bytes)) size ∙ ap (λ (c : ℕ). lose more (rest_at c bytes)) (omega arith)
lose-spaces (suc n) more all column bytes e =
    let size : all ≡ suc (n + more) = omega (arith, e) in
    ap (λ (k : ℕ). lose k (rest column (suc n) bytes)) size
    ∙ lose-spaces n more (n + more) (column + 1) bytes refl
    ∙ ap (λ (c : ℕ). lose more (rest_at c bytes)) (omega arith)

-- after the whitespace at the front of some bytes
abbrev following_white : ℕ → List ℕ → Rest
following_white column bytes =
    rest_at (columns_from column (take (prefix_len is_white bytes) bytes)) (drop (prefix_len is_white bytes) bytes)

following-one : (column b : ℕ) (bytes : List ℕ) → is_white b ≡ true →
    following_white column (b ∷ bytes) ≡ following_white (column_past b column) bytes
following-one column b bytes e =
    ap (λ (n : ℕ). rest_at (columns_from column (take n (b ∷ bytes))) (drop n (b ∷ bytes)))
    (count-one is_white b bytes e)

lose-white : (column : ℕ) (bytes : List ℕ) →
    lose (white_columns column bytes) (rest_at column bytes) ≡ following_white column bytes
lose-white column [] = refl
lose-white column (b ∷ bytes) = by (λ c. lose-white c bytes) (b == 9) refl (b == 32) refl
  where
    Later : Type 0
    Later = (c : ℕ) → lose (white_columns c bytes) (rest_at c bytes) ≡ following_white c bytes

    by : Later → (t : Bool) → (b == 9) ≡ t → (s : Bool) → (b == 32) ≡ s →
        lose (white_columns column (b ∷ bytes)) (rest_at column (b ∷ bytes)) ≡ following_white column (b ∷ bytes)
    by later true e s f =
        let columns : ℕ = tab_columns column in
        let more : ℕ = white_columns (column + columns) bytes in
        let size : white_columns column (b ∷ bytes) ≡ suc (columns - 1 + more) =
        ap (λ (t : Bool). cond t (columns + more) (cond (b == 32) (1 + white_columns (column + 1) bytes) 0)) e
        ∙ omega arith in
        let first : lose (suc (columns - 1 + more)) (rest_at column (b ∷ bytes)) ≡
        lose (columns - 1 + more) (rest (column + 1) (columns - 1) bytes) =
        ap
        (λ (t : Bool).
        lose (columns - 1 + more)
        (cond t (rest (column + 1) (columns - 1) bytes)
        (cond (b == 32) (rest (column + 1) 0 bytes) (rest column 0 (b ∷ bytes))))) e in
        ap (λ (n : ℕ). lose n (rest_at column (b ∷ bytes))) size
        ∙ first
        ∙ lose-spaces (columns - 1) more (columns - 1 + more) (column + 1) bytes refl
        ∙ ap (λ (c : ℕ). lose more (rest_at c bytes)) (omega arith)
        ∙ later (column + columns)
        ∙ ap (λ (t : Bool). following_white (cond t (column + columns) (column + 1)) bytes) (sym e)
        ∙ sym (following-one column b bytes (ap (λ (t : Bool). (b == 32) || t) e ∙ last (b == 32)))
      where
        last : (x : Bool) → (x || true) ≡ true
        last true = refl
        last false = refl
    by later false e true f =
        let more : ℕ = white_columns (column + 1) bytes in
        let size : white_columns column (b ∷ bytes) ≡ suc more = rw (e, f) (omega arith) in
        let tabbed : Rest = rest (column + 1) (tab_columns column - 1) bytes in
        let spaced : Rest = rest (column + 1) 0 bytes in
        let same : Rest = rest column 0 (b ∷ bytes) in
        let first : lose (suc more) (rest_at column (b ∷ bytes)) ≡ lose more spaced =
        ap (λ (t : Bool). lose more (cond t tabbed (cond (b == 32) spaced same))) e
        ∙ ap (λ (t : Bool). lose more (cond t spaced same)) f in
        ap (λ (n : ℕ). lose n (rest_at column (b ∷ bytes))) size
        ∙ first
        ∙ later (column + 1)
        ∙ ap (λ (t : Bool). following_white (cond t (column + tab_columns column) (column + 1)) bytes) (sym e)
        ∙ sym (following-one column b bytes (ap (λ (t : Bool). t || (b == 9)) f))
    by later false e false f =
        let none : white_columns column (b ∷ bytes) ≡ 0 = rw (e, f) refl in
        ap (λ (n : ℕ). lose n (rest_at column (b ∷ bytes))) none
        ∙ ap (λ (n : ℕ). rest_at (columns_from column (take n (b ∷ bytes))) (drop n (b ∷ bytes)))
        (sym (count-none is_white b bytes (rw (e, f) refl)))

-- After its indent a rest is after its whitespace.
pub indent-past : (r : Rest) → after_indent r ≡ past (prefix_len is_white r.bytes) r
indent-past r =
    lose-spaces r.spaces (white_columns (r.column + r.spaces) r.bytes) (indent r) r.column r.bytes refl
    ∙ lose-white (r.column + r.spaces) r.bytes
