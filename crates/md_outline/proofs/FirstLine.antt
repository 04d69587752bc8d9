-- The line that comes first is found by its ending.
use Rattle.std.proofs.Common.{◌≡◌, ℕ, suc, ◌+◌, ◌-◌, ◌<◌, ◌≢◌, Bool, true, false, not, nat_eq, nat_lt, List, [], ◌∷◌}
use Rattle.std.proofs.Common.{length, take, drop, get_or, refl, ◌∙◌, ap, arith, length-drop, add-one, drop-cons}
use Rattle.std.specs.List.{prefix_len}
use Rattle.std.proofs.lemmas.Bool.Decides.{nat_tests}
use Rattle.std.proofs.lemmas.List.{drop-drop, take_all}
use Rattle.md_meaning.specs.Lines.{is_ending}
use Rattle.md_outline.specs.TextLines.{line_len}

-- a byte above CR ends no line
no-ending : (b : ℕ) → nat_lt 13 b ≡ true → not (is_ending b) ≡ true
no-ending b h =
    let lf : nat_eq b 10 ≡ false = grind (arith, nat_tests) in
    let cr : nat_eq b 13 ≡ false = grind (arith, nat_tests) in
    rw (lf, cr) refl

-- bytes above CR are of the first line
pub line-above : (xs : List ℕ) →
    line_len xs ≡ prefix_len (nat_lt 13) xs + line_len (drop (prefix_len (nat_lt 13) xs) xs)
line-above [] = refl
line-above (x ∷ xs) = go (nat_lt 13 x) refl (line-above xs)
  where
    go : (b : Bool) → nat_lt 13 x ≡ b →
        line_len xs ≡ prefix_len (nat_lt 13) xs + line_len (drop (prefix_len (nat_lt 13) xs) xs) →
        line_len (x ∷ xs) ≡
        prefix_len (nat_lt 13) (x ∷ xs) + line_len (drop (prefix_len (nat_lt 13) (x ∷ xs)) (x ∷ xs))
    go true e more =
        let count : prefix_len (nat_lt 13) (x ∷ xs) ≡ suc (prefix_len (nat_lt 13) xs) = rw e (omega arith) in
        let following : line_len (drop (prefix_len (nat_lt 13) (x ∷ xs)) (x ∷ xs)) ≡
        line_len (drop (prefix_len (nat_lt 13) xs) xs) = ap (λ (m : ℕ). line_len (drop m (x ∷ xs))) count in
        let here : line_len (x ∷ xs) ≡ 1 + line_len xs = rw (no-ending x e) refl in
        omega (arith, count, following, here, more)
    go false e more = rw e (omega arith)

-- and so are another byte that is no ending, and bytes above CR after it
pub line-more : (text : List ℕ) (at n : ℕ) → at < length text → get_or text at 0 ≢ 10 → get_or text at 0 ≢ 13 →
    line_len text ≡ at + line_len (drop at text) →
    n ≡ prefix_len (nat_lt 13) (take (length text - (at + 1)) (drop (at + 1) text)) →
    line_len text ≡ at + 1 + n + line_len (drop (at + 1 + n) text)
line-more text at n lt lf cr before is =
    let left = length-drop (at + 1) text in
    let rest = take_all (length text - (at + 1)) (drop (at + 1) text) (omega (arith, left)) in
    let count : n ≡ prefix_len (nat_lt 13) (drop (at + 1) text) = is ∙ ap (prefix_len (nat_lt 13)) rest in
    let no_lf : nat_eq (get_or text at 0) 10 ≡ false = grind (arith, nat_tests) in
    let no_cr : nat_eq (get_or text at 0) 13 ≡ false = grind (arith, nat_tests) in
    let cut : drop at text ≡ get_or text at 0 ∷ drop (at + 1) text = rw add-one (drop-cons text at 0 lt) in
    let one : line_len (get_or text at 0 ∷ drop (at + 1) text) ≡ 1 + line_len (drop (at + 1) text) =
    rw (no_lf, no_cr) refl in
    let here = ap line_len cut ∙ one in
    let following : line_len (drop (at + 1) text) ≡ n + line_len (drop n (drop (at + 1) text)) =
    rw count (line-above (drop (at + 1) text)) in
    let far : drop n (drop (at + 1) text) ≡ drop (at + 1 + n) text = drop-drop _ _ text in
    let same = ap line_len far in
    omega (arith, before, here, following, same)
