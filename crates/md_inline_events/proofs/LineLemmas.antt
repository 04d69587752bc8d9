-- A line is as long as what many bytes at once and then each show.
use Rattle.std.proofs.Common.{◌≡◌, ℕ, zero, suc, ◌+◌, ◌-◌, ◌≤◌, Bool, true, false, cond, nat_lt, List, [], ◌∷◌}
use Rattle.std.proofs.Common.{length, take, drop, refl, ap, ◌∙◌, arith}
use Rattle.std.specs.Prelude.{not}
use Rattle.std.specs.List.{prefix_len, take_while}
use Rattle.std.proofs.lemmas.Bool.Decides.{nat_tests}
use Rattle.std.proofs.lemmas.List.{length-drop, take_all}
use Rattle.std.proofs.lemmas.List.Sums.{take_while-cons}
use Rattle.md_meaning.specs.Lines.{is_ending, without_ending}

-- after some bytes greater than CR the line goes on
line-after : (text : List ℕ) (k : ℕ) → k ≤ prefix_len (nat_lt 13) text →
    k + length (without_ending (drop k text)) ≡ length (without_ending text)
line-after text zero le = omega arith
line-after [] (suc k) le = absurd (omega (arith, le))
line-after (b ∷ text) (suc k) le = go (nat_lt 13 b) refl le (line-after text k)
  where
    go : (x : Bool) → nat_lt 13 b ≡ x → suc k ≤ cond x (1 + prefix_len (nat_lt 13) text) 0 →
        (k ≤ prefix_len (nat_lt 13) text → k + length (without_ending (drop k text)) ≡ length (without_ending text)) →
        suc k + length (without_ending (drop k text)) ≡ length (without_ending (b ∷ text))
    go false e le more = absurd (omega (arith, le))
    go true e le more =
        let keeps : not (is_ending b) ≡ true = grind (arith, nat_tests) in
        let size : length (without_ending (b ∷ text)) ≡ suc (length (without_ending text)) =
        ap length
        (take_while-cons (λ c. not (is_ending c)) b text
        ∙ ap (λ (t : Bool). cond t (b ∷ take_while (λ c. not (is_ending c)) text) []) keeps) in
        let rest : k + length (without_ending (drop k text)) ≡ length (without_ending text) = more (omega (arith, le)) in
        omega (arith, rest, size)

-- a line, where so many bytes of it are greater than CR, and these follow
pub line-counted : (text rest : List ℕ) (at : ℕ) → at ≡ prefix_len (nat_lt 13) text →
    rest ≡ take (length text - at) (drop at text) →
    at + length (without_ending rest) ≡ length (without_ending text)
line-counted text rest at e is =
    ap (λ (l : List ℕ). at + length (without_ending l))
    (is ∙ take_all (length text - at) (drop at text) (let size = length-drop at text in omega (arith, size)))
    ∙ line-after text at (omega (arith, e))

take-taken : (n : ℕ) (text : List ℕ) → take (length (take n text)) text ≡ take n text
take-taken zero text = refl
take-taken (suc n) [] = refl
take-taken (suc n) (b ∷ text) = ap (λ (l : List ℕ). b ∷ l) (take-taken n text)

-- so many bytes are the line
pub line-taken : (text line : List ℕ) (n : ℕ) → n ≡ length (without_ending text) → line ≡ take n text →
    line ≡ without_ending text
line-taken text line n size is =
    is ∙ ap (λ (k : ℕ). take k text) size ∙ take-taken (prefix_len (λ b. not (is_ending b)) text) text
