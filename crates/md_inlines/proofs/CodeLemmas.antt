-- The next run of a size: runs of other sizes are passed over.
use Rattle.std.proofs.Common.{◌≡◌, ℕ, suc, ◌+◌, ◌-◌, ◌≤◌, Bool, true, false, List, [], ◌∷◌, length, drop}
use Rattle.std.proofs.Common.{Option, Some, None, refl, ap, sym, ◌∙◌, arith}
use Rattle.std.specs.Prelude.{◌==◌, option_map}
use Rattle.std.proofs.lemmas.Bool.Decides.{nat_tests}
use Rattle.std.proofs.lemmas.List.{length-drop}
use Rattle.md_meaning.specs.Rest.{run_len}
use Rattle.md_inlines.specs.Code.{before_run}

abbrev pub further : ℕ → Option ℕ → Option ℕ
further n found = option_map (λ len. n + len) found

further-zero : (found : Option ℕ) → further 0 found ≡ found
further-zero None = refl
further-zero (Some len) = let same : 0 + len ≡ len = omega arith in ap Some same

pub further-further : (n m : ℕ) (found : Option ℕ) → further n (further m found) ≡ further (n + m) found
further-further n m None = refl
further-further n m (Some len) = let same : n + (m + len) ≡ n + m + len = omega arith in ap Some same

pub further-suc : (found : Option ℕ) → option_map suc found ≡ further 1 found
further-suc None = refl
further-suc (Some len) = let same : suc len ≡ 1 + len = omega arith in ap Some same

-- within a run no run begins
within-run : (mark size : ℕ) (text : List ℕ) →
    before_run mark size true text ≡ further (run_len mark text) (before_run mark size false
    (drop (run_len mark text) text))
within-run mark size [] = refl
within-run mark size (b ∷ text) = go (b == mark) refl (within-run mark size text)
  where
    go : (t : Bool) → (b == mark) ≡ t →
        before_run mark size true text ≡
        further (run_len mark text) (before_run mark size false (drop (run_len mark text) text)) →
        before_run mark size true (b ∷ text) ≡
        further (run_len mark (b ∷ text)) (before_run mark size false (drop (run_len mark (b ∷ text)) (b ∷ text)))
    go true e rest =
        let left : before_run mark size true (b ∷ text) ≡ option_map suc (before_run mark size true text) = rw e refl in
        let len : run_len mark (b ∷ text) ≡ 1 + run_len mark text = rw e refl in
        let order : 1 + run_len mark text ≡ suc (run_len mark text) = omega arith in
        left ∙ further-suc (before_run mark size true text) ∙ ap (further 1) rest
        ∙ further-further 1 (run_len mark text) (before_run mark size false (drop (run_len mark text) text))
        ∙ ap (λ n. further n (before_run mark size false (drop (run_len mark text) text))) (sym len)
        ∙ ap (λ n. further (run_len mark (b ∷ text)) (before_run mark size false (drop n (b ∷ text)))) (sym (len ∙
        order))
    go false e rest =
        let len : run_len mark (b ∷ text) ≡ 0 = rw e refl in
        let left : before_run mark size true (b ∷ text) ≡ before_run mark size false (b ∷ text) = rw e refl in
        left ∙ sym (further-zero (before_run mark size false (b ∷ text)))
        ∙ ap (λ n. further n (before_run mark size false (drop n (b ∷ text)))) (sym len)

-- a run of another size that comes first
run-skipped : (mark size b : ℕ) (text : List ℕ) → (b == mark) ≡ true →
    (run_len mark (b ∷ text) == size) ≡ false →
    before_run mark size false (b ∷ text) ≡
    further (run_len mark (b ∷ text)) (before_run mark size false (drop (run_len mark (b ∷ text)) (b ∷ text)))
run-skipped mark size b text e other =
    let left : before_run mark size false (b ∷ text) ≡ option_map suc (before_run mark size true text) =
    rw (other, e) refl in
    let within : before_run mark size true (b ∷ text) ≡ option_map suc (before_run mark size true text) = rw e refl in
    left ∙ sym within ∙ within-run mark size (b ∷ text)

-- A loop that has passed over what is between a text and its rest passes over a run that comes first in the rest.
pub run-step : (mark size b len : ℕ) (text rest others tail : List ℕ) → rest ≡ b ∷ others → b ≡ mark →
    len ≡ run_len mark rest → (len ≡ size → ⊥) → len ≤ length rest → tail ≡ drop len rest → length rest ≤ length text →
    further (length text - length rest) (before_run mark size false rest) ≡ before_run mark size false text →
    further (length text - length tail) (before_run mark size false tail) ≡ before_run mark size false text
run-step mark size b len text rest others tail is same len_is other within tail_is inside before =
    let run_is : run_len mark (b ∷ others) ≡ len = ap (run_len mark) (sym is) ∙ sym len_is in
    let begins : (b == mark) ≡ true = grind (arith, nat_tests) in
    let differs : (len == size) ≡ false = grind (arith, nat_tests) in
    let run_differs : (run_len mark (b ∷ others) == size) ≡ false = ap (λ n. n == size) run_is ∙ differs in
    let end_is : drop (run_len mark (b ∷ others)) (b ∷ others) ≡ tail =
    ap (λ n. drop n (b ∷ others)) run_is ∙ ap (drop len) (sym is) ∙ sym tail_is in
    let skipped : before_run mark size false rest ≡ further len (before_run mark size false tail) =
    ap (before_run mark size false) is ∙ run-skipped mark size b others begins run_differs
    ∙ ap (λ n. further n (before_run mark size false (drop (run_len mark (b ∷ others)) (b ∷ others)))) run_is
    ∙ ap (λ t. further len (before_run mark size false t)) end_is in
    let sum : length text - length rest + len ≡ length text - length tail =
    omega (arith, ap length tail_is, length-drop len rest) in
    ap (λ n. further n (before_run mark size false tail)) (sym sum)
    ∙ sym (further-further (length text - length rest) len (before_run mark size false tail))
    ∙ ap (further (length text - length rest)) (sym skipped) ∙ before
