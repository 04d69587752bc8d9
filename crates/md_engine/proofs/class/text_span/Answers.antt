use Rattle.std.proofs.Common.{◌≡◌, ◌<◌, ◌≤◌, ◌+◌, ◌-◌, ℕ, Bool, true, false, nat_eq, nat_lt, List, length, take, drop}
use Rattle.std.proofs.Common.{arith, refl, length-drop}
use Rattle.std.specs.Prelude.{slice_index}
use Rattle.std.proofs.lemmas.Bool.Decides.{nat_tests}
use Rattle.std.proofs.lemmas.List.{get_or-drop, take_all}
use Rattle.std.proofs.lemmas.List.Sums.{prefix_len_passes}
use Rattle.md_engine.specs.declared.class.Class.TheVariants.{Text}
use Rattle.md_engine.specs.Classes.{IsSpan, has}
use Rattle.md_engine.proofs.class.text_span.Goals as goal

-- a byte above CR is text
is-text : (b : ℕ) → nat_lt 13 b ≡ true → has Text b ≡ true
is-text b h =
    let lf : nat_eq b 10 ≡ false = grind (arith, nat_tests) in
    let cr : nat_eq b 13 ≡ false = grind (arith, nat_tests) in
    let tab : nat_eq b 9 ≡ false = grind (arith, nat_tests) in
    rw (lf, cr, tab) refl

-- bytes of text and the span after them are one span
span-following : (bytes : List ℕ) (at n : ℕ) → at ≤ length bytes →
    ((k : ℕ) → k < at → has Text (slice_index bytes k) ≡ true) → IsSpan Text (drop at bytes) n →
    IsSpan Text bytes (at + n)
span-following bytes at n le before span = record {
  within = let size = length-drop at bytes in omega (arith, size, span.within);
  each = λ k lt. go k lt (nat_lt k at) refl;
  ends =
      λ lt. let size = length-drop at bytes in
      rw (get_or-drop at bytes n 0) at (span.ends (omega (arith, size, lt)));
}
  where
    go : (k : ℕ) → k < at + n → (b : Bool) → nat_lt k at ≡ b → has Text (slice_index bytes k) ≡ true
    go k lt true e = before k (grind (arith, nat_tests))
    go k lt false e =
        let past : at ≤ k = grind (arith, nat_tests) in
        let is : at + (k - at) ≡ k = omega arith in
        rw is at (rw (get_or-drop at bytes (k - at) 0) at (span.each (k - at) (omega (arith, lt, past))))

-- what is after an index, as slicing gives it
rest : (bytes : List ℕ) (at : ℕ) → take (length bytes - at) (drop at bytes) ≡ drop at bytes
rest bytes at = take_all (length bytes - at) (drop at bytes) (let size = length-drop at bytes in omega (arith, size))

pub returns : goal.returns
returns c =
    span-following c.args.bytes.now c.above_cr_len-at.result c.count.result c.above_cr_len-at.ensures.bound
    (λ k lt. is-text _ (prefix_len_passes (nat_lt 13) c.args.bytes.now k 0 (rw (← c.above_cr_len-at.ensures.value) lt)))
    (rw rest at c.count.ensures)
