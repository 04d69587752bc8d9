-- Steps that are taken again and again from the front of a text, or from its end.
use Rattle.std.proofs.Common.{◌≡◌, ℕ, zero, suc, ◌<◌, ◌≤◌, List, [], ◌∷◌, length, Option, Some, None, refl, ◌∙◌, arith}
use Rattle.md_inlines.specs.RawHtml.{repeated}

-- Each step shortens the text: then as many steps suffice as there are bytes.
module _ (step : List ℕ → Option (List ℕ))
    (shorter : (xs ys : List ℕ) → step xs ≡ Some ys → length ys < length xs) where
  abbrev then_more : ℕ → List ℕ → Option (List ℕ) → List ℕ
  then_more n rest None = rest
  then_more n rest (Some more) = repeated step n more

  repeated-suc : (n : ℕ) (xs : List ℕ) (first : Option (List ℕ)) → step xs ≡ first →
      repeated step (suc n) xs ≡ then_more n xs first
  repeated-suc n xs None e = rw (e, repeated) refl
  repeated-suc n xs (Some more) e = rw (e, repeated) refl

  repeated-enough : (n m : ℕ) (xs : List ℕ) → length xs ≤ n → length xs ≤ m → repeated step n xs ≡ repeated step m xs
  repeated-enough zero zero xs h k = refl
  repeated-enough zero (suc m) xs h k = go (step xs) refl
    where
      go : (first : Option (List ℕ)) → step xs ≡ first → xs ≡ repeated step (suc m) xs
      go None e = rw (repeated-suc m xs None e) refl
      go (Some more) e = absurd (omega (arith, shorter xs more e))
  repeated-enough (suc n) zero xs h k = go (step xs) refl
    where
      go : (first : Option (List ℕ)) → step xs ≡ first → repeated step (suc n) xs ≡ xs
      go None e = rw (repeated-suc n xs None e) refl
      go (Some more) e = absurd (omega (arith, shorter xs more e))
  repeated-enough (suc n) (suc m) xs h k = go (repeated-enough n m) (step xs) refl
    where
      go : ((more : List ℕ) → length more ≤ n → length more ≤ m → repeated step n more ≡ repeated step m more) →
          (first : Option (List ℕ)) → step xs ≡ first → repeated step (suc n) xs ≡ repeated step (suc m) xs
      go fewer None e = rw (repeated-suc n xs None e, repeated-suc m xs None e) refl
      go fewer (Some more) e =
          rw (repeated-suc n xs (Some more) e, repeated-suc m xs (Some more) e)
          (fewer more (omega (arith, shorter xs more e)) (omega (arith, shorter xs more e)))

  pub repeated-some : (xs more : List ℕ) → step xs ≡ Some more →
      repeated step (length xs) xs ≡ repeated step (length more) more
  repeated-some [] more e = let less : length more < 0 = shorter [] more e in absurd (omega arith)
  repeated-some (b ∷ bs) more e =
      repeated-suc (length bs) (b ∷ bs) (Some more) e
      ∙ repeated-enough (length bs) (length more) more (omega (arith, shorter (b ∷ bs) more e)) (omega arith)

  pub repeated-none : (xs : List ℕ) → step xs ≡ None → repeated step (length xs) xs ≡ xs
  repeated-none [] e = refl
  repeated-none (b ∷ bs) e = repeated-suc (length bs) (b ∷ bs) None e
