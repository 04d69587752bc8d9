-- What follows an attribute is shorter, so there is an end to attributes.
use Rattle.std.proofs.Common.{◌≡◌, ℕ, zero, suc, ◌+◌, ◌<◌, ◌≤◌, Bool, true, false, ◌||◌, ◌&&◌, ◌==◌, if◌then◌else◌}
use Rattle.std.proofs.Common.{List, [], ◌∷◌, length, Option, Some, None, refl, ◌∙◌, ap, arith}
use Rattle.std.specs.List.{prefix_len}
use Rattle.std.proofs.lemmas.List.{length-drop}
use Rattle.std.proofs.lemmas.Bool.{false≢true}
use Rattle.md_meaning.specs.Rest.{is_white, trim_start}
use Rattle.md_meaning.specs.Lines.{begins_with}
use Rattle.md_meaning.specs.Bytes.{begins, after, after_optional}
use Rattle.md_meaning.specs.Html.{begins_attribute, is_attribute_byte, is_value_byte, after_next, after_value}
use Rattle.md_meaning.specs.Html.{after_assignment, after_attribute, after_attributes}

pub length-after : (test : ℕ → Bool) (xs : List ℕ) → length (after test xs) ≤ length xs
length-after test xs = omega (arith, length-drop (prefix_len test xs) xs)

-- where a byte comes first that passes
pub length-after-lt : (test : ℕ → Bool) (xs : List ℕ) → begins test xs ≡ true → length (after test xs) < length xs
length-after-lt test [] e = absurd (false≢true e)
length-after-lt test (b ∷ bs) e = rw e (omega (arith, length-drop (1 + prefix_len test bs) (b ∷ bs)))

pub length-after_optional : (byte : ℕ) (xs : List ℕ) → length (after_optional byte xs) ≤ length xs
length-after_optional byte [] = omega arith
length-after_optional byte (b ∷ bs) = go (b == byte)
  where
    go : (t : Bool) → length (if t then bs else b ∷ bs) ≤ length (b ∷ bs)
    go true = omega arith
    go false = omega arith

pub length-after_next : (byte : ℕ) (xs ys : List ℕ) → after_next byte xs ≡ Some ys → length ys < length xs
length-after_next byte [] ys e = cc
length-after_next byte (b ∷ bs) ys e = go (b == byte) (length-after_next byte bs ys) e
  where
    go : (t : Bool) → (after_next byte bs ≡ Some ys → length ys < length bs) →
        (if t then Some bs else after_next byte bs) ≡ Some ys → length ys < length (b ∷ bs)
    go true below f = let k : bs ≡ ys = cc in omega (arith, ap length k)
    go false below f = omega (arith, below f)

pub length-after_value : (xs ys : List ℕ) → after_value xs ≡ Some ys → length ys < length xs
unfolding after_value
length-after_value [] ys e = cc
length-after_value (b ∷ bs) ys e = go ((b == 34) || (b == 39)) (is_value_byte b) e
  where
    go : (quoted bare : Bool) →
        (if quoted then after_next b bs else if bare then Some (after is_value_byte bs) else None) ≡ Some ys →
        length ys < length (b ∷ bs)
    go true bare f = omega (arith, length-after_next b bs ys f)
    go false true f =
        let k : after is_value_byte bs ≡ ys = cc in omega (arith, ap length k, length-after is_value_byte bs)
    go false false f = cc

pub length-after_assignment : (xs ys : List ℕ) → after_assignment xs ≡ Some ys → length ys ≤ length xs
unfolding after_assignment
length-after_assignment xs ys e = go (begins_with 61 (trim_start xs)) e
  where
    go : (t : Bool) → (if t then after_value (trim_start (after_optional 61 (trim_start xs))) else Some xs) ≡ Some ys →
        length ys ≤ length xs
    go true f =
        omega (
          arith,
          length-after_value _ ys f,
          length-after is_white (after_optional 61 (trim_start xs)),
          length-after_optional 61 (trim_start xs),
          length-after is_white xs,
        )
    go false f = let k : xs ≡ ys = cc in omega (arith, ap length k)

pub length-after_attribute : (xs ys : List ℕ) → after_attribute xs ≡ Some ys → length ys < length xs
unfolding after_attribute
length-after_attribute xs ys e = go (begins is_white xs) (begins begins_attribute (trim_start xs)) refl e
  where
    go : (s t : Bool) → begins is_white xs ≡ s →
        (if s && t then after_assignment (after is_attribute_byte (trim_start xs)) else None) ≡ Some ys →
        length ys < length xs
    go true true p f =
        omega (
          arith,
          length-after_assignment _ ys f,
          length-after is_attribute_byte (trim_start xs),
          length-after-lt is_white xs p,
        )
    go true false p f = cc
    go false t p f = cc

-- what follows at most so many attributes, where this follows the first
abbrev then_attributes : ℕ → List ℕ → Option (List ℕ) → List ℕ
then_attributes n rest None = rest
then_attributes n rest (Some more) = after_attributes n more

after_attributes-suc : (n : ℕ) (xs : List ℕ) (first : Option (List ℕ)) → after_attribute xs ≡ first →
    after_attributes (suc n) xs ≡ then_attributes n xs first
after_attributes-suc n xs None e = rw (e, after_attributes) refl
after_attributes-suc n xs (Some more) e = rw (e, after_attributes) refl

-- there are fewer attributes than bytes
after_attributes-enough : (n m : ℕ) (xs : List ℕ) → length xs ≤ n → length xs ≤ m →
    after_attributes n xs ≡ after_attributes m xs
after_attributes-enough zero zero xs h k = refl
after_attributes-enough zero (suc m) xs h k = go (after_attribute xs) refl
  where
    go : (first : Option (List ℕ)) → after_attribute xs ≡ first → xs ≡ after_attributes (suc m) xs
    go None e = rw (after_attributes-suc m xs None e) refl
    go (Some more) e = absurd (omega (arith, length-after_attribute xs more e))
after_attributes-enough (suc n) zero xs h k = go (after_attribute xs) refl
  where
    go : (first : Option (List ℕ)) → after_attribute xs ≡ first → after_attributes (suc n) xs ≡ xs
    go None e = rw (after_attributes-suc n xs None e) refl
    go (Some more) e = absurd (omega (arith, length-after_attribute xs more e))
after_attributes-enough (suc n) (suc m) xs h k = go (after_attributes-enough n m) (after_attribute xs) refl
  where
    go : ((more : List ℕ) → length more ≤ n → length more ≤ m → after_attributes n more ≡ after_attributes m more) →
        (first : Option (List ℕ)) → after_attribute xs ≡ first →
        after_attributes (suc n) xs ≡ after_attributes (suc m) xs
    go fewer None e = rw (after_attributes-suc n xs None e, after_attributes-suc m xs None e) refl
    go fewer (Some more) e =
        rw (after_attributes-suc n xs (Some more) e, after_attributes-suc m xs (Some more) e)
        (fewer more (omega (arith, length-after_attribute xs more e)) (omega (arith, length-after_attribute xs more e)))

pub after_attributes-some : (xs more : List ℕ) → after_attribute xs ≡ Some more →
    after_attributes (length xs) xs ≡ after_attributes (length more) more
after_attributes-some [] more e =
    let shorter : length more < 0 = length-after_attribute [] more e in absurd (omega arith)
after_attributes-some (b ∷ bs) more e =
    after_attributes-suc (length bs) (b ∷ bs) (Some more) e
    ∙ after_attributes-enough (length bs) (length more) more (omega (arith, length-after_attribute (b ∷ bs) more e))
    (omega arith)
