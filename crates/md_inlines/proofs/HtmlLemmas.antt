-- How much is left after each part of a tag.
use Rattle.std.proofs.Common.{◌≡◌, ℕ, ◌<◌, ◌≤◌, Bool, true, false, ◌&&◌, List, [], ◌∷◌, length, drop}
use Rattle.std.proofs.Common.{Some, None, refl, ap, sym, ◌∙◌, arith}
use Rattle.std.specs.Prelude.{if◌then◌else◌, ◌||◌, ◌==◌}
use Rattle.md_meaning.specs.Bytes.{after, after_optional, begins}
use Rattle.md_meaning.specs.Html.{after_next, begins_attribute, is_attribute_byte}
use Rattle.md_meaning.specs.Lines.{begins_with}
use Rattle.md_meaning.specs.Rest.{is_white, trim_start}
use Rattle.md_meaning.proofs.HtmlLemmas.{length-after, length-after-lt, length-after_next, length-after_optional}
use Rattle.std.proofs.lemmas.List.{length-drop}
use Rattle.md_inlines.specs.Characters.{is_gap}
use Rattle.md_inlines.specs.RawHtml.{after_assignment, after_attribute, after_attributes, after_value}
use Rattle.md_inlines.specs.RawHtml.{is_value_byte}
use Rattle.md_inlines.specs.Target.{after_gap}
use Rattle.md_inlines.proofs.RepeatedLemmas.{repeated-some}

pub length-after_gap : (xs : List ℕ) → length (after_gap xs) ≤ length xs
length-after_gap xs =
    omega (
      arith,
      length-after is_white (after_optional 10 (trim_start xs)),
      length-after_optional 10 (trim_start xs),
      length-after is_white xs,
    )

-- where whitespace comes first
length-after_gap-lt : (xs : List ℕ) → begins is_gap xs ≡ true → length (after_gap xs) < length xs
length-after_gap-lt [] e = cc
length-after_gap-lt (b ∷ bs) e = go (is_white b) refl (b == 10) refl
  where
    go : (w : Bool) → is_white b ≡ w → (l : Bool) → (b == 10) ≡ l → length (after_gap (b ∷ bs)) < length (b ∷ bs)
    go true p l q =
        omega (
          arith,
          length-after is_white (after_optional 10 (trim_start (b ∷ bs))),
          length-after_optional 10 (trim_start (b ∷ bs)),
          length-after-lt is_white (b ∷ bs) p,
        )
    go false p true q =
        let front : after_optional 10 (trim_start (b ∷ bs)) ≡ bs = rw (p, q) refl in
        omega (arith, ap length front, length-after is_white (after_optional 10 (trim_start (b ∷ bs))))
    go false p false q =
        let none : (is_white b || (b == 10)) ≡ false = rw (p, q) refl in
        let both : true ≡ false = sym e ∙ none in cc

length-after_value : (xs ys : List ℕ) → after_value xs ≡ Some ys → length ys < length xs
unfolding after_value
length-after_value [] ys e = cc
length-after_value (b ∷ bs) ys e = go ((b == 34) || (b == 39)) (is_value_byte b) e
  where
    go : (quoted bare : Bool) →
        (if quoted then after_next b bs else if bare then Some (after is_value_byte bs) else None) ≡ Some ys →
        length ys < length (b ∷ bs)
    go true bare f = omega (arith, length-after_next b bs ys f)
    go false true f =
        let k : after is_value_byte bs ≡ ys = cc in omega (arith, ap length k, length-after is_value_byte bs)
    go false false f = cc

length-after_assignment : (xs ys : List ℕ) → after_assignment xs ≡ Some ys → length ys ≤ length xs
unfolding after_assignment
length-after_assignment xs ys e = go (begins_with 61 (after_gap xs)) e
  where
    go : (t : Bool) → (if t then after_value (after_gap (drop 1 (after_gap xs))) else Some xs) ≡ Some ys →
        length ys ≤ length xs
    go true f =
        omega (
          arith,
          length-after_value _ ys f,
          length-after_gap (drop 1 (after_gap xs)),
          length-drop 1 (after_gap xs),
          length-after_gap xs,
        )
    go false f = let k : xs ≡ ys = cc in omega (arith, ap length k)

pub length-after_attribute : (xs ys : List ℕ) → after_attribute xs ≡ Some ys → length ys < length xs
unfolding after_attribute
length-after_attribute xs ys e = go (begins is_gap xs) (begins begins_attribute (after_gap xs)) refl e
  where
    go : (s t : Bool) → begins is_gap xs ≡ s →
        (if s && t then after_assignment (after is_attribute_byte (after_gap xs)) else None) ≡ Some ys →
        length ys < length xs
    go true true p f =
        omega (
          arith,
          length-after_assignment _ ys f,
          length-after is_attribute_byte (after_gap xs),
          length-after_gap-lt xs p,
        )
    go true false p f = cc
    go false t p f = cc

pub after_attributes-some : (xs more : List ℕ) → after_attribute xs ≡ Some more →
    after_attributes xs ≡ after_attributes more
after_attributes-some xs more e = repeated-some after_attribute length-after_attribute xs more e
