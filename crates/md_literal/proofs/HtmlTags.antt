-- What is left of a tag after whitespace, a name, an attribute and a value (CommonMark 6.6).
use Rattle.std.proofs.Common.{◌≡◌, ℕ, Bool, true, false, cond, ◌&&◌, ◌||◌, nat_eq, List, [], ◌∷◌, length, Option, Some}
use Rattle.std.proofs.Common.{None, refl, sym, ◌∙◌, ap, ap₂, arith}
use Rattle.std.specs.Prelude.{◌==◌}
use Rattle.std.proofs.lemmas.Bool.Decides.{nat_tests}
use Rattle.md_meaning.specs.Bytes.{after, after_optional, begins}
use Rattle.md_meaning.specs.Html.{after_assignment, after_attribute, after_attributes, after_next, after_value}
use Rattle.md_meaning.specs.Html.{begins_attribute, closes_tag, ends_opening, is_attribute_byte, is_value_byte}
use Rattle.md_meaning.specs.Lines.{begins_with}
use Rattle.md_meaning.specs.Rest.{is_blank, is_white, trim_start}
use Rattle.md_meaning.proofs.HtmlLemmas.{after_attributes-some}
use Rattle.md_literal.specs.HtmlRule.{following_white, then_opening}
use Rattle.md_literal.proofs.HtmlKinds.{after-more, after-same}
use Rattle.md_events.proofs.RestLines.{trim-white}

-- Whitespace.

pub trim-none : (bytes : List ℕ) → begins is_white bytes ≡ false → trim_start bytes ≡ bytes
trim-none bytes e = after-same is_white bytes e

-- after whitespace that was taken or not
pub trim-following : (seen : Bool) (bytes : List ℕ) → trim_start (following_white seen bytes) ≡ trim_start bytes
trim-following true bytes = trim-white 32 bytes refl
trim-following false bytes = refl

-- The end of a tag.

pub closes-none : (bytes : List ℕ) → begins_with 62 bytes ≡ false → closes_tag bytes ≡ false
closes-none bytes e = ap (λ (x : Bool). x && is_blank (after_optional 62 bytes)) e

-- Attributes, by the first one.

abbrev pub opening_by : Option (List ℕ) → List ℕ → Bool
opening_by None rest = closes_tag (after_optional 47 (trim_start rest))
opening_by (Some more) rest = ends_opening more

no-attributes : (rest : List ℕ) → after_attribute rest ≡ None → after_attributes (length rest) rest ≡ rest
no-attributes [] e = refl
no-attributes (b ∷ bs) e = rw (e, after_attributes) refl

pub opening-by : (rest : List ℕ) → ends_opening rest ≡ opening_by (after_attribute rest) rest
unfolding ends_opening
opening-by rest = go (after_attribute rest) refl
  where
    go : (o : Option (List ℕ)) → after_attribute rest ≡ o → ends_opening rest ≡ opening_by o rest
    go None e = ap (λ (l : List ℕ). closes_tag (after_optional 47 (trim_start l))) (no-attributes rest e)
    go (Some more) e =
        ap (λ (l : List ℕ). closes_tag (after_optional 47 (trim_start l))) (after_attributes-some rest more e)

-- an attribute needs whitespace before it
attribute-none : (rest : List ℕ) → begins is_white rest && begins begins_attribute (trim_start rest) ≡ false →
    after_attribute rest ≡ None
unfolding after_attribute
attribute-none rest e = ap (λ (x : Bool). cond x (after_assignment (after is_attribute_byte (trim_start rest))) None) e

attribute-some : (rest : List ℕ) → begins is_white rest ≡ true → begins begins_attribute (trim_start rest) ≡ true →
    after_attribute rest ≡ after_assignment (after is_attribute_byte (trim_start rest))
unfolding after_attribute
attribute-some rest e f =
    ap₂ (λ (x y : Bool). cond (x && y) (after_assignment (after is_attribute_byte (trim_start rest))) None) e f

pub opening-none : (rest : List ℕ) → begins is_white rest && begins begins_attribute (trim_start rest) ≡ false →
    ends_opening rest ≡ closes_tag (after_optional 47 (trim_start rest))
opening-none rest e = opening-by rest ∙ ap (λ (o : Option (List ℕ)). opening_by o rest) (attribute-none rest e)

-- it does not matter which whitespace is there, and how much
attribute-white : (xs ys : List ℕ) → begins is_white xs ≡ true → begins is_white ys ≡ true →
    trim_start xs ≡ trim_start ys → after_attribute xs ≡ after_attribute ys
unfolding after_attribute
attribute-white xs ys e f same =
    ap₂
    (λ (x : Bool) (l : List ℕ).
    cond (x && begins begins_attribute l) (after_assignment (after is_attribute_byte l)) None)
    (e ∙ sym f) same

pub opening-white : (xs ys : List ℕ) → begins is_white xs ≡ true → begins is_white ys ≡ true →
    trim_start xs ≡ trim_start ys → ends_opening xs ≡ ends_opening ys
opening-white xs ys e f same =
    opening-by xs
    ∙ ap (λ (o : Option (List ℕ)). opening_by o xs) (attribute-white xs ys e f same)
    ∙ go (after_attribute ys)
    ∙ sym (opening-by ys)
  where
    go : (o : Option (List ℕ)) → opening_by o xs ≡ opening_by o ys
    go None = ap (λ (l : List ℕ). closes_tag (after_optional 47 l)) same
    go (Some more) = refl

-- one more space or tab
begins-following : (seen : Bool) (b : ℕ) (bs : List ℕ) → is_white b ≡ true →
    begins is_white (following_white seen (b ∷ bs)) ≡ true
begins-following true b bs e = refl
begins-following false b bs e = e

following-more : (seen : Bool) (b : ℕ) (bs : List ℕ) → is_white b ≡ true →
    trim_start (following_white seen (b ∷ bs)) ≡ trim_start (following_white true bs)
following-more seen b bs e = trim-following seen (b ∷ bs) ∙ trim-white b bs e ∙ sym (trim-following true bs)

pub opening-more : (seen : Bool) (b : ℕ) (bs : List ℕ) → is_white b ≡ true →
    ends_opening (following_white seen (b ∷ bs)) ≡ ends_opening (following_white true bs)
opening-more seen b bs e =
    opening-white (following_white seen (b ∷ bs)) (32 ∷ bs) (begins-following seen b bs e) refl
    (following-more seen b bs e)

-- The next attribute.

attribute-white_apart : (b : ℕ) → begins_attribute b ≡ true → is_white b ≡ false
attribute-white_apart b e = grind (arith, nat_tests)

attribute-further : (b : ℕ) → begins_attribute b ≡ true → is_attribute_byte b ≡ true
attribute-further b e = grind (arith, nat_tests)

attribute-closes : (b : ℕ) (bs : List ℕ) → begins_attribute b ≡ true → closes_tag (after_optional 47 (b ∷ bs)) ≡ false
attribute-closes b bs e =
    let slash : nat_eq b 47 ≡ false = grind (arith, nat_tests) in
    let last : nat_eq b 62 ≡ false = grind (arith, nat_tests) in
    ap (λ (x : Bool). closes_tag (cond x bs (b ∷ bs))) slash ∙ closes-none (b ∷ bs) last

pub opening-attribute : (b : ℕ) (bs : List ℕ) → begins_attribute b ≡ true →
    ends_opening (32 ∷ b ∷ bs) ≡ then_opening (after_assignment (after is_attribute_byte bs))
opening-attribute b bs e =
    opening-by (32 ∷ b ∷ bs)
    ∙ ap (λ (o : Option (List ℕ)). opening_by o (32 ∷ b ∷ bs))
    (attribute-some (32 ∷ b ∷ bs) refl (ap (begins begins_attribute) trimmed ∙ e)
    ∙ ap (λ (l : List ℕ). after_assignment (after is_attribute_byte l)) trimmed
    ∙ ap after_assignment (after-more is_attribute_byte b bs (attribute-further b e)))
    ∙ go (after_assignment (after is_attribute_byte bs))
  where
    trimmed : trim_start (32 ∷ b ∷ bs) ≡ b ∷ bs
    trimmed = trim-white 32 (b ∷ bs) refl ∙ trim-none (b ∷ bs) (attribute-white_apart b e)

    go : (o : Option (List ℕ)) → opening_by o (32 ∷ b ∷ bs) ≡ then_opening o
    go None = ap (λ (l : List ℕ). closes_tag (after_optional 47 l)) trimmed ∙ attribute-closes b bs e
    go (Some more) = refl

-- where none follows
pub opening-last : (seen : Bool) (bytes : List ℕ) → begins is_white bytes ≡ false →
    begins begins_attribute bytes && seen ≡ false →
    ends_opening (following_white seen bytes) ≡ closes_tag (after_optional 47 bytes)
opening-last seen bytes e f =
    opening-none (following_white seen bytes) (by seen f)
    ∙ ap (λ (l : List ℕ). closes_tag (after_optional 47 l)) (trim-following seen bytes ∙ trim-none bytes e)
  where
    and-true : (x : Bool) → x && true ≡ false → x ≡ false
    and-true true e = e
    and-true false e = refl

    by : (seen : Bool) → begins begins_attribute bytes && seen ≡ false →
        begins is_white (following_white seen bytes) && begins begins_attribute
        (trim_start (following_white seen bytes)) ≡
        false
    by true f =
        ap (begins begins_attribute) (trim-following true bytes ∙ trim-none bytes e)
        ∙ and-true (begins begins_attribute bytes) f
    by false f = ap (λ (x : Bool). x && begins begins_attribute (trim_start bytes)) e

pub opening-slash : (seen : Bool) (bs : List ℕ) → ends_opening (following_white seen (47 ∷ bs)) ≡ closes_tag bs
opening-slash seen bs = opening-last seen (47 ∷ bs) refl refl

pub optional-none : (m : ℕ) (bytes : List ℕ) → begins_with m bytes ≡ false → after_optional m bytes ≡ bytes
optional-none m [] e = refl
optional-none m (b ∷ bs) e = ap (λ (x : Bool). cond x bs (b ∷ bs)) e

-- After the name of an attribute.

assigned : (rest : List ℕ) → begins_with 61 (trim_start rest) ≡ true →
    after_assignment rest ≡ after_value (trim_start (after_optional 61 (trim_start rest)))
unfolding after_assignment
assigned rest e =
    ap (λ (x : Bool). cond x (after_value (trim_start (after_optional 61 (trim_start rest)))) (Some rest)) e

pub unassigned : (rest : List ℕ) → begins_with 61 (trim_start rest) ≡ false → after_assignment rest ≡ Some rest
unfolding after_assignment
unassigned rest e =
    ap (λ (x : Bool). cond x (after_value (trim_start (after_optional 61 (trim_start rest)))) (Some rest)) e

-- more whitespace
pub assignment-more : (seen : Bool) (b : ℕ) (bs : List ℕ) → is_white b ≡ true →
    then_opening (after_assignment (following_white seen (b ∷ bs))) ≡
    then_opening (after_assignment (following_white true bs))
assignment-more seen b bs e = go (begins_with 61 (trim_start (following_white true bs))) refl
  where
    xs : List ℕ
    xs = following_white seen (b ∷ bs)

    same : trim_start xs ≡ trim_start (following_white true bs)
    same = following-more seen b bs e

    go : (x : Bool) → begins_with 61 (trim_start (following_white true bs)) ≡ x →
        then_opening (after_assignment xs) ≡ then_opening (after_assignment (following_white true bs))
    go true k =
        ap then_opening
        (assigned xs (ap (begins_with 61) same ∙ k)
        ∙ ap (λ (l : List ℕ). after_value (trim_start (after_optional 61 l))) same
        ∙ sym (assigned (following_white true bs) k))
    go false k =
        ap then_opening (unassigned xs (ap (begins_with 61) same ∙ k))
        ∙ opening-more seen b bs e
        ∙ sym (ap then_opening (unassigned (following_white true bs) k))

-- `=`
pub assignment-sign : (seen : Bool) (bs : List ℕ) →
    after_assignment (following_white seen (61 ∷ bs)) ≡ after_value (trim_start bs)
assignment-sign seen bs =
    assigned (following_white seen (61 ∷ bs)) (ap (begins_with 61) trimmed)
    ∙ ap (λ (l : List ℕ). after_value (trim_start (after_optional 61 l))) trimmed
  where
    trimmed : trim_start (following_white seen (61 ∷ bs)) ≡ 61 ∷ bs
    trimmed = trim-following seen (61 ∷ bs) ∙ trim-none (61 ∷ bs) refl

-- none
pub assignment-none : (seen : Bool) (bytes : List ℕ) → begins is_white bytes ≡ false → begins_with 61 bytes ≡ false →
    then_opening (after_assignment (following_white seen bytes)) ≡ ends_opening (following_white seen bytes)
assignment-none seen bytes e f =
    ap then_opening
    (unassigned (following_white seen bytes)
    (ap (begins_with 61) (trim-following seen bytes ∙ trim-none bytes e) ∙ f))

-- Values.

pub value-quoted : (b : ℕ) (bs : List ℕ) → (b == 34) || (b == 39) ≡ true → after_value (b ∷ bs) ≡ after_next b bs
unfolding after_value
value-quoted b bs e =
    ap (λ (x : Bool). cond x (after_next b bs) (cond (is_value_byte b) (Some (after is_value_byte bs)) None)) e

pub value-bare : (b : ℕ) (bs : List ℕ) → (b == 34) || (b == 39) ≡ false → is_value_byte b ≡ true →
    after_value (b ∷ bs) ≡ Some (after is_value_byte (b ∷ bs))
unfolding after_value
value-bare b bs e f =
    ap₂ (λ (x y : Bool). cond x (after_next b bs) (cond y (Some (after is_value_byte bs)) None)) e f
    ∙ ap Some (sym (after-more is_value_byte b bs f))

pub value-none : (b : ℕ) (bs : List ℕ) → (b == 34) || (b == 39) ≡ false → is_value_byte b ≡ false →
    after_value (b ∷ bs) ≡ None
unfolding after_value
value-none b bs e f =
    ap₂ (λ (x y : Bool). cond x (after_next b bs) (cond y (Some (after is_value_byte bs)) None)) e f

pub value-empty : after_value [] ≡ None
unfolding after_value
value-empty = refl
