-- HTML does not see how wide whitespace is: two lists of bytes that differ in that alone begin the same kinds, and hold
-- the same ends.
use Rattle.std.proofs.Common.{◌≡◌, ℕ, zero, suc, ◌<◌, ◌≤◌, Bool, true, false, cond, ◌&&◌, ◌||◌, nat_eq, List, []}
use Rattle.std.proofs.Common.{◌∷◌, length, take, drop, codes, Option, Some, None, refl, sym, ap, ap₂, ◌∙◌, subst, arith}
use Rattle.std.specs.Prelude.{◌==◌, not}
use Rattle.std.specs.Char.{is_ascii_alphabetic, to_ascii_lowercase}
use Rattle.std.specs.Cmp.Derive.Mapped.{pointwise-map}
use Rattle.std.specs.Cmp.Lexicographic.{pointwise}
use Rattle.std.specs.List.{list_all, list_any, starts_with, take_while}
use Rattle.std.proofs.lemmas.Bool.{and_parts, eqb-true}
use Rattle.std.proofs.lemmas.Bool.Decides.{nat_tests}
use Rattle.std.proofs.lemmas.List.Sums.{take_while-cons}
use Rattle.md_meaning.specs.Bytes.{after, after_optional, begins}
use Rattle.md_meaning.specs.Html.{HtmlKind, Raw, Comment, Instruction, Declaration, Cdata, Basic, Complete}
use Rattle.md_meaning.specs.Html.{after_assignment, after_attribute, after_attributes, after_next, after_value}
use Rattle.md_meaning.specs.Html.{begins_attribute, begins_basic, begins_complete, begins_raw, closes_tag, ends_name}
use Rattle.md_meaning.specs.Html.{ends_opening, holds, holds_word, html_ends, html_kind, is_attribute_byte}
use Rattle.md_meaning.specs.Html.{is_basic_name, is_raw_end, is_raw_name, is_tag_byte, is_value_byte, kind_after}
use Rattle.md_meaning.specs.Html.{raw_ends, starts_in_any_case}
use Rattle.md_meaning.specs.Lines.{begins_with}
use Rattle.md_meaning.specs.Rest.{is_blank, is_parted, is_white, trim_start}
use Rattle.md_meaning.proofs.HtmlLemmas.{after_attributes-some, length-after_attribute}
use Rattle.md_events.proofs.RestLines.{count-none}
use Rattle.md_literal.proofs.HtmlKinds.{after-more}

-- the same bytes, but that runs of whitespace may be longer in the second list
pub data Wide : List ℕ → List ℕ → Type 0 where
  ended : Wide [] []
  byte : (b : ℕ) (bs cs : List ℕ) → is_white b ≡ false → Wide bs cs → Wide (b ∷ bs) (b ∷ cs)
  white : (a b : ℕ) (bs cs : List ℕ) → is_white a ≡ true → is_white b ≡ true → Wide bs cs → Wide (a ∷ bs) (b ∷ cs)
  wider : (a b : ℕ) (bs cs : List ℕ) → is_white a ≡ true → is_white b ≡ true → Wide (a ∷ bs) cs →
      Wide (a ∷ bs) (b ∷ cs)

wide-by : (xs ys cs ds : List ℕ) → xs ≡ cs → ys ≡ ds → Wide cs ds → Wide xs ys
wide-by xs ys cs ds e f h = subst (λ (l : List ℕ). Wide l ys) (sym e) (subst (Wide cs) (sym f) h)

-- Tests of a byte.

-- what a test says of whitespace
abbrev pub OfWhite : (ℕ → Bool) → Bool → Type 0
OfWhite t x = (b : ℕ) → is_white b ≡ true → t b ≡ x

pub of-white : (t : ℕ → Bool) (x : Bool) → t 32 ≡ x → t 9 ≡ x → OfWhite t x
of-white t x e f b w = go (b == 32) refl w
  where
    go : (s : Bool) → (b == 32) ≡ s → (s || (b == 9)) ≡ true → t b ≡ x
    go true k w = ap t (eqb-true b 32 k) ∙ e
    go false k w = ap t (eqb-true b 9 w) ∙ f

no-white : (m : ℕ) → is_white m ≡ false → OfWhite (λ b. b == m) false
no-white m d b w = grind (arith, nat_tests)

-- What comes first.

wide-begins : (t : ℕ → Bool) (x : Bool) → OfWhite t x → {xs ys : List ℕ} → Wide xs ys → begins t xs ≡ begins t ys
wide-begins t x e ended = refl
wide-begins t x e (byte b bs cs d h) = refl
wide-begins t x e (white a b bs cs p q h) = e a p ∙ sym (e b q)
wide-begins t x e (wider a b bs cs p q h) = e a p ∙ sym (e b q)

begins-same : (m : ℕ) (bytes : List ℕ) → begins_with m bytes ≡ begins (λ b. b == m) bytes
begins-same m [] = refl
begins-same m (b ∷ bs) = refl

wide-begins_with : (m : ℕ) → is_white m ≡ false → (xs ys : List ℕ) → Wide xs ys →
    begins_with m xs ≡ begins_with m ys
wide-begins_with m d xs ys h =
    begins-same m xs ∙ wide-begins (λ b. b == m) false (no-white m d) h ∙ sym (begins-same m ys)

wide-parted : {xs ys : List ℕ} → Wide xs ys → is_parted xs ≡ is_parted ys
wide-parted ended = refl
wide-parted (byte b bs cs d h) = refl
wide-parted (white a b bs cs p q h) = p ∙ sym q
wide-parted (wider a b bs cs p q h) = p ∙ sym q

wide-blank : {xs ys : List ℕ} → Wide xs ys → is_blank xs ≡ is_blank ys
wide-blank ended = refl
wide-blank (byte b bs cs d h) = ap (λ (t : Bool). is_white b && t) (wide-blank h)
wide-blank (white a b bs cs p q h) = ap₂ (λ (s t : Bool). s && t) (p ∙ sym q) (wide-blank h)
wide-blank (wider a b bs cs p q h) = wide-blank h ∙ ap (λ (t : Bool). t && is_blank cs) (sym q)

-- What follows.

after-none : (t : ℕ → Bool) (b : ℕ) (bs : List ℕ) → t b ≡ false → after t (b ∷ bs) ≡ b ∷ bs
after-none t b bs e = ap (λ (n : ℕ). drop n (b ∷ bs)) (count-none t b bs e)

wide-after : (t : ℕ → Bool) (x : Bool) → OfWhite t x → {xs ys : List ℕ} → Wide xs ys →
    Wide (after t xs) (after t ys)
wide-after t x e ended = ended
wide-after t x e (byte b bs cs d h) = go (t b) refl (wide-after t x e h)
  where
    go : (y : Bool) → t b ≡ y → Wide (after t bs) (after t cs) → Wide (after t (b ∷ bs)) (after t (b ∷ cs))
    go true f next = wide-by _ _ _ _ (after-more t b bs f) (after-more t b cs f) next
    go false f next = wide-by _ _ _ _ (after-none t b bs f) (after-none t b cs f) (byte b bs cs d h)
wide-after t true e (white a b bs cs p q h) =
    wide-by _ _ _ _ (after-more t a bs (e a p)) (after-more t b cs (e b q)) (wide-after t true e h)
wide-after t false e (white a b bs cs p q h) =
    wide-by _ _ _ _ (after-none t a bs (e a p)) (after-none t b cs (e b q)) (white a b bs cs p q h)
wide-after t true e (wider a b bs cs p q h) =
    wide-by _ _ _ _ refl (after-more t b cs (e b q)) (wide-after t true e h)
wide-after t false e (wider a b bs cs p q h) =
    wide-by _ _ _ _ (after-none t a bs (e a p)) (after-none t b cs (e b q)) (wider a b bs cs p q h)

wide-trim : {xs ys : List ℕ} → Wide xs ys → Wide (trim_start xs) (trim_start ys)
wide-trim h = wide-after is_white true (λ b w. w) h

taken-none : (t : ℕ → Bool) (b : ℕ) (bs : List ℕ) → t b ≡ false → take_while t (b ∷ bs) ≡ []
taken-none t b bs e = take_while-cons t b bs ∙ ap (λ (x : Bool). cond x (b ∷ take_while t bs) []) e

wide-taken : (t : ℕ → Bool) → OfWhite t false → {xs ys : List ℕ} → Wide xs ys → take_while t xs ≡ take_while t ys
wide-taken t e ended = refl
wide-taken t e (byte b bs cs d h) =
    take_while-cons t b bs ∙ ap (λ (l : List ℕ). cond (t b) (b ∷ l) []) (wide-taken t e h)
    ∙ sym (take_while-cons t b cs)
wide-taken t e (white a b bs cs p q h) = taken-none t a bs (e a p) ∙ sym (taken-none t b cs (e b q))
wide-taken t e (wider a b bs cs p q h) = taken-none t a bs (e a p) ∙ sym (taken-none t b cs (e b q))

optional-none : (m b : ℕ) (bs : List ℕ) → (b == m) ≡ false → after_optional m (b ∷ bs) ≡ b ∷ bs
optional-none m b bs e = ap (λ (x : Bool). cond x bs (b ∷ bs)) e

wide-optional : (m : ℕ) → is_white m ≡ false → {xs ys : List ℕ} → Wide xs ys →
    Wide (after_optional m xs) (after_optional m ys)
wide-optional m d ended = ended
wide-optional m d (byte b bs cs e h) = go (b == m)
  where
    go : (x : Bool) → Wide (cond x bs (b ∷ bs)) (cond x cs (b ∷ cs))
    go true = h
    go false = byte b bs cs e h
wide-optional m d (white a b bs cs p q h) =
    wide-by _ _ _ _ (optional-none m a bs (no-white m d a p)) (optional-none m b cs (no-white m d b q))
    (white a b bs cs p q h)
wide-optional m d (wider a b bs cs p q h) =
    wide-by _ _ _ _ (optional-none m a bs (no-white m d a p)) (optional-none m b cs (no-white m d b q))
    (wider a b bs cs p q h)

-- what follows something, if it is there
abbrev BothWide : Option (List ℕ) → Option (List ℕ) → Type 0
BothWide None None = Unit {0}
BothWide None (Some ys) = ⊥
BothWide (Some xs) None = ⊥
BothWide (Some xs) (Some ys) = Wide xs ys

both-by : (xs ys cs ds : Option (List ℕ)) → xs ≡ cs → ys ≡ ds → BothWide cs ds → BothWide xs ys
both-by xs ys cs ds e f h =
    subst (λ (o : Option (List ℕ)). BothWide o ys) (sym e) (subst (BothWide cs) (sym f) h)

next-none : (m b : ℕ) (bs : List ℕ) → (b == m) ≡ false → after_next m (b ∷ bs) ≡ after_next m bs
next-none m b bs e = ap (λ (x : Bool). cond x (Some bs) (after_next m bs)) e

wide-next : (m : ℕ) → is_white m ≡ false → {xs ys : List ℕ} → Wide xs ys →
    BothWide (after_next m xs) (after_next m ys)
wide-next m d ended = tt
wide-next m d (byte b bs cs e h) = go (b == m) (wide-next m d h)
  where
    go : (x : Bool) → BothWide (after_next m bs) (after_next m cs) →
        BothWide (cond x (Some bs) (after_next m bs)) (cond x (Some cs) (after_next m cs))
    go true next = h
    go false next = next
wide-next m d (white a b bs cs p q h) =
    both-by _ _ _ _ (next-none m a bs (no-white m d a p)) (next-none m b cs (no-white m d b q)) (wide-next m d h)
wide-next m d (wider a b bs cs p q h) =
    both-by _ _ _ _ refl (next-none m b cs (no-white m d b q)) (wide-next m d h)

-- no value begins with whitespace
value-none : (b : ℕ) (bs : List ℕ) → is_white b ≡ true → after_value (b ∷ bs) ≡ None
unfolding after_value
value-none b bs w =
    ap₂ (λ (quoted bare : Bool). cond quoted (after_next b bs) (cond bare (Some (after is_value_byte bs)) None))
    (of-white (λ c. (c == 34) || (c == 39)) false refl refl b w) (of-white is_value_byte false refl refl b w)

wide-value : {xs ys : List ℕ} → Wide xs ys → BothWide (after_value xs) (after_value ys)
unfolding after_value
wide-value ended = tt
wide-value (byte b bs cs e h) = go ((b == 34) || (b == 39)) (is_value_byte b)
  where
    go : (quoted bare : Bool) →
        BothWide (cond quoted (after_next b bs) (cond bare (Some (after is_value_byte bs)) None))
        (cond quoted (after_next b cs) (cond bare (Some (after is_value_byte cs)) None))
    go true bare = wide-next b e h
    go false true = wide-after is_value_byte false (of-white is_value_byte false refl refl) h
    go false false = tt
wide-value (white a b bs cs p q h) = both-by _ _ None None (value-none a bs p) (value-none b cs q) tt
wide-value (wider a b bs cs p q h) = both-by _ _ None None (value-none a bs p) (value-none b cs q) tt

wide-assignment : (xs ys : List ℕ) → Wide xs ys → BothWide (after_assignment xs) (after_assignment ys)
unfolding after_assignment
wide-assignment xs ys h =
    rw (wide-begins_with 61 refl (trim_start xs) (trim_start ys) (wide-trim h)) (go (begins_with 61 (trim_start ys)))
  where
    go : (x : Bool) →
        BothWide (cond x (after_value (trim_start (after_optional 61 (trim_start xs)))) (Some xs))
        (cond x (after_value (trim_start (after_optional 61 (trim_start ys)))) (Some ys))
    go true = wide-value (wide-trim (wide-optional 61 refl (wide-trim h)))
    go false = h

wide-attribute : (xs ys : List ℕ) → Wide xs ys → BothWide (after_attribute xs) (after_attribute ys)
unfolding after_attribute
wide-attribute xs ys h =
    rw (
      wide-begins is_white true (λ b w. w) h,
      wide-begins begins_attribute false (of-white begins_attribute false refl refl) (wide-trim h),
    )
    (go (begins is_white ys && begins begins_attribute (trim_start ys)))
  where
    go : (x : Bool) →
        BothWide (cond x (after_assignment (after is_attribute_byte (trim_start xs))) None)
        (cond x (after_assignment (after is_attribute_byte (trim_start ys))) None)
    go true =
        wide-assignment _ _
        (wide-after is_attribute_byte false (of-white is_attribute_byte false refl refl) (wide-trim h))
    go false = tt

attributes-none : (n : ℕ) (xs : List ℕ) → after_attribute xs ≡ None → after_attributes n xs ≡ xs
attributes-none zero xs e = refl
attributes-none (suc n) xs e = rw (e, after_attributes) refl

-- one attribute, and what follows it
attributes-step : (xs ys : List ℕ) → Wide xs ys →
    ((cs ds : List ℕ) → length ds < length ys → Wide cs ds →
    Wide (after_attributes (length cs) cs) (after_attributes (length ds) ds)) →
    (x y : Option (List ℕ)) → after_attribute xs ≡ x → after_attribute ys ≡ y → BothWide x y →
    Wide (after_attributes (length xs) xs) (after_attributes (length ys) ys)
attributes-step xs ys h fewer None None e f both =
    wide-by _ _ _ _ (attributes-none (length xs) xs e) (attributes-none (length ys) ys f) h
attributes-step xs ys h fewer None (Some y) e f both = absurd both
attributes-step xs ys h fewer (Some x) None e f both = absurd both
attributes-step xs ys h fewer (Some x) (Some y) e f both =
    wide-by _ _ _ _ (after_attributes-some xs x e) (after_attributes-some ys y f)
    (fewer x y (length-after_attribute ys y f) both)

-- there is an end to attributes, since what follows one is shorter
attributes-walk : (n : ℕ) (xs ys : List ℕ) → length ys ≤ n → Wide xs ys →
    Wide (after_attributes (length xs) xs) (after_attributes (length ys) ys)
attributes-walk zero xs ys le h =
    attributes-step xs ys h (λ cs ds lt k. absurd (omega (arith, lt, le))) (after_attribute xs) (after_attribute ys)
    refl refl (wide-attribute xs ys h)
attributes-walk (suc n) xs ys le h =
    attributes-step xs ys h (λ cs ds lt k. attributes-walk n cs ds (omega (arith, lt, le)) k) (after_attribute xs)
    (after_attribute ys) refl refl (wide-attribute xs ys h)

wide-closes : {xs ys : List ℕ} → Wide xs ys → closes_tag xs ≡ closes_tag ys
wide-closes {xs} {ys} h =
    ap₂ (λ (s t : Bool). s && t) (wide-begins_with 62 refl xs ys h) (wide-blank (wide-optional 62 refl h))

wide-opening : (xs ys : List ℕ) → Wide xs ys → ends_opening xs ≡ ends_opening ys
unfolding ends_opening
wide-opening xs ys h =
    wide-closes (wide-optional 47 refl (wide-trim (attributes-walk (length ys) xs ys (omega arith) h)))

-- Words.

-- whether no whitespace is the same as this byte
abbrev is_apart : (ℕ → ℕ → Bool) → ℕ → Bool
is_apart e w = not (e w 32) && not (e w 9)

not-true : (x : Bool) → not x ≡ true → x ≡ false
not-true false h = refl
not-true true h = cc

apart-white : (e : ℕ → ℕ → Bool) (w : ℕ) → is_apart e w ≡ true → OfWhite (e w) false
apart-white e w h =
    let both = and_parts (not (e w 32)) (not (e w 9)) h in
    of-white (e w) false (not-true (e w 32) both.0) (not-true (e w 9) both.1)

-- no word begins with whitespace
starts-none : (e : ℕ → ℕ → Bool) (w : ℕ) (ws : List ℕ) → is_apart e w ≡ true → (b : ℕ) (bs : List ℕ) →
    is_white b ≡ true → starts_with e (b ∷ bs) (w ∷ ws) ≡ false
starts-none e w ws h b bs p =
    ap (λ (t : Bool). t && pointwise e ws (take (length ws) bs)) (apart-white e w h b p)

wide-starts : (e : ℕ → ℕ → Bool) (word : List ℕ) → list_all (is_apart e) word ≡ true → {xs ys : List ℕ} → Wide xs ys →
    starts_with e xs word ≡ starts_with e ys word
wide-starts e [] k h = refl
wide-starts e (w ∷ ws) k ended = refl
wide-starts e (w ∷ ws) k (byte b bs cs d h) =
    ap (λ (t : Bool). e w b && t) (wide-starts e ws (and_parts (is_apart e w) (list_all (is_apart e) ws) k).1 h)
wide-starts e (w ∷ ws) k (white a b bs cs p q h) =
    let one = (and_parts (is_apart e w) (list_all (is_apart e) ws) k).0 in
    starts-none e w ws one a bs p ∙ sym (starts-none e w ws one b cs q)
wide-starts e (w ∷ ws) k (wider a b bs cs p q h) =
    let one = (and_parts (is_apart e w) (list_all (is_apart e) ws) k).0 in
    starts-none e w ws one a bs p ∙ sym (starts-none e w ws one b cs q)

-- The seven kinds.

wide-ends_name : {xs ys : List ℕ} → Wide xs ys → ends_name xs ≡ ends_name ys
wide-ends_name {xs} {ys} h =
    ap₂ (λ (s t : Bool). s || t) (wide-parted h) (wide-begins_with 62 refl xs ys h)

tag-white : OfWhite is_tag_byte false
tag-white = of-white is_tag_byte false refl refl

wide-raw : (xs ys : List ℕ) → Wide xs ys → begins_raw xs ≡ begins_raw ys
unfolding begins_raw
wide-raw xs ys h =
    ap₂ (λ (s t : Bool). s && t) (ap is_raw_name (wide-taken is_tag_byte tag-white h))
    (wide-ends_name (wide-after is_tag_byte false tag-white h))

wide-basic : (xs ys : List ℕ) → Wide xs ys → begins_basic xs ≡ begins_basic ys
unfolding begins_basic
wide-basic xs ys h =
    let following = wide-after is_tag_byte false tag-white h in
    ap₂ (λ (s t : Bool). s && t) (ap is_basic_name (wide-taken is_tag_byte tag-white h))
    (ap₂ (λ (s t : Bool). s || t) (wide-ends_name following) (wide-starts nat_eq (codes "/>") refl following))

alphabetic-white : OfWhite is_ascii_alphabetic false
alphabetic-white = of-white is_ascii_alphabetic false refl refl

complete-none : (b : ℕ) (bs : List ℕ) → is_white b ≡ true → begins_complete (b ∷ bs) ≡ false
unfolding begins_complete
complete-none b bs w =
    ap₂
    (λ (x y : Bool).
    cond x (begins is_ascii_alphabetic bs && closes_tag (trim_start (after is_tag_byte bs)))
    (y && ends_opening (after is_tag_byte bs)))
    (no-white 47 refl b w) (alphabetic-white b w)

wide-complete : {xs ys : List ℕ} → Wide xs ys → begins_complete xs ≡ begins_complete ys
unfolding begins_complete
wide-complete ended = refl
wide-complete (byte b bs cs d h) =
    let following = wide-after is_tag_byte false tag-white h in
    ap₂ (λ (closing opening : Bool). cond (b == 47) closing (is_ascii_alphabetic b && opening))
    (ap₂ (λ (s t : Bool). s && t) (wide-begins is_ascii_alphabetic false alphabetic-white h)
    (wide-closes (wide-trim following)))
    (wide-opening _ _ following)
wide-complete (white a b bs cs p q h) = complete-none a bs p ∙ sym (complete-none b cs q)
wide-complete (wider a b bs cs p q h) = complete-none a bs p ∙ sym (complete-none b cs q)

-- the kind by what begins
abbrev kind_by : Bool → Bool → Bool → Bool → Bool → Bool → Bool → Option HtmlKind
kind_by raw comment instruction declaration cdata basic complete =
    cond raw (Some Raw)
    (cond comment (Some Comment)
    (cond instruction (Some Instruction)
    (cond declaration (Some Declaration)
    (cond cdata (Some Cdata) (cond basic (Some Basic) (cond complete (Some Complete) None))))))

kinds-same : (a b c d e f g s t u v w x y : Bool) → a ≡ s → b ≡ t → c ≡ u → d ≡ v → e ≡ w → f ≡ x → g ≡ y →
    kind_by a b c d e f g ≡ kind_by s t u v w x y
kinds-same a b c d e f g s t u v w x y h i j k l m n = rw (h, i, j, k, l, m, n) refl

wide-kind_after : (xs ys : List ℕ) → Wide xs ys → kind_after xs ≡ kind_after ys
unfolding kind_after
wide-kind_after xs ys h =
    kinds-same _ _ _ _ _ _ _ _ _ _ _ _ _ _ (wide-raw xs ys h) (wide-starts nat_eq (codes "!--") refl h)
    (wide-starts nat_eq (codes "?") refl h)
    (ap₂ (λ (s t : Bool). s && t) (wide-starts nat_eq (codes "!") refl h)
    (wide-begins is_ascii_alphabetic false alphabetic-white (wide-optional 33 refl h)))
    (wide-starts nat_eq (codes "![CDATA[") refl h) (wide-basic _ _ (wide-optional 47 refl h)) (wide-complete h)

-- no kind begins with whitespace
pub kind-none : (b : ℕ) (bs : List ℕ) → is_white b ≡ true → html_kind (b ∷ bs) ≡ None
unfolding html_kind
kind-none b bs w = ap (λ (x : Bool). cond x (kind_after bs) None) (no-white 60 refl b w)

pub wide-kind : {xs ys : List ℕ} → Wide xs ys → html_kind xs ≡ html_kind ys
unfolding html_kind
wide-kind ended = refl
wide-kind (byte b bs cs d h) =
    ap (λ (o : Option HtmlKind). cond (b == 60) o None) (wide-kind_after bs cs h)
wide-kind (white a b bs cs p q h) = kind-none a bs p ∙ sym (kind-none b cs q)
wide-kind (wider a b bs cs p q h) = kind-none a bs p ∙ sym (kind-none b cs q)

-- Ends.

-- a test of a line that whitespace in front does not matter to, and how wide it is inside does not
pub record Blind (f : List ℕ → Bool) : Type 0 where
  pub same : (xs ys : List ℕ) → Wide xs ys → f xs ≡ f ys
  pub skips : (b : ℕ) (ys : List ℕ) → is_white b ≡ true → f (b ∷ ys) ≡ f ys

pub blind-trim : (f : List ℕ → Bool) → Blind f → (bytes : List ℕ) → f (trim_start bytes) ≡ f bytes
blind-trim f k [] = refl
blind-trim f k (b ∷ bs) = go (is_white b) refl (blind-trim f k bs)
  where
    go : (x : Bool) → is_white b ≡ x → f (trim_start bs) ≡ f bs → f (trim_start (b ∷ bs)) ≡ f (b ∷ bs)
    go true w next = ap f (after-more is_white b bs w) ∙ next ∙ sym (k.skips b bs w)
    go false w next = ap f (after-none is_white b bs w)

-- what passes from some byte on, where that is none of whitespace
holds-wide : (test : List ℕ → Bool) → ((xs ys : List ℕ) → Wide xs ys → test xs ≡ test ys) →
    ((b : ℕ) (ys : List ℕ) → is_white b ≡ true → test (b ∷ ys) ≡ false) → {xs ys : List ℕ} → Wide xs ys →
    holds test xs ≡ holds test ys
holds-wide test same none ended = refl
holds-wide test same none (byte b bs cs d h) =
    ap₂ (λ (s t : Bool). s || t) (same _ _ (byte b bs cs d h)) (holds-wide test same none h)
holds-wide test same none (white a b bs cs p q h) =
    ap₂ (λ (s t : Bool). s || t) (none a bs p ∙ sym (none b cs q)) (holds-wide test same none h)
holds-wide test same none (wider a b bs cs p q h) =
    holds-wide test same none h ∙ ap (λ (t : Bool). t || holds test cs) (sym (none b cs q))

holds-blind : (test : List ℕ → Bool) → ((xs ys : List ℕ) → Wide xs ys → test xs ≡ test ys) →
    ((b : ℕ) (ys : List ℕ) → is_white b ≡ true → test (b ∷ ys) ≡ false) → Blind (holds test)
holds-blind test same none = record {
  same = λ xs ys h. holds-wide test same none h;
  skips = λ b ys w. ap (λ (t : Bool). t || holds test ys) (none b ys w);
}

word-blind : (w : ℕ) (ws : List ℕ) → list_all (is_apart nat_eq) (w ∷ ws) ≡ true → Blind (holds_word (w ∷ ws))
word-blind w ws h =
    holds-blind (λ rest. starts_with nat_eq rest (w ∷ ws)) (λ xs ys k. wide-starts nat_eq (w ∷ ws) h k)
    (starts-none nat_eq w ws (and_parts (is_apart nat_eq w) (list_all (is_apart nat_eq) ws) h).0)

-- one of several words, in any ASCII case
abbrev same_letter : ℕ → ℕ → Bool
same_letter a b = nat_eq (to_ascii_lowercase a) (to_ascii_lowercase b)

any-case : (rest word : List ℕ) → starts_in_any_case rest word ≡ starts_with same_letter rest word
any-case rest word = pointwise-map to_ascii_lowercase nat_eq word (take (length word) rest)

abbrev is_word : List ℕ → Bool
is_word [] = false
is_word (w ∷ ws) = list_all (is_apart same_letter) (w ∷ ws)

any-wide : (words : List (List ℕ)) → list_all is_word words ≡ true → (xs ys : List ℕ) → Wide xs ys →
    list_any (λ word. starts_in_any_case xs word) words ≡ list_any (λ word. starts_in_any_case ys word) words
any-wide [] k xs ys h = refl
any-wide ([] ∷ words) k xs ys h = cc
any-wide ((w ∷ ws) ∷ words) k xs ys h =
    let both = and_parts (is_word (w ∷ ws)) (list_all is_word words) k in
    ap₂ (λ (s t : Bool). s || t)
    (any-case xs (w ∷ ws) ∙ wide-starts same_letter (w ∷ ws) both.0 h ∙ sym (any-case ys (w ∷ ws)))
    (any-wide words both.1 xs ys h)

any-none : (words : List (List ℕ)) → list_all is_word words ≡ true → (b : ℕ) (bs : List ℕ) → is_white b ≡ true →
    list_any (λ word. starts_in_any_case (b ∷ bs) word) words ≡ false
any-none [] k b bs h = refl
any-none ([] ∷ words) k b bs h = cc
any-none ((w ∷ ws) ∷ words) k b bs h =
    let both = and_parts (is_word (w ∷ ws)) (list_all is_word words) k in
    let one = and_parts (is_apart same_letter w) (list_all (is_apart same_letter) ws) both.0 in
    ap₂ (λ (s t : Bool). s || t)
    (any-case (b ∷ bs) (w ∷ ws) ∙ starts-none same_letter w ws one.0 b bs h) (any-none words both.1 b bs h)

raw-blind : Blind (holds is_raw_end)
unfolding is_raw_end
raw-blind = holds-blind is_raw_end (any-wide raw_ends refl) (any-none raw_ends refl)

-- an end has no whitespace
pub ends-blind : (kind : HtmlKind) → Blind (html_ends kind)
unfolding html_ends
ends-blind Raw = raw-blind
ends-blind Comment = word-blind 45 (45 ∷ 62 ∷ []) refl
ends-blind Instruction = word-blind 63 (62 ∷ []) refl
ends-blind Declaration = word-blind 62 [] refl
ends-blind Cdata = word-blind 93 (93 ∷ 62 ∷ []) refl
ends-blind Basic = record { same = λ xs ys h. refl; skips = λ b ys w. refl }
ends-blind Complete = record { same = λ xs ys h. refl; skips = λ b ys w. refl }
