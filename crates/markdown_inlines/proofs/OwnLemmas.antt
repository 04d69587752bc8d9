-- Whether the text between two brackets is a label, by one walk over it.
use Rattle.std.proofs.Common.{◌≡◌, ℕ, suc, ◌+◌, ◌-◌, ◌≤◌, Bool, true, false, cond, ◌&&◌, List, [], ◌∷◌, ◌++◌, length}
use Rattle.std.proofs.Common.{take, Option, Some, None, refl, ap, ◌∙◌, arith}
use Rattle.std.specs.Prelude.{◌||◌, ◌==◌, not, nat_le, count_by, if◌then◌else◌}
use Rattle.std.specs.List.{list_all}
use Rattle.std.proofs.lemmas.Bool.Decides.{nat_tests}
use Rattle.std.proofs.lemmas.List.Sums.{sum_by-cons}
use Rattle.md_meaning.specs.Enclosed.{Broken, Closed, Enclosed, Open, enclosed, with_byte}
use Rattle.md_inlines.specs.Target.{is_label, is_own_label, label_len, length_in}
use Rattle.md_inlines.specs.Characters.{is_gap}
use Rattle.markdown_inlines.specs.Own.{is_whole}
use Rattle.md_inlines.proofs.LabelLemmas.{label_is}

abbrev is_feed : ℕ → Bool
is_feed b = b == 10

-- whether a text has at most so many bytes without its line feeds
abbrev pub short : ℕ → List ℕ → Bool
short left [] = true
short left (b ∷ text) =
    if b == 10 then short left text else if left == 0 then false else short (left - 1) text

count-feeds : (b : ℕ) (text : List ℕ) (t : Bool) → is_feed b ≡ t →
    count_by is_feed (b ∷ text) ≡ cond t 1 0 + count_by is_feed text
count-feeds b text t e =
    sum_by-cons (λ x. cond (is_feed x) 1 0) b text ∙ ap (λ s. cond s 1 0 + count_by is_feed text) e

few-feeds : (text : List ℕ) → count_by is_feed text ≤ length text
few-feeds [] = omega arith
few-feeds (b ∷ text) = go (is_feed b) refl (few-feeds text)
  where
    go : (t : Bool) → is_feed b ≡ t → count_by is_feed text ≤ length text →
        count_by is_feed (b ∷ text) ≤ suc (length text)
    go true e h = omega (arith, h, count-feeds b text true e)
    go false e h = omega (arith, h, count-feeds b text false e)

pub short-none : (left b : ℕ) (text rest : List ℕ) → rest ≡ b ∷ text → (b ≡ 10 → ⊥) → left ≡ 0 →
    short left rest ≡ false
short-none left b text rest is other none =
    let dark : (b == 10) ≡ false = grind (arith, nat_tests) in
    let zero : (left == 0) ≡ true = grind (arith, nat_tests) in
    ap (short left) is
    ∙ ap (λ t. cond t (short left text) (cond (left == 0) false (short (left - 1) text))) dark
    ∙ ap (λ t. cond t false (short (left - 1) text)) zero

pub short-end : (left : ℕ) (rest : List ℕ) → length rest ≡ 0 → short left rest ≡ true
short-end left [] none = refl
short-end left (b ∷ rest) none = absurd (omega (arith, none))

pub short-is : (text : List ℕ) (left : ℕ) →
    short left text ≡ nat_le (length text - count_by is_feed text) left
short-is [] left = grind (arith, nat_tests)
short-is (b ∷ text) left = go (is_feed b) refl (left == 0) refl (short-is text left) (short-is text (left - 1))
  where
    go : (t : Bool) → is_feed b ≡ t → (z : Bool) → (left == 0) ≡ z →
        short left text ≡ nat_le (length text - count_by is_feed text) left →
        short (left - 1) text ≡ nat_le (length text - count_by is_feed text) (left - 1) →
        cond t (short left text) (cond z false (short (left - 1) text)) ≡
        nat_le (suc (length text) - count_by is_feed (b ∷ text)) left
    go true e z f h k =
        let same : length text - count_by is_feed text ≡ suc (length text) - count_by is_feed (b ∷ text) =
        omega (arith, count-feeds b text true e) in
        h ∙ ap (λ n. nat_le n left) same
    go false e true f h k =
        let feeds : count_by is_feed (b ∷ text) ≡ 0 + count_by is_feed text = count-feeds b text false e in
        let few : count_by is_feed text ≤ length text = few-feeds text in
        grind (arith, nat_tests)
    go false e false f h k =
        let feeds : count_by is_feed (b ∷ text) ≡ 0 + count_by is_feed text = count-feeds b text false e in
        let few : count_by is_feed text ≤ length text = few-feeds text in
        let same : nat_le (length text - count_by is_feed text) (left - 1) ≡
        nat_le (suc (length text) - count_by is_feed (b ∷ text)) left = grind (arith, nat_tests) in
        k ∙ same

-- a bracket after a text without a bare one encloses all of it
whole-closed : (escaped : Bool) (text : List ℕ) → is_whole escaped text ≡ true →
    enclosed 91 93 escaped (text ++ 93 ∷ []) ≡ Closed text []
unfolding enclosed
whole-closed true [] h = cc
whole-closed false [] h = refl
whole-closed true (b ∷ text) h = ap (with_byte b) (whole-closed false text h)
whole-closed false (b ∷ text) h = go (b == 93) (b == 91) h (whole-closed (b == 92) text)
  where
    go : (s t : Bool) → cond (s || t) false (is_whole (b == 92) text) ≡ true →
        (is_whole (b == 92) text ≡ true → enclosed 91 93 (b == 92) (text ++ 93 ∷ []) ≡ Closed text []) →
        cond s (Closed [] (text ++ 93 ∷ []))
        (cond t Broken (with_byte b (enclosed 91 93 (b == 92) (text ++ 93 ∷ [])))) ≡
        Closed (b ∷ text) []
    go true t k further = cc
    go false true k further = cc
    go false false k further = ap (with_byte b) (further k)

-- what is enclosed without a byte
with_byte-other : (b n : ℕ) (e : Enclosed) (inside rest : List ℕ) →
    ((t r : List ℕ) → e ≡ Closed t r → length t ≡ n → ⊥) → with_byte b e ≡ Closed inside rest →
    length inside ≡ suc n → ⊥
with_byte-other b n (Closed t r) inside rest h is long =
    let same : b ∷ t ≡ inside = cc in
    h t r refl (omega (arith, ap length same, long))
with_byte-other b n Open inside rest h is long = cc
with_byte-other b n Broken inside rest h is long = cc

-- and one after a text with a bare one does not
broken-other : (escaped : Bool) (text inside rest : List ℕ) → is_whole escaped text ≡ false →
    enclosed 91 93 escaped (text ++ 93 ∷ []) ≡ Closed inside rest → length inside ≡ length text → ⊥
unfolding enclosed
broken-other true [] inside rest h is long = cc
broken-other false [] inside rest h is long = cc
broken-other true (b ∷ text) inside rest h is long =
    with_byte-other b (length text) (enclosed 91 93 false (text ++ 93 ∷ [])) inside rest
    (λ t r. broken-other false text t r h) is long
broken-other false (b ∷ text) inside rest h is long =
    go (b == 93) (b == 91) h is (λ t r k. broken-other (b == 92) text t r k)
  where
    go : (s t : Bool) → cond (s || t) false (is_whole (b == 92) text) ≡ false →
        cond s (Closed [] (text ++ 93 ∷ []))
        (cond t Broken (with_byte b (enclosed 91 93 (b == 92) (text ++ 93 ∷ [])))) ≡
        Closed inside rest →
        ((t r : List ℕ) → is_whole (b == 92) text ≡ false →
        enclosed 91 93 (b == 92) (text ++ 93 ∷ []) ≡ Closed t r → length t ≡ length text → ⊥) → ⊥
    go true t k eq further =
        let none : [] ≡ inside = cc in
        absurd (omega (arith, ap length none, long))
    go false true k eq further = cc
    go false false k eq further =
        with_byte-other b (length text) (enclosed 91 93 (b == 92) (text ++ 93 ∷ [])) inside rest
        (λ x r. further x r k) eq long

take-all : (text more : List ℕ) → take (length text) (text ++ more) ≡ text
take-all [] more = refl
take-all (b ∷ text) more = ap (λ (l : List ℕ). b ∷ l) (take-all text more)

-- what is found, if it is a label, and whether all of a text is one
abbrev label_in : List ℕ → Option ℕ → Option ℕ
label_in text found = elim found as (λ o. Option ℕ) [
  | Some len ↦ cond (is_label (take len (text ++ 93 ∷ []))) (Some len) None
  | None ↦ None
]

abbrev is_all : List ℕ → Option ℕ → Bool
is_all text found = elim found as (λ o. Bool) [ Some len ↦ len == length text | None ↦ false ]

own-by : (text : List ℕ) →
    is_own_label text ≡ is_all text (label_in text (length_in (enclosed 91 93 false (text ++ 93 ∷ []))))
unfolding label_len
own-by text = refl

-- a text between brackets is a label of its own where the last bracket encloses it
own-label : (text : List ℕ) → is_own_label text ≡ (is_whole false text && is_label text)
own-label text = own-by text ∙ go (is_whole false text) refl
  where
    same : (length text == length text) ≡ true
    same = grind (arith, nat_tests)

    whole : (y : Bool) → is_all text (cond y (Some (length text)) None) ≡ y
    whole true = same
    whole false = refl

    inner : (t : List ℕ) → (length t ≡ length text → ⊥) → (y : Bool) →
        is_all text (cond y (Some (length t)) None) ≡ false
    inner t differ true = grind (arith, nat_tests)
    inner t differ false = refl

    other : (e : Enclosed) →
        ((t r : List ℕ) → e ≡ Closed t r → length t ≡ length text → ⊥) →
        is_all text (label_in text (length_in e)) ≡ false
    other (Closed t r) h = inner t (h t r refl) (is_label (take (length t) (text ++ 93 ∷ [])))
    other Open h = refl
    other Broken h = refl

    go : (w : Bool) → is_whole false text ≡ w →
        is_all text (label_in text (length_in (enclosed 91 93 false (text ++ 93 ∷ [])))) ≡ (w && is_label text)
    go true e =
        ap (λ (x : Enclosed). is_all text (label_in text (length_in x))) (whole-closed false text e)
        ∙ whole (is_label (take (length text) (text ++ 93 ∷ [])))
        ∙ ap is_label (take-all text (93 ∷ []))
    go false e =
        other (enclosed 91 93 false (text ++ 93 ∷ [])) (λ t r. broken-other false text t r e)

own-all : (text : List ℕ) → is_own_label text ≡
    (is_whole false text && (not (list_all is_gap text) && nat_le (length text - count_by is_feed text) 999))
own-all text = own-label text ∙ ap (λ t. is_whole false text && t) (label_is text)

and-false : (x y : Bool) → (x && (y && false)) ≡ false
and-false true true = refl
and-false true false = refl
and-false false y = refl

pub own-long : (text : List ℕ) → nat_le (length text - count_by is_feed text) 999 ≡ false →
    is_own_label text ≡ false
own-long text h =
    own-all text ∙ ap (λ t. is_whole false text && (not (list_all is_gap text) && t)) h
    ∙ and-false (is_whole false text) (not (list_all is_gap text))

pub own-broken : (text : List ℕ) → is_whole false text ≡ false → is_own_label text ≡ false
own-broken text h =
    own-all text
    ∙ ap (λ t. t && (not (list_all is_gap text) && nat_le (length text - count_by is_feed text) 999)) h

and-true : (x : Bool) → (x && true) ≡ x
and-true true = refl
and-true false = refl

pub own-is : (text : List ℕ) → nat_le (length text - count_by is_feed text) 999 ≡ true →
    is_whole false text ≡ true → is_own_label text ≡ not (list_all is_gap text)
own-is text h k =
    own-all text
    ∙ ap (λ t. t && (not (list_all is_gap text) && nat_le (length text - count_by is_feed text) 999)) k
    ∙ ap (λ t. not (list_all is_gap text) && t) h ∙ and-true (not (list_all is_gap text))
