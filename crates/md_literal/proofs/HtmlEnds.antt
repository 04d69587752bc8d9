-- The ends of HTML in a line (CommonMark 4.6), by what was read of it.
use Rattle.std.proofs.Common.{◌≡◌, ◌⊎◌, inl, inr, ℕ, ◌+◌, Bool, true, false, cond, ◌&&◌, ◌||◌, nat_eq}
use Rattle.std.proofs.Common.{nat_lt, nat_le, List, [], ◌∷◌, ◌++◌, map, refl, sym, ◌∙◌, ap, arith}
use Rattle.std.specs.List.{list_all, list_any}
use Rattle.std.specs.Char.{is_ascii_alphabetic, to_ascii_lowercase}
use Rattle.std.specs.Str.{str_eq_ignore_ascii_case}
use Rattle.std.proofs.lemmas.Bool.{and_parts, eqb-true}
use Rattle.std.proofs.lemmas.Bool.Decides.{nat_tests}
use Rattle.md_meaning.specs.Bytes.{begins}
use Rattle.md_meaning.specs.Html.{html_ends, holds, is_name_of, is_raw_end, is_raw_name, raw_names, starts_in_any_case}
use Rattle.md_literal.specs.Html.{IsStop, are_letters}
use Rattle.md_literal.specs.HtmlRule.{ends_by, stops}

-- Bytes in any ASCII case.

nat_eq-swap : (a b : ℕ) (x : Bool) → nat_eq a b ≡ x → nat_eq b a ≡ x
nat_eq-swap a b true e = grind (arith, nat_tests)
nat_eq-swap a b false e = grind (arith, nat_tests)

-- a byte below the letters is no other in lower case
low-eq : (m b : ℕ) → nat_lt m 65 ≡ true → nat_eq m (to_ascii_lowercase b) ≡ nat_eq b m
low-eq m b low = go (nat_lt b 65) (nat_lt b 91) refl refl
  where
    go : (x y : Bool) → nat_lt b 65 ≡ x → nat_lt b 91 ≡ y → nat_eq m (cond x b (cond y (b + 32) b)) ≡ nat_eq b m
    go true y e f = nat_eq-swap b m (nat_eq b m) refl
    go false true e f =
        let one : nat_eq m (b + 32) ≡ false = grind (arith, nat_tests) in
        let two : nat_eq b m ≡ false = grind (arith, nat_tests) in
        one ∙ sym two
    go false false e f = nat_eq-swap b m (nat_eq b m) refl

-- a letter is one in lower case too, and nothing else is
alpha-lower : (b : ℕ) → is_ascii_alphabetic (to_ascii_lowercase b) ≡ is_ascii_alphabetic b
alpha-lower b = go (nat_lt b 65) (nat_lt b 91) refl refl
  where
    go : (x y : Bool) → nat_lt b 65 ≡ x → nat_lt b 91 ≡ y →
        is_ascii_alphabetic (cond x b (cond y (b + 32) b)) ≡ is_ascii_alphabetic b
    go true y e f = refl
    go false true e f =
        let a : nat_le 65 b ≡ true = grind (arith, nat_tests) in
        let c : nat_le b 90 ≡ true = grind (arith, nat_tests) in
        let d : nat_le 97 (b + 32) ≡ true = grind (arith, nat_tests) in
        let g : nat_le (b + 32) 122 ≡ true = grind (arith, nat_tests) in
        let h : nat_le (b + 32) 90 ≡ false = grind (arith, nat_tests) in
        let i : nat_le 65 (b + 32) ≡ true = grind (arith, nat_tests) in
        rw (a, c, d, g, h, i) refl
    go false false e f = refl

-- a byte is none of which the test says another
pub other-byte : (t : ℕ → Bool) (a b : ℕ) → t a ≡ true → t b ≡ false → nat_eq a b ≡ false
other-byte t a b e f = go (nat_eq a b) refl
  where
    go : (x : Bool) → nat_eq a b ≡ x → x ≡ false
    go false k = refl
    go true k = let same : t a ≡ t b = ap t (eqb-true a b k) in cc

letter-other : (a b : ℕ) → is_ascii_alphabetic a ≡ true → is_ascii_alphabetic b ≡ false →
    nat_eq (to_ascii_lowercase a) (to_ascii_lowercase b) ≡ false
letter-other a b e f =
    other-byte is_ascii_alphabetic (to_ascii_lowercase a) (to_ascii_lowercase b) (alpha-lower a ∙ e) (alpha-lower b ∙ f)

-- A closing tag of kind 1.

abbrev end_tag : List ℕ → List ℕ
end_tag name = 60 ∷ 47 ∷ name ++ 62 ∷ []

-- a name with `>` after it is here if this is the name, and `>` follows
name-ends : (known name rest : List ℕ) → are_letters known ≡ true → are_letters name ≡ true →
    begins is_ascii_alphabetic rest ≡ false →
    starts_in_any_case (name ++ rest) (known ++ 62 ∷ []) ≡
    str_eq_ignore_ascii_case known name && begins (λ b. nat_eq b 62) rest
name-ends [] [] [] e f g = refl
name-ends [] [] (b ∷ bs) e f g = rw (low-eq 62 b refl) (go (nat_eq b 62))
  where
    go : (x : Bool) → x && true ≡ x
    go true = refl
    go false = refl
name-ends [] (x ∷ xs) rest e f g =
    let letter = (and_parts (is_ascii_alphabetic x) (are_letters xs) f).0 in
    rw (low-eq 62 x refl, other-byte is_ascii_alphabetic x 62 letter refl) refl
name-ends (k ∷ ks) [] [] e f g = refl
name-ends (k ∷ ks) [] (b ∷ bs) e f g =
    let letter = (and_parts (is_ascii_alphabetic k) (are_letters ks) e).0 in
    rw (letter-other k b letter g) refl
name-ends (k ∷ ks) (x ∷ xs) rest e f g =
    let ks_are = (and_parts (is_ascii_alphabetic k) (are_letters ks) e).1 in
    let xs_are = (and_parts (is_ascii_alphabetic x) (are_letters xs) f).1 in
    rw (name-ends ks xs rest ks_are xs_are g)
    (go (nat_eq (to_ascii_lowercase k) (to_ascii_lowercase x)))
  where
    go : (a : Bool) →
        a && (str_eq_ignore_ascii_case ks xs && begins (λ b. nat_eq b 62) rest) ≡
        (a && str_eq_ignore_ascii_case ks xs) && begins (λ b. nat_eq b 62) rest
    go true = refl
    go false = refl

-- one of the tags is here if this is one of their names, and `>` follows
tags-end : (known : List (List ℕ)) (name rest : List ℕ) → list_all are_letters known ≡ true →
    are_letters name ≡ true → begins is_ascii_alphabetic rest ≡ false →
    list_any (λ word. starts_in_any_case (60 ∷ 47 ∷ name ++ rest) word) (map end_tag known) ≡
    is_name_of known name && begins (λ b. nat_eq b 62) rest
tags-end [] name rest e f g = refl
tags-end (k ∷ ks) name rest e f g =
    let parts = and_parts (are_letters k) (list_all are_letters ks) e in
    rw (name-ends k name rest parts.0 f g, tags-end ks name rest parts.1 f g)
    (go (str_eq_ignore_ascii_case k name) (is_name_of ks name) (begins (λ b. nat_eq b 62) rest))
  where
    go : (a b c : Bool) → (a && c) || (b && c) ≡ (a || b) && c
    go true true true = refl
    go true true false = refl
    go true false true = refl
    go true false false = refl
    go false b c = refl

raw-end : (name rest : List ℕ) → are_letters name ≡ true → begins is_ascii_alphabetic rest ≡ false →
    is_raw_end (60 ∷ 47 ∷ name ++ rest) ≡ is_raw_name name && begins (λ b. nat_eq b 62) rest
unfolding is_raw_end is_raw_name
raw-end name rest f g = tags-end raw_names name rest refl f g

-- none begins with another byte than `<`, nor with `<` where no slash follows
raw-other : (b : ℕ) (bs : List ℕ) → nat_eq b 60 ≡ false → is_raw_end (b ∷ bs) ≡ false
unfolding is_raw_end
raw-other b bs e = rw (low-eq 60 b refl, e) refl

raw-open : (bs : List ℕ) → begins (λ b. nat_eq b 47) bs ≡ false → is_raw_end (60 ∷ bs) ≡ false
unfolding is_raw_end
raw-open [] e = refl
raw-open (b ∷ bs) e = rw (low-eq 47 b refl, e) refl

-- nor inside a name
raw-name : (name rest : List ℕ) → are_letters name ≡ true → holds is_raw_end (name ++ rest) ≡ holds is_raw_end rest
raw-name [] rest e = refl
raw-name (x ∷ xs) rest e =
    let parts = and_parts (is_ascii_alphabetic x) (are_letters xs) e in
    rw (raw-other x (xs ++ rest) (other-byte is_ascii_alphabetic x 60 parts.0 refl)) (raw-name xs rest parts.1)

-- so after a closing tag's name the end is here, or in what follows
name-holds : (name rest : List ℕ) → are_letters name ≡ true → begins is_ascii_alphabetic rest ≡ false →
    holds is_raw_end (60 ∷ 47 ∷ name ++ rest) ≡
    (is_raw_name name && begins (λ b. nat_eq b 62) rest) || holds is_raw_end rest
name-holds name rest f g =
    rw (raw-end name rest f g, raw-other 47 (name ++ rest) refl, raw-name name rest f) refl

-- the same of an end with this marker
pub ends-tag : (name rest : List ℕ) (x : Bool) → are_letters name ≡ true → begins is_ascii_alphabetic rest ≡ false →
    begins (λ b. nat_eq b 62) rest && is_raw_name name ≡ x →
    ends_by 60 (60 ∷ 47 ∷ name ++ rest) ≡ x || ends_by 60 rest
unfolding ends_by html_ends
ends-tag name rest x f g e =
    name-holds name rest f g
    ∙ ap (λ (y : Bool). y || holds is_raw_end rest)
    (swap (is_raw_name name) (begins (λ b. nat_eq b 62) rest) ∙ e)
  where
    swap : (a b : Bool) → a && b ≡ b && a
    swap true true = refl
    swap true false = refl
    swap false true = refl
    swap false false = refl

pub ends-open : (bs : List ℕ) → begins (λ b. nat_eq b 47) bs ≡ false → ends_by 60 (60 ∷ bs) ≡ ends_by 60 bs
unfolding ends_by html_ends
ends-open bs e = rw (raw-open bs e) refl

-- The other ends.

-- nothing ends in an empty line
pub ends-none : (m : ℕ) → ends_by m [] ≡ false
unfolding ends_by html_ends
ends-none m = go (nat_eq m 60) (nat_eq m 45) (nat_eq m 63) (nat_eq m 93)
  where
    go : (r c i d : Bool) → cond r false (cond c false (cond i false (cond d false false))) ≡ false
    go true c i d = refl
    go false true i d = refl
    go false false true d = refl
    go false false false true = refl
    go false false false false = refl

-- no end begins with another byte than its own
pub ends-skip : (m b : ℕ) (bs : List ℕ) → nat_eq b m ≡ false → ends_by m (b ∷ bs) ≡ ends_by m bs
unfolding ends_by html_ends
ends-skip m b bs e = go (nat_eq m 60) (nat_eq m 45) (nat_eq m 63) (nat_eq m 93) refl refl refl refl
  where
    other : (k : ℕ) → nat_eq m k ≡ true → nat_eq k b ≡ false
    other k f = let same = eqb-true m k f in nat_eq-swap b k false (ap (nat_eq b) (sym same) ∙ e)

    go : (r c i d : Bool) → nat_eq m 60 ≡ r → nat_eq m 45 ≡ c → nat_eq m 63 ≡ i → nat_eq m 93 ≡ d →
        ends_by m (b ∷ bs) ≡ ends_by m bs
    go true c i d f g h k = rw (f, raw-other b bs (nat_eq-swap 60 b false (other 60 f))) refl
    go false true i d f g h k = rw (f, g, other 45 g) refl
    go false false true d f g h k = rw (f, g, h, other 63 h) refl
    go false false false true f g h k = rw (f, g, h, k, other 93 k) refl
    go false false false false f g h k = rw (f, g, h, k, nat_eq-swap b m false e) refl

-- one byte is a whole end where it is none of those that begin a longer one
pub ends-one : (m : ℕ) (bs : List ℕ) → nat_eq m 60 ≡ false → nat_eq m 45 ≡ false → nat_eq m 63 ≡ false →
    nat_eq m 93 ≡ false → ends_by m (m ∷ bs) ≡ true
unfolding ends_by
ends-one m bs f g h k =
    let same : nat_eq m m ≡ true = grind (arith, nat_tests) in rw (f, g, h, k, same) refl

-- after one of two bytes,
pub ends-twice : (m : ℕ) (bs : List ℕ) → (m ≡ 45) ⊎ (m ≡ 93) → begins (λ b. nat_eq b m) bs ≡ false →
    ends_by m (m ∷ bs) ≡ ends_by m bs
unfolding ends_by html_ends
ends-twice m [] (inl e) f = rw e refl
ends-twice m [] (inr e) f = rw e refl
ends-twice m (b ∷ bs) (inl e) f = rw e (rw (nat_eq-swap b 45 false (ap (nat_eq b) (sym e) ∙ f)) refl)
ends-twice m (b ∷ bs) (inr e) f = rw e (rw (nat_eq-swap b 93 false (ap (nat_eq b) (sym e) ∙ f)) refl)

-- and after all but the last: the end is here,
pub ends-stop : (m : ℕ) (bs : List ℕ) → IsStop m → ends_by m (stops m ++ 62 ∷ bs) ≡ true
unfolding ends_by html_ends
ends-stop m bs (inl e) = rw e refl
ends-stop m bs (inr (inl e)) = rw e refl
ends-stop m bs (inr (inr e)) = rw e refl

-- or may still come,
pub ends-again : (m : ℕ) (bs : List ℕ) → IsStop m → ends_by m (stops m ++ m ∷ bs) ≡ ends_by m (stops m ++ bs)
unfolding ends_by html_ends
ends-again m bs (inl e) = rw e refl
ends-again m bs (inr (inl e)) = rw e refl
ends-again m bs (inr (inr e)) = rw e refl

-- or is looked for in what follows
pub ends-past : (m : ℕ) (bs : List ℕ) → IsStop m → begins (λ b. nat_eq b 62) bs ≡ false →
    begins (λ b. nat_eq b m) bs ≡ false → ends_by m (stops m ++ bs) ≡ ends_by m bs
unfolding ends_by html_ends
ends-past m [] (inl e) f g = rw e refl
ends-past m [] (inr (inl e)) f g = rw e refl
ends-past m [] (inr (inr e)) f g = rw e refl
ends-past m (b ∷ bs) (inl e) f g =
    rw e (rw (nat_eq-swap b 62 false f, nat_eq-swap b 45 false (ap (nat_eq b) (sym e) ∙ g)) refl)
ends-past m (b ∷ bs) (inr (inl e)) f g =
    rw e (rw (nat_eq-swap b 62 false f, nat_eq-swap b 63 false (ap (nat_eq b) (sym e) ∙ g)) refl)
ends-past m (b ∷ bs) (inr (inr e)) f g =
    rw e (rw (nat_eq-swap b 62 false f, nat_eq-swap b 93 false (ap (nat_eq b) (sym e) ∙ g)) refl)
