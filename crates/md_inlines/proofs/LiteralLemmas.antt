-- Addresses without angle brackets: the segments of a domain, and what is taken off the end of a path.
use Rattle.std.proofs.Common.{◌≡◌, ℕ, zero, suc, ◌+◌, ◌-◌, ◌<◌, Bool, true, false, List, [], ◌∷◌, length}
use Rattle.std.proofs.Common.{take, drop, Option, Some, None, refl, ap, sym, ◌∙◌, arith}
use Rattle.std.specs.Prelude.{◌||◌, ◌==◌, nat_le, nat_lt, count_by}
use Rattle.std.specs.List.{list_any, onto_first, slice_split}
use Rattle.std.proofs.lemmas.Bool.Decides.{nat_tests}
use Rattle.std.proofs.lemmas.List.{length-take}
use Rattle.std.proofs.lemmas.List.Splits.{length-slice_split}
use Rattle.std.proofs.lemmas.List.Sums.{sum_by-take-drop}
use Rattle.md_meaning.specs.Ascii.{dot, underscore}
use Rattle.md_meaning.specs.Bytes.{after}
use Rattle.md_meaning.proofs.HtmlLemmas.{length-after}
use Rattle.md_inlines.specs.Characters.{character, first_bytes, is_punctuation, is_whitespace, is_within}
use Rattle.md_inlines.specs.Literal.{after_domain_character, extra_len, has_underscore, is_domain_byte}
use Rattle.md_inlines.specs.Literal.{trimmed, without_extra}
use Rattle.md_inlines.specs.RawHtml.{repeated}
use Rattle.md_inlines.specs.Addresses as addresses
use Rattle.md_inlines.specs.Addresses.{earlier_after, now_after}
use Rattle.md_inlines.proofs.RepeatedLemmas.{repeated-none, repeated-some}

or-false : (a : Bool) → (a || false) ≡ a
or-false true = refl
or-false false = refl

or-or : (a b c : Bool) → (a || (b || c)) ≡ ((a || b) || c)
or-or true b c = refl
or-or false b c = refl

-- Segments: whether one of the last two has a `_`, from any byte on, and from any segment on.

abbrev is_dot : ℕ → Bool
is_dot = λ b. b == dot

abbrev pub late_in : Bool → Bool → List ℕ → Bool
late_in earlier now [] = earlier || now
late_in earlier now (b ∷ text) = late_in (earlier_after earlier now b) (now_after now b) text

abbrev late : Bool → Bool → List (List ℕ) → Bool
late earlier now [] = earlier || now
late earlier now (segment ∷ segments) = late now (has_underscore segment) segments

abbrev late_from : Bool → Bool → List (List ℕ) → Bool
late_from earlier now [] = earlier || now
late_from earlier now (segment ∷ segments) = late earlier (now || has_underscore segment) segments

is-late : (earlier now : Bool) (text : List ℕ) →
    late_in earlier now text ≡ late_from earlier now (slice_split is_dot text)
is-late earlier now [] = ap (λ n. earlier || n) (sym (or-false now))
is-late earlier now (b ∷ text) =
    go (λ e n. is-late e n text) (b == dot) refl (slice_split is_dot text) refl
  where
    go : ((e n : Bool) → late_in e n text ≡ late_from e n (slice_split is_dot text)) →
        (d : Bool) → (b == dot) ≡ d → (segments : List (List ℕ)) → slice_split is_dot text ≡ segments →
        late_in earlier now (b ∷ text) ≡ late_from earlier now (slice_split is_dot (b ∷ text))
    go below d e [] s = absurd (omega (arith, ap length s, length-slice_split is_dot text))
    go below true e (segment ∷ segments) s =
        let left : late_in earlier now (b ∷ text) ≡ late_in now false text = rw e refl in
        let right : slice_split is_dot (b ∷ text) ≡ [] ∷ slice_split is_dot text = rw e refl in
        left ∙ below now false ∙ ap (late_from now false) s
        ∙ ap (λ n. late n (has_underscore segment) segments) (sym (or-false now))
        ∙ ap (late_from earlier now) (sym (right ∙ ap (λ t. [] ∷ t) s))
    go below false e (segment ∷ segments) s =
        let left : late_in earlier now (b ∷ text) ≡ late_in earlier (now || (b == underscore)) text = rw e refl in
        let right : slice_split is_dot (b ∷ text) ≡ onto_first b (slice_split is_dot text) = rw e refl in
        left ∙ below earlier (now || (b == underscore)) ∙ ap (late_from earlier (now || (b == underscore))) s
        ∙ ap (λ n. late earlier n segments) (sym (or-or now (b == underscore) (has_underscore segment)))
        ∙ ap (late_from earlier now) (sym (right ∙ ap (onto_first b) s))

late-is : (g h : List ℕ) (segments : List (List ℕ)) →
    late (has_underscore g) (has_underscore h) segments ≡
    list_any has_underscore (drop (length segments) (g ∷ h ∷ segments))
late-is g h [] = ap (λ t. has_underscore g || t) (sym (or-false (has_underscore h)))
late-is g h (s ∷ segments) = late-is h s segments

late-last : (segments : List (List ℕ)) → late_from false false segments ≡ addresses.has_last_underscore segments
late-last [] =
    let same : 0 ≡ length {A = List ℕ} [] - 2 = omega arith in
    ap (λ n. list_any has_underscore (drop n [])) same
late-last (h ∷ []) =
    let same : 0 ≡ length (h ∷ []) - 2 = omega arith in
    sym (or-false (has_underscore h)) ∙ ap (λ n. list_any has_underscore (drop n (h ∷ []))) same
late-last (h ∷ (s ∷ segments)) =
    let same : length segments ≡ length (h ∷ s ∷ segments) - 2 = omega arith in
    late-is h s segments ∙ ap (λ n. list_any has_underscore (drop n (h ∷ s ∷ segments))) same

pub last-underscore : (text : List ℕ) →
    late_in false false text ≡ addresses.has_last_underscore (slice_split (λ b. b == dot) text)
last-underscore text = is-late false false text ∙ late-last (slice_split is_dot text)

pub late-over : (earlier now : Bool) (text : List ℕ) → length text ≡ 0 → late_in earlier now text ≡ (earlier || now)
late-over earlier now [] e = refl
late-over earlier now (b ∷ text) e = absurd (omega (arith, e))

-- a dot makes two segments
pub two-segments : (text : List ℕ) →
    list_any (λ b. b == dot) text ≡ nat_le 2 (length (slice_split (λ b. b == dot) text))
two-segments [] = refl
two-segments (b ∷ text) = go (two-segments text) (b == dot) refl (slice_split is_dot text) refl
  where
    go : list_any is_dot text ≡ nat_le 2 (length (slice_split is_dot text)) →
        (d : Bool) → (b == dot) ≡ d → (segments : List (List ℕ)) → slice_split is_dot text ≡ segments →
        list_any is_dot (b ∷ text) ≡ nat_le 2 (length (slice_split is_dot (b ∷ text)))
    go below d e [] s = absurd (omega (arith, ap length s, length-slice_split is_dot text))
    go below true e (segment ∷ segments) s =
        let left : list_any is_dot (b ∷ text) ≡ true = rw e refl in
        let right : slice_split is_dot (b ∷ text) ≡ [] ∷ slice_split is_dot text = rw e refl in
        let two : nat_le 2 (length ([] ∷ segment ∷ segments)) ≡ true = grind (arith, nat_tests) in
        left ∙ sym (ap (λ t. nat_le 2 (length t)) (right ∙ ap (λ t. [] ∷ t) s) ∙ two)
    go below false e (segment ∷ segments) s =
        let left : list_any is_dot (b ∷ text) ≡ list_any is_dot text = rw e refl in
        let right : slice_split is_dot (b ∷ text) ≡ onto_first b (slice_split is_dot text) = rw e refl in
        left ∙ below ∙ ap (λ t. nat_le 2 (length t)) s
        ∙ sym (ap (λ t. nat_le 2 (length t)) (right ∙ ap (onto_first b) s))

-- The front of a domain.

pub length-after_domain_character : (xs ys : List ℕ) → after_domain_character xs ≡ Some ys → length ys < length xs
unfolding after_domain_character
length-after_domain_character [] ys e = cc
length-after_domain_character (b ∷ text) ys e = ascii (nat_lt b 128) refl (is_domain_byte b) refl
  where
    beyond : nat_lt b 128 ≡ false → (o : Option ℕ) → character (first_bytes (b ∷ text)) ≡ o →
        length ys < length (b ∷ text)
    beyond s None f = let none : after_domain_character (b ∷ text) ≡ None = rw (s, f) refl in cc
    beyond s (Some c) f = last (is_whitespace c || is_punctuation c) refl
      where
        last : (t : Bool) → (is_whitespace c || is_punctuation c) ≡ t → length ys < length (b ∷ text)
        last true g = let none : after_domain_character (b ∷ text) ≡ None = rw (s, f, g) refl in cc
        last false g =
            let some : after_domain_character (b ∷ text) ≡ Some (after is_within text) = rw (s, f, g) refl in
            let same : after is_within text ≡ ys = cc in
            omega (arith, ap length same, length-after is_within text)

    ascii : (s : Bool) → nat_lt b 128 ≡ s → (d : Bool) → is_domain_byte b ≡ d → length ys < length (b ∷ text)
    ascii true s true d =
        let some : after_domain_character (b ∷ text) ≡ Some text = rw (s, d) refl in
        let same : text ≡ ys = cc in
        omega (arith, ap length same)
    ascii true s false d = let none : after_domain_character (b ∷ text) ≡ None = rw (s, d) refl in cc
    ascii false s d e = beyond s (character (first_bytes (b ∷ text))) refl

pub domain-some : (xs more : List ℕ) → after_domain_character xs ≡ Some more →
    repeated after_domain_character (length xs) xs ≡ repeated after_domain_character (length more) more
domain-some xs more e = repeated-some after_domain_character length-after_domain_character xs more e

pub domain-none : (xs : List ℕ) → after_domain_character xs ≡ None →
    repeated after_domain_character (length xs) xs ≡ xs
domain-none xs e = repeated-none after_domain_character length-after_domain_character xs e

-- What is taken off the end of a path.

extra-none : (xs : List ℕ) → extra_len xs ≡ 0 → without_extra xs ≡ None
extra-none xs e = rw (e, without_extra) refl

extra-some : (xs : List ℕ) (more : ℕ) → extra_len xs ≡ suc more →
    without_extra xs ≡ Some (take (length xs - suc more) xs)
extra-some xs more e = rw (e, without_extra) refl

pub length-without_extra : (xs ys : List ℕ) → without_extra xs ≡ Some ys → length ys < length xs
length-without_extra [] ys e = cc
length-without_extra (b ∷ bs) ys e = go (extra_len (b ∷ bs)) refl
  where
    go : (n : ℕ) → extra_len (b ∷ bs) ≡ n → length ys < length (b ∷ bs)
    go zero f = let none : without_extra (b ∷ bs) ≡ None = extra-none (b ∷ bs) f in cc
    go (suc more) f =
        let some : without_extra (b ∷ bs) ≡ Some (take (length (b ∷ bs) - suc more) (b ∷ bs)) =
        extra-some (b ∷ bs) more f in
        let same : take (length (b ∷ bs) - suc more) (b ∷ bs) ≡ ys = cc in
        omega (arith, ap length same, length-take (length (b ∷ bs) - suc more) (b ∷ bs))

pub trim-over : (xs : List ℕ) → 0 ≡ extra_len xs → trimmed xs ≡ xs
unfolding trimmed
trim-over xs e = repeated-none without_extra length-without_extra xs (extra-none xs (sym e))

pub trim-step : (xs : List ℕ) (len : ℕ) → 0 < len → len ≡ extra_len xs → trimmed (take (length xs - len) xs) ≡ trimmed xs
unfolding trimmed
trim-step xs zero some e = absurd (omega arith)
trim-step xs (suc more) some e =
    sym (repeated-some without_extra length-without_extra xs _ (extra-some xs more (sym e)))

-- so many bytes of a kind are left
pub count-kept : (test : ℕ → Bool) (xs kept extra : List ℕ) (k all some : ℕ) → kept ≡ take k xs → extra ≡ drop k xs →
    all ≡ count_by test xs → some ≡ count_by test extra → all - some ≡ count_by test kept
count-kept test xs kept extra k all some front back is_all is_some =
    let sum : count_by test (take k xs) + count_by test (drop k xs) ≡ count_by test xs = sum_by-take-drop _ xs k in
    omega (arith, is_all, is_some, ap (count_by test) front, ap (count_by test) back, sum)
