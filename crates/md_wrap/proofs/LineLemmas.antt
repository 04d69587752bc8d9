-- The first line of a text, which ends with the ending that comes first, and a prefix before each line in turn.
use Rattle.std.proofs.Common.{◌≡◌, ◌≢◌, ℕ, suc, zero, ◌+◌, ◌-◌, ◌<◌, Bool, true, false, cond, ◌&&◌, ◌||◌, ◌==◌, not}
use Rattle.std.proofs.Common.{List, [], ◌∷◌, length, take, drop, get_or, refl, sym, ◌∙◌, ap, subst, arith}
use Rattle.std.specs.List.{onto_first}
use Rattle.std.specs.Str.{IsCharBoundary, IsUtf8}
use Rattle.std.proofs.lemmas.Bool.{and_parts, eqb-true, true≢false}
use Rattle.std.proofs.lemmas.Bool.Decides.{nat_tests}
use Rattle.std.proofs.lemmas.List.{get_or-drop, length-drop, take_all}
use Rattle.std.proofs.lemmas.Str.{IsCharBoundary-after_ascii, IsCharBoundary-before_ascii, IsCharBoundary-end}
use Rattle.std.proofs.lemmas.Str.{IsCharBoundary-from_rest, IsUtf8-drop}
use Rattle.memchr.specs.Find.{Nowhere, Passes, is_byte2}
use Rattle.md_meaning.specs.Lines.{begins_with, full_lines_of, is_ending}
use Rattle.md_meaning.proofs.PrefixedLines.{ends_line-no}
use Rattle.md_wrap.specs.Endings.{ending_len}

-- The first line.

-- it has so many bytes
abbrev pub IsFirstLine : List ℕ → ℕ → Type 0
IsFirstLine text n = full_lines_of text ≡ take n text ∷ full_lines_of (drop n text)

-- one more byte before it
first-onto : (b : ℕ) (bytes : List ℕ) (n : ℕ) → is_ending b ≡ false → IsFirstLine bytes n →
    IsFirstLine (b ∷ bytes) (suc n)
first-onto b bytes n e first =
    ap (λ (t : Bool). cond t ((b ∷ []) ∷ full_lines_of bytes) (onto_first b (full_lines_of bytes)))
    (ends_line-no b bytes e)
    ∙ ap (onto_first b) first

-- CR LF
first-feed : (b : ℕ) (bytes : List ℕ) → begins_with 10 bytes ≡ true →
    onto_first b (full_lines_of bytes) ≡ take 2 (b ∷ bytes) ∷ full_lines_of (drop 2 (b ∷ bytes))
first-feed b [] h = cc
first-feed b (c ∷ bytes) h =
    subst
    (λ (d : ℕ).
    onto_first b (full_lines_of (d ∷ bytes)) ≡ take 2 (b ∷ d ∷ bytes) ∷ full_lines_of (drop 2 (b ∷ d ∷ bytes)))
    (sym (eqb-true c 10 h)) refl

-- an ending alone
first-ending : (b : ℕ) (bytes : List ℕ) → is_ending b ≡ true → IsFirstLine (b ∷ bytes) (ending_len (b ∷ bytes))
first-ending b bytes h = go (b == 10) (b == 13) (begins_with 10 bytes) refl refl refl h
  where
    go : (x y z : Bool) → (b == 10) ≡ x → (b == 13) ≡ y → begins_with 10 bytes ≡ z → (x || y) ≡ true →
        cond (x || (y && not z)) ((b ∷ []) ∷ full_lines_of bytes) (onto_first b (full_lines_of bytes)) ≡
        take (cond (y && z) 2 1) (b ∷ bytes) ∷ full_lines_of (drop (cond (y && z) 2 1) (b ∷ bytes))
    go true true z e f g o =
        let ten : b ≡ 10 = eqb-true b 10 e in let thirteen : b ≡ 13 = eqb-true b 13 f in absurd (omega arith)
    go true false z e f g o = refl
    go false true false e f g o = refl
    go false true true e f g o = first-feed b bytes g
    go false false z e f g o = absurd (true≢false (sym o))

no-ending : (b : ℕ) → is_byte2 10 13 b ≢ true → is_ending b ≡ false
no-ending b none = go (is_ending b) refl
  where
    go : (x : Bool) → is_ending b ≡ x → x ≡ false
    go true is = absurd (none is)
    go false is = refl

-- the first ending is at a place
pub line-cut : (text : List ℕ) (at : ℕ) → at < length text → Nowhere (Passes (is_byte2 10 13) text) 0 at →
    Passes (is_byte2 10 13) text at → IsFirstLine text (at + ending_len (drop at text))
line-cut [] at lt none here = absurd (omega (arith, lt))
line-cut (b ∷ bytes) zero lt none here =
    let here_is : ending_len (b ∷ bytes) ≡ 0 + ending_len (b ∷ bytes) = omega arith in
    subst (IsFirstLine (b ∷ bytes)) here_is (first-ending b bytes here)
line-cut (b ∷ bytes) (suc at) lt none here =
    let more : suc (at + ending_len (drop at bytes)) ≡ suc at + ending_len (drop at bytes) = omega arith in
    subst (IsFirstLine (b ∷ bytes)) more
    (first-onto b bytes (at + ending_len (drop at bytes)) (no-ending b (none 0 (omega arith) (omega arith)))
    (line-cut bytes at (omega (arith, lt)) (λ k low high. none (suc k) (omega arith) (omega (arith, high))) here))

-- no ending is in the text
pub line-whole : (text : List ℕ) → Nowhere (Passes (is_byte2 10 13) text) 0 (length text) → text ≢ [] →
    IsFirstLine text (length text)
line-whole [] none some = absurd (some refl)
line-whole (b ∷ []) none some =
    ap (λ (t : Bool). cond t ((b ∷ []) ∷ []) (onto_first b []))
    (ends_line-no b [] (no-ending b (none 0 (omega arith) (omega arith))))
line-whole (b ∷ c ∷ bytes) none some =
    first-onto b (c ∷ bytes) (length (c ∷ bytes)) (no-ending b (none 0 (omega arith) (omega arith)))
    (line-whole (c ∷ bytes) (λ k low high. none (suc k) (omega arith) (omega (arith, high))) (λ e. cc))

-- what is from a place on
pub range-from : (bytes : List ℕ) (at : ℕ) → take (length bytes - at) (drop at bytes) ≡ drop at bytes
range-from bytes at = take_all (length bytes - at) (drop at bytes) (omega (arith, length-drop at bytes))

-- A text may be cut after it.

ending-boundary : (bytes : List ℕ) → IsUtf8 bytes → get_or bytes 0 0 < 128 → IsCharBoundary bytes (ending_len bytes)
ending-boundary [] u ascii = IsCharBoundary-end []
ending-boundary (b ∷ bytes) u ascii = go ((b == 13) && begins_with 10 bytes) refl
  where
    feed : (bytes : List ℕ) → IsUtf8 (b ∷ bytes) → begins_with 10 bytes ≡ true → IsCharBoundary (b ∷ bytes) 2
    feed [] v h = cc
    feed (c ∷ bytes) v h =
        let ten : c ≡ 10 = eqb-true c 10 h in
        IsCharBoundary-after_ascii (b ∷ c ∷ bytes) 1 v (omega arith) (omega arith)

    go : (x : Bool) → ((b == 13) && begins_with 10 bytes) ≡ x → IsCharBoundary (b ∷ bytes) (cond x 2 1)
    go false e = IsCharBoundary-after_ascii (b ∷ bytes) 0 u (omega arith) ascii
    go true e = feed bytes u (and_parts (b == 13) (begins_with 10 bytes) e).1

ending-ascii : (b : ℕ) → is_byte2 10 13 b ≡ true → b < 128
ending-ascii b h = grind (arith, nat_tests)

pub line-boundary : (text : List ℕ) (at : ℕ) → IsUtf8 text → at < length text → Passes (is_byte2 10 13) text at →
    IsCharBoundary text (at + ending_len (drop at text))
line-boundary text at u lt here =
    let ascii : get_or text at 0 < 128 = ending-ascii (get_or text at 0) here in
    let following : IsUtf8 (drop at text) = IsUtf8-drop text at u (IsCharBoundary-before_ascii text at lt ascii) in
    let first : get_or (drop at text) 0 0 ≡ get_or text (at + 0) 0 = get_or-drop at text 0 0 in
    let same : at + 0 ≡ at = omega arith in
    let low : get_or (drop at text) 0 0 < 128 = rw (first, same) ascii in
    IsCharBoundary-from_rest text at (ending_len (drop at text)) (omega (arith, lt))
    (ending-boundary (drop at text) following low)

-- One line more has its prefix.
