-- Words of a text that is UTF-8 are UTF-8, and so are words with spaces between them.
use Rattle.std.proofs.Common.{◌≡◌, ℕ, zero, suc, ◌<◌, ◌≤◌, Bool, true, false, nat_lt, not, List, [], ◌∷◌, arith, drop, get_or, length}
use Rattle.std.proofs.Common.{refl, subst, sym, take}
use Rattle.std.specs.List.{prefix_len}
use Rattle.std.specs.Prelude.{slice_index}
use Rattle.std.specs.Str.{IsCharBoundary, IsUtf8}
use Rattle.std.proofs.lemmas.Bool.Decides.{nat_tests}
use Rattle.std.proofs.lemmas.List.Sums.{prefix_len-le-length, prefix_len_stops}
use Rattle.std.proofs.lemmas.Str.{IsCharBoundary-after_ascii, IsCharBoundary-before_ascii, IsCharBoundary-end}
use Rattle.std.proofs.lemmas.Str.{IsUtf8-append, IsUtf8-drop, IsUtf8-from_ascii, IsUtf8-take}
use Rattle.md_meaning.specs.Rest.{is_white}
use Rattle.md_scan.specs.Words.{with_word}

-- spaces and tabs are characters of one byte
white-ascii : (b : ℕ) → is_white b ≡ true → b < 128
white-ascii b e = grind (arith, nat_tests)

-- what follows a space or a tab
pub utf8-past : (b : ℕ) (others rest : List ℕ) → rest ≡ b ∷ others → is_white b ≡ true → IsUtf8 rest → IsUtf8 others
utf8-past b others rest is white utf8 =
    let all : IsUtf8 (b ∷ others) = subst IsUtf8 is utf8 in
    IsUtf8-drop (b ∷ others) 1 all
    (IsCharBoundary-after_ascii (b ∷ others) 0 all (omega arith) (white-ascii b white))

-- where the bytes in front end that are neither spaces nor tabs
abbrev word_end : List ℕ → ℕ
word_end rest = prefix_len (λ b. not (is_white b)) rest

word-cut : (rest : List ℕ) → IsCharBoundary rest (word_end rest)
word-cut rest = go (nat_lt (word_end rest) (length rest)) refl
  where
    within : word_end rest ≤ length rest
    within = prefix_len-le-length (λ b. not (is_white b)) rest

    go : (x : Bool) → nat_lt (word_end rest) (length rest) ≡ x → IsCharBoundary rest (word_end rest)
    go true e =
        let lt : word_end rest < length rest = grind (arith, nat_tests) in
        let stops : not (is_white (get_or rest (word_end rest) 0)) ≡ false =
        prefix_len_stops (λ b. not (is_white b)) rest 0 lt in
        IsCharBoundary-before_ascii rest (word_end rest) lt
        (white-ascii (get_or rest (word_end rest) 0) (was-not (is_white (get_or rest (word_end rest) 0)) stops))
      where
        was-not : (x : Bool) → not x ≡ false → x ≡ true
        was-not true k = refl
        was-not false k = cc
    go false e =
        let past : length rest ≤ word_end rest = grind (arith, nat_tests) in
        let all : word_end rest ≡ length rest = omega (arith, past, within) in
        subst (IsCharBoundary rest) (sym all) (IsCharBoundary-end rest)

-- a word in front, and what follows it
pub utf8-word : (rest : List ℕ) → IsUtf8 rest → IsUtf8 (take (word_end rest) rest) × IsUtf8 (drop (word_end rest) rest)
utf8-word rest utf8 =
    (IsUtf8-take rest (word_end rest) utf8 (word-cut rest), IsUtf8-drop rest (word_end rest) utf8 (word-cut rest))

-- a text with a word at the end
pub utf8-with_word : (text word : List ℕ) → IsUtf8 text → IsUtf8 word → IsUtf8 (with_word text word)
utf8-with_word [] word utf8 own = own
utf8-with_word (b ∷ text) word utf8 own =
    IsUtf8-append (b ∷ text) (32 ∷ word) utf8
    (IsUtf8-append (32 ∷ []) word (IsUtf8-from_ascii (32 ∷ []) space-ascii) own)
  where
    space-ascii : (i : ℕ) → slice_index (32 ∷ []) i < 128
    space-ascii zero = omega arith
    space-ascii (suc i) = omega arith
