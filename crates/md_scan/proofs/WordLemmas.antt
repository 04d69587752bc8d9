-- The words of a line, and words with spaces between them.
use Rattle.std.proofs.Common.{◌≡◌, ℕ, suc, ◌+◌, ◌<◌, ◌≤◌, Bool, true, false, not, List, [], ◌∷◌, ◌++◌, filter, flat_map}
use Rattle.std.proofs.Common.{length, take, drop, Bor, get_or, refl, sym, ap, subst, ◌∙◌, arith, append_assoc}
use Rattle.std.specs.List.{list_all, prefix_len, slice_split, onto_first, join_with_byte}
use Rattle.md_meaning.specs.Rest.{is_white}
use Rattle.md_meaning.specs.Bytes.{is_end}
use Rattle.md_meaning.specs.Label.{words, spaced}
use Rattle.md_scan.specs.Definitions.{texts}
use Rattle.md_scan.proofs.DefinitionLemmas.{texts-drop, texts-drop_all}
use Rattle.md_scan.specs.Words.{with_word, with_words}

abbrev is_black : ℕ → Bool
is_black b = not (is_white b)

abbrev is_word : List ℕ → Bool
is_word piece = not (is_end piece)

one_more : (n : ℕ) → 1 + n ≡ suc n
one_more n = omega arith

-- a byte before a word is part of it
onto_word : (b c : ℕ) (pieces : List (List ℕ)) (word : List ℕ) (others : List (List ℕ)) →
    filter is_word (onto_first c pieces) ≡ word ∷ others →
    filter is_word (onto_first b (onto_first c pieces)) ≡ (b ∷ word) ∷ others
onto_word b c [] word others e = let k : c ∷ [] ≡ word = cc in let o : [] ≡ others = cc in cc
onto_word b c (piece ∷ pieces) word others e =
    let k : c ∷ piece ≡ word = cc in let o : filter is_word pieces ≡ others = cc in cc

words-black : (b : ℕ) (bs : List ℕ) → is_white b ≡ false →
    words (b ∷ bs) ≡ (b ∷ take (prefix_len is_black bs) bs) ∷ words (drop (prefix_len is_black bs) bs)
words-black b [] e = rw e refl
words-black b (c ∷ cs) e = go (is_white c) refl (words-black c cs)
  where
    go : (white : Bool) → is_white c ≡ white →
        (is_white c ≡ false →
        words (c ∷ cs) ≡ (c ∷ take (prefix_len is_black cs) cs) ∷ words (drop (prefix_len is_black cs) cs)) →
        words (b ∷ c ∷ cs) ≡
        (b ∷ take (prefix_len is_black (c ∷ cs)) (c ∷ cs)) ∷ words (drop (prefix_len is_black (c ∷ cs)) (c ∷ cs))
    go true f below = rw (e, f) (rw f refl)
    go false f below =
        let word : filter is_word (onto_first c (slice_split is_white cs)) ≡
        (c ∷ take (prefix_len is_black cs) cs) ∷ words (drop (prefix_len is_black cs) cs) = rw f at (below f) in
        rw (e, f, one_more (prefix_len is_black cs)) (onto_word b c (slice_split is_white cs) _ _ word)

words-front : (b : ℕ) (bs : List ℕ) → is_white b ≡ false →
    words (b ∷ bs) ≡ take (prefix_len is_black (b ∷ bs)) (b ∷ bs) ∷ words (drop (prefix_len is_black (b ∷ bs)) (b ∷ bs))
words-front b bs e = rw (e, one_more (prefix_len is_black bs)) (rw e at (words-black b bs e))

pub words-next : (b : ℕ) (others rest : List ℕ) → rest ≡ b ∷ others → false ≡ is_white b →
    words rest ≡ take (prefix_len is_black rest) rest ∷ words (drop (prefix_len is_black rest) rest)
words-next b others rest e f =
    subst (λ r. words r ≡ take (prefix_len is_black r) r ∷ words (drop (prefix_len is_black r) r)) (sym e)
    (words-front b others (sym f))

-- whitespace before words
pub words-white : (b : ℕ) (others rest : List ℕ) → rest ≡ b ∷ others → is_white b ≡ true → words rest ≡ words others
words-white b others rest e white = ap words e ∙ rw white refl

with_words-append : (text : List ℕ) (first second : List (List ℕ)) →
    with_words text (first ++ second) ≡ with_words (with_words text first) second
with_words-append text [] second = refl
with_words-append text (word ∷ first) second = with_words-append (with_word text word) first second

join-joined : (text word : List ℕ) (words : List (List ℕ)) →
    join_with_byte 32 ((text ++ 32 ∷ word) ∷ words) ≡ text ++ 32 ∷ join_with_byte 32 (word ∷ words)
join-joined text word [] = refl
join-joined text word (next ∷ words) = append_assoc text (32 ∷ word) (32 ∷ join_with_byte 32 (next ∷ words))

with_words-join : (b : ℕ) (text : List ℕ) (words : List (List ℕ)) →
    with_words (b ∷ text) words ≡ join_with_byte 32 ((b ∷ text) ∷ words)
with_words-join b text [] = refl
with_words-join b text (word ∷ words) = with_words-join b (text ++ 32 ∷ word) words ∙ join-joined (b ∷ text) word words

with_words-all : (words : List (List ℕ)) → list_all is_word words ≡ true → with_words [] words ≡ join_with_byte 32 words
with_words-all [] e = refl
with_words-all ([] ∷ words) e = cc
with_words-all ((b ∷ word) ∷ words) e = with_words-join b word words

list_all-filter : (pieces : List (List ℕ)) → list_all is_word (filter is_word pieces) ≡ true
list_all-filter [] = refl
list_all-filter ([] ∷ pieces) = list_all-filter pieces
list_all-filter ((b ∷ piece) ∷ pieces) = list_all-filter pieces

list_all-append : (first second : List (List ℕ)) → list_all is_word first ≡ true → list_all is_word second ≡ true →
    list_all is_word (first ++ second) ≡ true
list_all-append [] second e f = f
list_all-append ([] ∷ first) second e f = cc
list_all-append ((b ∷ word) ∷ first) second e f = list_all-append first second e f

all_words : (lines : List (List ℕ)) → list_all is_word (flat_map words lines) ≡ true
all_words [] = refl
all_words (line ∷ lines) =
    list_all-append (words line) (flat_map words lines) (list_all-filter (slice_split is_white line)) (all_words lines)

pub with_words-spaced : (lines : List (List ℕ)) → with_words [] (flat_map words lines) ≡ spaced lines
with_words-spaced lines = with_words-all (flat_map words lines) (all_words lines)

pub with_words-line : (text : List ℕ) (lines : List (Bor (List ℕ))) (i : ℕ) (d : Bor (List ℕ)) → i < length lines →
    with_words text (flat_map words (texts (drop i lines))) ≡
    with_words (with_words text (words (get_or lines i d).now)) (flat_map words (texts (drop (i + 1) lines)))
with_words-line text lines i d h =
    ap (λ ls. with_words text (flat_map words ls)) (texts-drop lines i d h)
    ∙ with_words-append text (words (get_or lines i d).now) (flat_map words (texts (drop (i + 1) lines)))

pub with_words-end : (text : List ℕ) (lines : List (Bor (List ℕ))) (i : ℕ) → length lines ≤ i →
    with_words text (flat_map words (texts (drop i lines))) ≡ text
with_words-end text lines i h = ap (λ ls. with_words text (flat_map words ls)) (texts-drop_all lines i h)
