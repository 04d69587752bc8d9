-- The lines of a text, by the bytes before its first line feed.
use Rattle.std.proofs.Common.{◌≡◌, ◌≤◌, ◌-◌, ◌++◌, ℕ, suc, ◌<◌, Bool, true, false, List, [], ◌∷◌, length, take, drop, refl, ap, sym, ◌∙◌, ◌+◌, arith}
use Rattle.std.specs.Prelude.{◌==◌, not}
use Rattle.std.specs.List.{onto_first, prefix_len, slice_split}
use Rattle.std.proofs.lemmas.List.Splits.{slice_split-cons_no, slice_split-cons_yes}
use Rattle.std.proofs.lemmas.List.{append_assoc, drop-drop, length-drop}
use Rattle.std.proofs.lemmas.List.Sums.{prefix_len-le-length}
use Rattle.std.proofs.Math.Seq.{take-length}
use Rattle.md_meaning.specs.Ascii.{line_feed}

abbrev pub is_feed : ℕ → Bool
is_feed b = b == line_feed

-- the number of bytes of the first line
abbrev pub first_len : List ℕ → ℕ
first_len text = prefix_len (λ b. not (b == line_feed)) text

-- a text with a line feed has the line before it, and then the lines after it
pub first-line : (text : List ℕ) → first_len text < length text →
    slice_split is_feed text ≡ take (first_len text) text ∷ slice_split is_feed (drop (suc (first_len text)) text)
first-line [] short = absurd (omega (arith, short))
first-line (b ∷ text) short = go (is_feed b) refl (first-line text)
  where
    go : (t : Bool) → is_feed b ≡ t →
        (first_len text < length text →
        slice_split is_feed text ≡ take (first_len text) text ∷ slice_split is_feed (drop (suc (first_len text)) text)) →
        slice_split is_feed (b ∷ text) ≡ take (first_len (b ∷ text)) (b ∷ text)
        ∷ slice_split is_feed (drop (suc (first_len (b ∷ text))) (b ∷ text))
    go true e rest =
        let none : first_len (b ∷ text) ≡ 0 = rw e refl in
        slice_split-cons_yes is_feed b text e
        ∙ sym (ap (λ n. take n (b ∷ text) ∷ slice_split is_feed (drop (suc n) (b ∷ text))) none)
    go false e rest =
        let one : first_len (b ∷ text) ≡ 1 + first_len text = rw e refl in
        let more : first_len (b ∷ text) ≡ suc (first_len text) = omega (arith, one) in
        slice_split-cons_no is_feed b text e
        ∙ ap (onto_first b) (rest (omega (arith, short, more)))
        ∙ sym (ap (λ n. take n (b ∷ text) ∷ slice_split is_feed (drop (suc n) (b ∷ text))) more)

-- a text without one is one line
pub last-line : (text : List ℕ) → first_len text ≡ length text → slice_split is_feed text ≡ text ∷ []
last-line [] whole = refl
last-line (b ∷ text) whole = go (is_feed b) refl (last-line text)
  where
    go : (t : Bool) → is_feed b ≡ t →
        (first_len text ≡ length text → slice_split is_feed text ≡ text ∷ []) → slice_split is_feed (b ∷ text) ≡ (b ∷ text) ∷ []
    go true e rest =
        let none : first_len (b ∷ text) ≡ 0 = rw e refl in
        absurd (omega (arith, whole, none))
    go false e rest =
        let one : first_len (b ∷ text) ≡ 1 + first_len text = rw e refl in
        let more : first_len (b ∷ text) ≡ suc (first_len text) = omega (arith, one) in
        slice_split-cons_no is_feed b text e ∙ ap (onto_first b) (rest (omega (arith, whole, more)))

-- the lines that are made, and then those of the rest, where one more is made
pub one-more : (text : List ℕ) (start end : ℕ) (made : List (List ℕ)) →
    made ++ slice_split is_feed (drop start text) ≡ slice_split is_feed text →
    end ≡ start + first_len (drop start text) → start ≤ length text → end < length text →
    (made ++ take (end - start) (drop start text) ∷ []) ++ slice_split is_feed (drop (end + 1) text) ≡
    slice_split is_feed text
one-more text start end made is ends fits short =
    let rest : List ℕ = drop start text in
    let long : length rest ≡ length text - start = length-drop start text in
    let first : first_len rest < length rest = omega (arith, ends, fits, short, long) in
    let size : end - start ≡ first_len rest = omega (arith, ends) in
    let next : start + suc (first_len rest) ≡ end + 1 = omega (arith, ends) in
    let after : drop (end + 1) text ≡ drop (suc (first_len rest)) rest =
    sym (drop-drop (suc (first_len rest)) start text ∙ ap (λ n. drop n text) next) in
    append_assoc made (take (end - start) rest ∷ []) (slice_split is_feed (drop (end + 1) text))
    ∙ ap (λ n. made ++ take n rest ∷ slice_split is_feed (drop (end + 1) text)) size
    ∙ ap (λ l. made ++ take (first_len rest) rest ∷ slice_split is_feed l) after
    ∙ ap (λ ls. made ++ ls) (sym (first-line rest first)) ∙ is

-- and where the last one is made
pub the-last : (text : List ℕ) (start end : ℕ) (made : List (List ℕ)) →
    made ++ slice_split is_feed (drop start text) ≡ slice_split is_feed text →
    end ≡ start + first_len (drop start text) → start ≤ length text → length text ≤ end →
    made ++ drop start text ∷ [] ≡ slice_split is_feed text
the-last text start end made is ends fits whole =
    let rest : List ℕ = drop start text in
    let long : length rest ≡ length text - start = length-drop start text in
    let most : first_len rest ≤ length rest = prefix_len-le-length (λ b. not (b == line_feed)) rest in
    let all : first_len rest ≡ length rest = omega (arith, ends, fits, whole, long, most) in
    ap (λ ls. made ++ ls) (sym (last-line rest all)) ∙ is

-- a slice from a place on is all that is left there
pub tail-is : (start : ℕ) (text : List ℕ) → take (length text - start) (drop start text) ≡ drop start text
tail-is start text =
    ap (λ n. take n (drop start text)) (sym (length-drop start text)) ∙ take-length (drop start text)
