-- The first line of a text, and the others.
use Rattle.std.proofs.Common.{◌≡◌, ℕ, suc, ◌+◌, Bool, true, false, cond, not, ◌==◌, ◌&&◌, ◌||◌, List, [], ◌∷◌, map}
use Rattle.std.proofs.Common.{length, take, drop, refl, sym, ◌∙◌, ap, subst, append_assoc, ◌++◌, arith}
use Rattle.std.proofs.lemmas.Bool.{eqb-true}
use Rattle.std.proofs.lemmas.List.{map-append}
use Rattle.std.specs.List.{prefix_len, onto_first}
use Rattle.md_meaning.specs.Lines.{is_ending, begins_with, ends_line, full_lines_of, without_ending, lines_of}
use Rattle.md_meaning.specs.Rest as r
use Rattle.md_meaning.specs.Preamble.{rest_at, rests_at}
use Rattle.md_meaning.proofs.LinesLemmas.{rests_at-zero, without_ending-onto}
use Rattle.reference_tree.specs.declared.rest.Rest.{Rest}
use Rattle.reference_tree.specs.Rests.{after_ending, rest_meaning, rest_meanings}

abbrev line_len : List ℕ → ℕ
line_len text = prefix_len (λ b. not (is_ending b)) text

-- the first line, and those after its ending
abbrev Splits : List ℕ → Type 0
Splits [] = Unit {0}
Splits (b ∷ bytes) =
    lines_of (b ∷ bytes) ≡
    take (line_len (b ∷ bytes)) (b ∷ bytes) ∷ lines_of (after_ending (drop (line_len (b ∷ bytes)) (b ∷ bytes)))

lines_of-inside : (b : ℕ) (bytes : List ℕ) → (b == 10) ≡ false → (b == 13) ≡ false →
    lines_of (b ∷ bytes) ≡ onto_first b (lines_of bytes)
lines_of-inside b bytes e f =
    let ending : is_ending b ≡ false = ap (λ t. t || (b == 13)) e ∙ f in
    let open_line : ends_line b bytes ≡ false = ap (λ t. t || ((b == 13) && not (begins_with 10 bytes))) e
    ∙ ap (λ t. t && not (begins_with 10 bytes)) f in
    ap
    (λ t.
    map without_ending (cond t ((b ∷ []) ∷ full_lines_of bytes) (onto_first b (full_lines_of bytes)))) open_line
    ∙ without_ending-onto b (full_lines_of bytes) ending

splits-inside : (b : ℕ) (bytes : List ℕ) → (b == 10) ≡ false → (b == 13) ≡ false → Splits bytes → Splits (b ∷ bytes)
splits-inside b [] e f h =
    let ending : is_ending b ≡ false = ap (λ t. t || (b == 13)) e ∙ f in
    let P : Bool →
    Type 0 = λ t. lines_of (b ∷ []) ≡
    take (cond (not t) 1 0) (b ∷ []) ∷ lines_of (after_ending (drop (cond (not t) 1 0) (b ∷ []))) in
    subst P (sym ending) (lines_of-inside b [] e f)
splits-inside b (c ∷ bytes) e f h =
    let ending : is_ending b ≡ false = ap (λ t. t || (b == 13)) e ∙ f in
    let n : ℕ = line_len (c ∷ bytes) in
    let P : Bool →
    Type 0 = λ t. lines_of (b ∷ c ∷ bytes) ≡
    take (cond (not t) (1 + n) 0) (b ∷ c ∷ bytes)
    ∷ lines_of (after_ending (drop (cond (not t) (1 + n) 0) (b ∷ c ∷ bytes))) in
    let Q : ℕ →
    Type 0 = λ k. lines_of (b ∷ c ∷ bytes) ≡
    take k (b ∷ c ∷ bytes) ∷ lines_of (after_ending (drop k (b ∷ c ∷ bytes))) in
    let next : suc n ≡ 1 + n = omega arith in
    subst P (sym ending) (subst Q next (lines_of-inside b (c ∷ bytes) e f ∙ ap (λ ls. onto_first b ls) h))

splits-return : (bytes : List ℕ) → Splits (13 ∷ bytes)
splits-return [] = refl
splits-return (c ∷ bytes) = by (c == 10) refl
  where
    by : (t : Bool) → (c == 10) ≡ t → Splits (13 ∷ c ∷ bytes)
    by true e = subst (λ d. Splits (13 ∷ d ∷ bytes)) (sym (eqb-true c 10 e)) refl
    by false e =
        subst
        (λ t.
        map without_ending
        (cond (not t) ((13 ∷ []) ∷ full_lines_of (c ∷ bytes)) (onto_first 13 (full_lines_of (c ∷ bytes)))) ≡
        [] ∷ lines_of (cond t bytes (c ∷ bytes)))
        (sym e) refl

splits-next : (b : ℕ) (bytes : List ℕ) → Splits bytes → Splits (b ∷ bytes)
splits-next b bytes h = by (b == 10) (b == 13) refl refl
  where
    by : (t u : Bool) → (b == 10) ≡ t → (b == 13) ≡ u → Splits (b ∷ bytes)
    by true u e f = subst (λ c. Splits (c ∷ bytes)) (sym (eqb-true b 10 e)) refl
    by false true e f = subst (λ c. Splits (c ∷ bytes)) (sym (eqb-true b 13 f)) (splits-return bytes)
    by false false e f = splits-inside b bytes e f h

splits : (text : List ℕ) → Splits text
splits [] = tt
splits (b ∷ bytes) = splits-next b bytes (splits bytes)

pub lines_of-first : (text : List ℕ) → (length text == 0) ≡ false →
    lines_of text ≡ take (line_len text) text ∷ lines_of (after_ending (drop (line_len text) text))
lines_of-first [] h = absurd (cc)
lines_of-first (b ∷ bytes) h = splits (b ∷ bytes)

-- one line read, and those after its ending
pub rests_at-next : (before : List r.Rest) (c : ℕ) (text : List ℕ) → (length text == 0) ≡ false →
    before ++ rests_at c (lines_of text) ≡
    (before ++ rest_at c (take (line_len text) text) ∷ [])
    ++ rests_at 0 (lines_of (after_ending (drop (line_len text) text)))
rests_at-next before c text h =
    let left : List (List ℕ) = lines_of (after_ending (drop (line_len text) text)) in
    let front : r.Rest = rest_at c (take (line_len text) text) in
    ap (λ ls. before ++ rests_at c ls) (lines_of-first text h)
    ∙ ap (λ xs. before ++ front ∷ xs) (sym (rests_at-zero left))
    ∙ sym (append_assoc before (front ∷ []) (rests_at 0 left))

-- the loop that reads them
pub rests_of-next : (items items' : List Rest) (x : Rest) (begins n : ℕ) (left line ending left' : List ℕ) →
    (length left == 0) ≡ false → n ≡ line_len left → line ≡ take n left → ending ≡ drop n left →
    left' ≡ after_ending ending →
    rest_meaning x ≡ rest_at begins line → items' ≡ items ++ x ∷ [] →
    rest_meanings items ++ rests_at begins (lines_of left) ≡ rest_meanings items' ++ rests_at 0 (lines_of left')
rests_of-next items items' x begins n left line ending left' some en eline eending eleft ex eitems =
    let front : rest_meaning x ≡ rest_at begins (take (line_len left) left) = ex
    ∙ ap (rest_at begins) (eline ∙ ap (λ k. take k left) en) in
    let following : left' ≡ after_ending (drop (line_len left) left) = eleft
    ∙ ap after_ending (eending ∙ ap (λ k. drop k left) en) in
    let read : rest_meanings items' ≡ rest_meanings items ++ rest_at begins (take (line_len left) left) ∷ [] =
    ap rest_meanings eitems ∙ map-append rest_meaning items (x ∷ []) ∙ ap (λ y. rest_meanings items ++ y ∷ []) front in
    rests_at-next (rest_meanings items) begins left some
    ∙ sym
    (ap (λ xs. xs ++ rests_at 0 (lines_of left')) read
    ∙ ap
    (λ t.
    (rest_meanings items ++ rest_at begins (take (line_len left) left) ∷ []) ++ rests_at 0 (lines_of t)) following)
