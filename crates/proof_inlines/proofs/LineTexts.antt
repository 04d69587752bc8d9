-- A text read line by line: what the lines that are there read, and what a further line adds.
use Rattle.std.proofs.Common.{◌≡◌, ℕ, zero, suc, ◌+◌, ◌-◌, ◌≤◌, Bool, true, false, cond, not, ◌&&◌, ◌||◌, List, [], ◌∷◌, ◌++◌}
use Rattle.std.proofs.Common.{length, take, drop, reverse, refl, ap, sym, ◌∙◌, subst, arith, append_assoc, append-nil}
use Rattle.std.proofs.Common.{length-append, ◌⊎◌, inl, inr}
use Rattle.std.specs.Prelude.{◌==◌}
use Rattle.std.specs.List.{onto_first, prefix_len, suffix_len}
use Rattle.std.proofs.lemmas.Bool.{and_parts, eqb-true}
use Rattle.std.proofs.lemmas.List.{reverse-append}
use Rattle.std.proofs.lemmas.List.Sums.{take_while-cons}
use Rattle.md_meaning.specs.Ascii.{line_feed}
use Rattle.md_meaning.specs.Lines.{is_ending, without_ending}
use Rattle.md_meaning.specs.Rest.{is_blank, is_white, trim_end, trim_start}
use Rattle.md_meaning.specs.Texts.{split_lines, trim_each}
use Rattle.md_meaning.proofs.LinesLemmas.{without_ending-cons}
use Rattle.md_meaning.proofs.TextsLemmas.{Both, Ending, EndsBefore, LineFeed, NoEnding, Return, ending_bytes, split-byte}
use Rattle.md_meaning.proofs.TextsLemmas.{split-line, split-next}
use Rattle.md_events.specs.Events.Inline.{is_one_line}
use Rattle.md_events.proofs.InlineLemmas.{line-no_ending}
use Rattle.md_events.proofs.PlacesLemmas.{Some_line, some-split}
use Rattle.md_events.proofs.PlainSteps.{One, Rests, Two, rests-of}
use Rattle.md_events.proofs.RestLines.{count-none, trim-white}
use Rattle.md_inline_events.specs.TreeTexts.{joined}

-- what a text is read as, line by line
abbrev pub text_read : List ℕ → List ℕ
text_read text = joined (trim_each (split_lines text))

-- Whitespace before a line is not read.

pub white-plain : (b : ℕ) → is_white b ≡ true → is_ending b ≡ false
white-plain b h = go (b == 32) refl (b == 9) refl h
  where
    is : (c : ℕ) → is_ending c ≡ false → b ≡ c → is_ending b ≡ false
    is c e same = ap is_ending same ∙ e

    go : (x : Bool) → (b == 32) ≡ x → (y : Bool) → (b == 9) ≡ y → (x || y) ≡ true → is_ending b ≡ false
    go true e y f h = is 32 refl (eqb-true b 32 e)
    go false e true f h = is 9 refl (eqb-true b 9 f)
    go false e false f h = cc

trim-byte : (b : ℕ) (lines : List (List ℕ)) → is_white b ≡ true → Some_line lines →
    trim_each (onto_first b lines) ≡ trim_each lines
trim-byte b [] h some = absurd some
trim-byte b (line ∷ lines) h some = ap (λ (l : List ℕ). l ∷ trim_each lines) (trim-white b line h)

pub read-byte : (b : ℕ) (text : List ℕ) → is_white b ≡ true → text_read (b ∷ text) ≡ text_read text
read-byte b text h =
    ap (λ (ls : List (List ℕ)). joined (trim_each ls)) (split-byte b text (white-plain b h))
    ∙ ap joined (trim-byte b (split_lines text) h (some-split text))

pub read-white : (white text : List ℕ) → is_blank white ≡ true → text_read (white ++ text) ≡ text_read text
read-white [] text h = refl
read-white (b ∷ white) text h =
    let two : (is_white b ≡ true) × (is_blank white ≡ true) = and_parts (is_white b) (is_blank white) h in
    read-byte b (white ++ text) two.0 ∙ read-white white text two.1

-- A line and its ending.

joined-next : (line : List ℕ) (lines : List (List ℕ)) → Some_line lines →
    joined (line ∷ trim_each lines) ≡ line ++ line_feed ∷ joined (trim_each lines)
joined-next line [] some = absurd some
joined-next line (next ∷ lines) some = refl

pub read-next : (line : List ℕ) (ending : Ending) (text : List ℕ) → NoEnding line → EndsBefore ending text →
    text_read (line ++ ending_bytes ending ++ text) ≡ trim_start line ++ line_feed ∷ text_read text
read-next line ending text plain before =
    ap (λ (ls : List (List ℕ)). joined (trim_each ls)) (split-next line ending text plain before)
    ∙ joined-next (trim_start line) (split_lines text) (some-split text)

-- The whitespace after the last line is not read.

trim-push : (l : List ℕ) (b : ℕ) → is_white b ≡ true → trim_end (l ++ b ∷ []) ≡ trim_end l
trim-push l b h =
    let size : length (l ++ b ∷ []) ≡ length l + 1 = length-append l (b ∷ []) in
    let back : reverse (l ++ b ∷ []) ≡ b ∷ reverse l = reverse-append l (b ∷ []) in
    let more : suffix_len is_white (l ++ b ∷ []) ≡ 1 + suffix_len is_white l =
    ap (prefix_len is_white) back ∙ ap (λ (t : Bool). cond t (1 + suffix_len is_white l) 0) h in
    let left : length (l ++ b ∷ []) - suffix_len is_white (l ++ b ∷ []) ≡ length l - suffix_len is_white l =
    omega (arith, size, more) in
    ap (λ (n : ℕ). take n (l ++ b ∷ [])) left
    ∙ take-front (length l - suffix_len is_white l) l (b ∷ []) (omega arith)
  where
    take-front : (n : ℕ) (xs ys : List ℕ) → n ≤ length xs → take n (xs ++ ys) ≡ take n xs
    take-front zero xs ys h = refl
    take-front (suc n) [] ys h = absurd (omega (arith, h))
    take-front (suc n) (x ∷ xs) ys h = ap (λ (l : List ℕ). x ∷ l) (take-front n xs ys (omega (arith, h)))

trim-more : (l white : List ℕ) → is_blank white ≡ true → trim_end (l ++ white) ≡ trim_end l
trim-more l [] h = ap trim_end (append-nil l)
trim-more l (b ∷ white) h =
    let two : (is_white b ≡ true) × (is_blank white ≡ true) = and_parts (is_white b) (is_blank white) h in
    ap trim_end (sym (append_assoc l (b ∷ []) white))
    ∙ trim-more (l ++ b ∷ []) white two.1
    ∙ trim-push l b two.0

trim-other : (b : ℕ) (l : List ℕ) → is_white b ≡ false → trim_start (b ∷ l) ≡ b ∷ l
trim-other b l e = ap (λ (n : ℕ). drop n (b ∷ l)) (count-none is_white b l e)

-- where a line has more, its whitespace ends before what follows
trim-before : (line more : List ℕ) → is_blank line ≡ false → trim_start (line ++ more) ≡ trim_start line ++ more
trim-before [] more h = cc
trim-before (b ∷ line) more h = go (is_white b) refl h (λ k. trim-before line more k)
  where
    go : (x : Bool) → is_white b ≡ x → (x && is_blank line) ≡ false →
        (is_blank line ≡ false → trim_start (line ++ more) ≡ trim_start line ++ more) →
        trim_start (b ∷ (line ++ more)) ≡ trim_start (b ∷ line) ++ more
    go true e k rest =
        trim-white b (line ++ more) e ∙ rest k ∙ ap (λ (l : List ℕ). l ++ more) (sym (trim-white b line e))
    go false e k rest = trim-other b (line ++ more) e ∙ ap (λ (l : List ℕ). l ++ more) (sym (trim-other b line e))

plain-append : (line more : List ℕ) → NoEnding line → NoEnding more → NoEnding (line ++ more)
plain-append [] more h k = k
plain-append (b ∷ line) more h k = (h.0, plain-append line more h.1 k)

white-no_ending : (white : List ℕ) → is_blank white ≡ true → NoEnding white
white-no_ending [] h = tt
white-no_ending (b ∷ white) h =
    let two : (is_white b ≡ true) × (is_blank white ≡ true) = and_parts (is_white b) (is_blank white) h in
    (white-plain b two.0, white-no_ending white two.1)

pub read-last : (line white : List ℕ) → NoEnding line → is_blank line ≡ false → is_blank white ≡ true →
    text_read (line ++ white) ≡ trim_end (trim_start line)
read-last line white plain some blank =
    ap (λ (ls : List (List ℕ)). joined (trim_each ls))
    (split-line (line ++ white) (plain-append line white plain (white-no_ending white blank)))
    ∙ ap trim_end (trim-before line white some)
    ∙ trim-more (trim_start line) white blank

-- Chunks: a line, and its ending.

-- what is read of a line that goes on, and of the last
abbrev pub line_read : List ℕ → List ℕ
line_read chunk = trim_start (without_ending chunk) ++ line_feed ∷ []

abbrev pub last_read : List ℕ → List ℕ
last_read chunk = trim_end (trim_start (without_ending chunk))

-- a chunk that ends with its ending
pub record Ended (chunk : List ℕ) : Type 0 where
  pub ending : Ending
  pub is : chunk ≡ without_ending chunk ++ ending_bytes ending

-- what follows the line of a text
ending-next : (text : List ℕ) →
    (without_ending text ≡ text)
    ⊎ ((b : ℕ) × (rest : List ℕ) × (is_ending b ≡ true) × (text ≡ without_ending text ++ b ∷ rest))
ending-next [] = inl refl
ending-next (b ∷ text) = go (is_ending b) refl (ending-next text)
  where
    go : (x : Bool) → is_ending b ≡ x →
        (without_ending text ≡ text)
        ⊎ ((c : ℕ) × (rest : List ℕ) × (is_ending c ≡ true) × (text ≡ without_ending text ++ c ∷ rest)) →
        (without_ending (b ∷ text) ≡ b ∷ text)
        ⊎ ((c : ℕ) × (rest : List ℕ) × (is_ending c ≡ true) × (b ∷ text ≡ without_ending (b ∷ text) ++ c ∷ rest))
    go true e next =
        inr (
          b,
          text,
          e,
          ap (λ (l : List ℕ). l ++ b ∷ text)
              (sym (take_while-cons (λ (c : ℕ). not (is_ending c)) b text
              ∙ ap (λ (t : Bool). cond (not t) (b ∷ without_ending text) []) e)),
        )
    go false e (inl all) = inl (without_ending-cons b text e ∙ ap (λ (l : List ℕ). b ∷ l) all)
    go false e (inr next) =
        inr (
          next.0,
          next.1,
          next.2,
          ap (λ (l : List ℕ). b ∷ l) next.3
              ∙ ap (λ (l : List ℕ). l ++ next.0 ∷ next.1) (sym (without_ending-cons b text e)),
        )

one-anyway : (lines : List (List ℕ)) → is_one_line lines false ≡ true → is_one_line lines true ≡ true
one-anyway ((b ∷ bs) ∷ []) h = cc
one-anyway (line ∷ [] ∷ []) h = go line
  where
    go : (line : List ℕ) → is_one_line (line ∷ [] ∷ []) true ≡ true
    go [] = refl
    go (b ∷ bs) = refl
one-anyway _ h = cc

pub ended-of : (chunk : List ℕ) → is_one_line (split_lines chunk) false ≡ true → Ended chunk
ended-of chunk one = go (ending-next chunk)
  where
    not-one : (line : List ℕ) → is_one_line (line ∷ []) false ≡ true → ⊥
    not-one [] h = cc
    not-one (b ∷ bs) h = cc

    by : (b : ℕ) (rest : List ℕ) → is_ending b ≡ true → chunk ≡ without_ending chunk ++ b ∷ rest → Rests b rest →
        Ended chunk
    by b rest e is (One none) = feed (b == 10) refl (b == 13) refl e
      where
        feed : (x : Bool) → (b == 10) ≡ x → (y : Bool) → (b == 13) ≡ y → (x || y) ≡ true → Ended chunk
        feed true f y g h =
            record {
              ending = LineFeed;
              is = is ∙ ap (λ (l : List ℕ). without_ending chunk ++ b ∷ l) none
                  ∙ ap (λ (c : ℕ). without_ending chunk ++ c ∷ []) (eqb-true b 10 f);
            }
        feed false f true g h =
            record {
              ending = Return;
              is = is ∙ ap (λ (l : List ℕ). without_ending chunk ++ b ∷ l) none
                  ∙ ap (λ (c : ℕ). without_ending chunk ++ c ∷ []) (eqb-true b 13 g);
            }
        feed false f false g h = cc
    by b rest e is (Two return both) =
        record {
          ending = Both;
          is = is ∙ ap (λ (l : List ℕ). without_ending chunk ++ b ∷ l) both
              ∙ ap (λ (c : ℕ). without_ending chunk ++ c ∷ 10 ∷ []) return;
        }

    go : (without_ending chunk ≡ chunk)
        ⊎ ((b : ℕ) × (rest : List ℕ) × (is_ending b ≡ true) × (chunk ≡ without_ending chunk ++ b ∷ rest)) →
        Ended chunk
    go (inl all) =
        let plain : NoEnding chunk = subst NoEnding all (line-no_ending chunk) in
        absurd
        (not-one chunk (subst (λ (ls : List (List ℕ)). is_one_line ls false ≡ true) (split-line chunk plain) one))
    go (inr next) =
        by next.0 next.1 next.2 next.3
        (rests-of (without_ending chunk) next.0 next.1 (line-no_ending chunk) next.2
        (subst (λ (t : List ℕ). is_one_line (split_lines t) true ≡ true) next.3
        (one-anyway (split_lines chunk) one)))
