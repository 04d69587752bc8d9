-- The bytes of a line: its parts, its ending, and where it is in a text.
use Rattle.std.proofs.Common.{◌≡◌, ℕ, zero, suc, ◌-◌, ◌<◌, ◌≤◌, Bool, true, false, cond, List, [], ◌∷◌, ◌++◌, length}
use Rattle.std.proofs.Common.{drop, slice_range, refl, ap, sym, ◌∙◌, append-nil, drop-drop, arith}
use Rattle.std.specs.Prelude.{nat_lt, not}
use Rattle.std.proofs.lemmas.Bool.Decides.{nat_tests}
use Rattle.std.proofs.lemmas.List.{drop_all, take-append-drop}
use Rattle.std.proofs.lemmas.List.Sums.{take_while-cons}
use Rattle.md_engine.specs.declared.event.Point.{Point}
use Rattle.md_events.specs.Events.Inline.{is_one_line}
use Rattle.md_events.specs.Events.Places.{past_byte, past_text}
use Rattle.md_meaning.specs.Lines.{is_ending, without_ending}
use Rattle.md_meaning.specs.Rest.{Rest, cut_tab, is_blank}
use Rattle.md_meaning.specs.Texts.{split_lines}
use Rattle.md_events.proofs.FeedLines.{past_text-whole}
use Rattle.md_meaning.proofs.TextsLemmas.{Both, Ending, EndsBefore, LineFeed, NoEnding, Return, ending_bytes}
use Rattle.md_meaning.proofs.TextsLemmas.{split-line, split-next}
use Rattle.proof_frame.specs.RestLine.{rest_line}
use Rattle.proof_frame.proofs.LeafFacts.{LineAt}

-- the parts of a line without endings have none
pub no_ending-parts : (xs ys : List ℕ) → NoEnding (xs ++ ys) → NoEnding xs × NoEnding ys
no_ending-parts [] ys h = (tt, h)
no_ending-parts (b ∷ xs) ys h =
    let parts : NoEnding xs × NoEnding ys = no_ending-parts xs ys h.1 in ((h.0, parts.0), parts.1)

-- a line without its ending is that line
pub without-none : (line : List ℕ) → NoEnding line → without_ending line ≡ line
without-none [] h = refl
without-none (b ∷ line) h =
    take_while-cons (λ (b : ℕ). not (is_ending b)) b line
    ∙ ap (λ (x : Bool). cond (not x) (b ∷ without_ending line) []) h.0
    ∙ ap (λ (l : List ℕ). b ∷ l) (without-none line h.1)

pub without-one : (line : List ℕ) (ending : Ending) → NoEnding line →
    without_ending (line ++ ending_bytes ending) ≡ line
without-one [] LineFeed h = refl
without-one [] Return h = refl
without-one [] Both h = refl
without-one (b ∷ line) ending h =
    take_while-cons (λ (b : ℕ). not (is_ending b)) b (line ++ ending_bytes ending)
    ∙ ap (λ (x : Bool). cond (not x) (b ∷ without_ending (line ++ ending_bytes ending)) []) h.0
    ∙ ap (λ (l : List ℕ). b ∷ l) (without-one line ending h.1)

-- a line is one line, without its ending and with it
pub one-last : (line : List ℕ) → 0 < length line → NoEnding line → (ends : Bool) → ends ≡ true →
    is_one_line (split_lines line) ends ≡ true
one-last [] some h ends e = absurd (omega arith)
one-last (b ∷ bs) some h ends e = ap (λ (lines : List (List ℕ)). is_one_line lines ends) (split-line (b ∷ bs) h) ∙ e

pub one-next : (line : List ℕ) (ending : Ending) → NoEnding line → (ends : Bool) →
    is_one_line (split_lines (line ++ ending_bytes ending)) ends ≡ true
one-next line ending h ends =
    ap (λ (l : List ℕ). is_one_line (split_lines l) ends) (sym (append-nil (line ++ ending_bytes ending)))
    ∙ ap (λ (lines : List (List ℕ)). is_one_line lines ends) (split-next line ending [] h (before ending))
    ∙ go line
  where
    before : (ending : Ending) → EndsBefore ending []
    before LineFeed = tt
    before Return = refl
    before Both = tt

    go : (line : List ℕ) → is_one_line (line ∷ [] ∷ []) ends ≡ true
    go [] = refl
    go (b ∷ line) = refl

-- a piece of a text, and what follows it
pub piece : (bytes : List ℕ) (i j : ℕ) → i ≤ j → drop i bytes ≡ slice_range bytes i j ++ drop j bytes
piece bytes i j le =
    sym (take-append-drop (j - i) (drop i bytes))
    ∙ ap (λ (l : List ℕ). slice_range bytes i j ++ l)
    (drop-drop (j - i) i bytes ∙ ap (λ (k : ℕ). drop k bytes) (omega arith))

-- a line is there, and what follows after it
pub line-valid : (bytes : List ℕ) (r : Rest) (line : List ℕ) (p q : Point) → LineAt bytes r line p q →
    drop p.index bytes ≡ line ++ drop q.index bytes
line-valid bytes r line p q is =
    piece bytes p.index q.index (omega (arith, is.size))
    ∙ ap (λ (l : List ℕ). l ++ drop q.index bytes) is.text

-- where something is on a line, the text continues with it
pub some-text : (r : Rest) → is_blank r.bytes ≡ false → 0 < length (rest_line r)
some-text r dark = go r.spaces r.bytes dark
  where
    go : (spaces : ℕ) (bytes : List ℕ) → is_blank bytes ≡ false → 0 < length (cut_tab spaces ++ bytes)
    go zero [] h = cc
    go zero (b ∷ bs) h = omega arith
    go (suc k) bytes h = omega arith

pub text-following : (bytes : List ℕ) (r : Rest) (p q : Point) → LineAt bytes r (rest_line r) p q →
    0 < length (rest_line r) → p.index < length bytes
text-following bytes r p q at some = go (nat_lt p.index (length bytes)) refl
  where
    over : (line left : List ℕ) → 0 < length line → line ++ left ≡ [] → ⊥
    over [] left some e = absurd (omega (arith, some))
    over (b ∷ line) left some e = cc

    go : (x : Bool) → nat_lt p.index (length bytes) ≡ x → p.index < length bytes
    go true e = grind (arith, nat_tests)
    go false e =
        let le : length bytes ≤ p.index = grind (arith, nat_tests) in
        absurd
        (over (rest_line r) (drop q.index bytes) some
        (sym (line-valid bytes r (rest_line r) p q at) ∙ drop_all p.index bytes le))

-- after some bytes no tab is cut
pub past-whole : (line : List ℕ) (p : Point) → 0 < length line → (past_text line p).vs ≡ 0
past-whole [] p h = absurd (omega arith)
past-whole (b ∷ bs) p h = past_text-whole bs (past_byte b p) refl

-- and the line is the same
pub past_text-line : (line : List ℕ) (p : Point) → (past_text line p).line ≡ p.line
past_text-line [] p = refl
past_text-line (b ∷ bs) p = past_text-line bs (past_byte b p)
