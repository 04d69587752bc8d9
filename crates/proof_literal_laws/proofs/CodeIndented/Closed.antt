-- What the line definition has of the lines of indented code, once it is closed: all up to the last that is not blank.
use Rattle.std.proofs.Common.{◌≡◌, ℕ, ◌+◌, ◌-◌, Bool, true, false, cond, List, [], ◌∷◌, ◌++◌, length, take}
use Rattle.std.proofs.Common.{reverse, sym, ◌∙◌, ap, ap₂, arith, subst, append_assoc, append-nil}
use Rattle.std.specs.List.{list_all, prefix_len, suffix_len}
use Rattle.std.proofs.lemmas.Bool.{and_parts}
use Rattle.std.proofs.lemmas.List.{length-append, reverse-append, take-append-le, take_all}
use Rattle.md_meaning.specs.Leaves.{code_line}
use Rattle.md_meaning.specs.Rest.{Rest, is_blank}
use Rattle.md_meaning.specs.State.{without_trailing_blank}
use Rattle.md_meaning.specs.Tree.{Line}
use Rattle.md_literal.proofs.CodeLines.{blank-line}
use Rattle.proof_frame.specs.Row.{Row}
use Rattle.proof_literal_laws.proofs.CodeIndented.Rows.{AreInCode, lines_after}

-- lines without text
abbrev pub AreBlank : List Line → Type 0
AreBlank lines = list_all (λ (l : Line). is_blank l.text) lines ≡ true

-- one line more, by whether it is blank
suffix-more : (lines : List Line) (l : Line) (blank : Bool) → is_blank l.text ≡ blank →
    suffix_len (λ (l : Line). is_blank l.text) (lines ++ l ∷ []) ≡
    cond blank (1 + suffix_len (λ (l : Line). is_blank l.text) lines) 0
suffix-more lines l blank e =
    ap (prefix_len (λ (l : Line). is_blank l.text)) (reverse-append lines (l ∷ []))
    ∙ ap (λ (x : Bool). cond x (1 + prefix_len (λ (l : Line). is_blank l.text) (reverse lines)) 0) e

-- a blank one goes
trailing-one : (lines : List Line) (l : Line) → is_blank l.text ≡ true →
    without_trailing_blank (lines ++ l ∷ []) ≡ without_trailing_blank lines
trailing-one lines l e =
    ap₂ (λ (n k : ℕ). take (n - k) (lines ++ l ∷ [])) (length-append lines (l ∷ [])) (suffix-more lines l true e)
    ∙ ap (λ (n : ℕ). take n (lines ++ l ∷ [])) same
    ∙ take-append-le (length lines - blank) lines (l ∷ []) (omega arith)
  where
    blank : ℕ
    blank = suffix_len (λ (l : Line). is_blank l.text) lines

    same : length lines + 1 - (1 + blank) ≡ length lines - blank
    same = omega arith

-- and so do all at the end
pub trailing-blank : (lines blanks : List Line) → AreBlank blanks →
    without_trailing_blank (lines ++ blanks) ≡ without_trailing_blank lines
trailing-blank lines [] h = ap without_trailing_blank (append-nil lines)
trailing-blank lines (l ∷ blanks) h =
    let both = and_parts (is_blank l.text) (list_all (λ (l : Line). is_blank l.text) blanks) h in
    ap without_trailing_blank (sym (append_assoc lines (l ∷ []) blanks))
    ∙ trailing-blank (lines ++ l ∷ []) blanks both.1
    ∙ trailing-one lines l both.0

-- any other line stays
trailing-last : (lines : List Line) (l : Line) → is_blank l.text ≡ false →
    without_trailing_blank (lines ++ l ∷ []) ≡ lines ++ l ∷ []
trailing-last lines l dark =
    ap (λ (k : ℕ). take (length all - k) all) (suffix-more lines l false dark)
    ∙ take_all (length all - 0) all (omega arith)
  where
    all : List Line
    all = lines ++ l ∷ []

pub lines-trailing : (bytes : List ℕ) (r : Rest) (row : Row) (rows : List Row) → (are : AreInCode bytes r row rows) →
    (before : List Line) →
    without_trailing_blank (before ++ code_line r ∷ lines_after bytes r row rows are) ≡
    before ++ code_line r ∷ lines_after bytes r row rows are
lines-trailing bytes r row [] are before = trailing-last before (code_line r) (blank-line r ∙ are)
lines-trailing bytes r row (next ∷ rows) are before =
    let s = are.4.rest in
    subst (λ (l : List Line). without_trailing_blank l ≡ l)
    (append_assoc before (code_line r ∷ []) (code_line s ∷ lines_after bytes s next rows are.5))
    (lines-trailing bytes s next rows are.5 (before ++ code_line r ∷ []))
