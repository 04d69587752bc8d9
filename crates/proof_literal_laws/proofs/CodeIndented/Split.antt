-- The rows after the first line of indented code: those up to the last with text are in the code, and the others, which
-- are blank, are after it.
use Rattle.std.proofs.Common.{◌≡◌, ℕ, Bool, true, false, cond, ◌||◌, not, List, [], ◌∷◌, ◌++◌, length, refl, sym, ◌∙◌}
use Rattle.std.proofs.Common.{ap, arith, append_assoc, append-nil}
use Rattle.std.specs.Prelude.{nat_lt}
use Rattle.std.proofs.lemmas.Bool.{and_from, or_parts}
use Rattle.std.proofs.lemmas.Bool.Decides.{nat_tests}
use Rattle.md_engine.specs.declared.configuration.ParseOptions.{ParseOptions}
use Rattle.md_meaning.specs.Leaves.{LeafResult, Opened, code_line}
use Rattle.md_meaning.specs.Rest.{Rest, is_blank}
use Rattle.md_meaning.specs.State.{OpenCode, shut, then_block}
use Rattle.md_meaning.specs.Step.{became}
use Rattle.md_meaning.specs.Tree.{Blocks, Code, Line}
use Rattle.md_literal.proofs.CodeLines.{blank-line}
use Rattle.proof_literal_laws.specs.Leaf.CodeIndented.{code_becomes, code_further}
use Rattle.proof_frame.specs.Row.{Row, any_framed, is_framed, last_row}
use Rattle.proof_literal_laws.proofs.CodeIndented.Closed.{AreBlank, lines-trailing, trailing-blank}
use Rattle.proof_literal_laws.proofs.CodeIndented.Rows.{AreInCode, InCode, proceeds-on, in-framed, lines_after, row-in}
use Rattle.proof_literal_laws.proofs.CodeIndented.Rows.{row-outside}
use Rattle.proof_frame.proofs.LeafLines.Rest.{row_unread}
use Rattle.proof_frame.proofs.FrontPlaces.{fronts-grow}
use Rattle.proof_frame.proofs.LeafLines.Bare.{inner, outer}
use Rattle.proof_frame.proofs.LeafLines.Following.{AreOutside}
use Rattle.proof_frame.proofs.SpanLaws.{AreAfter, becomes_after}

-- Such rows after a line with this rest, of which these are in the code and those after it.
pub record AreSplit (options : ParseOptions) (bytes : List ℕ) (r : Rest) (row : Row) (rows ins outs : List Row)
    (are : AreAfter options bytes code_further row rows) : Type 0 where
  pub within : AreInCode bytes r row ins
  pub outside : AreOutside bytes row_unread (last_row row ins) outs
  -- the line definition becomes the lines of the code, and some blank ones
  pub becomes : (lines : List Line) →
      (blanks : List Line) × (all : AreBlank blanks) ×
      (becomes_after options bytes code_further row rows are (Opened (OpenCode lines)) ≡
      Opened (OpenCode (lines ++ (lines_after bytes r row ins within ++ blanks))))

-- blank rows alone
blank-split : (options : ParseOptions) (bytes : List ℕ) (r : Rest) (row : Row) (rows : List Row) →
    (are : AreAfter options bytes code_further row rows) → is_blank r.bytes ≡ false →
    any_framed row_unread rows ≡ false → AreSplit options bytes r row rows [] rows are
blank-split options bytes r row rows are dark none = record {
  within = dark;
  outside = following row rows are none;
  becomes = become row rows are none;
}
  where
    -- a row that is no pair is blank
    blank-row : (next : Row) → (is : InCode bytes next) → is_framed next.inside ≡ false →
        is_blank is.rest.bytes ≡ true
    blank-row next is e = go (is_blank is.rest.bytes) (sym (in-framed bytes next is) ∙ e)
      where
        go : (x : Bool) → not x ≡ false → x ≡ true
        go true h = refl
        go false h = cc

    following : (row : Row) (rows : List Row) → AreAfter options bytes code_further row rows →
        any_framed row_unread rows ≡ false → AreOutside bytes row_unread row rows
    following row [] are none = tt
    following row (next ∷ rows) are none =
        let both = or_parts (is_framed next.inside) (any_framed row_unread rows) none in
        let is = row-in options bytes next are.6 in (
          are.0,
          are.1,
          are.2,
          are.3,
          row-outside bytes next is (blank-row next is both.0),
          following next rows are.7 both.1,
        )

    become : (row : Row) (rows : List Row) → (are : AreAfter options bytes code_further row rows) →
        any_framed row_unread rows ≡ false → (lines : List Line) →
        (blanks : List Line) × (all : AreBlank blanks) ×
        (becomes_after options bytes code_further row rows are (Opened (OpenCode lines)) ≡
        Opened (OpenCode (lines ++ blanks)))
    become row [] are none lines = ([], refl, ap (λ (l : List Line). Opened (OpenCode l)) (sym (append-nil lines)))
    become row (next ∷ rows) are none lines =
        let both = or_parts (is_framed next.inside) (any_framed row_unread rows) none in
        go (nat_lt are.0.index (length bytes)) (become next rows are.7 both.1 (lines ++ code_line are.6.rest ∷ []))
        (become next rows are.7 both.1 lines)
        (blank-line are.6.rest ∙ blank-row next (row-in options bytes next are.6) both.0)
      where
        All : List Line → LeafResult → Type 0
        All before c =
            (blanks : List Line) × (all : AreBlank blanks) ×
            (becomes_after options bytes code_further next rows are.7 c ≡ Opened (OpenCode (before ++ blanks)))

        -- an empty line after the ending that the text ends with is none
        go : (x : Bool) →
            All (lines ++ code_line are.6.rest ∷ []) (Opened (OpenCode (lines ++ code_line are.6.rest ∷ []))) →
            All lines (Opened (OpenCode lines)) → is_blank (code_line are.6.rest).text ≡ true →
            All lines (cond x (code_becomes (OpenCode lines) are.6.rest) (Opened (OpenCode lines)))
        go false more same blank = same
        go true more same blank = (
          code_line are.6.rest ∷ more.0,
          and_from (is_blank (code_line are.6.rest).text) _ blank more.1,
          more.2
              ∙ ap (λ (l : List Line). Opened (OpenCode l)) (append_assoc lines (code_line are.6.rest ∷ []) more.0),
        )

dark : (x : Bool) → (not x || false) ≡ true → x ≡ false
dark true h = cc
dark false h = refl

-- Further rows, after a line with text or where some is on one of them.
pub rows-split : (options : ParseOptions) (bytes : List ℕ) (r : Rest) (row : Row) (rows : List Row) →
    (are : AreAfter options bytes code_further row rows) →
    (not (is_blank r.bytes) || any_framed row_unread rows) ≡ true →
    AreSplit options bytes r row rows (inner row_unread rows) (outer row_unread rows) are
rows-split options bytes r row [] are some = blank-split options bytes r row [] are (dark (is_blank r.bytes) some) refl
rows-split options bytes r row (next ∷ rows) are some =
    go (any_framed row_unread (next ∷ rows)) refl some (λ more. rows-split options bytes s next rows are.7 more)
  where
    is : InCode bytes next
    is = row-in options bytes next are.6

    s : Rest
    s = are.6.rest

    Split : List Row → List Row → Type 0
    Split ins outs = AreSplit options bytes r row (next ∷ rows) ins outs are

    in-front : AreSplit options bytes are.6.rest next rows (inner row_unread rows) (outer row_unread rows) are.7 →
        AreSplit options bytes r row (next ∷ rows) (next ∷ inner row_unread rows) (outer row_unread rows) are
    in-front more = record {
      within = (are.0, are.1, are.2, are.3, is, more.within);
      outside = more.outside;
      becomes = λ lines.
          let rest = more.becomes (lines ++ code_line s ∷ []) in
          let following = lines_after bytes s next (inner row_unread rows) more.within in (
            rest.0,
            rest.1,
            ap
                (λ (x : Bool).
                becomes_after options bytes code_further next rows are.7
                (cond x (code_becomes (OpenCode lines) s) (Opened (OpenCode lines))))
                some_text
                ∙ rest.2
                ∙ ap (λ (l : List Line). Opened (OpenCode l))
                (append_assoc lines (code_line s ∷ []) (following ++ rest.0)),
          );
    }
      where
        -- the text continues after the ending
        some_text : nat_lt are.0.index (length bytes) ≡ true
        some_text =
            let further = proceeds-on bytes s next (inner row_unread rows) is.at more.within in
            let grow = fronts-grow bytes [] are.0 next.first next.front are.3 in
            grind (arith, nat_tests)

    go : (x : Bool) → any_framed row_unread (next ∷ rows) ≡ x → (not (is_blank r.bytes) || x) ≡ true →
        ((not (is_blank are.6.rest.bytes) || any_framed row_unread rows) ≡ true →
        AreSplit options bytes are.6.rest next rows (inner row_unread rows) (outer row_unread rows) are.7) →
        Split (cond x (next ∷ inner row_unread rows) []) (cond x (outer row_unread rows) (next ∷ rows))
    go true e some more =
        in-front (more (sym (ap (λ (x : Bool). x || any_framed row_unread rows) (in-framed bytes next is)) ∙ e))
    go false e some more = blank-split options bytes r row (next ∷ rows) are (dark (is_blank r.bytes) some) e

-- The block of the code: it is shut with the lines in it.
pub split-shuts : (options : ParseOptions) (bytes : List ℕ) (r : Rest) (row : Row) (rows ins outs : List Row) →
    (are : AreAfter options bytes code_further row rows) →
    (split : AreSplit options bytes r row rows ins outs are) → (bs : Blocks) →
    shut options
    (became bs (becomes_after options bytes code_further row rows are (Opened (OpenCode (code_line r ∷ []))))) ≡
    then_block bs (Code (code_line r ∷ lines_after bytes r row ins split.within))
split-shuts options bytes r row rows ins outs are split bs =
    let becomes = split.becomes (code_line r ∷ []) in
    let lines = code_line r ∷ lines_after bytes r row ins split.within in
    ap (λ (c : LeafResult). shut options (became bs c)) becomes.2
    ∙ ap (λ (l : List Line). then_block bs (Code l))
    (trailing-blank lines becomes.0 becomes.1 ∙ lines-trailing bytes r row ins split.within [])
