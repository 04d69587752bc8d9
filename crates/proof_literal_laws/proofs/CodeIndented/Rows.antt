-- The rows of indented code after its first line: further lines of it, and blank ones.
--
-- A blank line is bare, as it may be after the code. Between two lines of code it is one of them, so it is taken for a
-- further line: with a begin and an end, which go when the lines are joined. After the last line of code it is
-- whitespace.
use Rattle.std.proofs.Common.{◌≡◌, ℕ, ◌<◌, Bool, true, false, cond, ◌||◌, not, List, [], ◌∷◌}
use Rattle.std.proofs.Common.{◌++◌, length, drop, map, refl, sym, ◌∙◌, ap, subst₂, arith}
use Rattle.std.specs.Prelude.{◌==◌, ◌&&◌, None, Some}
use Rattle.std.proofs.lemmas.Bool.Decides.{nat_tests}
use Rattle.md_engine.specs.declared.configuration.ParseOptions.{ParseOptions}
use Rattle.md_engine.specs.declared.event.Event.{Event}
use Rattle.md_engine.specs.declared.event.Name.TheVariants as n
use Rattle.md_engine.specs.declared.event.Point.{Point}
use Rattle.md_meaning.specs.Leaves.{code_line}
use Rattle.md_meaning.specs.Rest.{Rest, is_blank}
use Rattle.md_meaning.specs.Tree.{Line}
use Rattle.md_leaves.specs.Spanned.{renamed}
use Rattle.md_leaves.specs.declared.spans.Place.TheVariants.{Outside}
use Rattle.md_leaves.specs.Further.{further_link}
use Rattle.md_events.specs.Events.Nested.{enter_link, exit}
use Rattle.proof_literal_laws.specs.Leaf.CodeIndented.{code_further, code_parts, further_parts, line_parts}
use Rattle.proof_frame.specs.Row.{Row, is_blank_row, is_empty_row, is_framed, last_row}
use Rattle.proof_literal_laws.proofs.CodeIndented.Blank.{following-facts, blank-placed, blank_after}
use Rattle.proof_literal_laws.proofs.CodeIndented.Parts.{code-inside, further-is}
use Rattle.proof_frame.proofs.LeafLines.Rest.{row_unread}
use Rattle.proof_frame.proofs.FrontFacts.{LinePrefix}
use Rattle.proof_frame.proofs.FrontPlaces.{fronts-grow}
use Rattle.proof_frame.proofs.LeafFacts.{LeafFacts}
use Rattle.proof_frame.proofs.LineTexts.{some-text, text-following}
use Rattle.proof_literal_laws.proofs.IndentRemoved.Parts.{inside-lines}
use Rattle.proof_frame.proofs.IndentRemoved.Places.{FurtherAt, further-at, further-rest}
use Rattle.proof_frame.proofs.IndentRemoved.Shown.{left-clear}
use Rattle.md_events.proofs.FeedLines.{IsEnding}
use Rattle.proof_frame.proofs.LeafLines.Bare.{paired}
use Rattle.proof_frame.proofs.LeafLines.Following.{IsOutside}
use Rattle.proof_frame.proofs.LeafLines.Framed.{plain-unframed}
use Rattle.proof_frame.proofs.SpanLaws.{IsLineOf}

-- A row taken for a line.

-- the begin and the end of a further line
abbrev pub begins : Row → Event
begins row = enter_link n.CodeIndented row.first further_link

abbrev pub ends : Row → Event
ends row = exit n.CodeIndented row.end

abbrev pub as_line : Row → List Event
as_line row = paired begins ends row_unread row

-- with what is between them
abbrev pub line_in : Rest → Point → Point → List Event
line_in r p q = line_parts (enter_link n.CodeIndented p further_link) r p q

-- A further line of code, blank or not, where it is: its rest, and what is added for it.
pub record InCode (bytes : List ℕ) (row : Row) : Type 0 where
  pub rest : Rest
  pub at : FurtherAt bytes rest row.first row.end
  pub inside : row.inside ≡ further_parts rest row.first row.end
  -- its ending is that of a blank line just if it is blank
  pub ending : is_blank_row row ≡ is_blank rest.bytes

-- parts of it are no line by themselves
parts-bare : (r : Rest) (p q : Point) → is_framed (code_parts r p q) ≡ false
parts-bare r p q = plain-unframed (code_parts r p q) (inside-lines (code_parts r p q) (code-inside r p q))

-- it is a pair of its own unless it is blank
pub in-framed : (bytes : List ℕ) (row : Row) → (is : InCode bytes row) →
    is_framed row.inside ≡ not (is_blank is.rest.bytes)
in-framed bytes row is = ap is_framed is.inside ∙ go (is_blank is.rest.bytes)
  where
    go : (blank : Bool) →
        is_framed (cond blank (code_parts is.rest row.first row.end) (line_in is.rest row.first row.end)) ≡ not blank
    go true = parts-bare is.rest row.first row.end
    go false = refl

-- and taken for a line it has what is on it between a begin and an end
pub as-line : (bytes : List ℕ) (row : Row) → (is : InCode bytes row) →
    as_line row ≡ line_in is.rest row.first row.end
as-line bytes row is = ap line is.inside ∙ go (is_blank is.rest.bytes)
  where
    parts : List Event
    parts = code_parts is.rest row.first row.end

    line : List Event → List Event
    line es = cond (is_framed es) es (begins row ∷ es ++ ends row ∷ [])

    go : (blank : Bool) →
        line (cond blank (code_parts is.rest row.first row.end) (line_in is.rest row.first row.end)) ≡
        line_in is.rest row.first row.end
    go true =
        ap (λ (framed : Bool). cond framed parts (line_in is.rest row.first row.end))
        (parts-bare is.rest row.first row.end)
    go false = refl

-- Such rows after one with this rest; on the last of them is text, as on each line of code.
abbrev pub AreInCode : List ℕ → Rest → Row → List Row → Type 0
AreInCode bytes r row [] = is_blank r.bytes ≡ false
AreInCode bytes r row (next ∷ rows) =
    (q : Point) × (after : row.after ≡ Some q) × (ending : IsEnding bytes row.end q)
    × (front : LinePrefix bytes [] q next.first next.front)
    × (is : InCode bytes next) × AreInCode bytes is.rest next rows

-- the lines of the line definition that they are
abbrev pub lines_after : (bytes : List ℕ) (r : Rest) (row : Row) (rows : List Row) → AreInCode bytes r row rows →
    List Line
lines_after bytes r row [] are = []
lines_after bytes r row (next ∷ rows) are =
    code_line are.4.rest ∷ lines_after bytes are.4.rest next rows are.5

-- The text continues with them: after a line with text is no end of it, nor before one.
pub proceeds-on : (bytes : List ℕ) (r : Rest) (row : Row) (rows : List Row) → FurtherAt bytes r row.first row.end →
    AreInCode bytes r row rows → row.first.index < length bytes
proceeds-on bytes r row [] is dark = text-following bytes r row.first row.end is.at (some-text r dark)
proceeds-on bytes r row (next ∷ rows) is are =
    let q = are.0 in
    let further = proceeds-on bytes are.4.rest next rows are.4.at are.5 in
    let grow = fronts-grow bytes [] q next.first next.front are.3 in
    let size = is.at.size in
    let ending = are.2.size in
    omega (arith, further, grow, size, ending)

-- Something is on a line with text.
pub text-some : (bytes : List ℕ) (r : Rest) (row : Row) → FurtherAt bytes r row.first row.end →
    is_blank r.bytes ≡ false → is_empty_row row ≡ false
text-some bytes r row is dark =
    let some = some-text r dark in
    let size = is.at.size in
    let full : (row.first.index == row.end.index) ≡ false = grind (arith, nat_tests) in
    full

-- where the last of them ends, no tab is cut, and its ending is that of a line with text
pub last-in : (bytes : List ℕ) (r : Rest) (row : Row) (rows : List Row) → FurtherAt bytes r row.first row.end →
    is_blank_row row ≡ is_blank r.bytes → AreInCode bytes r row rows →
    ((last_row row rows).end.vs ≡ 0) × (is_blank_row (last_row row rows) ≡ false)
last-in bytes r row [] at ending are = (at.at.end_whole, ending ∙ are)
last-in bytes r row (next ∷ rows) at ending are =
    last-in bytes are.4.rest next rows are.4.at are.4.ending are.5

-- After the last of them a blank line is as whitespace.
pub row-outside : (bytes : List ℕ) (row : Row) → (is : InCode bytes row) → is_blank is.rest.bytes ≡ true →
    IsOutside bytes row_unread row
row-outside bytes row is blank = record {
  clear =
      left-clear bytes (drop row.end.index bytes) r row.first (further-rest bytes r row.first row.end is.at);
  whole = is.at.at.end_whole;
  facts =
      subst₂ (λ (full : Bool) (es : List Event). LeafFacts bytes None full row.first row.end es es)
      (sym (ap not (is.ending ∙ blank))) (sym same) (following-facts bytes r row.first row.end blank is.at);
}
  where
    r : Rest
    r = is.rest

    parts : List Event
    parts = code_parts is.rest row.first row.end

    same : map (renamed Outside) row.inside ≡ blank_after is.rest row.first row.end
    same =
        ap (map (renamed Outside))
        (is.inside ∙ ap (λ (x : Bool). cond x parts (line_in is.rest row.first row.end)) blank)
        ∙ blank-placed Outside is.rest row.first row.end

-- A row of the value that takes further lines is such a row.

pub row-inside : (options : ParseOptions) (bytes : List ℕ) (row : Row) →
    (is : IsLineOf options bytes code_further row) → row.inside ≡ further_parts is.rest row.first row.end
row-inside options bytes row is =
    is.inside
    ∙ further-is bytes is.rest row.first row.end (further-at options bytes code_further row is)

pub row-ending : (options : ParseOptions) (bytes : List ℕ) (row : Row) →
    (is : IsLineOf options bytes code_further row) → is_blank_row row ≡ is_blank is.rest.bytes
row-ending options bytes row is = is.ending ∙ is.empty ∙ go (is_blank is.rest.bytes) refl
  where
    go : (x : Bool) → is_blank is.rest.bytes ≡ x →
        ((code_further.stays_blank && x) || (is_empty_row row && (row.first.column == 1))) ≡ x
    go true e = refl
    go false e =
        ap (λ (y : Bool). y && (row.first.column == 1))
        (text-some bytes is.rest row (further-at options bytes code_further row is) e)

abbrev pub row-in : (options : ParseOptions) (bytes : List ℕ) (row : Row) →
    IsLineOf options bytes code_further row → InCode bytes row
row-in options bytes row is = record {
  rest = is.rest;
  at = further-at options bytes code_further row is;
  inside = row-inside options bytes row is;
  ending = row-ending options bytes row is;
}
