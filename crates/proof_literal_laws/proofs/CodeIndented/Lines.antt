-- Lines of indented code, joined: a first line, and rows after it that are in the code.
use Rattle.std.proofs.Common.{◌≡◌, ℕ, true, List, [], ◌∷◌, ◌++◌, refl, ◌∙◌, ap}
use Rattle.std.specs.Prelude.{Some}
use Rattle.md_engine.specs.declared.configuration.ParseOptions.{ParseOptions}
use Rattle.md_engine.specs.declared.event.Event.{Event}
use Rattle.md_engine.specs.declared.event.Name.TheVariants as n
use Rattle.md_meaning.specs.Leaves.{code_line}
use Rattle.md_meaning.specs.Rest.{Rest, lose}
use Rattle.md_meaning.specs.Tree.{Code}
use Rattle.md_outline.specs.LinesAllowed.{begun_site}
use Rattle.md_events.specs.Events.Nested.{around, enter, exit}
use Rattle.md_events.specs.Events.Spelled.{CodeLeaf, OfCode, OpenLeaf, fresh}
use Rattle.md_events.proofs.EndingsLemmas.{Leads, in_leaf, leads-append, others-lead}
use Rattle.proof_frame.specs.RestLine.{rest_line}
use Rattle.proof_literal_laws.specs.Leaf.CodeIndented.{code_leaf}
use Rattle.proof_frame.specs.Row.{Row, but_end, is_framed, last_row}
use Rattle.proof_literal_laws.proofs.CodeIndented.Cells.{IsCodeRest, code-parts, code-rest}
use Rattle.proof_literal_laws.proofs.CodeIndented.Facts.{code_site, first-facts, first_parts}
use Rattle.proof_literal_laws.proofs.CodeIndented.Grammar.{following_line, code_begun}
use Rattle.proof_literal_laws.proofs.CodeIndented.Parts.{code-is}
use Rattle.proof_literal_laws.proofs.CodeIndented.Rows.{AreInCode, as_line, begins, ends, lines_after}
use Rattle.proof_literal_laws.proofs.CodeIndented.Walk.{lines-fill, lines-further}
use Rattle.proof_frame.proofs.LeafLines.Rest.{row_unread}
use Rattle.proof_literal_laws.proofs.IndentRemoved.Sites.{records_rest}
use Rattle.proof_frame.proofs.LeafFacts.{LeafFacts}
use Rattle.proof_frame.proofs.IndentRemoved.Places.{FurtherAt, further-at}
use Rattle.proof_frame.proofs.LeafLines.Bare.{paired-is}
use Rattle.proof_frame.proofs.LeafLines.Cuts.{but_end-is}
use Rattle.proof_frame.proofs.LeafLines.Framed.{framed_by, framed_rest}
use Rattle.proof_frame.proofs.LeafLines.Lead.{lead-none}
use Rattle.proof_frame.proofs.LeafLines.Leaf.{IsLeafName}
use Rattle.proof_frame.proofs.LeafLines.Lines.{AreFurther, SpanFirst, ends-by, span-facts}
use Rattle.proof_frame.proofs.SpanLaws.{IsLineOf}

-- The name of code.
abbrev pub code_name : IsLeafName n.CodeIndented OfCode
code_name = record {
  named = record { is = refl; leaf = refl; no_part = refl; block = refl };
  begin = code_begun;
  begins = λ text. refl;
}

-- its first line, which is a pair of its own
first-inside : (options : ParseOptions) (bytes : List ℕ) (row : Row) → (is : IsLineOf options bytes code_leaf row) →
    row.inside ≡ around n.CodeIndented row.first row.end (first_parts is.rest row.first row.end)
first-inside options bytes row is =
    let r = is.rest in
    let p = row.first in
    let q = row.end in
    let of = code-rest options row.on r is.starts in
    is.inside
    ∙ code-is bytes r p q (further-at options bytes code_leaf row is)
    ∙ ap (λ (es : List Event). around n.CodeIndented p q es) (code-parts r p q of.indented of.dark)

pub first-framed : (options : ParseOptions) (bytes : List ℕ) (row : Row) →
    IsLineOf options bytes code_leaf row → is_framed row.inside ≡ true
first-framed options bytes row is = ap is_framed (first-inside options bytes row is)

first-is : (options : ParseOptions) (bytes : List ℕ) (row : Row) → (is : IsLineOf options bytes code_leaf row) →
    as_line row ≡ around n.CodeIndented row.first row.end (first_parts is.rest row.first row.end)
first-is options bytes row is =
    paired-is begins ends row_unread row (first-framed options bytes row is)
    ∙ first-inside options bytes row is

first-begins : (options : ParseOptions) (bytes : List ℕ) (row : Row) → (is : IsLineOf options bytes code_leaf row) →
    but_end (as_line row) ≡ enter n.CodeIndented row.first ∷ first_parts is.rest row.first row.end
first-begins options bytes row is =
    ap but_end (first-is options bytes row is)
    ∙ but_end-is (enter n.CodeIndented row.first ∷ first_parts is.rest row.first row.end)
    (exit n.CodeIndented row.end)

-- All that the frame asks of it: it shows the block of all its lines, and on the last of them something is.
pub lines-facts : (options : ParseOptions) (bytes : List ℕ) (row : Row) (rows : List Row) →
    (is : IsLineOf options bytes code_leaf row) → (are : AreInCode bytes is.rest row rows) →
    LeafFacts bytes (Some (Code (code_line is.rest ∷ lines_after bytes is.rest row rows are))) true row.first
    (last_row row rows).end (framed_by as_line row rows) (framed_by as_line row rows)
lines-facts options bytes row rows is are =
    span-facts bytes as_line as_line n.CodeIndented OfCode to row rows true code_name tt line further ends ends
  where
    r : Rest
    r = is.rest

    at : FurtherAt bytes is.rest row.first row.end
    at = further-at options bytes code_leaf row is

    of : IsCodeRest options row.on is.rest
    of = code-rest options row.on is.rest is.starts

    es : List Event
    es = first_parts is.rest row.first row.end

    to : OpenLeaf
    to = CodeLeaf (code_line is.rest ∷ lines_after bytes is.rest row rows are)

    same : as_line row ≡ ((enter n.CodeIndented row.first ∷ es) ++ exit n.CodeIndented row.end ∷ [])
    same = first-is options bytes row is

    line : SpanFirst bytes as_line as_line n.CodeIndented code_begun (fresh OfCode) (begun_site OfCode) row
    line = record {
      ends =
          ends-by as_line as_line n.CodeIndented row (enter n.CodeIndented row.first ∷ es)
          (enter n.CodeIndented row.first ∷ es) at.at.end_whole same same;
      lead = [];
      at = row.first;
      lead_is = lead-none bytes row.first;
      unread_inside = es;
      inside = es;
      unread_is = first-begins options bytes row is;
      is = first-begins options bytes row is;
      unread_starts = refl;
      starts = refl;
      left = following_line;
      leaf = CodeLeaf (code_line is.rest ∷ []);
      site = code_site is.rest;
      facts = first-facts bytes r row.first row.end at of.indented of.dark;
    }

    further :
        AreFurther bytes as_line as_line n.CodeIndented following_line (CodeLeaf (code_line is.rest ∷ [])) to
        (code_site is.rest) row rows
    further =
        lines-further bytes r row rows are (code_line r ∷ []) following_line
        (records_rest (rest_line (lose 4 r))) refl refl

    -- something is on the last line, also in what is read of it
    ends : Leads (in_leaf true) (in_leaf true) (es ++ framed_rest as_line row rows)
    ends =
        leads-append (in_leaf true) (in_leaf true) (in_leaf true) es (framed_rest as_line row rows)
        (others-lead (in_leaf true) es refl refl) (lines-fill bytes is.rest row rows are true (λ dark. refl))
