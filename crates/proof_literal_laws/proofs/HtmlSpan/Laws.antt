-- The laws of HTML with all its lines, joined.
use Rattle.std.proofs.Common.{◌≡◌, inl, ℕ, not, List, [], ◌∷◌, ◌++◌, refl, sym, ◌∙◌, ap, subst}
use Rattle.std.specs.Prelude.{Option, Some}
use Rattle.md_engine.specs.declared.configuration.ParseOptions.{ParseOptions}
use Rattle.md_engine.specs.declared.event.Event.{Event}
use Rattle.md_engine.specs.declared.event.Name.TheVariants as n
use Rattle.md_engine.specs.declared.event.Point.{Point}
use Rattle.md_meaning.specs.Html.{HtmlKind}
use Rattle.md_meaning.specs.Leaves.{LeafResult}
use Rattle.md_meaning.specs.Rest.{Rest, line_of}
use Rattle.md_leaves.specs.Further.{further_link}
use Rattle.md_leaves.proofs.SpannedLines.{IsFurther, IsBegin}
use Rattle.md_outline.specs.LinesAllowed.{begun_site}
use Rattle.md_literal.specs.HtmlLine.{left_by}
use Rattle.md_events.specs.Events.Nested.{enter, enter_link, exit}
use Rattle.md_events.specs.Events.Spelled.{HtmlLeaf, OfHtml, block_of, fresh}
use Rattle.proof_frame.specs.RestLine.{rest_line}
use Rattle.proof_literal_laws.specs.Leaf.HtmlFlow.{begins_as, html_further, html_leaf, kind_begun}
use Rattle.proof_frame.specs.Row.{Row, but_end, last_row, span_by}
use Rattle.proof_literal_laws.proofs.IndentRemoved.Sites.{records_rest}
use Rattle.proof_literal_laws.proofs.LeafRead.{facts-read}
use Rattle.proof_literal_laws.proofs.HtmlSpan.Lines.{following_first, first-facts, html-inside, html_name, html_parts}
use Rattle.proof_literal_laws.proofs.HtmlSpan.Lines.{html_site}
use Rattle.proof_literal_laws.proofs.HtmlSpan.Rows.{first-done, first-full, first-inside, first-parts, further-inside}
use Rattle.proof_literal_laws.proofs.HtmlSpan.Rows.{html-begun}
use Rattle.proof_literal_laws.proofs.HtmlSpan.Walk.{rest-line}
use Rattle.proof_frame.proofs.LeafFacts.{LeafFacts}
use Rattle.proof_literal_laws.proofs.IndentRemoved.Parts.{inside-lines, inside-others}
use Rattle.proof_frame.proofs.IndentRemoved.Places.{further-at}
use Rattle.proof_frame.proofs.PieceFacts.{Starts}
use Rattle.proof_frame.proofs.LeafLines.Cuts.{but_end-is}
use Rattle.proof_frame.proofs.LeafLines.Framed.{framed_by, line-spanned}
use Rattle.proof_frame.proofs.LeafLines.Lead.{lead-none}
use Rattle.proof_frame.proofs.LeafLines.Lines.{EndsLeaf, SpanFirst, ends-by}
use Rattle.proof_frame.proofs.LeafLines.Rest.{HasRest, row_done, row_unread}
use Rattle.proof_frame.proofs.LeafLines.Whole.{rest-facts}
use Rattle.proof_frame.proofs.SpanLaws.{AreAfter, IsLineOf, IsNone, IsSpanned, SpanLaws, becomes_after}
use Rattle.proof_frame.proofs.SpannedFacts.{AreUnspanned}

-- Each line by itself.

html-spanned : (Lead : List Event → Type 0) (Begins : Event → Type 0) (begin : Event) (r : Rest) (p q : Point)
    (es : List Event) →
    Lead [] → Begins begin → es ≡ begin ∷ html_parts r p q ++ exit n.HtmlFlow q ∷ [] → IsSpanned Lead Begins es
html-spanned Lead Begins begin r p q es none is same =
    line-spanned Lead Begins n.HtmlFlow begin q (html_parts r p q) es none is refl
    (inside-lines (html_parts r p q) (html-inside r p q)) same

first-spanned : (options : ParseOptions) (bytes : List ℕ) (row : Row) → IsLineOf options bytes html_leaf row →
    IsSpanned AreUnspanned IsBegin row.inside
first-spanned options bytes row is =
    html-spanned AreUnspanned IsBegin (enter n.HtmlFlow row.first) is.rest row.first row.end row.inside tt
    (record { kind = refl; lines = refl; link = refl }) (first-inside options bytes row is)

further-spanned : (options : ParseOptions) (bytes : List ℕ) (row : Row) → IsLineOf options bytes html_further row →
    IsSpanned IsNone IsFurther row.inside
further-spanned options bytes row is =
    html-spanned IsNone IsFurther (enter_link n.HtmlFlow row.first further_link) is.rest row.first row.end row.inside
    refl (record { kind = refl; lines = refl; link = refl }) (further-inside options bytes row is)

-- The first line.

first-begins : (options : ParseOptions) (bytes : List ℕ) (row : Row) → (is : IsLineOf options bytes html_leaf row) →
    but_end row.inside ≡ enter n.HtmlFlow row.first ∷ html_parts is.rest row.first row.end
first-begins options bytes row is =
    ap but_end (first-inside options bytes row is)
    ∙ but_end-is (enter n.HtmlFlow row.first ∷ html_parts is.rest row.first row.end) (exit n.HtmlFlow row.end)

first-ends : (options : ParseOptions) (bytes : List ℕ) (row : Row) → IsLineOf options bytes html_leaf row →
    EndsLeaf row_unread (row_done bytes) n.HtmlFlow row
first-ends options bytes row is =
    let es = enter n.HtmlFlow row.first ∷ html_parts is.rest row.first row.end in
    let same = first-inside options bytes row is in
    ends-by row_unread (row_done bytes) n.HtmlFlow row es es is.at.end_whole same
    (first-done options bytes row is ∙ same)

abbrev first-line : (options : ParseOptions) (bytes : List ℕ) (row : Row) →
    (is : IsLineOf options bytes html_leaf row) →
    SpanFirst bytes row_unread (row_done bytes) n.HtmlFlow html_name.begin (fresh OfHtml) (begun_site OfHtml) row
first-line options bytes row is = record {
  ends = first-ends options bytes row is;
  lead = [];
  at = row.first;
  lead_is = lead-none bytes row.first;
  unread_inside = html_parts is.rest row.first row.end;
  inside = html_parts is.rest row.first row.end;
  unread_is = first-begins options bytes row is;
  is = ap but_end (first-done options bytes row is) ∙ first-begins options bytes row is;
  unread_starts = subst Starts (sym (first-parts options bytes row is)) refl;
  starts = subst Starts (sym (first-parts options bytes row is)) refl;
  left = following_first;
  leaf = HtmlLeaf (line_of is.rest ∷ []);
  site = html_site is.rest;
  facts =
      first-facts bytes is.rest row.first row.end (further-at options bytes html_leaf row is)
      (first-parts options bytes row is);
}

-- All lines.

-- what the line definition has with the first, and with all
abbrev first_result : Rest → LeafResult
first_result r = begins_as (kind_begun r) r

abbrev all_results : (options : ParseOptions) (bytes : List ℕ) (row : Row) (rows : List Row) →
    IsLineOf options bytes html_leaf row → AreAfter options bytes html_further row rows → LeafResult
all_results options bytes row rows is are = becomes_after options bytes html_further row rows are (first_result is.rest)

-- what follows the first
rest-of : (options : ParseOptions) (bytes : List ℕ) (row : Row) (rows : List Row) →
    (is : IsLineOf options bytes html_leaf row) → (are : AreAfter options bytes html_further row rows) →
    HasRest bytes n.HtmlFlow following_first (HtmlLeaf (line_of is.rest ∷ [])) (html_site is.rest) row rows
    (all_results options bytes row rows is are)
rest-of options bytes row rows is are =
    let begun = html-begun options row.on is.rest is.starts in
    subst
    (λ (k : Option HtmlKind).
    HasRest bytes n.HtmlFlow following_first (HtmlLeaf (line_of is.rest ∷ [])) (html_site is.rest) row rows
    (becomes_after options bytes html_further row rows are (begins_as k is.rest))) (sym begun.1)
    (rest-line options bytes begun.0 [] is.rest following_first (records_rest (rest_line is.rest)) row rows refl refl
    (is.following ∙ ap (λ (k : Option HtmlKind). left_by k is.rest.bytes) begun.1) are)

all-facts : (options : ParseOptions) (bytes : List ℕ) (row : Row) (rows : List Row) →
    (is : IsLineOf options bytes html_leaf row) → (are : AreAfter options bytes html_further row rows) →
    LeafFacts bytes (Some (block_of (rest-of options bytes row rows is are).to)) (not (last_row row rows).empty)
    row.first (last_row row rows).end (span_by row_unread row rows) (framed_by (row_done bytes) row rows)
all-facts options bytes row rows is are =
    let others = inside-others (html_parts is.rest row.first row.end) (html-inside is.rest row.first row.end) in
    rest-facts bytes n.HtmlFlow OfHtml row rows (all_results options bytes row rows is are) html_name tt
    (first-line options bytes row is) (rest-of options bytes row rows is are) others others
    (first-full options bytes row is)

-- The laws.
pub html-span : SpanLaws html_leaf html_further
html-span = record {
  first_spanned = λ options bytes row is first. first-spanned options bytes row is;
  further_spanned = λ options bytes row is further. inl (further-spanned options bytes row is);
  block = λ options bytes row rows is are. block_of (rest-of options bytes row rows is are).to;
  facts = λ options bytes row rows is first are. facts-read (all-facts options bytes row rows is are);
  shuts = λ options bytes row rows is first are bs.
      (rest-of options bytes row rows is are).shuts options bs;
}
