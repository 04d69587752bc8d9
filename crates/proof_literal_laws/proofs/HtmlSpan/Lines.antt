-- Lines of HTML: what is on one inside of the HTML, in the grammar and as it is read.
use Rattle.std.proofs.Common.{◌≡◌, ℕ, true, List, [], ◌∷◌, ◌++◌, refl, ◌∙◌, ap}
use Rattle.std.specs.Prelude.{Some}
use Rattle.md_engine.specs.declared.event.Event.{Event}
use Rattle.md_engine.specs.declared.event.Name.TheVariants as n
use Rattle.md_engine.specs.declared.event.Point.{Point}
use Rattle.md_meaning.specs.Rest.{Rest, line_of}
use Rattle.md_meaning.specs.Tree.{Line}
use Rattle.md_outline.specs.LinesAllowed.{AtLine, Site}
use Rattle.md_events.specs.Events.Grammar.{Expression, following, inside, may_end, plain_text}
use Rattle.md_events.specs.Events.Nested.{pair}
use Rattle.md_events.specs.Events.Spelled.{AsLine, HtmlLeaf, OfHtml, OpenLeaf, Reading, empty_line, fresh, joined}
use Rattle.md_events.specs.Events.Spelled.{noted}
use Rattle.md_events.proofs.GrammarLemmas.{Leads}
use Rattle.proof_frame.specs.RestLine.{rest_line}
use Rattle.proof_frame.specs.LineColumns.{lost_line}
use Rattle.proof_frame.proofs.ContainerNames.{TakesPrefixes}
use Rattle.proof_literal_laws.proofs.IndentRemoved.Sites.{records_rest, line_site}
use Rattle.proof_literal_laws.proofs.IndentRemoved.Facts.{IsLineName, lost-facts}
use Rattle.proof_literal_laws.proofs.IndentRemoved.Grammar.{left_over, lost-leads}
use Rattle.proof_literal_laws.proofs.IndentRemoved.Names.{AreInside, lost-inside}
use Rattle.proof_frame.proofs.IndentRemoved.Places.{FurtherAt}
use Rattle.proof_frame.proofs.IndentRemoved.Reads.{empty-joined, on-last}
use Rattle.proof_literal_laws.proofs.IndentRemoved.Reads.{lost-read}
use Rattle.proof_frame.proofs.LeafLines.Inside.{InsideFacts}
use Rattle.proof_frame.proofs.PartsFacts.{ReadsLeaf}
use Rattle.proof_frame.proofs.LeafLines.Leaf.{IsLeafName}
use Rattle.proof_frame.proofs.ChunkFacts.{in-line}

-- The whole line is text of it, its indent inside: a line that loses no columns.
abbrev pub html_parts : Rest → Point → Point → List Event
html_parts r p q = lost_line n.HtmlFlowData 0 r p q

abbrev pub html_data : IsLineName n.HtmlFlowData
html_data = record { inside = refl; recorded = refl; cut = refl; over = in-line; sits = λ bytes p q ys h. h }

pub html-inside : (r : Rest) (p q : Point) → AreInside (html_parts r p q)
html-inside r p q = lost-inside n.HtmlFlowData 0 r p q refl

-- The grammar.

-- What is left of HTML, which has no text parts: at its begin, after its first line, where a further line begins, and
-- after one with something on it.
abbrev pub html_begun : Expression
html_begun = inside plain_text n.HtmlFlow

abbrev pub following_first : Expression
following_first = following n.HtmlFlowData html_begun

abbrev pub in_line : Expression
in_line = following n.LineEnding following_first

abbrev pub following_line : Expression
following_line = following n.HtmlFlowData in_line

-- after a further line
abbrev pub line_left : Rest → Expression
line_left r = left_over in_line following_line (rest_line r)

-- An ending begins a further line, also after an empty one; prefixes may be before it, and HTML may end after any line.
pub line-ending : (line : List ℕ) → following n.LineEnding (left_over in_line following_line line) ≡ in_line
line-ending [] = refl
line-ending (b ∷ bs) = refl

pub line-ends : (line : List ℕ) → may_end (left_over in_line following_line line) ≡ true
line-ends [] = refl
line-ends (b ∷ bs) = refl

pub line-takes : TakesPrefixes in_line
line-takes = (refl, refl)

-- its name
abbrev pub html_name : IsLeafName n.HtmlFlow OfHtml
html_name = record {
  named = record { is = refl; leaf = refl; no_part = refl; block = refl };
  begin = html_begun;
  begins = λ text. refl;
}

-- How it is read: as the last line of the HTML.

-- an empty line becomes the one that is said
line-noted : (before : List Line) (line : Line) →
    noted AsLine line (HtmlLeaf (before ++ empty_line ∷ [])) ≡ HtmlLeaf (before ++ line ∷ [])
line-noted before line =
    ap HtmlLeaf
    (on-last (λ (l : Line). joined l line) before empty_line
    ∙ ap (λ (l : Line). before ++ l ∷ []) (empty-joined line))

parts-read : (bytes : List ℕ) (r : Rest) (p q : Point) (before : List Line) → FurtherAt bytes r p q →
    ReadsLeaf bytes (HtmlLeaf (before ++ empty_line ∷ [])) (HtmlLeaf (before ++ line_of r ∷ [])) (html_parts r p q)
parts-read bytes r p q before is = λ rd none at.
    lost-read bytes n.HtmlFlowData 0 r p q refl is rd (HtmlLeaf (before ++ empty_line ∷ [])) none at
    (line-noted before empty_line)
    ∙ ap (λ (l : OpenLeaf). let x : Reading = record rd { leaf = Some l } in x) (line-noted before (line_of r))

-- All that is asked of it.

-- where an outline is after it
abbrev pub html_site : Rest → Site
html_site r = line_site OfHtml (records_rest (rest_line r))

-- A further line is one line more.
pub line-facts : (bytes : List ℕ) (r : Rest) (p q : Point) (before : List Line) → FurtherAt bytes r p q →
    InsideFacts bytes p q in_line (line_left r) (HtmlLeaf (before ++ empty_line ∷ []))
    (HtmlLeaf (before ++ line_of r ∷ [])) (AtLine OfHtml) (html_site r) (html_parts r p q) (html_parts r p q)
line-facts bytes r p q before is =
    lost-facts bytes n.HtmlFlowData OfHtml 0 r p q in_line (line_left r) (HtmlLeaf (before ++ empty_line ∷ []))
    (HtmlLeaf (before ++ line_of r ∷ [])) html_data is
    (λ text. lost-leads text in_line following_line n.HtmlFlowData 0 r p q refl refl refl)
    (parts-read bytes r p q before is)

-- The first line has text.
pub first-facts : (bytes : List ℕ) (r : Rest) (p q : Point) → FurtherAt bytes r p q →
    html_parts r p q ≡ pair n.HtmlFlowData p q →
    InsideFacts bytes p q html_begun following_first (fresh OfHtml) (HtmlLeaf (line_of r ∷ [])) (AtLine OfHtml)
    (html_site r) (html_parts r p q) (html_parts r p q)
first-facts bytes r p q is same =
    lost-facts bytes n.HtmlFlowData OfHtml 0 r p q html_begun following_first (fresh OfHtml)
    (HtmlLeaf (line_of r ∷ [])) html_data is
    (λ text. rw same (first text)) (parts-read bytes r p q [] is)
  where
    first : (text : Expression) → Leads text (html_begun ∷ []) (following_first ∷ []) (pair n.HtmlFlowData p q)
    first text = λ outer. refl
