-- All further lines of HTML: as long as it is open each is one more line of it, and may hold its end.
use Rattle.std.proofs.Common.{◌≡◌, ℕ, zero, suc, ◌≤◌, Bool, true, false, cond, List, [], ◌∷◌, ◌++◌, length, refl, sym}
use Rattle.std.proofs.Common.{ap, ◌∙◌, subst, arith}
use Rattle.std.specs.Prelude.{nat_lt}
use Rattle.std.proofs.lemmas.Bool.Decides.{nat_tests}
use Rattle.md_engine.specs.declared.configuration.ParseOptions.{ParseOptions}
use Rattle.md_engine.specs.declared.event.Event.{Event}
use Rattle.md_engine.specs.declared.event.Name.TheVariants as n
use Rattle.md_engine.specs.declared.event.Point.{Point}
use Rattle.md_engine.specs.declared.tokenizer.held_leaf.HeldLeaf.{HeldLeaf}
use Rattle.md_engine.specs.declared.tokenizer.held_leaf.HeldLeaf.TheVariants as held_leaf
use Rattle.md_meaning.specs.Html.{HtmlKind, html_ends}
use Rattle.md_meaning.specs.Leaves.{LeafResult, Finished, Opened, html_line}
use Rattle.md_meaning.specs.Rest.{Rest, cut_tab, line_of}
use Rattle.md_meaning.specs.State.{OpenHtml}
use Rattle.md_meaning.specs.Tree.{Html, Line}
use Rattle.md_outline.specs.LinesAllowed.{Site}
use Rattle.md_outline.proofs.LinesPass.{ended_site}
use Rattle.md_literal.specs.Html.{is_html}
use Rattle.md_literal.specs.HtmlLine.{left_of}
use Rattle.md_literal.specs.HtmlRule.{left}
use Rattle.md_events.specs.Events.Grammar.{Expression, following, may_end}
use Rattle.md_events.specs.Events.Places.{past_text}
use Rattle.md_events.specs.Events.Spelled.{HtmlLeaf, OfHtml, OpenLeaf, next_line}
use Rattle.proof_frame.specs.RestLine.{rest_line}
use Rattle.proof_literal_laws.specs.Leaf.HtmlFlow.{html_further}
use Rattle.proof_frame.specs.LineColumns.{part_over}
use Rattle.proof_frame.specs.Row.{Row}
use Rattle.proof_literal_laws.proofs.IndentRemoved.Sites.{ended-proceeds, ended-over, records_rest, line-leaves}
use Rattle.proof_literal_laws.proofs.IndentRemoved.Sites.{line-on, line_site}
use Rattle.proof_frame.proofs.FrontPlaces.{fronts-grow}
use Rattle.proof_literal_laws.proofs.HtmlSpan.Lines.{html_parts, html_site, in_line, line-ending, line-ends, line-facts}
use Rattle.proof_literal_laws.proofs.HtmlSpan.Lines.{line-takes, line_left}
use Rattle.proof_literal_laws.proofs.HtmlSpan.Rows.{empty-stays, further-line}
use Rattle.proof_frame.proofs.IndentRemoved.Places.{FurtherAt, further-at, line-over}
use Rattle.proof_frame.proofs.LeafLines.Inside.{InsideFacts, inside-none}
use Rattle.proof_frame.proofs.PartsFacts.{following_ending}
use Rattle.proof_frame.proofs.LeafLines.Rest.{HasRest, rest-more, rest-none}
use Rattle.proof_frame.proofs.SpanLaws.{AreAfter, IsLineOf, becomes_after}

-- Where its end has come, no line continues it.
rest-closed : (options : ParseOptions) (bytes : List ℕ) (lines : List Line) (left : Expression) (recorded : Bool)
    (row : Row) (rows : List Row) →
    may_end left ≡ true → row.following ≡ held_leaf.None → (are : AreAfter options bytes html_further row rows) →
    HasRest bytes n.HtmlFlow left (HtmlLeaf lines) (line_site OfHtml recorded) row rows
    (becomes_after options bytes html_further row rows are (Finished (Html lines)))
rest-closed options bytes lines left recorded row [] ends held are =
    rest-none bytes n.HtmlFlow left (HtmlLeaf lines) (line_site OfHtml recorded) row (Finished (Html lines)) ends
    (line-leaves OfHtml recorded) (λ options bs. refl)
rest-closed options bytes lines left recorded row (next ∷ rows) ends held are =
    absurd (closed (sym (ap is_html (are.4 ∙ held)) ∙ are.5))
  where
    closed : is_html held_leaf.None ≡ true → ⊥
    closed e = cc

-- What further lines are after a line, whatever lines the HTML has there: where it is open,
abbrev Rests : (options : ParseOptions) (bytes : List ℕ) → HtmlKind → Row → List Row → Type 0
Rests options bytes kind row rows =
    (lines : List Line) (left : Expression) (recorded : Bool) → may_end left ≡ true →
    following n.LineEnding left ≡ in_line → row.following ≡ held_leaf.Html kind →
    (are : AreAfter options bytes html_further row rows) →
    HasRest bytes n.HtmlFlow left (HtmlLeaf lines) (line_site OfHtml recorded) row rows
    (becomes_after options bytes html_further row rows are (Opened (OpenHtml kind lines)))

-- and after a line that may hold its end.
rest-by : (options : ParseOptions) (bytes : List ℕ) (kind : HtmlKind) (before : List Line) (r : Rest)
    (after_it : Expression) (recorded : Bool) (row : Row) (rows : List Row) →
    may_end after_it ≡ true → following n.LineEnding after_it ≡ in_line → row.following ≡ left kind r.bytes →
    (are : AreAfter options bytes html_further row rows) → Rests options bytes kind row rows →
    HasRest bytes n.HtmlFlow after_it (HtmlLeaf (before ++ line_of r ∷ [])) (line_site OfHtml recorded) row rows
    (becomes_after options bytes html_further row rows are (html_line kind before r))
rest-by options bytes kind before r after_it recorded row rows ends line held are rests =
    go (html_ends kind r.bytes) refl
  where
    all : List Line
    all = before ++ line_of r ∷ []

    same : (x : Bool) → html_ends kind r.bytes ≡ x → row.following ≡ cond x held_leaf.None (held_leaf.Html kind)
    same x e = held ∙ ap (λ (y : Bool). cond y held_leaf.None (held_leaf.Html kind)) e

    go : (x : Bool) → html_ends kind r.bytes ≡ x →
        HasRest bytes n.HtmlFlow after_it (HtmlLeaf (before ++ line_of r ∷ [])) (line_site OfHtml recorded) row rows
        (becomes_after options bytes html_further row rows are
        (cond x (Finished (Html all)) (Opened (OpenHtml kind all))))
    go true e = rest-closed options bytes all after_it recorded row rows ends (same true e) are
    go false e = rests all after_it recorded ends line (same false e) are

-- on a line with no bytes is nothing
no-bytes : (r : Rest) → rest_line r ≡ [] → r.bytes ≡ []
no-bytes r none = go r.spaces r.bytes none
  where
    go : (spaces : ℕ) (bytes : List ℕ) → cut_tab spaces ++ bytes ≡ [] → bytes ≡ []
    go zero bytes h = h
    go (suc k) bytes h = absurd (cc)

bare-facts : (bytes : List ℕ) (r : Rest) (p q : Point) (x : Expression) (leaf : OpenLeaf) (site : Site) →
    FurtherAt bytes r p q → rest_line r ≡ [] →
    InsideFacts bytes p q x x leaf leaf site site (html_parts r p q) (html_parts r p q)
bare-facts bytes r p q x leaf site is none =
    subst
    (λ (line : List ℕ).
    InsideFacts bytes p q x x leaf leaf site site (part_over n.HtmlFlowData line p q)
    (part_over n.HtmlFlowData line p q)) (sym none)
    (subst (λ (z : Point). InsideFacts bytes p z x x leaf leaf site site [] [])
    (sym (is.at.end ∙ ap (λ (l : List ℕ). past_text l p) none)) (inside-none bytes p x leaf site))

-- a line more, which the text continues with, or which is empty where it ends
rest-next : (options : ParseOptions) (bytes : List ℕ) (kind : HtmlKind) (lines : List Line) (left : Expression)
    (recorded : Bool) (row next : Row) (rows : List Row) →
    following n.LineEnding left ≡ in_line → row.following ≡ held_leaf.Html kind →
    (are : AreAfter options bytes html_further row (next ∷ rows)) → Rests options bytes kind next rows →
    HasRest bytes n.HtmlFlow left (HtmlLeaf lines) (line_site OfHtml recorded) row (next ∷ rows)
    (becomes_after options bytes html_further row (next ∷ rows) are (Opened (OpenHtml kind lines)))
rest-next options bytes kind lines left_of_it recorded row next rows line held are rests =
    go (nat_lt q.index (length bytes)) refl
  where
    q : Point
    q = are.0

    is : IsLineOf options bytes html_further next
    is = are.6

    r : Rest
    r = is.rest

    on : next.on ≡ held_leaf.Html kind
    on = are.4 ∙ held

    following_next : next.following ≡ left kind r.bytes
    following_next = is.following ∙ ap (λ (h : HeldLeaf). left_of h r.bytes) on

    at : FurtherAt bytes r next.first next.end
    at = further-at options bytes html_further next is

    leaf : OpenLeaf
    leaf = HtmlLeaf lines

    more : OpenLeaf
    more = HtmlLeaf (lines ++ line_of r ∷ [])

    site : Site
    site = line_site OfHtml recorded

    parts : List Event
    parts = html_parts r next.first next.end

    After : LeafResult → Type 0
    After c =
        HasRest bytes n.HtmlFlow left_of_it leaf site row (next ∷ rows)
        (becomes_after options bytes html_further next rows are.7 c)

    -- the line before those after it
    joined : (after : Expression) (to : OpenLeaf) (end : Site) (c : LeafResult) →
        InsideFacts bytes next.first next.end in_line after (following_ending bytes q leaf) to (ended_site bytes q site)
        end parts parts →
        HasRest bytes n.HtmlFlow after to end next rows (becomes_after options bytes html_further next rows are.7 c) →
        After c
    joined after to end c facts rest =
        rest-more bytes n.HtmlFlow left_of_it in_line after leaf to site end row next rows
        (becomes_after options bytes html_further next rows are.7 c) q are.1 are.2 are.3 refl line line-takes
        (line-on OfHtml recorded)
        (further-line options bytes in_line after (following_ending bytes q leaf) to
        (ended_site bytes q site) end next is
        facts) rest

    one : nat_lt q.index (length bytes) ≡ true →
        InsideFacts bytes next.first next.end in_line (line_left r) (following_ending bytes q leaf) more
        (ended_site bytes q site) (html_site r) parts parts
    one proceeds =
        subst
        (λ (from : OpenLeaf).
        InsideFacts bytes next.first next.end in_line (line_left r) from more (ended_site bytes q site) (html_site r)
        parts parts) (sym (ap (λ (b : Bool). cond b (next_line leaf) leaf) proceeds))
        (subst
        (λ (start : Site).
        InsideFacts bytes next.first next.end in_line (line_left r) (next_line leaf) more start (html_site r) parts
        parts) (sym (ended-proceeds bytes q OfHtml recorded proceeds))
        (line-facts bytes r next.first next.end lines at))

    -- where the text ends nothing is on it
    none : nat_lt q.index (length bytes) ≡ false → rest_line r ≡ []
    none proceeds =
        let grow = fronts-grow bytes [] q next.first next.front are.3 in
        let over : length bytes ≤ q.index = grind (arith, nat_tests) in
        line-over bytes r next.first next.end at (omega (arith, grow, over))

    bare : nat_lt q.index (length bytes) ≡ false →
        InsideFacts bytes next.first next.end in_line in_line (following_ending bytes q leaf) leaf
        (ended_site bytes q site) site parts parts
    bare proceeds =
        subst
        (λ (from : OpenLeaf).
        InsideFacts bytes next.first next.end in_line in_line from leaf (ended_site bytes q site) site parts parts)
        (sym (ap (λ (b : Bool). cond b (next_line leaf) leaf) proceeds))
        (subst
        (λ (start : Site). InsideFacts bytes next.first next.end in_line in_line leaf leaf start site parts parts)
        (sym (ended-over bytes q OfHtml recorded proceeds))
        (bare-facts bytes r next.first next.end in_line leaf site at (none proceeds)))

    still : nat_lt q.index (length bytes) ≡ false → next.following ≡ held_leaf.Html kind
    still proceeds =
        following_next
        ∙ ap
        (λ (x : Bool). cond x held_leaf.None (held_leaf.Html kind))
        (ap (λ (l : List ℕ). html_ends kind l) (no-bytes r (none proceeds)) ∙ empty-stays kind)

    go : (proceeds : Bool) → nat_lt q.index (length bytes) ≡ proceeds →
        After (cond proceeds (html_line kind lines r) (Opened (OpenHtml kind lines)))
    go true proceeds =
        joined (line_left r) more (html_site r) (html_line kind lines r) (one proceeds)
        (rest-by options bytes kind lines r (line_left r) (records_rest (rest_line r)) next rows
        (line-ends (rest_line r)) (line-ending (rest_line r)) following_next are.7 rests)
    go false proceeds =
        joined in_line leaf site (Opened (OpenHtml kind lines)) (bare proceeds)
        (rests lines in_line recorded refl refl (still proceeds) are.7)

rest-open : (options : ParseOptions) (bytes : List ℕ) (kind : HtmlKind) (row : Row) (rows : List Row) →
    Rests options bytes kind row rows
rest-open options bytes kind row [] lines left recorded ends line held are =
    rest-none bytes n.HtmlFlow left (HtmlLeaf lines) (line_site OfHtml recorded) row (Opened (OpenHtml kind lines)) ends
    (line-leaves OfHtml recorded) (λ options bs. refl)
rest-open options bytes kind row (next ∷ rows) lines left recorded ends line held are =
    rest-next options bytes kind lines left recorded row next rows line held are
    (rest-open options bytes kind next rows)

-- So after a line with its end or without one.
pub rest-line : (options : ParseOptions) (bytes : List ℕ) (kind : HtmlKind) (before : List Line) (r : Rest)
    (after_it : Expression) (recorded : Bool) (row : Row) (rows : List Row) →
    may_end after_it ≡ true → following n.LineEnding after_it ≡ in_line → row.following ≡ left kind r.bytes →
    (are : AreAfter options bytes html_further row rows) →
    HasRest bytes n.HtmlFlow after_it (HtmlLeaf (before ++ line_of r ∷ [])) (line_site OfHtml recorded) row rows
    (becomes_after options bytes html_further row rows are (html_line kind before r))
rest-line options bytes kind before r after_it recorded row rows ends line held are =
    rest-by options bytes kind before r after_it recorded row rows ends line held are
    (rest-open options bytes kind row rows)
