-- The lines of one leaf that are joined: from what is known of each, all that the frame asks of the leaf.
use Rattle.std.proofs.Common.{◌≡◌, ℕ, Bool, true, List, [], ◌∷◌, ◌++◌, ap, sym, ◌∙◌, subst}
use Rattle.std.specs.Prelude.{◌==◌, ◌||◌, Some}
use Rattle.md_engine.specs.declared.event.Event.{Event}
use Rattle.md_engine.specs.declared.event.Name.{Name}
use Rattle.md_engine.specs.declared.event.Name.TheVariants as n
use Rattle.md_engine.specs.declared.event.Point.{Point}
use Rattle.md_events.specs.Events.Grammar.{Expression, following, may_end}
use Rattle.md_events.specs.Events.Nested.{around, enter, exit, pair}
use Rattle.md_events.specs.Events.Spelled.{LeafKind, OpenLeaf, block_of, byte_at, fresh}
use Rattle.md_outline.specs.Between.{is_between}
use Rattle.md_outline.specs.LinesAllowed.{HasLines, Site, begun_site}
use Rattle.md_outline.proofs.LinesPass.{IsOnLine, MayLeave, ended_site, on-ended}
use Rattle.proof_frame.specs.Row.{Row, last_row, but_end, but_ends, end_of}
use Rattle.proof_frame.proofs.BetweenFacts.{ending-before, ending-following}
use Rattle.proof_frame.proofs.ContainerNames.{TakesPrefixes}
use Rattle.proof_frame.proofs.FrontFacts.{LinePrefix}
use Rattle.proof_frame.proofs.FrontValid.{fronts-between, fronts-clear}
use Rattle.proof_frame.proofs.LeafFacts.{LeafFacts}
use Rattle.proof_frame.proofs.PartedFacts.{clear}
use Rattle.proof_frame.proofs.PieceFacts.{Starts, starts-append}
use Rattle.md_events.proofs.FeedLines.{IsEnding}
use Rattle.proof_frame.proofs.LeafLines.Cuts.{end-is, ending-is, span-is}
use Rattle.proof_frame.proofs.LeafLines.Framed.{framed_by, framed_rest}
use Rattle.proof_frame.proofs.LeafLines.Inside.{InsideFacts, Meets, ending-inside, front-inside, inside-append}
use Rattle.proof_frame.proofs.LeafLines.Inside.{inside-none}
use Rattle.proof_frame.proofs.PartsFacts.{following_ending}
use Rattle.md_events.proofs.EndingsLemmas.{Leads, in_leaf}
use Rattle.proof_frame.proofs.LeafLines.Lead.{LeadFacts}
use Rattle.proof_frame.proofs.LeafLines.Leaf.{IsLeafName, around-plain, facts-after_lead, inside-leaf}

-- A line.

-- how the events of a line end, before text parts are read and once they are
pub record EndsLeaf (unread done : Row → List Event) (name : Name) (row : Row) : Type 0 where
  pub unread_end : end_of (unread row) ≡ exit name row.end ∷ []
  pub end : end_of (done row) ≡ exit name row.end ∷ []
  -- no tab is cut there
  pub whole : row.end.vs ≡ 0

-- The first line of a leaf: what is in it after its begin, from a leaf that has just begun.
pub record SpanFirst (bytes : List ℕ) (unread done : Row → List Event) (name : Name) (begin : Expression)
    (from : OpenLeaf) (start : Site) (row : Row) : Type 0 where
  pub ends : EndsLeaf unread done name row
  -- the whitespace before it, and where it begins
  pub lead : List Event
  pub at : Point
  pub lead_is : LeadFacts bytes row.first at lead
  -- after its begin
  pub unread_inside : List Event
  pub inside : List Event
  pub unread_is : but_end (unread row) ≡ lead ++ enter name at ∷ unread_inside
  pub is : but_end (done row) ≡ lead ++ enter name at ∷ inside
  pub unread_starts : Starts unread_inside
  pub starts : Starts inside
  -- what is left of the grammar after it, what the leaf is then, and where in it an outline is
  pub left : Expression
  pub leaf : OpenLeaf
  pub site : Site
  pub facts : InsideFacts bytes at row.end begin left from leaf start site unread_inside inside

-- A further line, before which this is left of the grammar, the leaf is this, and an outline is here in it.
pub record SpanLine (bytes : List ℕ) (unread done : Row → List Event) (name : Name) (x : Expression)
    (from : OpenLeaf) (start : Site) (row : Row) : Type 0 where
  pub ends : EndsLeaf unread done name row
  -- it cuts no tab of a character
  pub clear : clear bytes row.first ≡ true
  -- the same after it
  pub left : Expression
  pub leaf : OpenLeaf
  pub site : Site
  pub facts :
      InsideFacts bytes row.first row.end x left from leaf start site (but_ends (unread row)) (but_ends (done row))

-- Further lines after one, before whose ending this is left of the grammar, the leaf is this and an outline is here in
-- it, with the leaf that they become. No container opens before them.
abbrev pub AreFurther : List ℕ → (Row → List Event) → (Row → List Event) → Name → Expression → OpenLeaf → OpenLeaf →
    Site → Row → List Row → Type 0
AreFurther bytes unread done name left leaf to site row [] =
    (end : may_end left ≡ true) × (leaf ≡ to) × MayLeave site
AreFurther bytes unread done name left leaf to site row (next ∷ rows) =
    (q : Point) × (after : row.after ≡ Some q) × (ending : IsEnding bytes row.end q) ×
    (front : LinePrefix bytes [] q next.first next.front) × (takes : TakesPrefixes (following n.LineEnding left)) ×
    (on : IsOnLine site) ×
    (line : SpanLine bytes unread done name (following n.LineEnding left) (following_ending bytes q leaf)
    (ended_site bytes q site) next) ×
    AreFurther bytes unread done name line.left line.leaf to line.site next rows

-- Such lines by their events: a begin, what is inside, and the end.

pub ends-by : (unread done : Row → List Event) (name : Name) (row : Row) (us es : List Event) → row.end.vs ≡ 0 →
    unread row ≡ us ++ exit name row.end ∷ [] → done row ≡ es ++ exit name row.end ∷ [] →
    EndsLeaf unread done name row
ends-by unread done name row us es whole unread_is is = record {
  unread_end = ap end_of unread_is ∙ end-is us (exit name row.end);
  end = ap end_of is ∙ end-is es (exit name row.end);
  whole = whole;
}

-- The last of them, and what follows one.

-- the last line ends the leaf
pub last-ends : (bytes : List ℕ) (unread done : Row → List Event) (name : Name) (left : Expression) (leaf to : OpenLeaf)
    (site : Site) (row : Row) (rows : List Row) →
    EndsLeaf unread done name row → AreFurther bytes unread done name left leaf to site row rows →
    EndsLeaf unread done name (last_row row rows)
last-ends bytes unread done name left leaf to site row [] ends are = ends
last-ends bytes unread done name left leaf to site row (next ∷ rows) ends are =
    last-ends bytes unread done name are.6.left are.6.leaf to are.6.site next rows are.6.ends are.7

-- the end of a line, and what continues after it
meets-end : (bytes : List ℕ) (unread done : Row → List Event) (name : Name) (left : Expression) (leaf to : OpenLeaf)
    (site : Site) (row : Row) (rows : List Row) →
    row.end.vs ≡ 0 → AreFurther bytes unread done name left leaf to site row rows →
    Meets bytes row.end (last_row row rows).end
meets-end bytes unread done name left leaf to site row rows whole are = record {
  between = go rows are;
  clear = ap (λ (v : ℕ). (v == 0) || is_between bytes (byte_at row.end)) whole;
}
  where
    go : (rows : List Row) → AreFurther bytes unread done name left leaf to site row rows →
        is_between bytes (last_row row rows).end.index ≡ true → is_between bytes row.end.index ≡ true
    go [] are last = last
    go (next ∷ rows) are last = ending-before bytes row.end are.0 are.2

-- what follows a line
pub record RestInside (bytes : List ℕ) (p q : Point) (x : Expression) (from to : OpenLeaf) (start : Site)
    (unread done : List Event) : Type 0 where
  pub left : Expression
  pub end : may_end left ≡ true
  pub site : Site
  pub leave : MayLeave site
  pub facts : InsideFacts bytes p q x left from to start site unread done

-- one more in front: the ending of the line before, the prefixes before it, and what is inside of it
next-inside : (bytes : List ℕ) (unread done : Row → List Event) (name : Name) (left : Expression) (leaf to : OpenLeaf)
    (site : Site) (row next : Row) (rows : List Row) →
    row.end.vs ≡ 0 → (are : AreFurther bytes unread done name left leaf to site row (next ∷ rows)) →
    RestInside bytes next.end (last_row next rows).end are.6.left are.6.leaf to are.6.site
    (framed_rest unread next rows) (framed_rest done next rows) →
    RestInside bytes row.end (last_row next rows).end left leaf to site (framed_rest unread row (next ∷ rows))
    (framed_rest done row (next ∷ rows))
next-inside bytes unread done name left leaf to site row next rows whole are rest = record {
  left = rest.left;
  end = rest.end;
  site = rest.site;
  leave = rest.leave;
  facts =
      subst
      (λ (es : List Event).
      InsideFacts bytes row.end last left rest.left leaf to site rest.site
      (es ++ next.front ++ but_ends (unread next) ++ framed_rest unread next rows)
      (es ++ next.front ++ but_ends (done next) ++ framed_rest done next rows))
      (sym (ending-is n.LineEnding row q are.1))
      (inside-append (inside-append front line.facts (record { between = λ end. begin; clear = line.clear }))
      rest.facts (meets-end bytes unread done name line.left line.leaf to line.site next rows line.ends.whole are.7));
}
  where
    q : Point
    q = are.0

    last : Point
    last = (last_row next rows).end

    ended : List Event
    ended = pair n.LineEnding row.end q

    again : Expression
    again = following n.LineEnding left

    opened : OpenLeaf
    opened = following_ending bytes q leaf

    start : Site
    start = ended_site bytes q site

    line : SpanLine bytes unread done name again opened start next
    line = are.6

    begin : is_between bytes next.first.index ≡ true
    begin = (fronts-between bytes [] q next.first next.front (ending-following bytes row.end q are.2) are.3).1

    front :
        InsideFacts bytes row.end next.first left again leaf opened site start (ended ++ next.front)
        (ended ++ next.front)
    front =
        inside-append (ending-inside bytes row.end q left leaf site whole are.2 are.5)
        (front-inside bytes q next.first again opened start next.front are.4 (on-ended bytes q site are.5) are.3)
        (record {
          between = λ end. ending-following bytes row.end q are.2;
          clear = fronts-clear bytes [] q next.first next.front are.3 line.clear;
        })

pub rest-inside : (bytes : List ℕ) (unread done : Row → List Event) (name : Name) (left : Expression)
    (leaf to : OpenLeaf) (site : Site) (row : Row) (rows : List Row) →
    row.end.vs ≡ 0 → AreFurther bytes unread done name left leaf to site row rows →
    RestInside bytes row.end (last_row row rows).end left leaf to site (framed_rest unread row rows)
    (framed_rest done row rows)
rest-inside bytes unread done name left leaf to site row [] whole are = record {
  left = left;
  end = are.0;
  site = site;
  leave = are.2;
  facts =
      subst (λ (l : OpenLeaf). InsideFacts bytes row.end row.end left left leaf l site site [] []) are.1
      (inside-none bytes row.end left leaf site);
}
rest-inside bytes unread done name left leaf to site row (next ∷ rows) whole are =
    next-inside bytes unread done name left leaf to site row next rows whole are
    (rest-inside bytes unread done name are.6.left are.6.leaf to are.6.site next rows are.6.ends.whole are.7)

-- what is in the leaf after its begin
pub span-inside : (bytes : List ℕ) (unread done : Row → List Event) (name : Name) (kind : LeafKind) (to : OpenLeaf)
    (row : Row) (rows : List Row) →
    (named : IsLeafName name kind) →
    (first : SpanFirst bytes unread done name named.begin (fresh kind) (begun_site kind) row) →
    (are : AreFurther bytes unread done name first.left first.leaf to first.site row rows) →
    let rest = rest-inside bytes unread done name first.left first.leaf to first.site row rows first.ends.whole are in
    InsideFacts bytes first.at (last_row row rows).end named.begin rest.left (fresh kind) to (begun_site kind) rest.site
    (first.unread_inside ++ framed_rest unread row rows) (first.inside ++ framed_rest done row rows)
span-inside bytes unread done name kind to row rows named first are =
    inside-append first.facts rest.facts
    (meets-end bytes unread done name first.left first.leaf to first.site row rows first.ends.whole are)
  where
    rest :
        RestInside bytes row.end (last_row row rows).end first.left first.leaf to first.site
        (framed_rest unread row rows) (framed_rest done row rows)
    rest = rest-inside bytes unread done name first.left first.leaf to first.site row rows first.ends.whole are

-- All that the frame asks of the lines of a leaf, joined, by whether anything is on the last of them.
pub span-facts : (bytes : List ℕ) (unread done : Row → List Event) (name : Name) (kind : LeafKind) (to : OpenLeaf)
    (row : Row) (rows : List Row) (filled : Bool) →
    (named : IsLeafName name kind) → HasLines kind →
    (first : SpanFirst bytes unread done name named.begin (fresh kind) (begun_site kind) row) →
    (are : AreFurther bytes unread done name first.left first.leaf to first.site row rows) →
    Leads (in_leaf true) (in_leaf filled) (first.unread_inside ++ framed_rest unread row rows) →
    Leads (in_leaf true) (in_leaf filled) (first.inside ++ framed_rest done row rows) →
    LeafFacts bytes (Some (block_of to)) filled row.first (last_row row rows).end (framed_by unread row rows)
    (framed_by done row rows)
span-facts bytes unread done name kind to row rows filled named lined first are unread_leads leads =
    subst
    (λ (es : List Event).
    LeafFacts bytes (Some (block_of to)) filled row.first last es (framed_by done row rows))
    (sym (span-is unread name first.at first.lead first.unread_inside row rows first.unread_is ends.unread_end))
    (subst
    (λ (es : List Event).
    LeafFacts bytes (Some (block_of to)) filled row.first last
    (first.lead ++ around name first.at last (first.unread_inside ++ framed_rest unread row rows)) es)
    (sym (span-is done name first.at first.lead first.inside row rows first.is ends.end))
    (facts-after_lead first.lead_is
    (inside-leaf name kind named
    (starts-append first.unread_inside (framed_rest unread row rows) first.unread_starts)
    (starts-append first.inside (framed_rest done row rows) first.starts)
    inside unread_leads leads rest.end
    (λ whole. around-plain bytes name kind first.at last rest.site (first.inside ++ framed_rest done row rows)
    named.named.is lined rest.leave (inside.plain whole)))))
  where
    last : Point
    last = (last_row row rows).end

    ends : EndsLeaf unread done name (last_row row rows)
    ends = last-ends bytes unread done name first.left first.leaf to first.site row rows first.ends are

    rest :
        RestInside bytes row.end (last_row row rows).end first.left first.leaf to first.site
        (framed_rest unread row rows) (framed_rest done row rows)
    rest = rest-inside bytes unread done name first.left first.leaf to first.site row rows first.ends.whole are

    inside :
        InsideFacts bytes first.at last named.begin rest.left (fresh kind) to (begun_site kind) rest.site
        (first.unread_inside ++ framed_rest unread row rows) (first.inside ++ framed_rest done row rows)
    inside = span-inside bytes unread done name kind to row rows named first are
