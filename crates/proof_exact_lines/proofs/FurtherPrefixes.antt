-- What items and footnote definitions that continue take of a line: its events are those of its cells.
use Rattle.std.proofs.Common.{◌≡◌, ℕ, ◌≤◌, Bool, true, false, cond, not, ◌||◌, List, [], ◌∷◌, ◌++◌, refl, sym, ap, ◌∙◌}
use Rattle.std.proofs.Common.{subst, arith}
use Rattle.std.specs.Prelude.{Option, Some, None, nat_le}
use Rattle.std.proofs.lemmas.Bool.Decides.{nat_tests}
use Rattle.md_engine.specs.declared.event.Point.{Point}
use Rattle.md_engine.specs.declared.tokenizer.Line.{Line}
use Rattle.md_engine.specs.Meaning.{Cell}
use Rattle.md_containers.specs.Footnote.{footnote_width}
use Rattle.md_containers.specs.FootnotePrefix.{as_footnote, footnote_further}
use Rattle.md_containers.specs.ItemPrefix.{ItemPassed, item_further, item_indented, item_same}
use Rattle.md_containers.proofs.ItemLines.{ContinuesFurther, ItemAgrees, further-agrees}
use Rattle.md_meaning.specs.Containers.{Taken, footnote_continues, item_continues}
use Rattle.md_meaning.specs.Rest.{Rest, indent, is_blank, lose}
use Rattle.md_meaning.specs.State.{InFootnote, InItem}
use Rattle.md_meaning.proofs.TextsLemmas.{NoEnding}
use Rattle.md_events.specs.Ahead.{begins_white, line_bytes, white_end, white_size}
use Rattle.md_events.specs.Look.{first_seen}
use Rattle.md_events.specs.Spaces.{ends_line}
use Rattle.md_events.proofs.AheadLemmas.{none-end}
use Rattle.md_events.proofs.FeedLines.{Stops}
use Rattle.md_events.proofs.RestCells.{past_rest, rest_cells}
use Rattle.md_events.specs.Exact.Places.{TextLine, white}
use Rattle.proof_exact_pieces.proofs.OnLine.{LineIn, OnLine, lose-on}
use Rattle.proof_exact_pieces.proofs.PieceLemmas.{white-on}

-- what such a container has on a further line
pub record HasFurther (text following : List ℕ) (line : TextLine) (r : Rest) (passed : ItemPassed)
    (left : Rest) : Type 0
  where
    pub events : white line r left ≡ passed.events
    pub on : OnLine text following line left passed.point

-- it ends after the columns that it loses, also where nothing is left to lose
further-point : (digits : List ℕ) (marker width : ℕ) (blank : Bool) (cells : List Cell) (p : Point)
    (passed : ItemPassed) →
    item_further digits marker width blank cells p ≡ Some passed → passed.point ≡ white_end width cells p
further-point digits marker width blank cells p passed e =
    go (ends_line (first_seen cells)) refl blank
    (cond (is_blank (line_bytes cells)) (not blank) (nat_le width (white_size width cells))) e
  where
    point_of : Option ItemPassed → Point
    point_of None = p
    point_of (Some o) = o.point

    dark : (l : List Cell) → ends_line (first_seen l) ≡ true → begins_white l ≡ false
    dark [] f = refl
    dark (c ∷ cs) f = grind (arith, nat_tests)

    go : (x : Bool) → ends_line (first_seen cells) ≡ x → (b y : Bool) →
        cond x (cond b None (Some (item_same digits marker width cells p)))
        (cond y (Some (item_indented digits marker width cells p)) None) ≡
        Some passed →
        passed.point ≡ white_end width cells p
    go true f true y g = absurd (cc)
    go true f false y g = sym (ap point_of g) ∙ sym (none-end width cells p (dark cells f))
    go false f b true g = sym (ap point_of g)
    go false f b false g = absurd (cc)

-- the columns that are lost
further-has : (digits : List ℕ) (marker width : ℕ) (blank : Bool) → 1 ≤ width → (cell_line : Line)
    (text following : List ℕ) (line : TextLine) (r : Rest) (p : Point) (stop : List Cell) (passed : ItemPassed)
    (t : Taken) →
    LineIn text following line → OnLine text following line r p → NoEnding r.bytes → Stops stop →
    item_further digits marker width blank (rest_cells cell_line r p ++ stop) p ≡ Some passed →
    item_continues digits marker width blank r ≡ Some t → HasFurther text following line r passed (lose width r)
further-has digits marker width blank some cell_line text following line r p stop passed t is on plain k e f = record {
  events =
      white-on text following line r (lose width r) p passed.point is on on_left
      ∙ sym
      (agreed (item_further digits marker width blank cells p) (item_continues digits marker width blank r) e f
      (further-agrees digits marker width blank some cell_line text following r stop p on.valid plain k)).events;
  on = on_left;
}
  where
    cells : List Cell
    cells = rest_cells cell_line r p ++ stop

    on_left : OnLine text following line (lose width r) passed.point
    on_left =
        subst (OnLine text following line (lose width r))
        (sym (further-point digits marker width blank cells p passed e))
        (lose-on cell_line text following line width r p stop on k)

    Proceeds : ItemPassed → Taken → Type 0
    Proceeds o u = ContinuesFurther cell_line text following p (past_rest r p) stop cells o u

    agreed : (o : Option ItemPassed) (u : Option Taken) → o ≡ Some passed → u ≡ Some t → ItemAgrees Proceeds o u →
        Proceeds passed t
    agreed o u g h agrees =
        subst (λ (x : Option ItemPassed). ItemAgrees Proceeds x (Some t)) g
        (subst (λ (x : Option Taken). ItemAgrees Proceeds o x) h agrees)

abbrev taken_rest : Taken → Option Taken → Rest
taken_rest t None = t.rest
taken_rest t (Some u) = u.rest

-- An item continues with the events of its cells,
pub item-same : (digits : List ℕ) (marker width : ℕ) (blank : Bool) → 1 ≤ width → (cell_line : Line)
    (text following : List ℕ) (line : TextLine) (r : Rest) (p : Point) (stop : List Cell) (passed : ItemPassed)
    (t : Taken) →
    LineIn text following line → OnLine text following line r p → NoEnding r.bytes → Stops stop →
    item_further digits marker width blank (rest_cells cell_line r p ++ stop) p ≡ Some passed →
    item_continues digits marker width blank r ≡ Some t → HasFurther text following line r passed t.rest
unfolding item_continues
item-same digits marker width blank some cell_line text following line r p stop passed t is on plain k e f =
    subst (HasFurther text following line r passed)
    (lost (cond (is_blank r.bytes) (not blank) (nat_le width (indent r))) f)
    (further-has digits marker width blank some cell_line text following line r p stop passed t is on plain k e f)
  where
    lost : (x : Bool) →
        cond x (Some (record { container = InItem digits marker width false; rest = lose width r })) None ≡ Some t →
        lose width r ≡ t.rest
    lost true g = ap (taken_rest t) g
    lost false g = absurd (cc)

-- and so does a footnote definition.
pub footnote-same : (label : List ℕ) (cell_line : Line) (text following : List ℕ) (line : TextLine)
    (r : Rest) (p : Point)
    (stop : List Cell) (passed : ItemPassed) (t : Taken) →
    LineIn text following line → OnLine text following line r p → NoEnding r.bytes → Stops stop →
    footnote_further label (rest_cells cell_line r p ++ stop) p ≡ Some passed →
    footnote_continues label r ≡ Some t → HasFurther text following line r passed t.rest
unfolding footnote_continues item_continues
footnote-same label cell_line text following line r p stop passed t is on plain k e f =
    by (item_further [] 0 footnote_width false cells p) refl e
  where
    cells : List Cell
    cells = rest_cells cell_line r p ++ stop

    as_item : Taken
    as_item = record { container = InItem [] 0 footnote_width false; rest = lose footnote_width r }

    -- it is taken where an item of its width would be
    lost : (x y : Bool) →
        cond (x || y) (Some (record { container = InFootnote label; rest = lose 4 r })) None ≡ Some t →
        (cond (cond x true y) (Some as_item) None ≡ Some as_item) × (lose footnote_width r ≡ t.rest)
    lost true y g = (refl, ap (taken_rest t) g)
    lost false true g = (refl, ap (taken_rest t) g)
    lost false false g = absurd (cc)

    by : (o : Option ItemPassed) → item_further [] 0 footnote_width false cells p ≡ o →
        as_footnote label o ≡ Some passed → HasFurther text following line r passed t.rest
    by None g h = absurd (cc)
    by (Some own) g h =
        let both = lost (is_blank r.bytes) (nat_le 4 (indent r)) f in
        let has = further-has [] 0 footnote_width false (omega arith) cell_line text following line r p stop
        own as_item is
        on plain k g both.0 in
        subst (λ (x : ItemPassed). HasFurther text following line r x t.rest) (ap passed_of h)
        (subst
        (λ (s : Rest). HasFurther text following line r (record own { container = InFootnote label }) s) both.1
        (record { events = has.events; on = has.on }))
      where
        passed_of : Option ItemPassed → ItemPassed
        passed_of None = passed
        passed_of (Some u) = u
