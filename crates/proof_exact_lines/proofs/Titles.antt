-- Titles, by the rows that they are in.
use Rattle.std.proofs.Common.{◌≡◌, ℕ, Bool, true, false, cond, List, [], ◌∷◌, ◌++◌, refl, sym, ap, ◌∙◌, subst, arith}
use Rattle.std.specs.Prelude.{◌==◌, Option, Some, None}
use Rattle.std.proofs.lemmas.Bool.Decides.{nat_tests}
use Rattle.md_engine.specs.declared.event.Event.{Event}
use Rattle.md_engine.specs.declared.event.Name.TheVariants as n
use Rattle.md_engine.specs.declared.event.Point.{Point}
use Rattle.md_engine.specs.Meaning.{Cell}
use Rattle.md_meaning.specs.Definition.{title_closer}
use Rattle.md_meaning.specs.Enclosed.{Lines, enclosed_lines}
use Rattle.md_meaning.specs.Rest.{is_white}
use Rattle.md_meaning.specs.Texts.{first_byte}
use Rattle.md_link_definitions.specs.CellLines.{cell_lines}
use Rattle.md_link_definitions.specs.Chunks.{before_mark, from_mark}
use Rattle.md_link_definitions.specs.Title.{is_mark}
use Rattle.md_link_definitions.specs.TitleRule.{TitleParts, parts_closed, parts_from, title_events, title_parts}
use Rattle.md_link_definitions.specs.TitleRule.{title_text}
use Rattle.md_link_definitions.specs.WholeCells.{whole_cells}
use Rattle.md_link_definitions.proofs.CellLineLemmas.{AreMarks, is_other}
use Rattle.md_link_definitions.proofs.TitleLemmas.{title-marks}
use Rattle.md_link_definitions.proofs.TitleTexts.{title_texts}
use Rattle.md_link_definitions.proofs.WholeCellLemmas.{texts-enclosed, texts_closed}
use Rattle.md_events.specs.Ahead.{point_after}
use Rattle.md_events.specs.Events.Nested.{around, pair}
use Rattle.md_events.specs.Exact.Places.{past}
use Rattle.md_events.specs.Exact.Rows.{Row}
use Rattle.md_events.specs.Exact.Texts as Texts
use Rattle.md_events.specs.Exact.Texts.{after_title, enclosed_part, lines_left}
use Rattle.proof_content_laws.proofs.Defined.Along.{Turn}
use Rattle.proof_content_laws.proofs.Defined.Marked.{MarkedOf, TitleAre, marked-of, title-are}
use Rattle.proof_content_laws.proofs.Defined.Takes.{Takes, Walk}
use Rattle.proof_exact_lines.proofs.Ahead.{Ahead, at, left-is}
use Rattle.proof_exact_lines.proofs.Along.{Along, rows-lines, rows-whole}
use Rattle.proof_exact_lines.proofs.Gaps.{first-byte}
use Rattle.proof_exact_lines.proofs.Marks.{EnclosedOn, MarkOn, enclosed-on, mark-on, strung}

-- its text
title-strung : (cells : List Cell) (p : Point) → strung n.DefinitionTitleString cells p ≡ title_text cells p
title-strung [] p = refl
title-strung (c ∷ cs) p = refl

-- Where it is found.

-- a text that is closed is that of a title
closed-texts : (closer : ℕ) (c : Cell) (text from : List Cell) →
    texts_closed closer c.after text from ≡ title_texts (parts_closed closer c text from)
closed-texts closer c text [] = refl
closed-texts closer c text (d ∷ ds) = go (d.byte == closer)
  where
    go : (x : Bool) →
        cond x
        (Some (record {
          text = cell_lines false (whole_cells c.after text);
          rest = cell_lines false (whole_cells d.after ds);
        }))
        None ≡
        title_texts (cond x (Some (record { opener = c; text = text; closer = d; rest = ds })) None)
    go true = refl
    go false = refl

-- by the lines after its opening mark
abbrev by_lines : List Row → Option Lines → List Row
by_lines rows o = elim o [ Some text ↦ Texts.left rows text.rest | None ↦ [] ]

-- and by that mark
abbrev by_mark : List Row → List (List ℕ) → ℕ → List Row
by_mark rows lines b = elim (title_closer b) [
  | Some closer ↦ by_lines rows (enclosed_lines b closer lines)
  | None ↦ []
]

parts-following : (o : Option ℕ) (closer : ℕ) (c : Cell) (cs : List Cell) (t : TitleParts) → o ≡ Some closer →
    parts_from o c cs ≡ Some t →
    parts_closed closer c (before_mark (is_mark c.byte closer) false cs) (from_mark (is_mark c.byte closer) false cs) ≡
    Some t
parts-following o closer c cs t e k = subst (λ (x : Option ℕ). parts_from x c cs ≡ Some t) e k

title-found : (text : List ℕ) (row : Row) (rows : List Row) (p : Point) (c : Cell) (cs : List Cell) (turns : List Turn)
    (closer : ℕ) (t : TitleParts) →
    Along text (row ∷ rows) p (c ∷ cs) turns → p.vs ≡ 0 → c.after.vs ≡ 0 → (c.byte == 10) ≡ false →
    Along text (at row (past 1 row.rest) ∷ rows) c.after cs turns → title_closer c.byte ≡ Some closer →
    title_parts (c ∷ cs) ≡ Some t → (ends : List Row) (left : List Turn) →
    Along text ends t.closer.after t.rest left → t.closer.after.vs ≡ 0 → Ahead (row ∷ rows) ends →
    after_title (row ∷ rows) ≡ ends
unfolding title_parts
title-found text row rows p c cs turns closer t along whole inner plain from close e ends left following end ahead =
    ap (by_mark (row ∷ rows) lines) first
    ∙ ap
    (λ (o : Option ℕ).
    elim o [ Some k ↦ by_lines (row ∷ rows) (enclosed_lines c.byte k lines) | None ↦ [] ]) close
    ∙ ap (by_lines (row ∷ rows)) found
    ∙ left-is (row ∷ rows) ends (cell_lines false (whole_cells t.closer.after t.rest)) ahead
    (rows-lines text ends t.closer.after t.rest left following end)
  where
    lines : List (List ℕ)
    lines = lines_left (at row (past 1 row.rest) ∷ rows)

    first : first_byte row.rest.bytes ≡ c.byte
    first = first-byte text row rows p c cs turns along whole plain

    found : enclosed_lines c.byte closer lines ≡ title_texts (Some t)
    found =
        ap (enclosed_lines c.byte closer)
        (sym (rows-lines text (at row (past 1 row.rest) ∷ rows) c.after cs turns from inner))
        ∙ texts-enclosed c.byte closer c.after cs (title-marks c.byte closer close)
        (rows-whole text (at row (past 1 row.rest) ∷ rows) c.after cs turns from)
        ∙ closed-texts closer c (before_mark (is_mark c.byte closer) false cs)
        (from_mark (is_mark c.byte closer) false cs)
        ∙ ap title_texts (parts-following (title_closer c.byte) closer c cs t close e)

-- Its events.

pub record TitleOn (text : List ℕ) (last p : Point) (t : TitleParts) (turns : List Turn) (rows : List Row) :
    Type 0 where
  pub left : List Turn
  pub takes : Takes text last p turns t.closer.after t.rest left (title_events t p)
      (enclosed_part n.DefinitionTitle n.DefinitionTitleMarker n.DefinitionTitleString rows (after_title rows))
  pub along : Along text (after_title rows) t.closer.after t.rest left
  pub ahead : Ahead rows (after_title rows)

-- a mark is no whitespace, and ends no line
pub mark-dark : (b : ℕ) → is_other b ≡ false → is_white b ≡ false
mark-dark b e = grind (arith, nat_tests)

pub mark-plain : (b : ℕ) → is_other b ≡ false → (b == 10) ≡ false
mark-plain b e = grind (arith, nat_tests)

title-by : (text : List ℕ) (last p : Point) (t : TitleParts) (turns : List Turn) (row : Row) (rows : List Row) →
    title_closer t.opener.byte ≡ Some t.closer.byte →
    title_parts (t.opener ∷ (t.text ++ (t.closer ∷ t.rest))) ≡ Some t →
    Walk text last p (t.opener ∷ (t.text ++ (t.closer ∷ t.rest))) turns →
    Along text (row ∷ rows) p (t.opener ∷ (t.text ++ (t.closer ∷ t.rest))) turns →
    TitleOn text last p t turns (row ∷ rows)
title-by text last p t turns row rows close e walk along = record {
  left = on.left;
  takes =
      subst
      (λ (l : List Row).
      Takes text last p turns c t.rest on.left (title_events t p)
      (enclosed_part n.DefinitionTitle n.DefinitionTitleMarker n.DefinitionTitleString (row ∷ rows) l)) (sym found)
      (subst
      (λ (l : List Event).
      Takes text last p turns c t.rest on.left
      (around n.DefinitionTitle p c
      (pair n.DefinitionTitleMarker p t.opener.after ++ l
      ++ pair n.DefinitionTitleMarker (point_after t.text t.opener.after) c))
      (enclosed_part n.DefinitionTitle n.DefinitionTitleMarker n.DefinitionTitleString (row ∷ rows) on.ends))
      (title-strung t.text t.opener.after) on.takes);
  along = subst (λ (l : List Row). Along text l c t.rest on.left) (sym found) on.along;
  ahead = subst (Ahead (row ∷ rows)) (sym found) on.ahead;
}
  where
    c : Point
    c = t.closer.after

    marks : AreMarks t.opener.byte t.closer.byte
    marks = title-marks t.opener.byte t.closer.byte close

    dark : is_white t.opener.byte ≡ false
    dark = mark-dark t.opener.byte marks.opens

    plain : (t.opener.byte == 10) ≡ false
    plain = mark-plain t.opener.byte marks.opens

    shut : is_white t.closer.byte ≡ false
    shut = mark-dark t.closer.byte marks.closes

    flat : (t.closer.byte == 10) ≡ false
    flat = mark-plain t.closer.byte marks.closes

    on : EnclosedOn text last p n.DefinitionTitle n.DefinitionTitleMarker n.DefinitionTitleString t.opener t.text
        t.closer t.rest turns (row ∷ rows)
    on =
        enclosed-on text last p n.DefinitionTitle n.DefinitionTitleMarker n.DefinitionTitleString t.opener t.text
        t.closer t.rest turns row rows refl refl refl dark plain shut flat walk along

    marked : MarkedOf text last p t.opener t.text t.closer t.rest turns
    marked = marked-of text last p t.opener t.text t.closer t.rest turns dark plain shut flat walk

    opener : MarkOn text row rows p t.opener (t.text ++ (t.closer ∷ t.rest)) turns
    opener = mark-on text last row rows p t.opener (t.text ++ (t.closer ∷ t.rest)) turns dark plain walk along

    found : after_title (row ∷ rows) ≡ on.ends
    found =
        title-found text row rows p t.opener (t.text ++ (t.closer ∷ t.rest)) turns t.closer.byte t along marked.opens.0
        marked.opens.1.whole plain opener.along close e on.ends on.left on.along marked.closes.1.whole on.ahead

pub title-on : (text : List ℕ) (last p : Point) (cells : List Cell) (t : TitleParts) (turns : List Turn)
    (rows : List Row) →
    title_parts cells ≡ Some t → Walk text last p cells turns → Along text rows p cells turns →
    TitleOn text last p t turns rows
title-on text last p cells t turns [] e walk along = absurd along
title-on text last p cells t turns (row ∷ rows) e walk along =
    let are : TitleAre cells t = title-are cells t e in
    title-by text last p t turns row rows are.closer_is
    (subst (λ (l : List Cell). title_parts l ≡ Some t) are.cells_are e)
    (subst (λ (l : List Cell). Walk text last p l turns) are.cells_are walk)
    (subst (λ (l : List Cell). Along text (row ∷ rows) p l turns) are.cells_are along)
