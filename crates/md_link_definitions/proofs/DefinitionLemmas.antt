-- What follows the parts of a definition: fewer cells, at whose first a byte begins.
use Rattle.std.proofs.Common.{◌≡◌, ℕ, zero, suc, ◌<◌, ◌≤◌, Bool, true, false, cond, nat_eq, List, [], ◌∷◌, ◌++◌, length}
use Rattle.std.proofs.Common.{Option, Some, None, refl, sym, ◌∙◌, ap, arith, subst}
use Rattle.std.proofs.lemmas.Bool.Decides.{nat_tests}
use Rattle.std.proofs.lemmas.List.{length-append}
use Rattle.md_meaning.specs.Definition.{title_closer}
use Rattle.md_meaning.specs.Rest.{is_blank, is_white}
use Rattle.md_engine.specs.declared.event.Point.{Point}
use Rattle.md_engine.specs.Meaning.{Cell}
use Rattle.md_link_definitions.specs.Chunks.{before_mark, from_mark}
use Rattle.md_link_definitions.specs.DefinitionRule.{ends_after}
use Rattle.md_link_definitions.specs.GapRule.{ending_rest, gap_rest}
use Rattle.md_link_definitions.specs.Label.{is_bracket}
use Rattle.md_link_definitions.specs.LabelRule.{LabelParts, label_from, label_parts}
use Rattle.md_link_definitions.specs.Title.{is_mark}
use Rattle.md_link_definitions.specs.TitleRule.{TitleParts, parts_closed, parts_from, title_parts}
use Rattle.md_link_definitions.specs.WholeCells.{AreWhole, whole_cells}
use Rattle.md_link_definitions.proofs.CellLineLemmas.{AreMarks, is_other, not-mark}
use Rattle.md_link_definitions.proofs.GapLines.{AreAt}
use Rattle.md_link_definitions.proofs.LineCells.{further, mark-split}
use Rattle.md_link_definitions.proofs.TitleLemmas.{title-marks}
use Rattle.md_link_definitions.proofs.WholeCellLemmas.{IsMarkFirst, rest-are, whole-after, whole-at}
use Rattle.md_events.specs.Ahead.{from_ending, line_cells, point_after, white_rest}
use Rattle.md_events.specs.Look.{first_seen}
use Rattle.md_events.specs.Spaces.{any_size, ends_line}
use Rattle.md_events.proofs.AheadLemmas.{white-ending, white-no_ending}
use Rattle.md_events.proofs.FeedLines.{bytes_of}
use Rattle.md_events.proofs.RestCells.{white-length}

-- After the mark that closes a text.

-- what follows a part: a byte begins there, and fewer cells are left
pub record Following (p : Point) (rest cells : List Cell) : Type 0 where
  pub at : AreAt p rest
  pub fewer : length rest < length cells

-- the mark,
closer-at : (opener closer : ℕ) (q : Point) (d : Cell) (ds : List Cell) → AreMarks opener closer →
    IsMarkFirst (is_mark opener closer) q (d ∷ ds) → AreAt d.after ds
closer-at opener closer q d ds marks first =
    let is : is_mark opener closer d.byte ≡ true = first.first d ds refl in
    let plain : is_other d.byte ≡ false = go (is_other d.byte) refl is in
    let dark : is_white d.byte ≡ false = grind (arith, nat_tests) in
    let on : nat_eq d.byte 10 ≡ false = grind (arith, nat_tests) in
    record { begins = λ c cs e. whole-after q d first.are.0 dark on; are = first.are.1 }
  where
    go : (x : Bool) → is_other d.byte ≡ x → is_mark opener closer d.byte ≡ true → x ≡ false
    go true e is = let no : is_mark opener closer d.byte ≡ false = not-mark opener closer d.byte marks e in cc
    go false e is = refl

-- and what follows it
closer-following : (opener closer : ℕ) (c : Cell) (cs : List Cell) (d : Cell) (ds : List Cell) →
    AreMarks opener closer → AreWhole c.after cs → from_mark (is_mark opener closer) false cs ≡ d ∷ ds →
    Following d.after ds (c ∷ cs)
closer-following opener closer c cs d ds marks are e =
    let is = is_mark opener closer in
    let split : length (before_mark is false cs ++ from_mark is false cs) ≡ length cs =
    ap (λ (l : List Cell). length l) (mark-split is false cs) in
    let parts = length-append (before_mark is false cs) (from_mark is false cs) in
    let size : length (from_mark is false cs) ≡ suc (length ds) = ap (λ (l : List Cell). length l) e in
    let first = rest-are is false c.after cs are in
    let P : List Cell → Type 0 = λ l. IsMarkFirst is (point_after (before_mark is false cs) c.after) l in
    record {
      at = closer-at opener closer (point_after (before_mark is false cs) c.after) d ds marks (subst P e first);
      fewer = omega (arith, split, parts, size);
    }

-- of a label,
pub label-following : (p : Point) (cells : List Cell) (t : LabelParts) → AreWhole p cells → label_parts cells ≡ Some t →
    Following t.closer.after t.rest cells
unfolding label_parts
label-following p [] t are e = cc
label-following p (c ∷ cs) t are e = go (nat_eq c.byte 91) refl e
  where
    text : List Cell
    text = before_mark is_bracket false cs

    closed : (d : Cell) (ds : List Cell) (x : Bool) → from_mark is_bracket false cs ≡ d ∷ ds →
        cond x (Some (record { opener = c; text = text; closer = d; rest = ds })) None ≡ Some t →
        Following t.closer.after t.rest (c ∷ cs)
    closed d ds true k e =
        let u : LabelParts = record { opener = c; text = text; closer = d; rest = ds } in
        let same : u ≡ t = cc in
        subst (λ (v : LabelParts). Following v.closer.after v.rest (c ∷ cs)) same
        (closer-following 91 93 c cs d ds (record { opens = refl; closes = refl }) are.1 k)
    closed d ds false k e = let none : (let o : Option LabelParts = None in o) ≡ Some t = e in cc

    by : (l : List Cell) → from_mark is_bracket false cs ≡ l → label_from c text l ≡ Some t →
        Following t.closer.after t.rest (c ∷ cs)
    by [] k e = let none : (let o : Option LabelParts = None in o) ≡ Some t = e in cc
    by (d ∷ ds) k e = closed d ds _ k e

    go : (x : Bool) → nat_eq c.byte 91 ≡ x →
        cond x (label_from c text (from_mark is_bracket false cs)) None ≡ Some t →
        Following t.closer.after t.rest (c ∷ cs)
    go true i e = by (from_mark is_bracket false cs) refl e
    go false i e = let none : (let o : Option LabelParts = None in o) ≡ Some t = e in cc

-- and of a title
pub title-following : (p : Point) (cells : List Cell) (t : TitleParts) → AreWhole p cells → title_parts cells ≡ Some t →
    Following t.closer.after t.rest cells
unfolding title_parts
title-following p [] t are e = cc
title-following p (c ∷ cs) t are e = go (title_closer c.byte) refl e
  where
    closed : (closer : ℕ) (text : List Cell) (d : Cell) (ds : List Cell) (x : Bool) →
        title_closer c.byte ≡ Some closer → from_mark (is_mark c.byte closer) false cs ≡ d ∷ ds →
        cond x (Some (record { opener = c; text = text; closer = d; rest = ds })) None ≡ Some t →
        Following t.closer.after t.rest (c ∷ cs)
    closed closer text d ds true k l e =
        let u : TitleParts = record { opener = c; text = text; closer = d; rest = ds } in
        let same : u ≡ t = cc in
        subst (λ (v : TitleParts). Following v.closer.after v.rest (c ∷ cs)) same
        (closer-following c.byte closer c cs d ds (title-marks c.byte closer k) are.1 l)
    closed closer text d ds false k l e = let none : (let o : Option TitleParts = None in o) ≡ Some t = e in cc

    by : (closer : ℕ) (text l : List Cell) → title_closer c.byte ≡ Some closer →
        from_mark (is_mark c.byte closer) false cs ≡ l → parts_closed closer c text l ≡ Some t →
        Following t.closer.after t.rest (c ∷ cs)
    by closer text [] k l e = let none : (let o : Option TitleParts = None in o) ≡ Some t = e in cc
    by closer text (d ∷ ds) k l e = closed closer text d ds _ k l e

    go : (o : Option ℕ) → title_closer c.byte ≡ o → parts_from o c cs ≡ Some t →
        Following t.closer.after t.rest (c ∷ cs)
    go None k e = let none : (let o : Option TitleParts = None in o) ≡ Some t = e in cc
    go (Some closer) k e =
        by closer (before_mark (is_mark c.byte closer) false cs) (from_mark (is_mark c.byte closer) false cs) k refl e

-- a gap leaves no more cells
pub gap-length : (cells : List Cell) → length (gap_rest cells) ≤ length cells
gap-length cells =
    let white = white-length any_size cells in
    let ending = go (white_rest any_size cells) in
    omega (arith, white, ending)
  where
    go : (left : List Cell) → length (ending_rest left) ≤ length left
    go [] = omega arith
    go (c ∷ cs) = by (nat_eq c.byte 10)
      where
        by : (x : Bool) → length (cond x (white_rest any_size cs) (c ∷ cs)) ≤ suc (length cs)
        by true = let white = white-length any_size cs in omega (arith, white)
        by false = omega arith

-- The end of a line.

-- it is blank from here on if it ends after whitespace,
pub blank-ends : (room : ℕ) (p : Point) (cells : List Cell) → length cells ≤ room → AreWhole p cells →
    is_blank (bytes_of (whole_cells p (line_cells cells))) ≡ ends_line (first_seen (white_rest room cells))
blank-ends room p [] le are = refl
blank-ends zero p (c ∷ cs) le are = absurd (omega arith)
blank-ends (suc room) p (c ∷ cs) le are =
    go (is_white c.byte) (nat_eq c.byte 10) (nat_eq p.vs 0) refl refl refl
    (blank-ends room c.after cs (omega arith) are.1)
  where
    Is : Type 0
    Is =
        is_blank (bytes_of (whole_cells p (line_cells (c ∷ cs)))) ≡
        ends_line (first_seen (white_rest (suc room) (c ∷ cs)))

    go : (x y z : Bool) → is_white c.byte ≡ x → nat_eq c.byte 10 ≡ y → nat_eq p.vs 0 ≡ z →
        is_blank (bytes_of (whole_cells c.after (line_cells cs))) ≡ ends_line (first_seen (white_rest room cs)) → Is
    go true y true w e v on = rw (white-no_ending c.byte w, v, w) on
    go true y false w e v on = rw (white-no_ending c.byte w, v, w) on
    go false true z w e v on = rw (w, e) refl
    go false false z w e v on =
        let at : p.vs ≡ 0 = whole-at p c are.0 w in rw (w, e, at, w) refl

-- and then the lines after it follow that whitespace
pub ended-further : (cells : List Cell) → ends_after cells ≡ true →
    further (from_ending cells) ≡ further (white_rest any_size cells)
ended-further cells e =
    ap further (sym (white-ending any_size cells) ∙ here (white_rest any_size cells) e)
  where
    here : (left : List Cell) → ends_line (first_seen left) ≡ true → from_ending left ≡ left
    here [] e = refl
    here (c ∷ cs) e = rw e refl

-- The whole.
