-- The title of a definition is what a definition has on the lines of a text.
use Rattle.std.proofs.Common.{◌≡◌, ℕ, Bool, true, false, cond, nat_eq, List, [], ◌∷◌, Option, Some, None, refl, ◌∙◌, ap}
use Rattle.std.proofs.Common.{ap₂}
use Rattle.md_meaning.specs.Definition.{alone, title_at, title_closer}
use Rattle.md_meaning.specs.Enclosed.{Lines}
use Rattle.md_engine.specs.declared.event.Point.{Point}
use Rattle.md_engine.specs.Meaning.{Cell}
use Rattle.md_link_definitions.specs.CellLines.{cell_lines}
use Rattle.md_link_definitions.specs.Chunks.{before_mark, from_mark}
use Rattle.md_link_definitions.specs.Title.{is_mark}
use Rattle.md_link_definitions.specs.TitleRule.{TitleParts, parts_closed, parts_from, title_parts}
use Rattle.md_link_definitions.specs.WholeCells.{AreWhole, whole_cells}
use Rattle.md_link_definitions.proofs.TitleLemmas.{title-marks}
use Rattle.md_link_definitions.proofs.TitleLines.{parts_lines, title-lines}
use Rattle.md_link_definitions.proofs.WholeCellLemmas.{IsMarkFirst, NoWhite, mark-at, no-white, rest-are, whole-before}
use Rattle.md_link_definitions.proofs.WholeCellLemmas.{whole-from}
use Rattle.md_events.specs.Ahead.{point_after}

-- the lines of its text, and those after it
abbrev pub title_texts : Option TitleParts → Option Lines
title_texts None = None
title_texts (Some t) = Some (record {
  text = cell_lines false (whole_cells t.opener.after t.text);
  rest = cell_lines false (whole_cells t.closer.after t.rest);
})

-- where the text is known, and what follows it
whole-closed : (is : ℕ → Bool) (closer : ℕ) (c : Cell) (q : Point) (text rest : List Cell) → NoWhite is →
    IsMarkFirst is q rest →
    parts_lines (parts_closed closer c (whole_cells c.after text) (whole_cells q rest)) ≡
    title_texts (parts_closed closer c text rest)
whole-closed is closer c q text [] none first = refl
whole-closed is closer c q text (d ∷ ds) none first = rw (mark-at is q d ds none first) (go (nat_eq d.byte closer))
  where
    go : (x : Bool) →
        parts_lines
        (cond x
        (Some (record {
          opener = c;
          text = whole_cells c.after text;
          closer = d;
          rest = whole_cells d.after ds;
        }))
        None) ≡
        title_texts (cond x (Some (record { opener = c; text = text; closer = d; rest = ds })) None)
    go true = refl
    go false = refl

-- by what closes it
whole-parts : (o : Option ℕ) (c : Cell) (cs : List Cell) → title_closer c.byte ≡ o → AreWhole c.after cs →
    parts_lines (parts_from o c (whole_cells c.after cs)) ≡ title_texts (parts_from o c cs)
whole-parts None c cs e are = refl
whole-parts (Some closer) c cs e are =
    let is = is_mark c.byte closer in
    let none = no-white c.byte closer (title-marks c.byte closer e) in
    ap₂ (λ (x y : List Cell). parts_lines (parts_closed closer c x y))
    (whole-before is false c.after cs none (λ e. cc) are) (whole-from is false c.after cs none (λ e. cc) are)
    ∙ whole-closed is closer c (point_after (before_mark is false cs) c.after) (before_mark is false cs)
    (from_mark is false cs) none (rest-are is false c.after cs are)

-- A title is found on the lines of a text where its cells begin with one, if nothing but whitespace follows it on its
-- last line.
pub title-texts : (p : Point) (cells : List Cell) → p.vs ≡ 0 → AreWhole p cells →
    title_at (cell_lines false (whole_cells p cells)) ≡ alone (title_texts (title_parts cells))
unfolding title_parts
title-texts p [] at are = title-lines []
title-texts p (c ∷ cs) at are =
    let first : nat_eq p.vs 0 ≡ true = rw at refl in
    rw first (title-lines (c ∷ whole_cells c.after cs) ∙ ap alone (whole-parts (title_closer c.byte) c cs refl are.1))
