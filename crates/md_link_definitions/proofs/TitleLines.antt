-- The title of a definition is what a definition has on the lines of its cells.
use Rattle.std.proofs.Common.{◌≡◌, ℕ, Bool, true, false, cond, nat_eq, List, [], ◌∷◌, Option, Some, None, refl, sym}
use Rattle.std.proofs.Common.{◌∙◌, ap}
use Rattle.std.specs.List.{onto_first}
use Rattle.std.proofs.lemmas.Bool.{eqb-true}
use Rattle.md_meaning.specs.Definition.{alone, title_at, title_closer}
use Rattle.md_meaning.specs.Enclosed.{Lines, enclosed_lines}
use Rattle.md_engine.specs.Meaning.{Cell}
use Rattle.md_link_definitions.specs.CellLines.{cell_lines, lines_closed}
use Rattle.md_link_definitions.specs.Chunks.{before_mark, from_mark}
use Rattle.md_link_definitions.specs.Title.{is_mark}
use Rattle.md_link_definitions.specs.TitleRule.{TitleParts, parts_closed, parts_from, title_parts}
use Rattle.md_link_definitions.proofs.CellLineLemmas.{all-enclosed, cells-enclosed, lines-byte, lines-ending}
use Rattle.md_link_definitions.proofs.CellLineLemmas.{lines-some}
use Rattle.md_link_definitions.proofs.TitleLemmas.{title-marks}

-- the lines of its text, and those after it
abbrev pub parts_lines : Option TitleParts → Option Lines
parts_lines None = None
parts_lines (Some t) = Some (record { text = cell_lines false t.text; rest = cell_lines false t.rest })

-- where the text is known
parts-closed : (closer : ℕ) (c : Cell) (text rest : List Cell) →
    lines_closed closer false text rest ≡ parts_lines (parts_closed closer c text rest)
unfolding lines_closed
parts-closed closer c text [] = refl
parts-closed closer c text (d ∷ ds) = go (nat_eq d.byte closer)
  where
    go : (x : Bool) →
        cond x (Some (record { text = cell_lines false text; rest = cell_lines false ds })) None ≡
        parts_lines (cond x (Some (record { opener = c; text = text; closer = d; rest = ds })) None)
    go true = refl
    go false = refl

-- by the mark that closes
abbrev pub title_on : Option ℕ → ℕ → List (List ℕ) → Option Lines
title_on None b lines = None
title_on (Some closer) b lines = alone (enclosed_lines b closer lines)

pub title-on : (b : ℕ) (line : List ℕ) (lines : List (List ℕ)) →
    title_at ((b ∷ line) ∷ lines) ≡ title_on (title_closer b) b (line ∷ lines)
unfolding title_at
title-on b line lines = go (title_closer b) refl
  where
    go : (o : Option ℕ) → title_closer b ≡ o → title_at ((b ∷ line) ∷ lines) ≡ title_on o b (line ∷ lines)
    go None k = rw (k, title_at) refl
    go (Some closer) k = rw (k, title_at) refl

-- A title is found on the lines of cells where those cells begin with one, if nothing but whitespace follows it on its
-- last line.
pub title-lines : (cells : List Cell) → title_at (cell_lines false cells) ≡ alone (parts_lines (title_parts cells))
unfolding title_at cell_lines title_parts
title-lines [] = refl
title-lines (c ∷ cs) = go (nat_eq c.byte 10) refl
  where
    opened : (o : Option ℕ) → title_closer c.byte ≡ o →
        title_on o c.byte (cell_lines false cs) ≡ alone (parts_lines (parts_from o c cs))
    opened None e = refl
    opened (Some closer) e =
        let is = is_mark c.byte closer in
        ap alone
        (all-enclosed c.byte closer (cell_lines false cs)
        ∙ cells-enclosed c.byte closer false false cs (title-marks c.byte closer e) refl
        ∙ parts-closed closer c (before_mark is false cs) (from_mark is false cs))

    go : (x : Bool) → nat_eq c.byte 10 ≡ x →
        title_at (cell_lines false (c ∷ cs)) ≡ alone (parts_lines (title_parts (c ∷ cs)))
    go true e =
        let none : title_closer c.byte ≡ None = rw (eqb-true c.byte 10 e) refl in
        ap title_at (lines-ending false c cs e)
        ∙ ap (λ (o : Option ℕ). alone (parts_lines (parts_from o c cs))) (sym none)
    go false e =
        let some = lines-some false cs in
        ap title_at (lines-byte false c cs e refl ∙ ap (onto_first c.byte) some.2)
        ∙ title-on c.byte some.0 some.1 ∙ ap (title_on (title_closer c.byte) c.byte) (sym some.2)
        ∙ opened (title_closer c.byte) refl
