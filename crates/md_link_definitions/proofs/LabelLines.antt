-- A label is what a definition has on the lines of its cells.
use Rattle.std.proofs.Common.{◌≡◌, ℕ, ◌+◌, Bool, true, false, ◌&&◌, ◌||◌, not, cond, nat_eq, List, [], ◌∷◌, length}
use Rattle.std.proofs.Common.{Option, Some, None, refl, sym, ◌∙◌, ap, ap₂, arith, zero-add}
use Rattle.std.specs.Prelude.{nat_le, sum_by}
use Rattle.std.specs.List.{list_all, onto_first}
use Rattle.std.proofs.lemmas.Bool.{and_parts, eqb-true}
use Rattle.std.proofs.lemmas.List.Sums.{sum_by-cons}
use Rattle.md_meaning.specs.Definition.{is_label, label_at}
use Rattle.md_meaning.specs.Enclosed.{Lines, enclosed_lines}
use Rattle.md_meaning.specs.Rest.{is_blank, is_white}
use Rattle.md_engine.specs.declared.event.Point.{Point}
use Rattle.md_engine.specs.Meaning.{Cell}
use Rattle.md_link_definitions.specs.CellLines.{cell_lines}
use Rattle.md_link_definitions.specs.Chunks.{before_mark, from_mark}
use Rattle.md_link_definitions.specs.Label.{is_bracket}
use Rattle.md_link_definitions.specs.LabelRule.{LabelParts, has_text, is_label_text, label_from, label_parts, text_size}
use Rattle.md_link_definitions.specs.WholeCells.{AreWhole, IsWhole, whole_cells}
use Rattle.md_link_definitions.proofs.CellLineLemmas.{lines-byte, lines-some}
use Rattle.md_link_definitions.proofs.WholeCellLemmas.{texts_closed, texts-enclosed, text-are, whole-at, whole-within}

-- The lines of a text.

-- With a byte before them one more counts,
onto-length : (b : ℕ) (lines : List (List ℕ)) → sum_by length (onto_first b lines) ≡ 1 + sum_by length lines
onto-length b [] = refl
onto-length b (line ∷ lines) =
    let more = sum_by-cons length (b ∷ line) lines in let less = sum_by-cons length line lines in
    omega (arith, more, less)

-- three tests
and-then : (x y z : Bool) → x && y && z ≡ x && (y && z)
and-then true y z = refl
and-then false y z = refl

-- and they are blank if it is whitespace and they were.
onto-blank : (b : ℕ) (lines : List (List ℕ)) →
    list_all is_blank (onto_first b lines) ≡ is_white b && list_all is_blank lines
onto-blank b [] = and-then (is_white b) true true
onto-blank b (line ∷ lines) = and-then (is_white b) (is_blank line) (list_all is_blank lines)

-- no line ending is whitespace
ending-at : (p : Point) (c : Cell) → IsWhole p c → nat_eq c.byte 10 ≡ true → p.vs ≡ 0
ending-at p c is e = let ten : c.byte ≡ 10 = eqb-true c.byte 10 e in whole-at p c is (rw ten refl)

-- within a tab no line begins
within-led : (led : Bool) (p : Point) (c : Cell) → IsWhole p c → nat_eq p.vs 0 ≡ false →
    led && is_white c.byte ≡ false → led ≡ false
within-led false p c is v w = refl
within-led true p c is v w = let white : is_white c.byte ≡ true = whole-within p c is v in cc

-- What counts of a text is the length of its lines,
length-by : (led : Bool) (p : Point) (c : Cell) (cs : List Cell) → IsWhole p c →
    ((l : Bool) → sum_by length (cell_lines l (whole_cells c.after cs)) ≡ text_size l cs c.after) →
    sum_by length (cell_lines led (whole_cells p (c ∷ cs))) ≡ text_size led (c ∷ cs) p
unfolding cell_lines
length-by led p c cs is on = go (nat_eq c.byte 10) (led && is_white c.byte) (nat_eq p.vs 0) refl refl refl
  where
    go : (x y z : Bool) → nat_eq c.byte 10 ≡ x → led && is_white c.byte ≡ y → nat_eq p.vs 0 ≡ z →
        sum_by length (cell_lines led (whole_cells p (c ∷ cs))) ≡ text_size led (c ∷ cs) p
    go true y z e w v =
        let at : p.vs ≡ 0 = ending-at p c is e in
        let none = sum_by-cons length [] (cell_lines true (whole_cells c.after cs)) in
        rw (at, e) (none ∙ zero-add _ ∙ on true)
    go false true true e w v = rw (v, e, w) (on true)
    go false true false e w v =
        let further : led ≡ true = (and_parts led (is_white c.byte) w).0 in rw (v, e, w, further) (on true)
    go false false true e w v =
        rw (v, e, w) (onto-length c.byte (cell_lines false (whole_cells c.after cs)) ∙ ap (λ (n : ℕ). 1 + n) (on false))
    go false false false e w v =
        rw (v, e, w) (rw (within-led led p c is v w) (on false ∙ sym (zero-add _)))

-- all of it,
text-length : (led : Bool) (p : Point) (cells : List Cell) → AreWhole p cells →
    sum_by length (cell_lines led (whole_cells p cells)) ≡ text_size led cells p
unfolding cell_lines
text-length led p [] are = refl
text-length led p (c ∷ cs) are = length-by led p c cs are.0 (λ l. text-length l c.after cs are.1)

-- and something is in it if they are not all blank.
blank-by : (led : Bool) (p : Point) (c : Cell) (cs : List Cell) → IsWhole p c →
    ((l : Bool) → not (list_all is_blank (cell_lines l (whole_cells c.after cs))) ≡ has_text cs) →
    not (list_all is_blank (cell_lines led (whole_cells p (c ∷ cs)))) ≡ has_text (c ∷ cs)
unfolding cell_lines
blank-by led p c cs is on = go (nat_eq c.byte 10) (led && is_white c.byte) (nat_eq p.vs 0) refl refl refl
  where
    more : (x : Bool) → is_white c.byte ≡ x →
        not (is_white c.byte && list_all is_blank (cell_lines false (whole_cells c.after cs))) ≡
        not (is_white c.byte || false) || has_text cs
    more true w = rw w (on false)
    more false w = rw w refl

    go : (x y z : Bool) → nat_eq c.byte 10 ≡ x → led && is_white c.byte ≡ y → nat_eq p.vs 0 ≡ z →
        not (list_all is_blank (cell_lines led (whole_cells p (c ∷ cs)))) ≡ has_text (c ∷ cs)
    go true y z e w v =
        let at : p.vs ≡ 0 = ending-at p c is e in
        let ten : c.byte ≡ 10 = eqb-true c.byte 10 e in
        rw (at, ten) (on true)
    go false true true e w v =
        let white : is_white c.byte ≡ true = (and_parts led (is_white c.byte) w).1 in rw (v, e, w, white) (on true)
    go false true false e w v =
        let parts = and_parts led (is_white c.byte) w in
        let further : led ≡ true = parts.0 in
        let white : is_white c.byte ≡ true = parts.1 in
        rw (v, e, white, further) (on true)
    go false false true e w v =
        rw (v, e, w)
        (ap not (onto-blank c.byte (cell_lines false (whole_cells c.after cs))) ∙ more (is_white c.byte) refl)
    go false false false e w v =
        let white : is_white c.byte ≡ true = whole-within p c is v in
        let first : led ≡ false = within-led led p c is v w in
        rw (v, e, white, first) (on false)

-- in all of it
text-blank : (led : Bool) (p : Point) (cells : List Cell) → AreWhole p cells →
    not (list_all is_blank (cell_lines led (whole_cells p cells))) ≡ has_text cells
unfolding cell_lines
text-blank led p [] are = refl
text-blank led p (c ∷ cs) are = blank-by led p c cs are.0 (λ l. text-blank l c.after cs are.1)

-- A label that was found on lines.

-- the lines of its text, and those after it
abbrev pub label_lines : Option LabelParts → Option Lines
label_lines None = None
label_lines (Some t) = Some (record {
  text = cell_lines false (whole_cells t.opener.after t.text);
  rest = cell_lines false (whole_cells t.closer.after t.rest);
})

-- a text that may be a label's
abbrev if_label : Option Lines → Option Lines
if_label None = None
if_label (Some label) = cond (is_label label.text) (Some label) None

-- it is one where this is said of its lines
label-text : (text : List Cell) (q : Point) → AreWhole q text →
    is_label (cell_lines false (whole_cells q text)) ≡ is_label_text text q
label-text text q are =
    ap₂ (λ (x : Bool) (n : ℕ). x && nat_le n 999) (text-blank false q text are) (text-length false q text are)

-- where the text is known, and what follows it
label-closed : (c : Cell) (text rest : List Cell) → AreWhole c.after text →
    if_label (texts_closed 93 c.after text rest) ≡ label_lines (label_from c text rest)
label-closed c text [] are = refl
label-closed c text (d ∷ ds) are = go (nat_eq d.byte 93) refl
  where
    fits : (x : Bool) →
        cond x (label_lines (Some (record { opener = c; text = text; closer = d; rest = ds }))) None ≡
        label_lines (cond (x && true) (Some (record { opener = c; text = text; closer = d; rest = ds })) None)
    fits true = refl
    fits false = refl

    none : (x : Bool) →
        let o : Option Lines = None in
        o ≡ label_lines (cond (x && false) (Some (record { opener = c; text = text; closer = d; rest = ds })) None)
    none true = refl
    none false = refl

    go : (x : Bool) → nat_eq d.byte 93 ≡ x →
        if_label (texts_closed 93 c.after text (d ∷ ds)) ≡ label_lines (label_from c text (d ∷ ds))
    go true e = rw (e, label-text text c.after are) (fits (is_label_text text c.after))
    go false e = rw e (none (is_label_text text c.after))

-- after `[`
label-on : (b : ℕ) (line : List ℕ) (lines : List (List ℕ)) →
    label_at ((b ∷ line) ∷ lines) ≡ cond (nat_eq b 91) (if_label (enclosed_lines 91 93 (line ∷ lines))) None
unfolding label_at
label-on b line lines = go (nat_eq b 91) refl
  where
    by : (o : Option Lines) →
        (elim o [ Some label ↦ cond (is_label label.text) (Some label) None | None ↦ None ]) ≡ if_label o
    by None = refl
    by (Some label) = refl

    go : (x : Bool) → nat_eq b 91 ≡ x →
        label_at ((b ∷ line) ∷ lines) ≡ cond x (if_label (enclosed_lines 91 93 (line ∷ lines))) None
    go true e = rw e (by (enclosed_lines 91 93 (line ∷ lines)))
    go false e = rw e refl

-- A label is found on the lines of cells where those cells begin with one.
pub label-lines : (p : Point) (cells : List Cell) → p.vs ≡ 0 → AreWhole p cells →
    label_at (cell_lines false (whole_cells p cells)) ≡ label_lines (label_parts cells)
unfolding label_at cell_lines label_parts
label-lines p [] at are = refl
label-lines p (c ∷ cs) at are = rw at (go (nat_eq c.byte 10) refl)
  where
    left : List Cell
    left = whole_cells c.after cs

    text : List Cell
    text = before_mark is_bracket false cs

    rest : List Cell
    rest = from_mark is_bracket false cs

    enclosed : if_label (enclosed_lines 91 93 (cell_lines false left)) ≡ label_lines (label_from c text rest)
    enclosed =
        ap if_label (texts-enclosed 91 93 c.after cs (record { opens = refl; closes = refl }) are.1)
        ∙ label-closed c text rest (text-are is_bracket false c.after cs are.1)

    by : (x : Bool) →
        cond x (label_lines (label_from c text rest)) None ≡ label_lines (cond x (label_from c text rest) None)
    by true = refl
    by false = refl

    go : (x : Bool) → nat_eq c.byte 10 ≡ x →
        label_at (cell_lines false (c ∷ left)) ≡ label_lines (label_parts (c ∷ cs))
    go true e =
        let ten : c.byte ≡ 10 = eqb-true c.byte 10 e in rw ten refl
    go false e =
        let some = lines-some false left in
        ap label_at (lines-byte false c left e refl ∙ ap (onto_first c.byte) some.2)
        ∙ label-on c.byte some.0 some.1
        ∙ ap (λ (all : List (List ℕ)). cond (nat_eq c.byte 91) (if_label (enclosed_lines 91 93 all)) None) (sym some.2)
        ∙ ap (λ (o : Option Lines). cond (nat_eq c.byte 91) o None) enclosed
        ∙ by (nat_eq c.byte 91)
