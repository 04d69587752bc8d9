-- What follows whitespace with at most one line ending is what a definition has after a gap on the lines of cells.
use Rattle.std.proofs.Common.{◌≡◌, ℕ, zero, suc, ◌≤◌, Bool, true, false, ◌||◌, nat_eq, List, [], ◌∷◌, length, refl, sym}
use Rattle.std.proofs.Common.{◌∙◌, ap, arith}
use Rattle.std.specs.List.{onto_first}
use Rattle.md_meaning.specs.Definition.{after_gap}
use Rattle.md_meaning.specs.Rest.{is_parted, is_white}
use Rattle.md_engine.specs.declared.event.Point.{Point}
use Rattle.md_engine.specs.Meaning.{Cell}
use Rattle.md_link_definitions.specs.CellLines.{cell_lines}
use Rattle.md_link_definitions.specs.GapRule.{begins_gap, ending_end, ending_rest, gap_end, gap_rest}
use Rattle.md_link_definitions.specs.WholeCells.{AreWhole, IsWhole, whole_cells}
use Rattle.md_link_definitions.proofs.CellLineLemmas.{lines-byte, lines-ending, lines-some, lines-white}
use Rattle.md_link_definitions.proofs.WholeCellLemmas.{whole-at}
use Rattle.md_events.specs.Ahead.{begins_white, white_end, white_rest}
use Rattle.md_events.specs.Spaces.{any_size}
use Rattle.md_events.proofs.AheadLemmas.{white-all, white-no_ending}
use Rattle.md_events.proofs.RestCells.{white-length}
use Rattle.md_events.proofs.RestLines.{trim-white}

-- Whitespace before a further line.

-- the cells, by the first: a byte begins there,
pub whole-first : (p : Point) (c : Cell) (cs : List Cell) → p.vs ≡ 0 →
    whole_cells p (c ∷ cs) ≡ c ∷ whole_cells c.after cs
whole-first p c cs at = rw at refl

-- what is left of the line after whitespace is the line without it
led-white : (p : Point) (c : Cell) (cs : List Cell) → is_white c.byte ≡ true →
    cell_lines true (whole_cells p (c ∷ cs)) ≡ cell_lines true (whole_cells c.after cs)
led-white p c cs white = go (nat_eq p.vs 0) refl
  where
    go : (x : Bool) → nat_eq p.vs 0 ≡ x →
        cell_lines true (whole_cells p (c ∷ cs)) ≡ cell_lines true (whole_cells c.after cs)
    go true e = rw e (lines-white c (whole_cells c.after cs) (white-no_ending c.byte white) white)
    go false e = rw e refl

-- and what is not whitespace begins it
led-other : (p : Point) (c : Cell) (cs : List Cell) → IsWhole p c → is_white c.byte ≡ false →
    cell_lines true (whole_cells p (c ∷ cs)) ≡ cell_lines false (whole_cells p (c ∷ cs))
led-other p c cs is other =
    let first = whole-first p c cs (whole-at p c is other) in
    ap (cell_lines true) first ∙ go (nat_eq c.byte 10) refl ∙ ap (cell_lines false) (sym first)
  where
    left : List Cell
    left = whole_cells c.after cs

    go : (x : Bool) → nat_eq c.byte 10 ≡ x → cell_lines true (c ∷ left) ≡ cell_lines false (c ∷ left)
    go true e = lines-ending true c left e ∙ sym (lines-ending false c left e)
    go false e = lines-byte true c left e other ∙ sym (lines-byte false c left e refl)

-- all whitespace
pub lines-led : (room : ℕ) (p : Point) (cells : List Cell) → length cells ≤ room → AreWhole p cells →
    cell_lines true (whole_cells p cells) ≡
    cell_lines false (whole_cells (white_end room cells p) (white_rest room cells))
unfolding cell_lines
lines-led room p [] le are = refl
lines-led zero p (c ∷ cs) le are = absurd (omega arith)
lines-led (suc room) p (c ∷ cs) le are =
    go (is_white c.byte) refl (lines-led room c.after cs (omega arith) are.1)
  where
    go : (x : Bool) → is_white c.byte ≡ x →
        cell_lines true (whole_cells c.after cs) ≡
        cell_lines false (whole_cells (white_end room cs c.after) (white_rest room cs)) →
        cell_lines true (whole_cells p (c ∷ cs)) ≡
        cell_lines false
        (whole_cells (white_end (suc room) (c ∷ cs) p) (white_rest (suc room) (c ∷ cs)))
    go true white on = led-white p c cs white ∙ on ∙ rw white refl
    go false other on = led-other p c cs are.0 other ∙ rw other refl

-- The gap on lines.

-- what a definition has after a gap, of a line that begins with whitespace, is what it has without that
gap-white : (b : ℕ) (line : List ℕ) (lines : List (List ℕ)) → is_white b ≡ true →
    after_gap ((b ∷ line) ∷ lines) ≡ after_gap (line ∷ lines)
gap-white b line lines white = rw (trim-white b line white, white) refl

-- before other lines, too
gap-onto : (b : ℕ) (led : Bool) (cells : List Cell) → is_white b ≡ true →
    after_gap (onto_first b (cell_lines led cells)) ≡ after_gap (cell_lines led cells)
gap-onto b led cells white =
    let some = lines-some led cells in
    ap (λ (all : List (List ℕ)). after_gap (onto_first b all)) some.2 ∙ gap-white b some.0 some.1 white
    ∙ ap after_gap (sym some.2)

-- and of one that begins otherwise, the line
gap-other : (b : ℕ) (line : List ℕ) (lines : List (List ℕ)) → is_white b ≡ false →
    after_gap ((b ∷ line) ∷ lines) ≡ (b ∷ line) ∷ lines
gap-other b line lines other = rw other refl

-- before other lines, too
gap-byte : (b : ℕ) (led : Bool) (cells : List Cell) → is_white b ≡ false →
    after_gap (onto_first b (cell_lines led cells)) ≡ onto_first b (cell_lines led cells)
gap-byte b led cells other =
    let some = lines-some led cells in
    ap (λ (all : List (List ℕ)). after_gap (onto_first b all)) some.2 ∙ gap-other b some.0 some.1 other
    ∙ ap (onto_first b) (sym some.2)

-- of cells: whitespace,
first-white : (p : Point) (c : Cell) (cs : List Cell) → is_white c.byte ≡ true →
    after_gap (cell_lines false (whole_cells p (c ∷ cs))) ≡ after_gap (cell_lines false (whole_cells c.after cs))
first-white p c cs white = go (nat_eq p.vs 0) refl
  where
    left : List Cell
    left = whole_cells c.after cs

    go : (x : Bool) → nat_eq p.vs 0 ≡ x →
        after_gap (cell_lines false (whole_cells p (c ∷ cs))) ≡ after_gap (cell_lines false left)
    go true e =
        rw e
        (ap after_gap (lines-byte false c left (white-no_ending c.byte white) refl)
        ∙ gap-onto c.byte false left white)
    go false e = rw e refl

-- an ending,
first-ending : (p : Point) (c : Cell) (cs : List Cell) → p.vs ≡ 0 → nat_eq c.byte 10 ≡ true →
    after_gap (cell_lines false (whole_cells p (c ∷ cs))) ≡ cell_lines true (whole_cells c.after cs)
first-ending p c cs at e =
    ap (λ (x : List Cell). after_gap (cell_lines false x)) (whole-first p c cs at)
    ∙ ap after_gap (lines-ending false c (whole_cells c.after cs) e)

-- or another byte
first-other : (p : Point) (c : Cell) (cs : List Cell) → p.vs ≡ 0 → is_white c.byte ≡ false →
    nat_eq c.byte 10 ≡ false →
    after_gap (cell_lines false (whole_cells p (c ∷ cs))) ≡ cell_lines false (whole_cells p (c ∷ cs))
first-other p c cs at other e =
    let first = whole-first p c cs at in
    let left = whole_cells c.after cs in
    ap (λ (x : List Cell). after_gap (cell_lines false x)) first
    ∙ ap after_gap (lines-byte false c left e refl) ∙ gap-byte c.byte false left other
    ∙ sym (ap (cell_lines false) first ∙ lines-byte false c left e refl)

-- The lines after a gap, for what shows no line from none: after whitespace of at most so many columns.
gap-by : {A : Type 0} (f : List (List ℕ) → A) (room : ℕ) (p : Point) (cells : List Cell) → f [] ≡ f ([] ∷ []) →
    length cells ≤ room → length cells ≤ any_size → AreWhole p cells →
    let left = white_rest room cells in
    f (after_gap (cell_lines false (whole_cells p cells))) ≡
    f (cell_lines false (whole_cells (ending_end left (white_end room cells p)) (ending_rest left)))
unfolding cell_lines
gap-by f room p [] none le small are = none
gap-by f zero p (c ∷ cs) none le small are = absurd (omega arith)
gap-by f (suc room) p (c ∷ cs) none le small are =
    go (is_white c.byte) refl (gap-by f room c.after cs none (omega arith) (omega arith) are.1)
  where
    left : List Cell
    left = white_rest (suc room) (c ∷ cs)

    Is : Type 0
    Is =
        f (after_gap (cell_lines false (whole_cells p (c ∷ cs)))) ≡
        f
        (cell_lines false
        (whole_cells
        (ending_end (white_rest (suc room) (c ∷ cs)) (white_end (suc room) (c ∷ cs) p))
        (ending_rest (white_rest (suc room) (c ∷ cs)))))

    by : is_white c.byte ≡ false → (x : Bool) → nat_eq c.byte 10 ≡ x → Is
    by other true e =
        rw (other, e)
        (ap f
        (first-ending p c cs (whole-at p c are.0 other) e ∙ lines-led any_size c.after cs (omega arith) are.1))
    by other false e = rw (other, e) (ap f (first-other p c cs (whole-at p c are.0 other) other e))

    go : (x : Bool) → is_white c.byte ≡ x →
        (let left = white_rest room cs in
        f (after_gap (cell_lines false (whole_cells c.after cs))) ≡
        f (cell_lines false (whole_cells (ending_end left (white_end room cs c.after)) (ending_rest left)))) →
        Is
    go true white on = ap f (first-white p c cs white) ∙ on ∙ rw white refl
    go false other on = by other (nat_eq c.byte 10) refl

-- The lines after a gap are those of the cells after it, for what shows no line from an empty one.
pub gap-lines : {A : Type 0} (f : List (List ℕ) → A) (p : Point) (cells : List Cell) → f [] ≡ f ([] ∷ []) →
    length cells ≤ any_size → AreWhole p cells →
    f (after_gap (cell_lines false (whole_cells p cells))) ≡
    f (cell_lines false (whole_cells (gap_end cells p) (gap_rest cells)))
gap-lines f p cells none small are = gap-by f any_size p cells none small small are

-- Where it ends.

-- a byte begins at a point if any cells do, and they are as a text has them
pub record AreAt (p : Point) (cells : List Cell) : Type 0 where
  pub begins : (c : Cell) (cs : List Cell) → cells ≡ c ∷ cs → p.vs ≡ 0
  pub are : AreWhole p cells

-- where no cell comes
at-none : (p : Point) → AreAt p []
at-none p = record { begins = λ c cs e. cc; are = tt }

-- where the first is no whitespace
at-other : (p : Point) (c : Cell) (cs : List Cell) → is_white c.byte ≡ false → AreWhole p (c ∷ cs) → AreAt p (c ∷ cs)
at-other p c cs other are = record { begins = λ d ds e. whole-at p c are.0 other; are = are }

-- after whitespace,
pub white-at : (room : ℕ) (p : Point) (cells : List Cell) → length cells ≤ room → AreWhole p cells →
    AreAt (white_end room cells p) (white_rest room cells)
white-at room p [] le are = at-none p
white-at zero p (c ∷ cs) le are = absurd (omega arith)
white-at (suc room) p (c ∷ cs) le are = go (is_white c.byte) refl (white-at room c.after cs (omega arith) are.1)
  where
    go : (x : Bool) → is_white c.byte ≡ x → AreAt (white_end room cs c.after) (white_rest room cs) →
        AreAt (white_end (suc room) (c ∷ cs) p) (white_rest (suc room) (c ∷ cs))
    go true white on = rw white on
    go false other on = rw other (at-other p c cs other are)

-- and an ending
ending-at : (p : Point) (cells : List Cell) → begins_white cells ≡ false → length cells ≤ any_size →
    AreWhole p cells → AreAt (ending_end cells p) (ending_rest cells)
ending-at p [] other small are = at-none p
ending-at p (c ∷ cs) other small are = go (nat_eq c.byte 10) refl
  where
    go : (x : Bool) → nat_eq c.byte 10 ≡ x → AreAt (ending_end (c ∷ cs) p) (ending_rest (c ∷ cs))
    go true e = rw e (white-at any_size c.after cs (omega arith) are.1)
    go false e = rw e (at-other p c cs other are)

-- After a gap a byte begins.
pub gap-valid : (p : Point) (cells : List Cell) → length cells ≤ any_size → AreWhole p cells →
    AreAt (gap_end cells p) (gap_rest cells)
gap-valid p cells small are =
    let fewer = white-length any_size cells in
    ending-at (white_end any_size cells p) (white_rest any_size cells) (white-all any_size cells small)
    (omega (arith, fewer)) (white-at any_size p cells small are).are

-- Where it begins.

-- whether it does, by the line: it does before whitespace or where the line ends, if the cells do not
pub gap-parted : (p : Point) (c : Cell) (cs : List Cell) (line : List ℕ) (lines : List (List ℕ)) → p.vs ≡ 0 →
    cell_lines false (whole_cells p (c ∷ cs)) ≡ line ∷ lines → is_parted line ≡ begins_gap (c ∷ cs)
gap-parted p c cs line lines at e = go (nat_eq c.byte 10) refl
  where
    left : List Cell
    left = whole_cells c.after cs

    first : cell_lines false (c ∷ left) ≡ line ∷ lines
    first = ap (cell_lines false) (sym (whole-first p c cs at)) ∙ e

    or-true : (x : Bool) → x || true ≡ true
    or-true true = refl
    or-true false = refl

    or-false : (x : Bool) → x || false ≡ x
    or-false true = refl
    or-false false = refl

    go : (x : Bool) → nat_eq c.byte 10 ≡ x → is_parted line ≡ begins_gap (c ∷ cs)
    go true k =
        let ends : [] ∷ cell_lines true left ≡ line ∷ lines = sym (lines-ending false c left k) ∙ first in
        let none : [] ≡ line = cc in
        rw k (ap is_parted (sym none) ∙ sym (or-true (is_white c.byte)))
    go false k =
        let some = lines-some false left in
        let onto : (c.byte ∷ some.0) ∷ some.1 ≡ line ∷ lines =
        ap (onto_first c.byte) (sym some.2) ∙ sym (lines-byte false c left k refl) ∙ first in
        let byte : c.byte ∷ some.0 ≡ line = cc in
        rw k (ap is_parted (sym byte) ∙ sym (or-false (is_white c.byte)))
