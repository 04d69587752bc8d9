-- Where the rests of a line are: each at one point of the text, which is its place.
use Rattle.std.proofs.Common.{◌≡◌, ℕ, zero, suc, ◌+◌, ◌-◌, ◌%◌, ◌<◌, ◌≤◌, Bool, true, false, cond, not, List, [], ◌∷◌}
use Rattle.std.proofs.Common.{◌++◌, length, take, drop, refl, sym, ap, ◌∙◌, subst, append_assoc, arith}
use Rattle.std.specs.Prelude.{◌==◌, slice_index}
use Rattle.std.proofs.lemmas.Bool.{eqb-true}
use Rattle.std.proofs.lemmas.Bool.Decides.{nat_tests}
use Rattle.std.proofs.lemmas.List.{drop-drop, take-append-drop}
use Rattle.std.proofs.Math.Seq.{drop-append_seam}
use Rattle.md_engine.specs.declared.event.Point.{Point}
use Rattle.md_engine.specs.declared.tokenizer.Line.{Line}
use Rattle.md_engine.specs.Meaning.{Cell}
use Rattle.md_engine.specs.Place.{next_point}
use Rattle.md_meaning.specs.Rest.{Rest, cut_tab, indent, lose, white_columns}
use Rattle.md_meaning.proofs.TextsLemmas.{NoEnding}
use Rattle.md_events.specs.Ahead.{white_end}
use Rattle.md_events.specs.Events.Places.{columns_from, past_byte, past_text}
use Rattle.md_events.proofs.AheadLemmas.{none-end}
use Rattle.md_events.proofs.FeedLines.{Stops, after_last, cell, columns_more, next_column, past_text-whole, spread}
use Rattle.md_events.proofs.FeedLines.{tab_cells}
use Rattle.md_events.proofs.InlineLemmas.{past-index}
use Rattle.md_events.proofs.LostColumns.{column-step, lose-bare}
use Rattle.md_events.proofs.PlacesLemmas.{Placed, at-next, placed-text}
use Rattle.md_events.proofs.ReachedLemmas.{placed-next}
use Rattle.md_events.proofs.RestCells.{Cut, HasColumn, RestAt, bare-cells, column-first, rest_cells, without_first}
use Rattle.md_events.specs.Exact.Places.{TextLine, past, place, whole}
use Rattle.proof_exact_pieces.proofs.PlaceLemmas.{LineOf, before-is, line_start, placed-place, past-column, no_ending-take}

-- a line of the text, which begins at a point of it
pub record LineIn (text following : List ℕ) (line : TextLine) : Type 0 where
  pub valid : LineOf text following line
  pub plain : NoEnding line.bytes
  pub begins : Placed text (line_start line)

-- a rest of it is at a point of it
pub record OnLine (text following : List ℕ) (line : TextLine) (r : Rest) (p : Point) : Type 0 where
  pub valid : RestAt text following r p
  pub placed : Placed text p
  pub onward : line.index ≤ p.index
  pub number : p.line ≡ line.number

-- that point is its place
pub place-on : (text following : List ℕ) (line : TextLine) (r : Rest) (p : Point) → LineIn text following line →
    OnLine text following line r p → place line r ≡ p
place-on text following line r p is on =
    let index = before-is text following line r p is.valid on.valid on.onward on.placed.index in
    placed-place text following line r p is.valid is.plain is.begins on.valid on.placed on.onward (omega (arith, index))
    on.number

-- all of a line
pub whole-on : (text following : List ℕ) (line : TextLine) → LineIn text following line →
    OnLine text following line (whole line) (line_start line)
whole-on text following line is = record {
  valid = record { column = refl; cut = refl; text_is = is.valid.text_is };
  placed = is.begins;
  onward = omega arith;
  number = refl;
}

-- Columns of whitespace.

inside : (index : ℕ) (bytes : List ℕ) (b : ℕ) (rest : List ℕ) → drop index bytes ≡ b ∷ rest → index < length bytes
inside zero [] b rest e = cc
inside zero (c ∷ bytes) b rest e = omega arith
inside (suc index) [] b rest e = cc
inside (suc index) (c ∷ bytes) b rest e = let more = inside index bytes b rest e in omega arith

-- the point after a column of a tab, and after a space
tab-point : (text : List ℕ) (p : Point) → slice_index text p.index ≡ 9 →
    next_point text p ≡ cond (not (p.column % 4 == 0)) (next_column p) (after_last p)
tab-point text p is = rw is refl

within-point : (text : List ℕ) (n : ℕ) (p : Point) → slice_index text p.index ≡ 9 → suc n ≡ columns_more p →
    next_point text p ≡ next_column p
within-point text n p is e =
    let more : not (p.column % 4 == 0) ≡ true = grind (arith, nat_tests) in
    tab-point text p is ∙ ap (λ (t : Bool). cond t (next_column p) (after_last p)) more

last-point : (text : List ℕ) (p : Point) → slice_index text p.index ≡ 9 → 0 ≡ columns_more p →
    next_point text p ≡ after_last p
last-point text p is e =
    let none : not (p.column % 4 == 0) ≡ false = grind (arith, nat_tests) in
    tab-point text p is ∙ ap (λ (t : Bool). cond t (next_column p) (after_last p)) none

space-point : (text : List ℕ) (p : Point) → slice_index text p.index ≡ 32 → 1 ≤ p.column →
    next_point text p ≡ past_byte 32 p
space-point text p is one =
    let column : p.column + 1 ≡ p.column - 1 + 1 + 1 = omega arith in
    rw is
    (ap (λ (c : ℕ). let q : Point = record { line = p.line; column = c; index = p.index + 1; vs = 0 } in q) column)

-- where the first cell ends
abbrev first_after : Point → List Cell → Point
first_after p [] = p
first_after p (c ∷ cs) = c.after

abbrev rest : ℕ → ℕ → List ℕ → Rest
rest column spaces bytes = record { column = column; spaces = spaces; bytes = bytes }

-- after one column is the next point, and the text continues there
record IsNext (text : List ℕ) (p at : Point) : Type 0 where
  is : at ≡ next_point text p
  inside : p.index < length text
  further : at.index ≤ p.index + 1

column-next : (cell_line : Line) (text following : List ℕ) (r : Rest) (p : Point) → RestAt text following r p →
    0 < indent r → (first : HasColumn cell_line text following r p) → IsNext text p first.at
column-next cell_line text following r p is lt first =
    go r.column r.spaces r.bytes is lt (ap (first_after p) first.cells)
  where
    at : Point
    at = first.at

    last : (bytes : List ℕ) → drop p.index text ≡ 9 ∷ bytes → 0 ≡ columns_more p → after_last p ≡ at →
        IsNext text p at
    last bytes is none e =
        subst (IsNext text p) e (record {
          is = sym (last-point text p (at-next p.index text 9 bytes is) none);
          inside = inside p.index text 9 bytes is;
          further = omega arith;
        })

    within : (n : ℕ) (bytes : List ℕ) → drop p.index text ≡ 9 ∷ bytes → suc n ≡ columns_more p →
        next_column p ≡ at → IsNext text p at
    within n bytes is more e =
        subst (IsNext text p) e (record {
          is = sym (within-point text n p (at-next p.index text 9 bytes is) more);
          inside = inside p.index text 9 bytes is;
          further = omega arith;
        })

    go : (column spaces : ℕ) (bytes : List ℕ) → RestAt text following (rest column spaces bytes) p →
        0 < indent (rest column spaces bytes) → first_after p (rest_cells cell_line (rest column spaces bytes) p) ≡ at →
        IsNext text p at
    go column (suc zero) bytes h lt e = last (bytes ++ following) h.text_is h.cut.1 e
    go column (suc (suc n)) bytes h lt e = within n (bytes ++ following) h.text_is h.cut.1 e
    go column zero [] h lt e = absurd (omega (arith, lt))
    go column zero (b ∷ bs) h lt e = by (b == 9) refl (b == 32) refl h e
      where
        Has : ℕ → Type 0
        Has c =
            RestAt text following (rest column 0 (c ∷ bs)) p →
            first_after p (rest_cells cell_line (rest column 0 (c ∷ bs)) p) ≡ at → IsNext text p at

        tab : (k : ℕ) → k ≡ columns_more p → drop p.index text ≡ 9 ∷ bs ++ following →
            first_after p (tab_cells cell_line k 9 p ++ spread cell_line bs (past_byte 9 p)) ≡ at → IsNext text p at
        tab zero k is e = last (bs ++ following) is k e
        tab (suc n) k is e = within n (bs ++ following) is k e

        by : (t : Bool) → (b == 9) ≡ t → (s : Bool) → (b == 32) ≡ s → Has b
        by true f s g = subst Has (sym (eqb-true b 9 f)) (λ is. tab (columns_more p) refl is.text_is)
        by false f true g =
            subst Has (sym (eqb-true b 32 g))
            (λ is e.
            subst (IsNext text p) e (record {
              is = sym
                  (space-point text p (at-next p.index text 32 (bs ++ following) is.text_is)
                  (omega (arith, is.column)));
              inside = inside p.index text 32 (bs ++ following) is.text_is;
              further = omega arith;
            }))
        by false f false g =
            let none : white_columns (column + 0) (b ∷ bs) ≡ 0 = rw (f, g) refl in absurd (omega (arith, lt, none))

pub column-on : (cell_line : Line) (text following : List ℕ) (line : TextLine) (r : Rest) (p : Point) →
    OnLine text following line r p → 0 < indent r → (first : HasColumn cell_line text following r p) →
    OnLine text following line (without_first r) first.at
column-on cell_line text following line r p on lt first =
    let next = column-next cell_line text following r p on.valid lt first in
    let step = column-step cell_line text following r p on.valid lt first in
    let fits : (next_point text p).index ≤ length text = subst (λ (q : Point). q.index ≤ length text) next.is
    (omega (arith, next.inside, next.further)) in
    record {
      valid = first.valid;
      placed = subst (Placed text) (sym next.is) (placed-next text p on.placed fits);
      onward = omega (arith, on.onward, step.white.index);
      number = step.white.line ∙ on.number;
    }

-- so many, or as many as there are
pub lose-on : (cell_line : Line) (text following : List ℕ) (line : TextLine) (m : ℕ) (r : Rest) (p : Point)
    (stop : List Cell) →
    OnLine text following line r p → Stops stop →
    OnLine text following line (lose m r) (white_end m (rest_cells cell_line r p ++ stop) p)
lose-on cell_line text following line zero r p stop on k =
    subst (OnLine text following line r) (sym (none (rest_cells cell_line r p ++ stop))) on
  where
    none : (cells : List Cell) → white_end 0 cells p ≡ p
    none [] = refl
    none (c ∷ cs) = refl
lose-on cell_line text following line (suc m) r p stop on k =
    go (indent r) refl (λ first h. lose-on cell_line text following line m (without_first r) first.at stop h k)
  where
    cells : List Cell
    cells = rest_cells cell_line r p ++ stop

    go : (n : ℕ) → indent r ≡ n →
        ((first : HasColumn cell_line text following r p) → OnLine text following line (without_first r) first.at →
        OnLine text following line (lose m (without_first r))
        (white_end m (rest_cells cell_line (without_first r) first.at ++ stop) first.at)) →
        OnLine text following line (lose (suc m) r) (white_end (suc m) cells p)
    go zero e more =
        let dark = bare-cells cell_line r p stop e k in
        subst (λ (s : Rest). OnLine text following line s (white_end (suc m) cells p)) (sym (lose-bare (suc m) r e))
        (subst (OnLine text following line r) (sym (none-end (suc m) cells p dark)) on)
    go (suc n) e more =
        let lt : 0 < indent r = omega (arith, e) in
        let first = column-first cell_line text following r p on.valid lt in
        let left : List Cell = rest_cells cell_line (without_first r) first.at ++ stop in
        let same : cells ≡ cell first.byte first.at cell_line ∷ left = ap (λ (l : List Cell). l ++ stop) first.cells in
        let end : white_end (suc m) cells p ≡
        white_end m left first.at = ap (λ (l : List Cell). white_end (suc m) l p) same
        ∙ ap (λ (t : Bool). cond t (white_end m left first.at) p) first.white in
        subst (OnLine text following line (lose m (without_first r))) (sym end)
        (more first (column-on cell_line text following line r p on lt first))

-- all of an indent that has no more columns than so many
pub indent-on : (cell_line : Line) (text following : List ℕ) (line : TextLine) (n room : ℕ) (r : Rest) (p : Point)
    (stop : List Cell) →
    OnLine text following line r p → Stops stop → indent r ≡ n → n ≤ room →
    OnLine text following line (lose n r) (white_end room (rest_cells cell_line r p ++ stop) p)
indent-on cell_line text following line zero room r p stop on k e le =
    subst (OnLine text following line r)
    (sym (none-end room (rest_cells cell_line r p ++ stop) p (bare-cells cell_line r p stop e k))) on
indent-on cell_line text following line (suc n) zero r p stop on k e le = absurd (omega (arith, le))
indent-on cell_line text following line (suc n) (suc room) r p stop on k e le =
    let lt : 0 < indent r = omega (arith, e) in
    let first = column-first cell_line text following r p on.valid lt in
    let left : List Cell = rest_cells cell_line (without_first r) first.at ++ stop in
    let cells : rest_cells cell_line r p ++ stop ≡
    cell first.byte first.at cell_line ∷ left = ap (λ (l : List Cell). l ++ stop) first.cells in
    let end : white_end (suc room) (rest_cells cell_line r p ++ stop) p ≡
    white_end room left first.at = ap (λ (l : List Cell). white_end (suc room) l p) cells
    ∙ ap (λ (t : Bool). cond t (white_end room left first.at) p) first.white in
    subst (OnLine text following line (lose n (without_first r))) (sym end)
    (indent-on cell_line text following line n room (without_first r) first.at stop
    (column-on cell_line text following line r p on lt first) k (omega (arith, e, first.columns)) (omega (arith, le)))

-- Bytes.

pub past-line : (bytes : List ℕ) (p : Point) → (past_text bytes p).line ≡ p.line
past-line [] p = refl
past-line (b ∷ bs) p = past-line bs (past_byte b p)

-- so many further, where no tab is cut
pub past-on : (text following : List ℕ) (line : TextLine) (n : ℕ) (r : Rest) (p : Point) →
    OnLine text following line r p →
    r.spaces ≡ 0 → NoEnding r.bytes → OnLine text following line (past n r) (past_text (take n r.bytes) p)
past-on text following line n r p on none plain = record {
  valid = record {
    column =
        past-column front p (omega (arith, on.valid.column))
        ∙ ap (λ (c : ℕ). columns_from c front + 1) (omega (arith, on.valid.column, none));
    cut = past_text-whole front p (whole_at r.spaces none on.valid.cut);
    text_is =
        ap (λ (i : ℕ). drop i text) (past-index front p) ∙ sym (drop-drop (length front) p.index text)
        ∙ ap (drop (length front)) parts
        ∙ drop-append_seam front (drop n r.bytes ++ following);
  };
  placed = placed-text text p front (drop n r.bytes ++ following) on.placed parts (no_ending-take n r.bytes plain);
  onward = let index = past-index front p in omega (arith, on.onward, index);
  number = past-line front p ∙ on.number;
}
  where
    front : List ℕ
    front = take n r.bytes

    whole_at : (spaces : ℕ) → spaces ≡ 0 → Cut spaces p → p.vs ≡ 0
    whole_at zero e cut = cut
    whole_at (suc k) e cut = absurd (omega (arith, e))

    parts : drop p.index text ≡ front ++ (drop n r.bytes ++ following)
    parts =
        on.valid.text_is ∙ ap (λ (k : ℕ). cut_tab k ++ r.bytes ++ following) none
        ∙ ap (λ (l : List ℕ). l ++ following) (sym (take-append-drop n r.bytes))
        ∙ append_assoc front (drop n r.bytes) following
