-- What so many columns of whitespace leave of the rest of a line, also from within a cut tab.
use Rattle.std.proofs.Common.{◌≡◌, ℕ, zero, suc, ◌+◌, ◌<◌, ◌≤◌, Bool, true, false, cond, ◌&&◌, List, [], ◌∷◌, ◌++◌}
use Rattle.std.proofs.Common.{drop, slice_range, refl, sym, ap, ◌∙◌, subst, arith}
use Rattle.std.specs.Prelude.{IsTrue, ◌==◌}
use Rattle.std.proofs.lemmas.Bool.{eqb-true}
use Rattle.std.proofs.lemmas.Bool.Decides.{nat_tests}
use Rattle.std.proofs.lemmas.List.Folds.{list_all-append}
use Rattle.md_engine.specs.declared.event.Point.{Point}
use Rattle.md_engine.specs.declared.tokenizer.Line.{Line}
use Rattle.md_engine.specs.Meaning.{Cell}
use Rattle.md_meaning.specs.Rest.{Rest, indent, is_blank, is_white, lose, white_columns}
use Rattle.md_events.specs.Ahead.{begins_white, white_end, white_rest, white_size}
use Rattle.md_events.specs.Events.Places.{at_or_before, past_byte, same_place}
use Rattle.md_events.proofs.AheadLemmas.{none-end, none-rest, none-size}
use Rattle.md_events.proofs.FeedLines.{Stops, after_last, cell, columns_more, next_column, slice-front, slice-split}
use Rattle.md_events.proofs.FeedLines.{spread, tab_cells}
use Rattle.md_events.proofs.NestedLemmas.{at_or_before-refl, at_or_before-trans}
use Rattle.md_events.proofs.PlainSteps.{range-none}
use Rattle.md_events.proofs.RestCells.{HasColumn, RestAt, bare-cells, bare-same, column-end, column-first, past_rest}
use Rattle.md_events.proofs.RestCells.{rest_cells, without_first}

-- Whitespace between two points.

-- only whitespace is from a point to another one of the line
pub record White (text : List ℕ) (p q : Point) : Type 0 where
  pub onward : IsTrue (at_or_before p q)
  pub index : p.index ≤ q.index
  pub line : q.line ≡ p.line
  pub blank : is_blank (slice_range text p.index q.index) ≡ true

pub white-none : (text : List ℕ) (p : Point) → White text p p
white-none text p = record {
  onward = at_or_before-refl p;
  index = omega arith;
  line = refl;
  blank = ap is_blank (range-none text p.index p.index (omega arith));
}

pub white-append : (text : List ℕ) (p q r : Point) → White text p q → White text q r → White text p r
white-append text p q r a b = record {
  onward = at_or_before-trans p q r a.onward b.onward;
  index = let h = a.index in let k = b.index in omega arith;
  line = b.line ∙ a.line;
  blank = ap is_blank (slice-split text p.index q.index r.index a.index b.index)
      ∙ list_all-append is_white (slice_range text p.index q.index) (slice_range text q.index r.index)
      ∙ ap (λ (t : Bool). t && is_blank (slice_range text q.index r.index)) a.blank
      ∙ b.blank;
}

-- a step further
pub record Step (text : List ℕ) (p q : Point) : Type 0 where
  pub white : White text p q
  pub apart : same_place p q ≡ false

step-byte : (text rest : List ℕ) (b : ℕ) (p q : Point) → drop p.index text ≡ b ∷ rest → is_white b ≡ true →
    q.index ≡ p.index + 1 → q.line ≡ p.line → Step text p q
step-byte text rest b p q e w index line = record {
  white = record {
    onward = grind (arith, nat_tests);
    index = omega arith;
    line = line;
    blank = ap is_blank (slice-front text p.index q.index (b ∷ []) rest e index) ∙ ap (λ (t : Bool). t && true) w;
  };
  apart = grind (arith, nat_tests);
}

step-column : (text : List ℕ) (p : Point) → Step text p (next_column p)
step-column text p = record {
  white = record {
    onward = grind (arith, nat_tests);
    index = omega arith;
    line = refl;
    blank = ap is_blank (range-none text p.index p.index (omega arith));
  };
  apart = grind (arith, nat_tests);
}

apart-more : (p q r : Point) → same_place p q ≡ false → IsTrue (at_or_before p q) → IsTrue (at_or_before q r) →
    same_place p r ≡ false
apart-more p q r a b c = grind (arith, nat_tests)

pub step-append : (text : List ℕ) (p q r : Point) → Step text p q → White text q r → Step text p r
step-append text p q r a b = record {
  white = white-append text p q r a.white b;
  apart = apart-more p q r a.apart a.white.onward b.onward;
}

-- where the first cell ends
abbrev first_after : Point → List Cell → Point
first_after p [] = p
first_after p (c ∷ cs) = c.after

abbrev rest : ℕ → ℕ → List ℕ → Rest
rest column spaces bytes = record { column = column; spaces = spaces; bytes = bytes }

-- one column of whitespace is a step
pub column-step : (line : Line) (text following : List ℕ) (r : Rest) (p : Point) → RestAt text following r p →
    0 < indent r →
    (first : HasColumn line text following r p) → Step text p first.at
column-step line text following r p is lt first = go r.column r.spaces r.bytes is lt (ap (first_after p) first.cells)
  where
    at : Point
    at = first.at

    go : (column spaces : ℕ) (bytes : List ℕ) → RestAt text following (rest column spaces bytes) p →
        0 < indent (rest column spaces bytes) → first_after p (rest_cells line (rest column spaces bytes) p) ≡ at →
        Step text p at
    go column (suc zero) bytes h lt e =
        subst (Step text p) e (step-byte text (bytes ++ following) 9 p (after_last p) h.text_is refl refl refl)
    go column (suc (suc n)) bytes h lt e = subst (Step text p) e (step-column text p)
    go column zero [] h lt e = absurd (omega (arith, lt))
    go column zero (b ∷ bs) h lt e = by (b == 9) refl (b == 32) refl h e
      where
        Has : ℕ → Type 0
        Has c =
            RestAt text following (rest column 0 (c ∷ bs)) p →
            first_after p (rest_cells line (rest column 0 (c ∷ bs)) p) ≡ at → Step text p at

        tab : (k : ℕ) → drop p.index text ≡ 9 ∷ bs ++ following →
            first_after p (tab_cells line k 9 p ++ spread line bs (past_byte 9 p)) ≡ at → Step text p at
        tab zero is e = subst (Step text p) e (step-byte text (bs ++ following) 9 p (after_last p) is refl refl refl)
        tab (suc k) is e = subst (Step text p) e (step-column text p)

        by : (t : Bool) → (b == 9) ≡ t → (s : Bool) → (b == 32) ≡ s → Has b
        by true f s g = subst Has (sym (eqb-true b 9 f)) (λ is. tab (columns_more p) is.text_is)
        by false f true g =
            subst Has (sym (eqb-true b 32 g))
            (λ is e.
            subst (Step text p) e (step-byte text (bs ++ following) 32 p (past_byte 32 p) is.text_is refl refl refl))
        by false f false g =
            let none : white_columns (column + 0) (b ∷ bs) ≡ 0 = rw (f, g) refl in absurd (omega (arith, lt, none))

pub zero-rest : (cells : List Cell) → white_rest 0 cells ≡ cells
zero-rest [] = refl
zero-rest (c ∷ cs) = refl

pub zero-end : (cells : List Cell) (p : Point) → white_end 0 cells p ≡ p
zero-end [] p = refl
zero-end (c ∷ cs) p = refl

-- Columns of whitespace.

pub lose-bare : (m : ℕ) (r : Rest) → indent r ≡ 0 → lose m r ≡ r
lose-bare zero r e = refl
lose-bare (suc m) r e = ap (lose m) (bare-same r e) ∙ lose-bare m r e

-- after a column of whitespace a rest begins a column further
column-next : (r : Rest) → 0 < indent r → (without_first r).column ≡ r.column + 1
column-next r = go r.spaces r.bytes
  where
    go : (spaces : ℕ) (bytes : List ℕ) → 0 < indent (rest r.column spaces bytes) →
        (without_first (rest r.column spaces bytes)).column ≡ r.column + 1
    go (suc n) bytes lt = refl
    go zero [] lt = absurd (omega (arith, lt))
    go zero (b ∷ bs) lt = by (b == 9) refl (b == 32) refl
      where
        by : (t : Bool) → (b == 9) ≡ t → (s : Bool) → (b == 32) ≡ s →
            (without_first (rest r.column zero (b ∷ bs))).column ≡ r.column + 1
        by true f s g = rw f refl
        by false f true g = rw (f, g) refl
        by false f false g =
            let none : white_columns (r.column + 0) (b ∷ bs) ≡ 0 = rw (f, g) refl in absurd (omega (arith, lt, none))

-- so many columns are taken, or as many as there are: after them the rest without them
pub record HasLost (line : Line) (text following : List ℕ) (m : ℕ) (r : Rest) (p : Point) (stop cells : List Cell)
    (q : Point) : Type 0 where
  pub left : white_rest m cells ≡ rest_cells line (lose m r) q ++ stop
  pub valid : RestAt text following (lose m r) q
  pub ends : past_rest (lose m r) q ≡ past_rest r p
  pub column : (lose m r).column ≡ r.column + white_size m cells
  -- how many they are
  pub most : white_size m cells ≤ indent r
  pub all : m ≤ indent r → white_size m cells ≡ m
  -- what is taken is whitespace
  pub white : White text p q
  pub apart : 1 ≤ m → begins_white cells ≡ true → same_place p q ≡ false

lost-bare : (line : Line) (text following : List ℕ) (m : ℕ) (r : Rest) (p : Point) (stop : List Cell) →
    RestAt text following r p → Stops stop → indent r ≡ 0 →
    HasLost line text following m r p stop (rest_cells line r p ++ stop) (white_end m (rest_cells line r p ++ stop) p)
lost-bare line text following m r p stop is k e =
    let cells : List Cell = rest_cells line r p ++ stop in
    let dark = bare-cells line r p stop e k in
    let size : white_size m cells ≡ 0 = none-size m cells dark in
    let same : r ≡ lose m r = sym (lose-bare m r e) in
    subst (HasLost line text following m r p stop cells) (sym (none-end m cells p dark)) (record {
      left = none-rest m cells dark ∙ ap (λ (s : Rest). rest_cells line s p ++ stop) same;
      valid = subst (λ (s : Rest). RestAt text following s p) same is;
      ends = ap (λ (s : Rest). past_rest s p) (sym same);
      column = let c = ap (λ (s : Rest). s.column) same in omega (arith, c, size);
      most = omega (arith, size);
      all = λ le. omega (arith, size, le, e);
      white = white-none text p;
      apart = λ some white. let bad : true ≡ false = sym white ∙ dark in cc;
    })

pub lose-walk : (line : Line) (text following : List ℕ) (m : ℕ) (r : Rest) (p : Point) (stop : List Cell) →
    RestAt text following r p → Stops stop →
    HasLost line text following m r p stop (rest_cells line r p ++ stop) (white_end m (rest_cells line r p ++ stop) p)
lose-walk line text following zero r p stop is k =
    let cells : List Cell = rest_cells line r p ++ stop in
    let size : white_size 0 cells ≡ 0 = none cells in
    subst (HasLost line text following 0 r p stop cells) (sym (zero-end cells p)) (record {
      left = zero-rest cells;
      valid = is;
      ends = refl;
      column = omega (arith, size);
      most = omega (arith, size);
      all = λ le. size;
      white = white-none text p;
      apart = λ some white. absurd (omega (arith, some));
    })
  where
    none : (cells : List Cell) → white_size 0 cells ≡ 0
    none [] = refl
    none (c ∷ cs) = refl
lose-walk line text following (suc m) r p stop is k =
    go (indent r) refl (λ first. lose-walk line text following m (without_first r) first.at stop first.valid k)
  where
    cells : List Cell
    cells = rest_cells line r p ++ stop

    go : (n : ℕ) → indent r ≡ n →
        ((first : HasColumn line text following r p) →
        let left = rest_cells line (without_first r) first.at ++ stop in
        HasLost line text following m (without_first r) first.at stop left (white_end m left first.at)) →
        HasLost line text following (suc m) r p stop cells (white_end (suc m) cells p)
    go zero e next = lost-bare line text following (suc m) r p stop is k e
    go (suc n) e more =
        let first = column-first line text following r p is (omega (arith, e)) in
        let left : List Cell = rest_cells line (without_first r) first.at ++ stop in
        let further = more first in
        let same : cells ≡ cell first.byte first.at line ∷ left = ap (λ (l : List Cell). l ++ stop) first.cells in
        let end : white_end (suc m) cells p ≡
        white_end m left first.at = ap (λ (l : List Cell). white_end (suc m) l p) same
        ∙ ap (λ (t : Bool). cond t (white_end m left first.at) p) first.white in
        let size : white_size (suc m) cells ≡
        suc (white_size m left) = ap (white_size (suc m)) same
        ∙ ap (λ (t : Bool). cond t (suc (white_size m left)) 0) first.white in
        let next = column-next r (omega (arith, e)) in
        let step : Step text p (white_end m left first.at) =
        step-append text p first.at (white_end m left first.at)
        (column-step line text following r p is (omega (arith, e)) first) further.white in
        subst (HasLost line text following (suc m) r p stop cells) (sym end) (record {
          left = ap (white_rest (suc m)) same
              ∙ ap (λ (t : Bool). cond t (white_rest m left) (cell first.byte first.at line ∷ left)) first.white
              ∙ further.left;
          valid = further.valid;
          ends = further.ends ∙ column-end line text following r p is first;
          column = let c = further.column in omega (arith, c, size, next);
          most = omega (arith, size, further.most, first.columns);
          all = λ le. let some = further.all (omega (arith, le, first.columns)) in omega (arith, size, some);
          white = step.white;
          apart = λ some white. step.apart;
        })
