-- A line and its columns of whitespace by the cells: where they end, and what is over them.
use Rattle.std.proofs.Common.{◌≡◌, ℕ, zero, suc, ◌+◌, ◌-◌, ◌<◌, ◌≤◌, Bool, true, false, cond, List, [], ◌∷◌}
use Rattle.std.proofs.Common.{◌++◌, refl, sym, ◌∙◌, ap, ap₂, arith, subst}
use Rattle.std.specs.Prelude.{◌==◌, nat_lt}
use Rattle.std.proofs.lemmas.Bool.{eqb-true}
use Rattle.std.proofs.lemmas.Bool.Decides.{nat_tests}
use Rattle.md_engine.specs.declared.event.Point.{Point}
use Rattle.md_engine.specs.declared.tokenizer.Line.{Line}
use Rattle.md_engine.specs.Meaning.{Cell}
use Rattle.md_meaning.specs.Rest.{Rest, cut_tab, indent, tab_columns}
use Rattle.md_events.specs.Ahead.{begins_white, white_end}
use Rattle.md_events.specs.Events.Places.{past_byte, past_text}
use Rattle.md_events.proofs.AheadLemmas.{none-end}
use Rattle.md_events.proofs.FeedLines.{Stops, columns_more, spread, tab_cells, tab_end, tab_end-stop}
use Rattle.md_events.proofs.RestCells.{Cut, HasColumn, RestAt, bare-cells, column-first, past_cut, past_rest}
use Rattle.md_events.proofs.RestCells.{rest_cells, without_first}
use Rattle.proof_frame.specs.RestLine.{rest_line}
use Rattle.proof_frame.specs.LineColumns.{next_point, past_columns, rest_of}

-- Points.

abbrev pub rest : ℕ → ℕ → List ℕ → Rest
rest column spaces bytes = record { column = column; spaces = spaces; bytes = bytes }

-- a rest is that of its line, where it begins
pub rest-again : (text following : List ℕ) (r : Rest) (p : Point) → RestAt text following r p →
    rest_of p (rest_line r) ≡ r
rest-again text following r p is = go r.column r.spaces r.bytes is.column is.cut
  where
    go : (column spaces : ℕ) (bytes : List ℕ) → p.column ≡ column + 1 → Cut spaces p →
        rest_of p (cut_tab spaces ++ bytes) ≡ rest column spaces bytes
    go column zero bytes at cut =
        let none : (p.vs == 0) ≡ true = grind (arith, nat_tests, cut) in
        let same : p.column - 1 ≡ column = omega (arith, at) in
        rw none (ap (λ (c : ℕ). rest c 0 bytes) same)
    go column (suc k) bytes at cut =
        let some : (p.vs == 0) ≡ false = let lt = cut.0 in grind (arith, nat_tests) in
        let same : p.column - 1 ≡ column = omega (arith, at) in
        let left : tab_columns (p.column - 1) ≡ suc k = let k' = cut.1 in omega (arith, at) in
        rw some (ap₂ (λ (c s : ℕ). rest c s bytes) same left)

-- where it ends
pub past-line : (text following : List ℕ) (r : Rest) (p : Point) → RestAt text following r p →
    past_rest r p ≡ past_text (rest_line r) p
past-line text following r p is = go r.spaces is.cut
  where
    one : 1 ≤ p.column
    one = omega (arith, is.column)

    go : (spaces : ℕ) → Cut spaces p → past_text r.bytes (past_cut spaces p) ≡ past_text (cut_tab spaces ++ r.bytes) p
    go zero cut = refl
    go (suc k) cut =
        ap (past_text r.bytes) (ap (λ (m : ℕ). tab_end m p) cut.1 ∙ tab_end-stop p one)

-- where the first cell ends
abbrev first_after : Point → List Cell → Point
first_after p [] = p
first_after p (c ∷ cs) = c.after

-- a column of whitespace goes to the next point
pub first-next : (said : Line) (text following : List ℕ) (r : Rest) (p : Point) → RestAt text following r p →
    0 < indent r →
    (first : HasColumn said text following r p) → first.at ≡ next_point (without_first r) p
first-next said text following r p is lt first =
    sym (ap (first_after p) first.cells) ∙ go r.column r.spaces r.bytes is lt
  where
    Next : Rest → Type 0
    Next s = first_after p (rest_cells said s p) ≡ next_point (without_first s) p

    go : (column spaces : ℕ) (bytes : List ℕ) → RestAt text following (rest column spaces bytes) p →
        0 < indent (rest column spaces bytes) → Next (rest column spaces bytes)
    go column (suc zero) bytes h lt = refl
    go column (suc (suc k)) bytes h lt = let some : (suc k == 0) ≡ false = grind (arith, nat_tests) in rw some refl
    go column zero [] h lt = absurd (omega (arith, lt))
    go column zero (b ∷ bs) h lt = by (b == 9) refl (b == 32) refl h
      where
        tab : (k : ℕ) → k ≡ columns_more p → RestAt text following (rest column 0 (9 ∷ bs)) p →
            first_after p (tab_cells said k 9 p ++ spread said bs (past_byte 9 p)) ≡
            next_point (rest (column + 1) (tab_columns column - 1) bs) p
        tab zero e h =
            let at = h.column in
            let none : (tab_columns column - 1 == 0) ≡ true = grind (arith, nat_tests) in rw none refl
        tab (suc k) e h =
            let at = h.column in
            let some : (tab_columns column - 1 == 0) ≡ false = grind (arith, nat_tests) in rw some refl

        space : RestAt text following (rest column 0 (32 ∷ bs)) p → Next (rest column 0 (32 ∷ bs))
        space h =
            let at = h.column in
            ap (λ (c : ℕ). let x : Point = record { line = p.line; column = c; index = p.index + 1; vs = 0 } in x)
            (omega (arith, at))

        by : (t : Bool) → (b == 9) ≡ t → (s : Bool) → (b == 32) ≡ s →
            RestAt text following (rest column 0 (b ∷ bs)) p → Next (rest column 0 (b ∷ bs))
        by true e s f h =
            let Has : ℕ → Type 0 = λ c. RestAt text following (rest column 0 (c ∷ bs)) p →
            Next (rest column 0 (c ∷ bs)) in
            subst Has (sym (eqb-true b 9 e)) (tab (columns_more p) refl) h
        by false e true f h =
            let Has : ℕ → Type 0 = λ c. RestAt text following (rest column 0 (c ∷ bs)) p →
            Next (rest column 0 (c ∷ bs)) in
            subst Has (sym (eqb-true b 32 f)) space h
        by false e false f h = absurd (omega (arith, lt, rw (e, f) at lt))

-- whether whitespace comes first
pub first-white : (said : Line) (text following : List ℕ) (r : Rest) (p : Point) (stop : List Cell) →
    RestAt text following r p → Stops stop → begins_white (rest_cells said r p ++ stop) ≡ nat_lt 0 (indent r)
first-white said text following r p stop is k = go (indent r) refl
  where
    go : (m : ℕ) → indent r ≡ m → begins_white (rest_cells said r p ++ stop) ≡ nat_lt 0 (indent r)
    go zero e =
        let none : nat_lt 0 (indent r) ≡ false = grind (arith, nat_tests) in
        bare-cells said r p stop e k ∙ sym none
    go (suc m) e =
        let some : nat_lt 0 (indent r) ≡ true = grind (arith, nat_tests) in
        let first = column-first said text following r p is (omega (arith, e)) in
        ap (λ (l : List Cell). begins_white (l ++ stop)) first.cells ∙ first.white ∙ sym some

-- so many columns of whitespace end where their points do
pub columns-end : (said : Line) (text following : List ℕ) (room : ℕ) (r : Rest) (p : Point) (stop : List Cell) →
    RestAt text following r p → Stops stop →
    white_end room (rest_cells said r p ++ stop) p ≡ past_columns room r p
columns-end said text following zero r p stop is k = none (rest_cells said r p ++ stop)
  where
    none : (cells : List Cell) → white_end 0 cells p ≡ p
    none [] = refl
    none (c ∷ cs) = refl
columns-end said text following (suc room) r p stop is k =
    go (indent r) refl (λ first. columns-end said text following room (without_first r) first.at stop first.valid k)
  where
    cells : List Cell
    cells = rest_cells said r p ++ stop

    go : (m : ℕ) → indent r ≡ m →
        ((first : HasColumn said text following r p) →
        white_end room (rest_cells said (without_first r) first.at ++ stop) first.at ≡
        past_columns room (without_first r) first.at) →
        white_end (suc room) cells p ≡ past_columns (suc room) r p
    go zero e more =
        let none : (indent r == 0) ≡ true = grind (arith, nat_tests) in
        none-end (suc room) cells p (bare-cells said r p stop e k)
        ∙ sym
        (ap (λ (x : Bool). cond x p (past_columns room (without_first r) (next_point (without_first r) p))) none)
    go (suc m) e more =
        let some : (indent r == 0) ≡ false = grind (arith, nat_tests) in
        let first = column-first said text following r p is (omega (arith, e)) in
        let left = rest_cells said (without_first r) first.at ++ stop in
        ap (λ (l : List Cell). white_end (suc room) (l ++ stop) p) first.cells
        ∙ ap (λ (t : Bool). cond t (white_end room left first.at) p) first.white
        ∙ more first
        ∙ ap (past_columns room (without_first r)) (first-next said text following r p is (omega (arith, e)) first)
        ∙ sym
        (ap (λ (x : Bool). cond x p (past_columns room (without_first r) (next_point (without_first r) p))) some)
