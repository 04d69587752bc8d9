-- A line that loses columns of whitespace: what it loses, and what is left of it, from column to column.
use Rattle.std.proofs.Common.{◌≡◌, ℕ, zero, suc, ◌+◌, ◌-◌, ◌*◌, ◌%◌, ◌<◌, ◌≤◌, Bool, true, false, cond, ◌&&◌, List, []}
use Rattle.std.proofs.Common.{◌∷◌, ◌++◌, length, refl, sym, ap, ap₂, ◌∙◌, subst, append_assoc, length-append, arith}
use Rattle.std.specs.Prelude.{◌==◌, nat_lt, not}
use Rattle.std.proofs.lemmas.Bool.{and_from, and_parts, eq-eqb, eqb-true}
use Rattle.std.proofs.lemmas.Bool.Decides.{nat_tests}
use Rattle.md_engine.specs.declared.event.Event.{Event}
use Rattle.md_engine.specs.declared.event.Name.{Name}
use Rattle.md_engine.specs.declared.event.Name.TheVariants as n
use Rattle.md_engine.specs.declared.event.Point.{Point}
use Rattle.md_meaning.specs.Rest.{Rest, cut_tab, indent, lose, tab_columns, white_columns}
use Rattle.md_events.specs.Events.Nested.{pair}
use Rattle.md_events.specs.Events.Places.{columns_from, past_text}
use Rattle.md_events.proofs.FeedLines.{columns_more}
use Rattle.md_events.proofs.RestCells.{bare-same, without_first}
use Rattle.md_events.proofs.LostColumns.{lose-bare}
use Rattle.proof_frame.specs.LineColumns.{columns_part, lost_line, next_point, part_over, past_columns}
use Rattle.md_events.specs.Exact.Leaves.{content_line}
use Rattle.md_events.specs.Exact.Places.{TextLine, is_same, line_end, place, white}
use Rattle.proof_exact_lines.proofs.BeginsAt.{BeginsAt, begins-place, columns-snoc, rest_at, rest_bytes}
use Rattle.proof_exact_lines.proofs.Parts.{end-following, piece-end}

abbrev rest : ℕ → ℕ → List ℕ → Rest
rest column spaces bytes = record { column = column; spaces = spaces; bytes = bytes }

-- A column further: within a tab, and after a byte.

abbrev Next : TextLine → Rest → Point → Type 0
Next line r p = BeginsAt line (without_first r) (next_point (without_first r) p)

-- after the last column of a byte
after_byte : (line : TextLine) (column spaces b : ℕ) (more bytes : List ℕ) (p : Point) →
    (is : BeginsAt line (rest column spaces more) p) → cut_tab spaces ++ more ≡ b ∷ bytes →
    columns_from line.column (is.front ++ b ∷ []) ≡ p.column →
    BeginsAt line (rest_at (column + 1) bytes) (record p { column = p.column + 1; index = p.index + 1; vs = 0 })
after_byte line column spaces b more bytes p is e columns =
    let index : length (is.front ++ b ∷ []) ≡ length is.front + 1 = length-append is.front (b ∷ []) in
    record {
      front = is.front ++ b ∷ [];
      bytes_are = is.bytes_are ∙ ap (λ (l : List ℕ). is.front ++ l) e ∙ sym (append_assoc is.front (b ∷ []) bytes);
      number = is.number;
      index = omega (arith, is.index, index);
      column = omega (arith, is.column);
      columns = omega (arith, columns);
      cut = refl;
      within = omega arith;
    }

-- within a tab of which so many columns are left after that
within_tab : (line : TextLine) (column spaces n : ℕ) (more bytes : List ℕ) (p : Point) →
    (is : BeginsAt line (rest column spaces more) p) → cut_tab spaces ++ more ≡ 9 ∷ bytes → suc n ≡ columns_more p →
    BeginsAt line (rest (column + 1) (suc n) bytes) (record p { column = p.column + 1; vs = p.vs + 1 })
within_tab line column spaces n more bytes p is e left =
    record {
      front = is.front;
      bytes_are = is.bytes_are ∙ ap (λ (l : List ℕ). is.front ++ l) e;
      number = is.number;
      index = is.index;
      column = omega (arith, is.column);
      columns = omega (arith, is.columns);
      cut = (omega arith, omega (arith, left));
      within = inside (columns_from line.column is.front) p.column p.vs is.columns is.within left;
    }
  where
    inside : (before column vs : ℕ) → column ≡ before + vs + 1 → vs < 4 - before % 4 →
        suc n ≡ 3 - (column + 3) % 4 → vs + 1 < 4 - before % 4
    inside before column vs e f g = omega arith

-- the last column of a tab is before its stop
tab-stops : (line : TextLine) (r : Rest) (p : Point) → (is : BeginsAt line r p) → columns_more p ≡ 0 →
    columns_from line.column (is.front ++ 9 ∷ []) ≡ p.column
tab-stops line r p is none =
    columns-snoc line.column 9 is.front
    ∙ by (columns_from line.column is.front) p.column p.vs is.columns is.within none
  where
    by : (before column vs : ℕ) → column ≡ before + vs + 1 → vs < 4 - before % 4 → 3 - (column + 3) % 4 ≡ 0 →
        before + (4 - before % 4) ≡ column
    by before column vs e f g = omega arith

-- of a tab that is cut, or is cut now
tab-next : (line : TextLine) (column spaces n : ℕ) (more bytes : List ℕ) (p : Point) →
    BeginsAt line (rest column spaces more) p → cut_tab spaces ++ more ≡ 9 ∷ bytes → n ≡ columns_more p →
    BeginsAt line (rest (column + 1) n bytes) (next_point (rest (column + 1) n bytes) p)
tab-next line column spaces zero more bytes p is e left =
    after_byte line column spaces 9 more bytes p is e (tab-stops line (rest column spaces more) p is (sym left))
tab-next line column spaces (suc n) more bytes p is e left =
    let some : (suc n == 0) ≡ false = grind (arith, nat_tests) in
    let following : Point = record p { column = p.column + 1; index = p.index + 1; vs = 0 } in
    let within : Point = record p { column = p.column + 1; vs = p.vs + 1 } in
    subst (λ (t : Bool). BeginsAt line (rest (column + 1) (suc n) bytes) (cond t following within)) (sym some)
    (within_tab line column spaces n more bytes p is e left)

begins-column : (line : TextLine) (r : Rest) (p : Point) → BeginsAt line r p → 0 < indent r → Next line r p
begins-column line r p = go r.column r.spaces r.bytes
  where
    go : (column spaces : ℕ) (bytes : List ℕ) → BeginsAt line (rest column spaces bytes) p →
        0 < indent (rest column spaces bytes) → Next line (rest column spaces bytes) p
    go column (suc n) bytes is some = tab-next line column (suc n) n bytes bytes p is refl is.cut.1
    go column zero [] is some = absurd (omega (arith, some))
    go column zero (b ∷ bytes) is some = by (b == 9) refl (b == 32) refl
      where
        P : Rest → Type 0
        P left = BeginsAt line left (next_point left p)

        tabbed : Rest
        tabbed = rest (column + 1) (tab_columns column - 1) bytes

        spaced : Rest
        spaced = rest_at (column + 1) bytes

        same : Rest
        same = rest_at column (b ∷ bytes)

        by : (t : Bool) → (b == 9) ≡ t → (s : Bool) → (b == 32) ≡ s →
            P (cond (b == 9) tabbed (cond (b == 32) spaced same))
        by true e s f =
            subst (λ (t : Bool). P (cond t tabbed (cond (b == 32) spaced same))) (sym e)
            (tab-next line column 0 (tab_columns column - 1) (b ∷ bytes) bytes p is
            (ap (λ (c : ℕ). c ∷ bytes) (eqb-true b 9 e)) (omega (arith, is.column)))
        by false e true f =
            subst (λ (t : Bool). P (cond t tabbed (cond (b == 32) spaced same))) (sym e)
            (subst (λ (t : Bool). P (cond t spaced same)) (sym f)
            (after_byte line column 0 b (b ∷ bytes) bytes p is refl
            (columns-snoc line.column b is.front
            ∙ ap (λ (t : Bool). cond t (before + tab_columns before) (before + 1)) e
            ∙ omega (arith, is.columns, is.cut))))
          where
            before : ℕ
            before = columns_from line.column is.front
        by false e false f =
            let none : white_columns (column + 0) (b ∷ bytes) ≡ 0 = rw (e, f) refl in absurd (omega (arith, some, none))

-- After so many columns, or as many as there are.

pub begins-lost : (n : ℕ) (line : TextLine) (r : Rest) (p : Point) → BeginsAt line r p →
    BeginsAt line (lose n r) (past_columns n r p)
begins-lost zero line r p at = at
begins-lost (suc n) line r p at =
    go (indent r == 0) refl (λ more. begins-lost n line (without_first r) (next_point (without_first r) p) more)
  where
    left : Rest
    left = without_first r

    go : (t : Bool) → (indent r == 0) ≡ t → (Next line r p → BeginsAt line (lose n left) (past_columns n left
        (next_point left p))) →
        BeginsAt line (lose n left) (cond t p (past_columns n left (next_point left p)))
    go true e more =
        let none : indent r ≡ 0 = eqb-true (indent r) 0 e in
        subst (λ (s : Rest). BeginsAt line s p) (sym (ap (lose n) (bare-same r none) ∙ lose-bare n r none)) at
    go false e more = more (begins-column line r p at (grind (arith, nat_tests)))

-- Where columns are lost, the rest that is left begins elsewhere.

abbrev weight : Rest → ℕ
weight r = length r.bytes * 4 + r.spaces

column-less : (r : Rest) → 0 < indent r → weight (without_first r) < weight r
column-less r = go r.column r.spaces r.bytes
  where
    go : (column spaces : ℕ) (bytes : List ℕ) → 0 < indent (rest column spaces bytes) →
        weight (without_first (rest column spaces bytes)) < weight (rest column spaces bytes)
    go column (suc n) bytes some = omega arith
    go column zero [] some = absurd (omega (arith, some))
    go column zero (b ∷ bytes) some = by (b == 9) refl (b == 32) refl
      where
        Less : Rest → Type 0
        Less left = weight left < suc (length bytes) * 4 + 0

        tabbed : Rest
        tabbed = rest (column + 1) (tab_columns column - 1) bytes

        spaced : Rest
        spaced = rest_at (column + 1) bytes

        same : Rest
        same = rest_at column (b ∷ bytes)

        by : (t : Bool) → (b == 9) ≡ t → (s : Bool) → (b == 32) ≡ s →
            Less (cond (b == 9) tabbed (cond (b == 32) spaced same))
        by true e s f =
            subst (λ (t : Bool). Less (cond t tabbed (cond (b == 32) spaced same))) (sym e) (omega arith)
        by false e true f =
            subst (λ (t : Bool). Less (cond t tabbed (cond (b == 32) spaced same))) (sym e)
            (subst (λ (t : Bool). Less (cond t spaced same)) (sym f) (omega arith))
        by false e false f =
            let none : white_columns (column + 0) (b ∷ bytes) ≡ 0 = rw (e, f) refl in absurd (omega (arith, some, none))

lose-less : (n : ℕ) (r : Rest) → weight (lose n r) ≤ weight r
lose-less zero r = omega arith
lose-less (suc n) r = go (indent r == 0) refl (lose-less n (without_first r))
  where
    go : (t : Bool) → (indent r == 0) ≡ t → weight (lose n (without_first r)) ≤ weight (without_first r) →
        weight (lose n (without_first r)) ≤ weight r
    go true e less =
        let same : weight (without_first r) ≡ weight r = ap weight (bare-same r (eqb-true (indent r) 0 e)) in
        omega (arith, same, less)
    go false e less =
        let fewer : weight (without_first r) < weight r = column-less r (grind (arith, nat_tests)) in
        omega (arith, fewer, less)

apart-less : (r s : Rest) → weight s < weight r → is_same r s ≡ false
apart-less r s less = go (is_same r s) refl
  where
    go : (t : Bool) → is_same r s ≡ t → is_same r s ≡ false
    go true e =
        let both = and_parts (length r.bytes == length s.bytes) (r.spaces == s.spaces) e in
        let size : length r.bytes ≡ length s.bytes = eqb-true _ _ both.0 in
        let spaces : r.spaces ≡ s.spaces = eqb-true _ _ both.1 in
        absurd (omega (arith, less, size, spaces))
    go false e = e

same-refl : (r : Rest) → is_same r r ≡ true
same-refl r = and_from _ _ (eq-eqb (length r.bytes) (length r.bytes) refl) (eq-eqb r.spaces r.spaces refl)

lost-apart : (n : ℕ) (r : Rest) → is_same r (lose n r) ≡ not (nat_lt 0 n && nat_lt 0 (indent r))
lost-apart zero r = same-refl r
lost-apart (suc n) r = go (nat_lt 0 (indent r)) refl
  where
    some : nat_lt 0 (suc n) ≡ true
    some = grind (arith, nat_tests)

    go : (t : Bool) → nat_lt 0 (indent r) ≡ t → is_same r (lose (suc n) r) ≡ not (nat_lt 0 (suc n) && t)
    go true e =
        let less : weight (without_first r) < weight r = column-less r (grind (arith, nat_tests)) in
        let more : weight (lose n (without_first r)) ≤ weight (without_first r) = lose-less n (without_first r) in
        apart-less r (lose n (without_first r)) (omega (arith, less, more))
        ∙ sym (ap (λ (t : Bool). not (t && true)) some)
    go false e =
        let none : indent r ≡ 0 = grind (arith, nat_tests) in
        ap (is_same r) (lose-bare (suc n) r none) ∙ same-refl r
        ∙ sym (ap (λ (t : Bool). not (t && false)) some)

-- The events of such a line.

-- the columns that it loses
pub white-lost : (lost : ℕ) (line : TextLine) (r : Rest) (p : Point) → BeginsAt line r p →
    white line r (lose lost r) ≡ columns_part lost r p
white-lost lost line r p at =
    ap (λ (t : Bool). cond t [] (pair n.SpaceOrTab (place line r) (place line (lose lost r)))) (lost-apart lost r)
    ∙ ap₂ (λ (q s : Point). cond (not loses) [] (pair n.SpaceOrTab q s)) (begins-place line r p at)
    (begins-place line (lose lost r) (past_columns lost r p) (begins-lost lost line r p at))
    ∙ go loses
  where
    loses : Bool
    loses = nat_lt 0 lost && nat_lt 0 (indent r)

    go : (t : Bool) → cond (not t) [] (pair n.SpaceOrTab p (past_columns lost r p)) ≡
        cond t (pair n.SpaceOrTab p (past_columns lost r p)) []
    go true = refl
    go false = refl

-- where the line ends, seen from both rests
pub lost-end : (lost : ℕ) (line : TextLine) (r : Rest) (p : Point) → BeginsAt line r p →
    past_text (rest_bytes (lose lost r)) (past_columns lost r p) ≡ past_text (rest_bytes r) p
lost-end lost line r p at =
    sym
    (begins-place line (line_end line) _
    (end-following line (lose lost r) (past_columns lost r p) (rest_bytes (lose lost r)) (begins-lost lost line r p at)
    refl).valid.at)
    ∙ begins-place line (line_end line) _ (end-following line r p (rest_bytes r) at refl).valid.at

-- A line of code, HTML or math.
pub line-lost : (name : Name) (lost : ℕ) (line : TextLine) (r : Rest) (p : Point) → BeginsAt line r p →
    content_line name lost line r ≡ lost_line name lost r p (past_text (rest_bytes r) p)
line-lost name lost line r p at =
    ap₂ (λ (es fs : List Event). es ++ fs) (white-lost lost line r p at)
    (piece-end line name (lose lost r) (past_columns lost r p) (rest_bytes (lose lost r))
    (begins-lost lost line r p at) refl
    ∙ ap (λ (q : Point). part_over name (rest_bytes (lose lost r)) (past_columns lost r p) q)
    (lost-end lost line r p at))
