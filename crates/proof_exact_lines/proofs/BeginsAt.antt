-- Where a rest of a line begins, by the bytes before it: its place is that point, and so is what follows more bytes of
-- it.
use Rattle.std.proofs.Common.{◌≡◌, ℕ, zero, suc, ◌+◌, ◌-◌, ◌%◌, ◌<◌, Bool, false, cond, List, [], ◌∷◌, ◌++◌, length}
use Rattle.std.proofs.Common.{take, drop, refl, sym, ap, ◌∙◌, subst, append_assoc, append-nil, length-append, arith}
use Rattle.std.specs.Prelude.{◌==◌}
use Rattle.std.proofs.lemmas.Bool.Decides.{nat_tests}
use Rattle.std.proofs.lemmas.List.{take_at, take-append-drop}
use Rattle.md_engine.specs.declared.event.Point.{Point}
use Rattle.md_meaning.specs.Rest.{Rest, cut_tab, tab_columns}
use Rattle.md_events.specs.Events.Places.{column_past, columns_from, past_byte, past_text}
use Rattle.md_events.proofs.RestCells.{Cut}
use Rattle.proof_exact_pieces.proofs.PlaceLemmas.{before}
use Rattle.md_events.specs.Exact.Places.{TextLine, line_end, past, place}

-- the rest of a line as it is in the text, and one without a cut tab
abbrev pub rest_bytes : Rest → List ℕ
rest_bytes r = cut_tab r.spaces ++ r.bytes

abbrev pub rest_at : ℕ → List ℕ → Rest
rest_at column bytes = record { column = column; spaces = 0; bytes = bytes }

-- a rest of a line begins at this point
pub record BeginsAt (line : TextLine) (r : Rest) (p : Point) : Type 0 where
  pub front : List ℕ
  pub bytes_are : line.bytes ≡ front ++ (cut_tab r.spaces ++ r.bytes)
  pub number : p.line ≡ line.number
  pub index : p.index ≡ line.index + length front
  pub column : p.column ≡ r.column + 1
  pub columns : p.column ≡ columns_from line.column front + p.vs + 1
  pub cut : Cut r.spaces p
  pub within : p.vs < tab_columns (columns_from line.column front)

-- Its place.

length-cut : (spaces : ℕ) → length (cut_tab spaces) ≡ cond (spaces == 0) 0 1
length-cut zero = refl
length-cut (suc n) = sym (ap (λ (x : Bool). cond x 0 1) some)
  where
    some : (suc n == 0) ≡ false
    some = grind (arith, nat_tests)

pub begins-place : (line : TextLine) (r : Rest) (p : Point) → BeginsAt line r p → place line r ≡ p
begins-place line r p is =
    ap (λ (n : ℕ). point line.number (r.column + 1) (line.index + n) (r.column - columns_from line.column
    (take n line.bytes))) size
    ∙ ap (λ (c : ℕ). point line.number (r.column + 1) (line.index + length is.front) (r.column - c)) front
    ∙ by (r.column - columns_from line.column is.front) (omega (arith, is.column, is.columns))
  where
    point : ℕ → ℕ → ℕ → ℕ → Point
    point l c i v = record { line = l; column = c; index = i; vs = v }

    size : before line r ≡ length is.front
    size =
        let whole : length line.bytes ≡ length is.front + (cond (r.spaces == 0) 0 1 + length r.bytes) =
        ap (λ (l : List ℕ). length l) is.bytes_are ∙ length-append is.front (cut_tab r.spaces ++ r.bytes)
        ∙ ap (λ (n : ℕ). length is.front + n)
        (length-append (cut_tab r.spaces) r.bytes ∙ ap (λ (n : ℕ). n + length r.bytes) (length-cut r.spaces)) in
        left (cond (r.spaces == 0) 0 1) whole
      where
        left : (c : ℕ) → length line.bytes ≡ length is.front + (c + length r.bytes) →
            length line.bytes - length r.bytes - c ≡ length is.front
        left c e = omega arith

    front : columns_from line.column (take (length is.front) line.bytes) ≡ columns_from line.column is.front
    front =
        ap (λ (l : List ℕ). columns_from line.column (take (length is.front) l)) is.bytes_are
        ∙ ap (columns_from line.column) (take_at is.front (cut_tab r.spaces ++ r.bytes) (length is.front) refl)

    by : (v : ℕ) → v ≡ p.vs → point line.number (r.column + 1) (line.index + length is.front) v ≡ p
    by v e =
        ap (λ (n : ℕ). point n (r.column + 1) (line.index + length is.front) v) (sym is.number)
        ∙ ap (λ (n : ℕ). point p.line n (line.index + length is.front) v) (sym is.column)
        ∙ ap (λ (n : ℕ). point p.line p.column n v) (sym is.index)
        ∙ ap (λ (n : ℕ). point p.line p.column p.index n) e

-- After more of it.

pub columns-snoc : (column b : ℕ) (bytes : List ℕ) →
    columns_from column (bytes ++ b ∷ []) ≡ column_past b (columns_from column bytes)
columns-snoc column b [] = refl
columns-snoc column b (c ∷ bytes) = columns-snoc (column_past c column) b bytes

-- after a byte
begins-byte : (line : TextLine) (c b : ℕ) (bytes : List ℕ) (p : Point) → BeginsAt line (rest_at c (b ∷ bytes)) p →
    BeginsAt line (rest_at (column_past b c) bytes) (past_byte b p)
begins-byte line c b bytes p is =
    let column : p.column - 1 ≡ c = omega (arith, is.column) in
    let columns : p.column - 1 ≡ columns_from line.column is.front = omega (arith, is.columns, is.cut) in
    let next : columns_from line.column (is.front ++ b ∷ []) ≡ column_past b (columns_from line.column is.front) =
    columns-snoc line.column b is.front in
    let index : length (is.front ++ b ∷ []) ≡ length is.front + 1 = length-append is.front (b ∷ []) in
    record {
      front = is.front ++ b ∷ [];
      bytes_are = is.bytes_are ∙ sym (append_assoc is.front (b ∷ []) bytes);
      number = is.number;
      index = omega (arith, is.index, index);
      column = ap (λ (n : ℕ). column_past b n + 1) column;
      columns = ap (λ (n : ℕ). column_past b n + 1) columns ∙ ap (λ (n : ℕ). n + 1) (sym next) ∙ plus
          (columns_from line.column (is.front ++ b ∷ []));
      cut = refl;
      within = omega arith;
    }
  where
    plus : (n : ℕ) → n + 1 ≡ n + 0 + 1
    plus n = omega arith

-- after some bytes
pub begins-bytes : (line : TextLine) (c : ℕ) (xs ys : List ℕ) (p : Point) → BeginsAt line (rest_at c (xs ++ ys)) p →
    BeginsAt line (rest_at (columns_from c xs) ys) (past_text xs p)
begins-bytes line c [] ys p is = is
begins-bytes line c (b ∷ xs) ys p is =
    begins-bytes line (column_past b c) xs ys (past_byte b p) (begins-byte line c b (xs ++ ys) p is)

-- after what is left of a cut tab
pub begins-cut : (line : TextLine) (r : Rest) (p : Point) → BeginsAt line r p →
    BeginsAt line (rest_at (r.column + r.spaces) r.bytes) (past_text (cut_tab r.spaces) p)
begins-cut line r p is = go r.spaces is.bytes_are is.cut
  where
    go : (spaces : ℕ) → line.bytes ≡ is.front ++ (cut_tab spaces ++ r.bytes) → Cut spaces p →
        BeginsAt line (rest_at (r.column + spaces) r.bytes) (past_text (cut_tab spaces) p)
    go zero e cut = record {
      front = is.front;
      bytes_are = e;
      number = is.number;
      index = is.index;
      column = omega (arith, is.column);
      columns = is.columns;
      cut = cut;
      within = is.within;
    }
    go (suc n) e cut =
        let before : ℕ = columns_from line.column is.front in
        let next : columns_from line.column (is.front ++ 9 ∷ []) ≡ before + (4 - before % 4) =
        columns-snoc line.column 9 is.front in
        let index : length (is.front ++ 9 ∷ []) ≡ length is.front + 1 = length-append is.front (9 ∷ []) in
        record {
          front = is.front ++ 9 ∷ [];
          bytes_are = e ∙ sym (append_assoc is.front (9 ∷ []) r.bytes);
          number = is.number;
          index = omega (arith, is.index, index);
          column = end r.column n p.column p.vs is.column cut.1;
          columns = stop before p.column p.vs is.columns is.within ∙ ap (λ (c : ℕ). c + 0 + 1) (sym next);
          cut = refl;
          within = omega arith;
        }
      where
        end : (c n column vs : ℕ) → column ≡ c + 1 → n ≡ 3 - (column + 3) % 4 →
            (column - 1) + (4 - (column - 1) % 4) + 1 ≡ c + suc n + 1
        end c n column vs e f = omega arith

        stop : (before column vs : ℕ) → column ≡ before + vs + 1 → vs < 4 - before % 4 →
            (column - 1) + (4 - (column - 1) % 4) + 1 ≡ before + (4 - before % 4) + 0 + 1
        stop before column vs e f = omega arith

-- after so many bytes
pub begins-past : (line : TextLine) (r : Rest) (p : Point) (n : ℕ) → BeginsAt line r p →
    BeginsAt line (past n r) (past_text (take n r.bytes) (past_text (cut_tab r.spaces) p))
begins-past line r p n is =
    begins-bytes line (r.column + r.spaces) (take n r.bytes) (drop n r.bytes) (past_text (cut_tab r.spaces) p)
    (subst (λ (l : List ℕ). BeginsAt line (rest_at (r.column + r.spaces) l) (past_text (cut_tab r.spaces) p))
    (sym (take-append-drop n r.bytes)) (begins-cut line r p is))

-- after all of it the line ends
pub begins-end : (line : TextLine) (r : Rest) (p : Point) → BeginsAt line r p →
    BeginsAt line (line_end line) (past_text r.bytes (past_text (cut_tab r.spaces) p))
begins-end line r p is =
    let q : Point = past_text (cut_tab r.spaces) p in
    let cut : BeginsAt line (rest_at (r.column + r.spaces) (r.bytes ++ [])) q =
    subst (λ (l : List ℕ). BeginsAt line (rest_at (r.column + r.spaces) l) q) (sym (append-nil r.bytes))
    (begins-cut line r p is) in
    whole (columns_from (r.column + r.spaces) r.bytes) (past_text r.bytes q)
    (begins-bytes line (r.column + r.spaces) r.bytes [] q cut)
  where
    whole : (c : ℕ) (q : Point) → BeginsAt line (rest_at c []) q → BeginsAt line (line_end line) q
    whole c q at =
        let all : line.bytes ≡ at.front = at.bytes_are ∙ append-nil at.front in
        let columns : columns_from line.column at.front ≡ columns_from line.column line.bytes =
        ap (columns_from line.column) (sym all) in
        let cut : q.vs ≡ 0 = at.cut in
        record {
          front = at.front;
          bytes_are = at.bytes_are;
          number = at.number;
          index = at.index;
          column = omega (arith, at.columns, columns, cut);
          columns = at.columns;
          cut = at.cut;
          within = at.within;
        }
