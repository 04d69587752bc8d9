-- The cells of the rest of a line, which may begin within a tab that a prefix has cut.
use Rattle.std.proofs.Common.{◌≡◌, ℕ, zero, suc, ◌+◌, ◌-◌, ◌<◌, ◌≤◌, Bool, true, false, cond, List, [], ◌∷◌, ◌++◌}
use Rattle.std.proofs.Common.{length, drop, refl, sym, ap, ◌∙◌, subst, arith}
use Rattle.std.specs.Prelude.{IsTrue, ◌==◌}
use Rattle.std.proofs.lemmas.Bool.{eqb-true, or_parts}
use Rattle.md_engine.specs.declared.event.Point.{Point}
use Rattle.md_engine.specs.declared.tokenizer.Line.{Line}
use Rattle.md_engine.specs.Meaning.{Cell}
use Rattle.md_events.specs.Ahead.{begins_white, point_after, white_end, white_rest}
use Rattle.md_events.specs.Events.Places.{at_or_before, past_byte, past_text}
use Rattle.md_meaning.specs.Rest.{Rest, following, after_indent, cut_tab, indent, is_white, lose, tab_columns}
use Rattle.md_meaning.specs.Rest.{white_columns, without_column}
use Rattle.md_events.proofs.FeedLines.{Stops, before-byte, before-column, after_last, byte-one, cell, columns_more}
use Rattle.md_events.proofs.FeedLines.{next_column, past-next, point_after-append, spread, spread-end, stops-white}
use Rattle.md_events.proofs.FeedLines.{tab-end, tab_cells, tab_end, tab_end-last, tab_end-next, tab_end-stop}
use Rattle.md_events.proofs.NestedLemmas.{at_or_before-refl, at_or_before-trans}
use Rattle.md_meaning.proofs.TextsLemmas.{NoEnding, no_ending-drop}
use Rattle.md_events.proofs.AheadLemmas.{none-end, none-rest}

-- the columns that are left of a cut tab, and then the cells of the bytes
abbrev pub cells_by : Line → ℕ → List ℕ → Point → List Cell
cells_by line zero bytes p = spread line bytes p
cells_by line (suc n) bytes p = tab_cells line n 32 p ++ spread line bytes (tab_end n p)

abbrev pub rest_cells : Line → Rest → Point → List Cell
rest_cells line r p = cells_by line r.spaces r.bytes p

-- a point begins a byte, or lies within a tab of which so many columns are left
abbrev pub Cut : ℕ → Point → Type 0
Cut zero p = p.vs ≡ 0
Cut (suc n) p = (0 < p.vs) × (n ≡ columns_more p)

-- a rest of a line begins at a point of a text, and this is after it
pub record RestAt (text following : List ℕ) (r : Rest) (p : Point) : Type 0 where
  pub column : p.column ≡ r.column + 1
  pub cut : Cut r.spaces p
  pub text_is : drop p.index text ≡ cut_tab r.spaces ++ r.bytes ++ following

-- where the line ends
abbrev pub past_cut : ℕ → Point → Point
past_cut zero p = p
past_cut (suc n) p = tab_end n p

abbrev pub past_rest : Rest → Point → Point
past_rest r p = past_text r.bytes (past_cut r.spaces p)

pub rest-end : (line : Line) (r : Rest) (p : Point) → 1 ≤ p.column → point_after (rest_cells line r p) p ≡ past_rest r p
rest-end line r p one = go r.spaces
  where
    go : (spaces : ℕ) → point_after (cells_by line spaces r.bytes p) p ≡ past_text r.bytes (past_cut spaces p)
    go zero = spread-end line r.bytes p one
    go (suc n) =
        point_after-append (tab_cells line n 32 p) (spread line r.bytes (tab_end n p)) p
        ∙ ap (point_after (spread line r.bytes (tab_end n p))) (tab-end line n 32 p p)
        ∙ spread-end line r.bytes (tab_end n p) (omega arith)

-- One column of whitespace.

abbrev pub without_first : Rest → Rest
without_first r = without_column r.column r.spaces r.bytes

-- whitespace comes first: one cell of it, and after it the rest without a column
pub record HasColumn (line : Line) (text following : List ℕ) (r : Rest) (p : Point) : Type 0 where
  pub byte : ℕ
  pub at : Point
  pub white : is_white byte ≡ true
  pub cells : rest_cells line r p ≡ cell byte at line ∷ rest_cells line (without_first r) at
  pub columns : indent r ≡ suc (indent (without_first r))
  pub valid : RestAt text following (without_first r) at
  pub onward : IsTrue (at_or_before p at)

abbrev rest : ℕ → ℕ → List ℕ → Rest
rest column spaces bytes = record { column = column; spaces = spaces; bytes = bytes }

-- of a cut tab
cut-column : (line : Line) (text following : List ℕ) (column n : ℕ) (bytes : List ℕ) (p : Point) →
    RestAt text following (rest column (suc n) bytes) p → HasColumn line text following (rest column (suc n) bytes) p
cut-column line text following column zero bytes p is = record {
  byte = 32;
  at = after_last p;
  white = refl;
  cells = ap (λ (q : Point). cell 32 (after_last p) line ∷ spread line bytes q) (sym (tab_end-last p));
  columns =
      let same : white_columns (column + 1) bytes ≡
      white_columns (column + 1 + 0) bytes = ap (λ (c : ℕ). white_columns c bytes) (omega arith) in
      omega arith;
  valid = record {
    column = omega (arith, is.column);
    cut = refl;
    text_is = past-next p.index text 9 (bytes ++ following) is.text_is;
  };
  onward = before-byte p (after_last p) (omega arith);
}
cut-column line text following column (suc n) bytes p is = record {
  byte = 32;
  at = next_column p;
  white = refl;
  cells =
      ap (λ (q : Point). cell 32 (next_column p) line ∷ tab_cells line n 32 (next_column p) ++ spread line bytes q)
      (sym (tab_end-next n p));
  columns =
      let same : white_columns (column + suc (suc n)) bytes ≡
      white_columns (column + 1 + suc n) bytes = ap (λ (c : ℕ). white_columns c bytes) (omega arith) in
      omega arith;
  valid = record {
    column = omega (arith, is.column);
    cut = (omega arith, let left = is.cut.1 in omega arith);
    text_is = is.text_is;
  };
  onward = before-column p;
}

space-column : (line : Line) (text following : List ℕ) (column : ℕ) (bytes : List ℕ) (p : Point) →
    RestAt text following (rest column 0 (32 ∷ bytes)) p → HasColumn line text following (rest column 0 (32 ∷ bytes)) p
space-column line text following column bytes p is = record {
  byte = 32;
  at = past_byte 32 p;
  white = refl;
  cells = refl;
  columns =
      let same : white_columns (column + 0 + 1) bytes ≡
      white_columns (column + 1 + 0) bytes = ap (λ (c : ℕ). white_columns c bytes) (omega arith) in
      omega arith;
  valid = record {
    column = omega (arith, is.column);
    cut = refl;
    text_is = past-next p.index text 32 (bytes ++ following) is.text_is;
  };
  onward = before-byte p (past_byte 32 p) (omega arith);
}

-- of a tab: its first column is fed as the tab, and so many more are left
tab-column : (line : Line) (text following : List ℕ) (column : ℕ) (bytes : List ℕ) (p : Point) →
    RestAt text following (rest column 0 (9 ∷ bytes)) p → HasColumn line text following (rest column 0 (9 ∷ bytes)) p
tab-column line text following column bytes p is = go (columns_more p) refl (let at = is.column in omega arith)
  where
    r : Rest
    r = rest column 0 (9 ∷ bytes)

    columns_are : indent r ≡ suc (indent (without_first r))
    columns_are =
        let same : white_columns (column + 0 + tab_columns (column + 0)) bytes ≡
        white_columns (column + 1 + (tab_columns column - 1)) bytes = ap (λ (c : ℕ). white_columns c bytes)
        (omega arith) in
        let columns : tab_columns (column + 0) ≡ tab_columns column = ap tab_columns (omega arith) in
        omega arith

    stop : (n : ℕ) → columns_more p ≡ n → tab_end n p ≡ past_byte 9 p
    stop n e = ap (λ (k : ℕ). tab_end k p) (sym e) ∙ tab_end-stop p (omega (arith, is.column))

    with_columns : (n : ℕ) → columns_more p ≡ n →
        rest_cells line r p ≡ tab_cells line n 9 p ++ spread line bytes (tab_end n p)
    with_columns n e =
        ap (λ (k : ℕ). tab_cells line k 9 p ++ spread line bytes (past_byte 9 p)) e
        ∙ ap (λ (q : Point). tab_cells line n 9 p ++ spread line bytes q) (sym (stop n e))

    go : (n : ℕ) → columns_more p ≡ n → n ≡ tab_columns column - 1 → HasColumn line text following r p
    go zero e f =
        let q = after_last p in
        let valid : RestAt text following
        (rest (column + 1) 0 bytes) q = record {
          column = omega (arith, is.column);
          cut = refl;
          text_is = past-next p.index text 9 (bytes ++ following) is.text_is;
        } in
        record {
          byte = 9;
          at = q;
          white = refl;
          cells =
              with_columns 0 e ∙ ap (λ (x : Point). cell 9 q line ∷ spread line bytes x) (sym (tab_end-last p))
              ∙ ap (λ (k : ℕ). cell 9 q line ∷ cells_by line k bytes q) f;
          columns = columns_are;
          valid = subst (λ (k : ℕ). RestAt text following (rest (column + 1) k bytes) q) f valid;
          onward = before-byte p q (omega arith);
        }
    go (suc n) e f =
        let q = next_column p in
        let valid : RestAt text following
        (rest (column + 1) (suc n) bytes) q = record {
          column = omega (arith, is.column);
          cut = (omega arith, omega (arith, e));
          text_is = is.text_is;
        } in
        record {
          byte = 9;
          at = q;
          white = refl;
          cells =
              with_columns (suc n) e
              ∙ ap (λ (x : Point). cell 9 q line ∷ tab_cells line n 32 q ++ spread line bytes x)
              (sym (tab_end-next n p))
              ∙ ap (λ (k : ℕ). cell 9 q line ∷ cells_by line k bytes q) f;
          columns = columns_are;
          valid = subst (λ (k : ℕ). RestAt text following (rest (column + 1) k bytes) q) f valid;
          onward = before-column p;
        }

-- where there is an indent
pub column-first : (line : Line) (text following : List ℕ) (r : Rest) (p : Point) → RestAt text following r p →
    0 < indent r →
    HasColumn line text following r p
column-first line text following r p is = go r.column r.spaces r.bytes is
  where
    go : (column spaces : ℕ) (bytes : List ℕ) → RestAt text following (rest column spaces bytes) p →
        0 < indent (rest column spaces bytes) → HasColumn line text following (rest column spaces bytes) p
    go column (suc n) bytes h lt = cut-column line text following column n bytes p h
    go column zero [] h lt = absurd (omega (arith, lt))
    go column zero (b ∷ bs) h lt = by (b == 9) refl (b == 32) refl
      where
        Has : ℕ → Type 0
        Has c = RestAt text following (rest column 0 (c ∷ bs)) p →
            HasColumn line text following (rest column 0 (c ∷ bs)) p

        by : (t : Bool) → (b == 9) ≡ t → (s : Bool) → (b == 32) ≡ s →
            HasColumn line text following (rest column zero (b ∷ bs)) p
        by true e s f = subst Has (sym (eqb-true b 9 e)) (tab-column line text following column bs p) h
        by false e true f = subst Has (sym (eqb-true b 32 f)) (space-column line text following column bs p) h
        by false e false f =
            let none : white_columns (column + 0) (b ∷ bs) ≡ 0 = rw (e, f) refl in absurd (omega (arith, lt, none))

-- the line ends where it did
pub column-end : (line : Line) (text following : List ℕ) (r : Rest) (p : Point) → RestAt text following r p →
    (first : HasColumn line text following r p) → past_rest (without_first r) first.at ≡ past_rest r p
column-end line text following r p is first =
    sym (rest-end line (without_first r) first.at (omega (arith, first.valid.column)))
    ∙ sym (ap (λ (l : List Cell). point_after l p) first.cells)
    ∙ rest-end line r p (omega (arith, is.column))

-- no indent: no column is cut, and no whitespace comes first
abbrev pub Bare : ℕ → List ℕ → Type 0
Bare (suc n) bytes = ⊥
Bare zero [] = Unit {0}
Bare zero (b ∷ bs) = is_white b ≡ false

pub bare : (r : Rest) → indent r ≡ 0 → Bare r.spaces r.bytes
bare r = go r.spaces r.bytes
  where
    go : (spaces : ℕ) (bytes : List ℕ) → indent (rest r.column spaces bytes) ≡ 0 → Bare spaces bytes
    go (suc n) bytes e = absurd (omega (arith, e))
    go zero [] e = tt
    go zero (b ∷ bs) e = by (b == 9) refl (b == 32) refl
      where
        by : (t : Bool) → (b == 9) ≡ t → (s : Bool) → (b == 32) ≡ s → is_white b ≡ false
        by true f s g =
            let some : white_columns (r.column + 0) (b ∷ bs) ≡
            tab_columns (r.column + 0) + white_columns (r.column + 0 + tab_columns (r.column + 0)) bs = rw f refl in
            absurd (omega (arith, e, some))
        by false f true g =
            let some : white_columns (r.column + 0) (b ∷ bs) ≡
            1 + white_columns (r.column + 0 + 1) bs = rw (f, g) refl in
            absurd (omega (arith, e, some))
        by false f false g = rw (f, g) refl

pub bare-cells : (line : Line) (r : Rest) (p : Point) (stop : List Cell) → indent r ≡ 0 → Stops stop →
    begins_white (rest_cells line r p ++ stop) ≡ false
bare-cells line r p stop e k = go r.spaces r.bytes (bare r e)
  where
    go : (spaces : ℕ) (bytes : List ℕ) → Bare spaces bytes → begins_white (cells_by line spaces bytes p ++ stop) ≡ false
    go (suc n) bytes b = absurd b
    go zero [] b = stops-white stop k
    go zero (b ∷ bs) h =
        ap (λ (l : List Cell). begins_white (l ++ spread line bs (past_byte b p) ++ stop)) (byte-one line b p h) ∙ h

-- a column less of none is the same
pub bare-same : (r : Rest) → indent r ≡ 0 → without_first r ≡ r
bare-same r e = go r.spaces r.bytes (bare r e)
  where
    go : (spaces : ℕ) (bytes : List ℕ) → Bare spaces bytes →
        without_column r.column spaces bytes ≡ rest r.column spaces bytes
    go (suc n) bytes h = absurd h
    go zero [] h = refl
    go zero (b ∷ bs) h = let which = or_parts (b == 32) (b == 9) h in rw (which.0, which.1) refl

-- The indent.

-- whitespace leaves no more than there was
pub white-length : (room : ℕ) (cells : List Cell) → length (white_rest room cells) ≤ length cells
white-length room [] = omega arith
white-length zero (c ∷ cs) = omega arith
white-length (suc room) (c ∷ cs) = go (is_white c.byte) (white-length room cs)
  where
    go : (t : Bool) → length (white_rest room cs) ≤ length cs →
        length (cond t (white_rest room cs) (c ∷ cs)) ≤ suc (length cs)
    go true le = omega (arith, le)
    go false le = omega arith

-- so many columns of whitespace are taken, as many as there are: after them the rest without its indent
pub record HasIndent (line : Line) (text following : List ℕ) (room : ℕ) (r : Rest) (p : Point) (stop : List Cell)
    (left : Rest) : Type 0 where
  pub cells : white_rest room (rest_cells line r p ++ stop) ≡
      rest_cells line left (white_end room (rest_cells line r p ++ stop) p) ++ stop
  pub none : indent left ≡ 0
  pub valid : RestAt text following left (white_end room (rest_cells line r p ++ stop) p)
  pub ends : past_rest left (white_end room (rest_cells line r p ++ stop) p) ≡ past_rest r p
  pub onward : IsTrue (at_or_before p (white_end room (rest_cells line r p ++ stop) p))

indent-walk : (line : Line) (text following : List ℕ) (n room : ℕ) (r : Rest) (p : Point) (stop : List Cell) →
    RestAt text following r p → Stops stop → indent r ≡ n → n ≤ room →
    HasIndent line text following room r p stop (lose n r)
indent-walk line text following zero room r p stop is k e le =
    let white = bare-cells line r p stop e k in
    let end : white_end room (rest_cells line r p ++ stop) p ≡
    p = none-end room (rest_cells line r p ++ stop) p white in
    record {
      cells =
          none-rest room (rest_cells line r p ++ stop) white
          ∙ ap (λ (q : Point). rest_cells line r q ++ stop) (sym end);
      none = e;
      valid = subst (RestAt text following r) (sym end) is;
      ends = ap (past_rest r) end;
      onward = subst (λ (q : Point). IsTrue (at_or_before p q)) (sym end) (at_or_before-refl p);
    }
indent-walk line text following (suc n) zero r p stop is k e le = absurd (omega (arith, le))
indent-walk line text following (suc n) (suc room) r p stop is k e le =
    let first = column-first line text following r p is (omega (arith, e)) in
    let further = indent-walk line text following n room (without_first r) first.at stop first.valid k
    (omega (arith, e, first.columns)) (omega (arith, le)) in
    let cs = rest_cells line (without_first r) first.at ++ stop in
    let cells : rest_cells line r p ++ stop ≡
    cell first.byte first.at line ∷ cs = ap (λ (l : List Cell). l ++ stop) first.cells in
    let end : white_end (suc room) (rest_cells line r p ++ stop) p ≡
    white_end room cs first.at = ap (λ (l : List Cell). white_end (suc room) l p) cells
    ∙ ap (λ (t : Bool). cond t (white_end room cs first.at) p) first.white in
    record {
      cells = ap (white_rest (suc room)) cells
          ∙ ap (λ (t : Bool). cond t (white_rest room cs) (cell first.byte first.at line ∷ cs)) first.white
          ∙ further.cells
          ∙ ap (λ (q : Point). rest_cells line (lose n (without_first r)) q ++ stop) (sym end);
      none = further.none;
      valid = subst (RestAt text following (lose n (without_first r))) (sym end) further.valid;
      ends = ap (past_rest (lose n (without_first r))) end ∙ further.ends ∙ column-end line text following r p is first;
      onward =
          subst (λ (q : Point). IsTrue (at_or_before p q)) (sym end)
          (at_or_before-trans p first.at (white_end room cs first.at) first.onward further.onward);
    }

pub indent-taken : (line : Line) (text following : List ℕ) (room : ℕ) (r : Rest) (p : Point) (stop : List Cell) →
    RestAt text following r p → Stops stop → indent r ≤ room →
    HasIndent line text following room r p stop (after_indent r)
indent-taken line text following room r p stop is k le =
    indent-walk line text following (indent r) room r p stop is k refl le

-- where there is more of it, whitespace is left
pub indent-over : (line : Line) (text following : List ℕ) (room : ℕ) (r : Rest) (p : Point) (stop : List Cell) →
    RestAt text following r p → room < indent r → begins_white (white_rest room (rest_cells line r p ++ stop)) ≡ true
indent-over line text following zero r p stop is lt =
    let first = column-first line text following r p is lt in
    ap (λ (l : List Cell). begins_white (white_rest 0 (l ++ stop))) first.cells ∙ first.white
indent-over line text following (suc room) r p stop is lt =
    let first = column-first line text following r p is (omega (arith, lt)) in
    let cs = rest_cells line (without_first r) first.at ++ stop in
    ap (λ (l : List Cell). begins_white (white_rest (suc room) (l ++ stop))) first.cells
    ∙ ap (λ (t : Bool). begins_white (cond t (white_rest room cs) (cell first.byte first.at line ∷ cs))) first.white
    ∙ indent-over line text following room (without_first r) first.at stop first.valid
    (omega (arith, lt, first.columns))

-- an indent has no more columns than there are cells
indent-size : (line : Line) (text following : List ℕ) (n : ℕ) (r : Rest) (p : Point) → RestAt text following r p →
    indent r ≡ n → n ≤ length (rest_cells line r p)
indent-size line text following zero r p is e = omega arith
indent-size line text following (suc n) r p is e =
    let first = column-first line text following r p is (omega (arith, e)) in
    let size : length (rest_cells line r p) ≡
    suc (length (rest_cells line (without_first r) first.at)) = ap length first.cells in
    let more = indent-size line text following n (without_first r) first.at first.valid
    (omega (arith, e, first.columns)) in
    omega (arith, size, more)

pub indent-length : (line : Line) (text following : List ℕ) (r : Rest) (p : Point) → RestAt text following r p →
    indent r ≤ length (rest_cells line r p)
indent-length line text following r p is = indent-size line text following (indent r) r p is refl

-- What is left has no ending where the line has none.

without-no_ending : (column spaces : ℕ) (bytes : List ℕ) → NoEnding bytes →
    NoEnding (without_column column spaces bytes).bytes
without-no_ending column (suc n) bytes h = h
without-no_ending column zero [] h = tt
without-no_ending column zero (b ∷ bs) h = go (b == 9) (b == 32)
  where
    go : (t s : Bool) →
        NoEnding
        (cond t (rest (column + 1) (tab_columns column - 1) bs)
        (cond s (rest (column + 1) 0 bs) (rest column 0 (b ∷ bs)))).bytes
    go true s = h.1
    go false true = h.1
    go false false = h

pub lose-no_ending : (n : ℕ) (r : Rest) → NoEnding r.bytes → NoEnding (lose n r).bytes
lose-no_ending zero r h = h
lose-no_ending (suc n) r h = lose-no_ending n (without_first r) (without-no_ending r.column r.spaces r.bytes h)

pub following-no_ending : (n : ℕ) (r : Rest) → NoEnding r.bytes → NoEnding (following n r).bytes
following-no_ending n r h = no_ending-drop n r.bytes h

-- The text.
