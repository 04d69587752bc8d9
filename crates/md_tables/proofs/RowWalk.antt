-- The walk that puts cells into rows gives for the runs of a row its cells, by the bytes of its line.
use Rattle.std.proofs.Common.{◌≡◌, ℕ, Bool, true, false, cond, nat_eq, List, [], ◌∷◌, ◌++◌, refl, sym, ◌∙◌, ap, ap₂}
use Rattle.std.proofs.Common.{subst}
use Rattle.std.specs.Prelude.{not}
use Rattle.std.proofs.lemmas.Bool.{eqb-true}
use Rattle.md_engine.specs.declared.event.Event.{Event}
use Rattle.md_engine.specs.declared.event.Name.TheVariants as n
use Rattle.md_engine.specs.declared.event.Point.{Point}
use Rattle.md_meaning.specs.Bytes.{begins}
use Rattle.md_meaning.specs.Lines.{begins_with}
use Rattle.md_meaning.specs.Rest.{is_blank, is_white, trim_start}
use Rattle.md_events.specs.Events.Nested.{enter, enter_link, exit}
use Rattle.md_events.specs.Events.Places.{past_byte, past_text}
use Rattle.md_events.proofs.RestLines.{trim-white}
use Rattle.md_tables.specs.Cells.{celled, is_continued as text_continued, piece_step}
use Rattle.md_tables.specs.Row.{text_link}
use Rattle.md_tables.specs.RowCells.{Cells, Ends, after_pipe, cell_inside, cells_events, cells_of, line_cells, onto}
use Rattle.md_tables.specs.RowCells.{row_events, row_runs, text_part, unread_text, white_front, white_part}
use Rattle.md_tables.specs.RowRule.{Apart, White}
use Rattle.md_tables.specs.declared.cells.RowKind.TheVariants.{Text}
use Rattle.md_tables.specs.declared.cells.Stage.TheVariants.{Following, Front, Gap, Inner, Within}
use Rattle.md_tables.proofs.PipeWalk.{pipe-walk, white-following}
use Rattle.md_tables.proofs.RowCellLemmas.{cells-escaped, cells-other, cells-white, cells-pipe, cells-none, cells-begin}
use Rattle.md_tables.proofs.RowCellLemmas.{first-following, first_cell, text-ends, text-first, text-more, text_left}
use Rattle.md_tables.proofs.RowCellLemmas.{white-blank, white-ends, white-first, white-more, white_left}
use Rattle.md_tables.proofs.WhiteEnds.{blank-first, dark-first, front-none, front-one, start-none}
use Rattle.md_tables.proofs.RowRuns.{following, cells_left, left_in_white, left_in_text, onto-by, white-opens, white-on}
use Rattle.md_tables.proofs.RowRuns.{word, word-white, piped, pipe-opens, pipe-white, pipe-text, word-opens, white-word}
use Rattle.md_tables.proofs.RowRuns.{word-on, escaped-on, blank-white, blank-pipe, row_end, last-pipe}
use Rattle.md_tables.proofs.RowRuns.{text-is_continued, blank-runs}

-- What the walk gives for what is left of a row, by where it is.
record Walks (bs : List ℕ) (p : Point) : Type 0 where
  -- where a cell begins
  pub start : celled (Within Text) (row_runs Apart bs p ++ row_end bs p) ≡
      cells_left (cells_of false bs) p ++ row_end bs p
  -- in the whitespace before its text
  pub white : celled (Within Text) (row_runs White bs p ++ row_end bs p) ≡
      left_in_white (cells_of false bs) p ++ row_end bs p
  -- in a word of its text
  pub text : (escaped : Bool) →
      celled (Inner Text) (row_runs (word escaped) bs p ++ row_end bs p) ≡
      left_in_text (cells_of escaped bs) p ++ row_end bs p
  -- between two words
  pub gap : is_blank (first_cell (cells_of false bs)) ≡ false →
      celled Gap (row_runs White bs p ++ row_end bs p) ≡ left_in_text (cells_of false bs) p ++ row_end bs p

-- a pipe ends a cell and begins the next, or ends the last
piped-walk : (bs : List ℕ) (p : Point) → Walks bs (past_byte 124 p) →
    celled (Within Text) (piped bs p ++ row_end (124 ∷ bs) p) ≡
    following (after_pipe bs (cells_of false bs)) p ++ row_end (124 ∷ bs) p
unfolding celled
piped-walk bs p walks =
    pipe-walk Text (text_part unread_text) bs (cells_of false bs) p (row_runs Apart bs q ++ row_end bs q) (row_end bs q)
    (last-pipe bs q)
    (λ h.
    ap (λ (es : List Event). celled Following (es ++ row_end bs q)) (blank-runs bs q h)
    ∙ white-following bs q (row_end bs q) refl)
    walks.start
  where
    q : Point
    q = past_byte 124 p

-- whitespace after a word: a further word continues with the text
text-walk : (escaped : Bool) (b : ℕ) (bs : List ℕ) (p : Point) → is_white b ≡ true → Walks bs (past_byte b p) →
    celled (Inner Text) (row_runs (word escaped) (b ∷ bs) p ++ row_end (b ∷ bs) p) ≡
    left_in_text (cells_of escaped (b ∷ bs)) p ++ row_end (b ∷ bs) p
unfolding celled
text-walk escaped b bs p e walks =
    ap (λ (es : List Event). celled (Inner Text) (es ++ row_end (b ∷ bs) p)) (word-white escaped b bs p e)
    ∙ go (is_blank (first_cell cells)) refl
    ∙ sym (ap (λ (es : List Event). es ++ row_end bs q) (onto-by text_left b cells p))
    ∙ sym (ap (λ (c : Cells). left_in_text c p ++ row_end bs q) (cells-white escaped b bs e))
  where
    q : Point
    q = past_byte b p

    cells : Cells
    cells = cells_of false bs

    rest : List Event
    rest = row_runs White bs q ++ row_end bs q

    after : List Event
    after = following cells (past_text (first_cell cells) q)

    given : Bool → List Event
    given on =
        (piece_step Text (exit n.Data p) on).given
        ++ celled (piece_step Text (exit n.Data p) on).stage (enter n.SpaceOrTab p ∷ rest)

    go : (x : Bool) → is_blank (first_cell cells) ≡ x →
        given (text_continued Text (enter n.SpaceOrTab p ∷ rest)) ≡
        (text_left (b ∷ first_cell cells) p ++ after) ++ row_end bs q
    go true h =
        ap given (text-is_continued bs q p ∙ ap not h)
        ∙ ap
        (λ (es : List Event). exit n.Data p ∷ exit n.GfmTableCellText p ∷ enter n.SpaceOrTab p ∷ es)
        (walks.white ∙ ap (λ (es : List Event). (es ++ after) ++ row_end bs q)
        (white-blank (text_part unread_text) (λ r. refl) (first_cell cells) q h))
        ∙ sym
        (ap (λ (es : List Event). (es ++ after) ++ row_end bs q)
        (text-ends (b ∷ first_cell cells) p (blank-first b (first_cell cells) e ∙ h)))
    go false h =
        ap given (text-is_continued bs q p ∙ ap not h) ∙ walks.gap h
        ∙ sym
        (ap (λ (es : List Event). (es ++ after) ++ row_end bs q)
        (text-more b (first_cell cells) p (blank-first b (first_cell cells) e ∙ h)))

-- a further byte of a word
text-on : (b : ℕ) (cells : Cells) (p : Point) → is_white b ≡ false →
    left_in_text (onto b cells) p ≡ left_in_text cells (past_byte b p)
text-on b cells p e =
    onto-by text_left b cells p
    ∙ ap (λ (es : List Event). es ++ following cells (past_text (first_cell cells) (past_byte b p)))
    (text-more b (first_cell cells) p (dark-first b (first_cell cells) e))

-- By the byte.

none-walks : (p : Point) → Walks [] p
unfolding celled
none-walks p = record {
  start = ended (λ (c : Cells). cells_left c p ++ row_end [] p) false;
  white = ended (λ (c : Cells). left_in_white c p ++ row_end [] p) false;
  text = λ escaped. of escaped;
  gap = λ h. let no : true ≡ false = sym (ap (λ (c : Cells). is_blank (first_cell c)) (cells-none false)) ∙ h in cc;
}
  where
    ended : (f : Cells → List Event) (escaped : Bool) → f (Ends []) ≡ f (cells_of escaped [])
    ended f escaped = sym (ap f (cells-none escaped))

    of : (escaped : Bool) →
        celled (Inner Text) (row_runs (word escaped) [] p ++ row_end [] p) ≡
        left_in_text (cells_of escaped []) p ++ row_end [] p
    of true = ended (λ (c : Cells). left_in_text c p ++ row_end [] p) true
    of false = ended (λ (c : Cells). left_in_text c p ++ row_end [] p) false

white-walks : (b : ℕ) (bs : List ℕ) (p : Point) → is_white b ≡ true → Walks bs (past_byte b p) → Walks (b ∷ bs) p
unfolding celled
white-walks b bs p e more = record {
  start =
      ap (λ (es : List Event). celled (Within Text) (es ++ end)) (white-opens b bs p e)
      ∙ ap (λ (es : List Event). enter n.SpaceOrTab p ∷ es) more.white
      ∙ sym
      (ap (λ (c : Cells). cells_left c p ++ end) same
      ∙ ap (λ (es : List Event). es ++ end) (onto-by (cell_inside unread_text) b cells p)
      ∙ ap (λ (es : List Event). (es ++ after) ++ end) (white-first (text_part unread_text) b (first_cell cells) p e));
  white =
      ap (λ (es : List Event). celled (Within Text) (es ++ end)) (white-on b bs p e) ∙ more.white
      ∙ sym
      (ap (λ (c : Cells). left_in_white c p ++ end) same
      ∙ ap (λ (es : List Event). es ++ end) (onto-by (white_left (text_part unread_text)) b cells p)
      ∙ ap (λ (es : List Event). (es ++ after) ++ end) (white-more (text_part unread_text) b (first_cell cells) p e));
  text = λ escaped. text-walk escaped b bs p e more;
  gap = λ h.
      ap (λ (es : List Event). celled Gap (es ++ end)) (white-on b bs p e) ∙ more.gap (sym (blank-white b bs e) ∙ h)
      ∙ sym
      (ap (λ (c : Cells). left_in_text c p ++ end) same
      ∙ ap (λ (es : List Event). es ++ end) (onto-by text_left b cells p)
      ∙ ap (λ (es : List Event). (es ++ after) ++ end)
      (text-more b (first_cell cells) p
      (blank-first b (first_cell cells) e ∙ sym (blank-white b bs e) ∙ h)));
}
  where
    cells : Cells
    cells = cells_of false bs

    end : List Event
    end = row_end (b ∷ bs) p

    after : List Event
    after = following cells (past_text (first_cell cells) (past_byte b p))

    same : cells_of false (b ∷ bs) ≡ onto b cells
    same = cells-white false b bs e

pipe-walks : (bs : List ℕ) (p : Point) → Walks bs (past_byte 124 p) → Walks (124 ∷ bs) p
unfolding celled
pipe-walks bs p more = record {
  start =
      ap (λ (es : List Event). celled (Within Text) (es ++ end)) (pipe-opens bs p) ∙ piped-walk bs p more
      ∙ sym (shown (cell_inside unread_text));
  white =
      ap (λ (es : List Event). celled (Within Text) (es ++ end)) (pipe-white bs p)
      ∙ ap (λ (es : List Event). exit n.SpaceOrTab p ∷ es) (piped-walk bs p more)
      ∙ sym (shown (white_left (text_part unread_text)));
  text = λ escaped. of escaped;
  gap = λ h. let no : true ≡ false = sym (blank-pipe bs) ∙ h in cc;
}
  where
    cells : Cells
    cells = after_pipe bs (cells_of false bs)

    end : List Event
    end = row_end (124 ∷ bs) p

    shown : (left : List ℕ → Point → List Event) →
        (left (first_cell (cells_of false (124 ∷ bs))) p
        ++ following (cells_of false (124 ∷ bs)) (past_text (first_cell (cells_of false (124 ∷ bs))) p))
        ++ end ≡
        (left [] p ++ following cells p) ++ end
    shown left =
        ap (λ (c : Cells). (left (first_cell c) p ++ following c (past_text (first_cell c) p)) ++ end) (cells-pipe bs)
        ∙ ap (λ (x : List ℕ). (left x p ++ following cells (past_text x p)) ++ end)
        (first-following bs (cells_of false bs))

    of : (escaped : Bool) →
        celled (Inner Text) (row_runs (word escaped) (124 ∷ bs) p ++ end) ≡
        left_in_text (cells_of escaped (124 ∷ bs)) p ++ end
    of true =
        ap (λ (es : List Event). celled (Inner Text) (es ++ end)) (escaped-on 124 bs p refl) ∙ more.text false
        ∙ sym
        (ap (λ (c : Cells). left_in_text c p ++ end) (cells-escaped 124 bs)
        ∙ ap (λ (es : List Event). es ++ end) (text-on 124 (cells_of false bs) p refl))
    of false =
        ap (λ (es : List Event). celled (Inner Text) (es ++ end)) (pipe-text bs p)
        ∙ ap (λ (es : List Event). exit n.Data p ∷ exit n.GfmTableCellText p ∷ es) (piped-walk bs p more)
        ∙ sym (shown text_left)

word-walks : (b : ℕ) (bs : List ℕ) (p : Point) → is_white b ≡ false → nat_eq b 124 ≡ false →
    Walks bs (past_byte b p) → Walks (b ∷ bs) p
unfolding celled
word-walks b bs p e k more = record {
  start =
      ap (λ (es : List Event). celled (Within Text) (es ++ end)) (word-opens b bs p e k)
      ∙ ap (λ (es : List Event). enter n.GfmTableCellText p ∷ enter_link n.Data p text_link ∷ es) inside
      ∙ sym
      (ap (λ (c : Cells). cells_left c p ++ end) same
      ∙ ap (λ (es : List Event). es ++ end) (onto-by (cell_inside unread_text) b cells p)
      ∙ ap (λ (es : List Event). (es ++ after) ++ end) (text-first b (first_cell cells) p e));
  white =
      ap (λ (es : List Event). celled (Within Text) (es ++ end)) (white-word b bs p e k)
      ∙ ap
      (λ (es : List Event).
      exit n.SpaceOrTab p ∷ enter n.GfmTableCellText p ∷ enter_link n.Data p text_link ∷ es) inside
      ∙ sym
      (ap (λ (c : Cells). left_in_white c p ++ end) same
      ∙ ap (λ (es : List Event). es ++ end) (onto-by (white_left (text_part unread_text)) b cells p)
      ∙ ap (λ (es : List Event). (es ++ after) ++ end) (white-ends (text_part unread_text) b (first_cell cells) p e
      ∙ ap (λ (es : List Event). exit n.SpaceOrTab p ∷ es) (text-first b (first_cell cells) p e)));
  text = λ escaped. of escaped;
  gap = λ h. ap (λ (es : List Event). celled Gap (es ++ end)) (white-word b bs p e k) ∙ inside ∙ sym on;
}
  where
    cells : Cells
    cells = cells_of (nat_eq b 92) bs

    q : Point
    q = past_byte b p

    end : List Event
    end = row_end (b ∷ bs) p

    after : List Event
    after = following cells (past_text (first_cell cells) q)

    same : cells_of false (b ∷ bs) ≡ onto b cells
    same = cells-other b bs k

    inside : celled (Inner Text) (row_runs (word (nat_eq b 92)) bs q ++ end) ≡ left_in_text cells q ++ end
    inside = more.text (nat_eq b 92)

    on : left_in_text (cells_of false (b ∷ bs)) p ++ end ≡ left_in_text cells q ++ end
    on =
        ap (λ (c : Cells). left_in_text c p ++ end) same ∙ ap (λ (es : List Event). es ++ end) (text-on b cells p e)

    of : (escaped : Bool) →
        celled (Inner Text) (row_runs (word escaped) (b ∷ bs) p ++ end) ≡
        left_in_text (cells_of escaped (b ∷ bs)) p ++ end
    of true =
        ap (λ (es : List Event). celled (Inner Text) (es ++ end)) (escaped-on b bs p e) ∙ more.text false
        ∙ sym
        (ap (λ (c : Cells). left_in_text c p ++ end) (cells-escaped b bs)
        ∙ ap (λ (es : List Event). es ++ end) (text-on b (cells_of false bs) p e))
    of false = ap (λ (es : List Event). celled (Inner Text) (es ++ end)) (word-on b bs p e k) ∙ inside ∙ sym on

walks : (bs : List ℕ) (p : Point) → Walks bs p
walks [] p = none-walks p
walks (b ∷ bs) p = go (is_white b) refl (nat_eq b 124) refl (λ q. walks bs q)
  where
    go : (x : Bool) → is_white b ≡ x → (y : Bool) → nat_eq b 124 ≡ y → ((q : Point) → Walks bs q) → Walks (b ∷ bs) p
    go true e y k more = white-walks b bs p e (more (past_byte b p))
    go false e true k more =
        subst (λ (c : ℕ). Walks (c ∷ bs) p) (sym (eqb-true b 124 k)) (pipe-walks bs p (more (past_byte 124 p)))
    go false e false k more = word-walks b bs p e k (more (past_byte b p))

-- A whole row.

-- one that begins with no whitespace
row-starts : (line : List ℕ) (p : Point) → is_blank line ≡ false → begins is_white line ≡ false →
    celled (Front Text) (row_runs Apart line p ++ row_end line p) ≡
    cells_events unread_text (begins_with 124 line) (line_cells line) p ++ row_end line p
unfolding celled
row-starts [] p some dark = let no : true ≡ false = some in cc
row-starts (b ∷ bs) p some dark = go (nat_eq b 124) refl
  where
    end : List Event
    end = row_end (b ∷ bs) p

    wanted : Bool → List ℕ → List Event
    wanted piped left = cells_events unread_text piped (cells_of false left) p ++ end

    go : (y : Bool) → nat_eq b 124 ≡ y →
        celled (Front Text) (row_runs Apart (b ∷ bs) p ++ end) ≡
        wanted (nat_eq b 124) (cond (nat_eq b 124) bs (b ∷ bs))
    go true k =
        let q = past_byte 124 p in
        let same : b ≡ 124 = eqb-true b 124 k in
        let end_is : row_end (b ∷ bs) p ≡ row_end bs q = ap (λ (c : ℕ). row_end (c ∷ bs) p) same in
        ap (λ (c : ℕ). celled (Front Text) (row_runs Apart (c ∷ bs) p ++ row_end (c ∷ bs) p)) same
        ∙ ap (λ (es : List Event). celled (Front Text) (es ++ row_end bs q)) (pipe-opens bs p)
        ∙ ap
        (λ (es : List Event).
        enter n.GfmTableCell p ∷ enter n.GfmTableCellDivider p ∷ exit n.GfmTableCellDivider q ∷ es) (walks bs q).start
        ∙ sym
        (ap (λ (t : Bool). wanted t (cond t bs (b ∷ bs))) k
        ∙ ap₂ (λ (es fs : List Event). es ++ fs)
        (cells-begin n.GfmTableCell (text_part unread_text) true (cells_of false bs) p) end_is)
    go false k =
        let cells = cells_of (nat_eq b 92) bs in
        let first = enter_link n.Data p text_link in
        ap (λ (es : List Event). celled (Front Text) (es ++ end)) (word-opens b bs p dark k)
        ∙ ap
        (λ (es : List Event). enter n.GfmTableCell p ∷ enter n.GfmTableCellText p ∷ first ∷ es)
        ((walks bs (past_byte b p)).text (nat_eq b 92))
        ∙ sym
        (ap (λ (t : Bool). wanted t (cond t bs (b ∷ bs))) k
        ∙ ap (λ (c : Cells). cells_events unread_text false c p ++ end) (cells-other b bs k)
        ∙ ap (λ (es : List Event). es ++ end)
        (cells-begin n.GfmTableCell (text_part unread_text) false (onto b cells) p)
        ∙ ap (λ (es : List Event). enter n.GfmTableCell p ∷ es ++ end) (onto-by (cell_inside unread_text) b cells p)
        ∙ ap
        (λ (es : List Event).
        enter n.GfmTableCell p ∷ (es ++ following cells (past_text (first_cell cells) (past_byte b p))) ++ end)
        (text-first b (first_cell cells) p dark))

-- in the whitespace before it
abbrev front_left : List ℕ → Point → List Event
front_left line p =
    let q = past_text (white_front line) p in
    exit n.SpaceOrTab q ∷ cells_events unread_text (begins_with 124 (trim_start line)) (line_cells (trim_start line)) q

row-white : (line : List ℕ) (p : Point) → is_blank line ≡ false →
    celled (Front Text) (row_runs White line p ++ row_end line p) ≡ front_left line p ++ row_end line p
unfolding celled
row-white [] p some = let no : true ≡ false = some in cc
row-white (b ∷ bs) p some = go (is_white b) refl (λ h. row-white bs (past_byte b p) h)
  where
    end : List Event
    end = row_end (b ∷ bs) p

    by : List ℕ → List ℕ → List Event
    by w t =
        let q = past_text w p in
        exit n.SpaceOrTab q ∷ cells_events unread_text (begins_with 124 t) (line_cells t) q ++ end

    -- after a run of whitespace the next begins as at the begin of the line
    turns : is_white b ≡ false → row_runs White (b ∷ bs) p ≡ exit n.SpaceOrTab p ∷ row_runs Apart (b ∷ bs) p
    turns e = rw e refl

    go : (x : Bool) → is_white b ≡ x →
        (is_blank bs ≡ false →
        celled (Front Text) (row_runs White bs (past_byte b p) ++ end) ≡ front_left bs (past_byte b p) ++ end) →
        celled (Front Text) (row_runs White (b ∷ bs) p ++ end) ≡ front_left (b ∷ bs) p ++ end
    go true e more =
        ap (λ (es : List Event). celled (Front Text) (es ++ end)) (white-on b bs p e)
        ∙ more (sym (blank-first b bs e) ∙ some) ∙ sym (ap₂ by (front-one b bs e) (trim-white b bs e))
    go false e more =
        ap (λ (es : List Event). celled (Front Text) (es ++ end)) (turns e)
        ∙ ap (λ (es : List Event). exit n.SpaceOrTab p ∷ es) (row-starts (b ∷ bs) p some e)
        ∙ sym (ap₂ by (front-none b bs e) (start-none b bs e))

-- The walk gives for the runs of a row on a line that is not blank the row with its cells.
pub row-celled : (line : List ℕ) (p : Point) → is_blank line ≡ false →
    celled (Front Text) (row_runs Apart line p ++ exit n.GfmTableRow (past_text line p) ∷ []) ≡
    row_events unread_text line p ++ exit n.GfmTableRow (past_text line p) ∷ []
unfolding celled
row-celled [] p some = let no : true ≡ false = some in cc
row-celled (b ∷ bs) p some = go (is_white b) refl
  where
    end : List Event
    end = row_end (b ∷ bs) p

    by : List ℕ → List ℕ → List Event
    by w t =
        white_part w p ++ cells_events unread_text (begins_with 124 t) (line_cells t) (past_text w p) ++ end

    go : (x : Bool) → is_white b ≡ x →
        celled (Front Text) (row_runs Apart (b ∷ bs) p ++ end) ≡ row_events unread_text (b ∷ bs) p ++ end
    go true e =
        ap (λ (es : List Event). celled (Front Text) (es ++ end)) (white-opens b bs p e)
        ∙ ap (λ (es : List Event). enter n.SpaceOrTab p ∷ es)
        (row-white bs (past_byte b p) (sym (blank-first b bs e) ∙ some))
        ∙ sym (ap₂ by (front-one b bs e) (trim-white b bs e))
    go false e =
        row-starts (b ∷ bs) p some e ∙ sym (ap₂ by (front-none b bs e) (start-none b bs e))
