-- The bytes of cells of a line: a run from a point to a point.
use Rattle.std.proofs.Common.{◌≡◌, ℕ, zero, suc, ◌+◌, ◌<◌, ◌≤◌, Bool, true, false, nat_eq}
use Rattle.std.proofs.Common.{List, [], ◌∷◌, ◌++◌, length, drop, refl, sym, ap, ◌∙◌, subst, arith}
use Rattle.std.specs.Prelude.{◌||◌, nat_lt, slice_index}
use Rattle.std.proofs.lemmas.Bool.Decides.{nat_tests}
use Rattle.md_engine.specs.declared.event.Point.{Point}
use Rattle.md_engine.specs.Meaning.{Cell}
use Rattle.md_engine.specs.Place.{is_ending}
use Rattle.md_meaning.specs.Rest.{cut_tab}
use Rattle.md_meaning.proofs.TextsLemmas.{NoEnding}
use Rattle.md_events.specs.Ahead.{point_after}
use Rattle.md_events.specs.Events.Places.{past_byte, past_text}
use Rattle.md_events.proofs.FeedLines.{after_last, byte_cells, cell, columns_more, next_column, slice-front, spread}
use Rattle.md_events.proofs.FeedLines.{tab_cells, tab_end, tab_end-last, tab_end-next, tab_end-stop}
use Rattle.md_events.proofs.RestCells.{Cut, cells_by}
use Rattle.proof_content_laws.proofs.Defined.Along.{IsColumn, IsLast, IsPlain, IsStep, Kind, OfByte, OfColumn, OfLast}
use Rattle.proof_content_laws.proofs.Defined.Along.{Valid, Steps, column_byte, kind, no_line}
use Rattle.proof_content_laws.proofs.Defined.Form.{IsRun}
use Rattle.proof_frame.proofs.PieceFacts.{CutsFirst}

-- What begins a byte of the text.

pub drop-here : (index : ℕ) (bytes : List ℕ) → index < length bytes →
    drop index bytes ≡ slice_index bytes index ∷ drop (index + 1) bytes
drop-here zero [] lt = absurd (omega (arith, lt))
drop-here zero (b ∷ bytes) lt = refl
drop-here (suc index) [] lt = absurd (omega (arith, lt))
drop-here (suc index) (b ∷ bytes) lt =
    let next : suc index + 1 ≡ suc (index + 1) = omega arith in rw next (drop-here index bytes (omega (arith, lt)))

-- Cells of a line from a point to a point are what is left of a cut tab, if one is cut, and these bytes.
pub record RunOf (bytes : List ℕ) (p q : Point) (cells : List Cell) : Type 0 where
  pub spaces : ℕ
  pub text : List ℕ
  pub cells_are : cells ≡ cells_by no_line spaces text p
  pub cut : Cut spaces p
  pub no_ending : NoEnding text
  pub here : drop p.index bytes ≡ (cut_tab spaces ++ text) ++ drop q.index bytes
  pub size : q.index ≡ p.index + length (cut_tab spaces ++ text)
  pub end : q ≡ past_text (cut_tab spaces ++ text) p
  pub within : q.index ≤ length bytes
  pub whole : q.vs ≡ 0

-- none
run-none : (bytes : List ℕ) (p : Point) → Valid bytes p → p.vs ≡ 0 → RunOf bytes p p []
run-none bytes p valid whole = record {
  spaces = 0;
  text = [];
  cells_are = refl;
  cut = whole;
  no_ending = tt;
  here = refl;
  size = omega arith;
  end = refl;
  within = valid.within;
  whole = whole;
}

-- of bytes alone, where a byte begins
record Bytes (bytes : List ℕ) (p q : Point) (cells : List Cell) : Type 0 where
  text : List ℕ
  cells_are : cells ≡ spread no_line text p
  no_ending : NoEnding text
  here : drop p.index bytes ≡ text ++ drop q.index bytes
  size : q.index ≡ p.index + length text
  end : q ≡ past_text text p
  within : q.index ≤ length bytes
  whole : q.vs ≡ 0

bytes-only : (bytes : List ℕ) (p q : Point) (cells : List Cell) → p.vs ≡ 0 → RunOf bytes p q cells →
    Bytes bytes p q cells
bytes-only bytes p q cells whole run = go run.spaces run.cells_are run.cut run.here run.size run.end
  where
    go : (spaces : ℕ) → cells ≡ cells_by no_line spaces run.text p → Cut spaces p →
        drop p.index bytes ≡ (cut_tab spaces ++ run.text) ++ drop q.index bytes →
        q.index ≡ p.index + length (cut_tab spaces ++ run.text) → q ≡ past_text (cut_tab spaces ++ run.text) p →
        Bytes bytes p q cells
    go zero e cut here size end = record {
      text = run.text;
      cells_are = e;
      no_ending = run.no_ending;
      here = here;
      size = size;
      end = end;
      within = run.within;
      whole = run.whole;
    }
    go (suc n) e cut here size end = let within = cut.0 in absurd (omega (arith, within, whole))

-- a byte that is no tab before others
run-plain : (bytes : List ℕ) (p q : Point) (c : Cell) (cs : List Cell) → IsPlain bytes p c →
    is_ending (slice_index bytes p.index) ≡ false → p.index < length bytes →
    RunOf bytes c.after q cs → RunOf bytes p q (c ∷ cs)
run-plain bytes p q c cs is plain lt more =
    subst (λ (d : Cell). RunOf bytes p q (d ∷ cs)) (sym is.cell_is)
    (on
    (bytes-only bytes (past_byte is.byte p) q cs refl
    (subst (λ (d : Cell). RunOf bytes d.after q cs) is.cell_is more)))
  where
    b : ℕ
    b = is.byte

    on : Bytes bytes (past_byte b p) q cs → RunOf bytes p q (cell b (past_byte b p) no_line ∷ cs)
    on more = record {
      spaces = 0;
      text = b ∷ more.text;
      cells_are =
          let one : byte_cells no_line b p ≡ cell b (past_byte b p) no_line ∷ [] = rw is.other refl in
          ap (λ (l : List Cell). cell b (past_byte b p) no_line ∷ l) more.cells_are
          ∙ ap (λ (l : List Cell). l ++ spread no_line more.text (past_byte b p)) (sym one);
      cut = is.whole;
      no_ending = (ap is_ending (sym is.at) ∙ plain, more.no_ending);
      here =
          drop-here p.index bytes lt
          ∙ ap (λ (x : ℕ). x ∷ drop (p.index + 1) bytes) is.at ∙ ap (λ (l : List ℕ). b ∷ l) more.here;
      size = let size = more.size in omega (arith, size);
      end = more.end;
      within = more.within;
      whole = more.whole;
    }

-- the same place after a tab from a column further
past-column : (bytes : List ℕ) (p : Point) → 1 ≤ p.column → columns_more p ≡ suc (columns_more (next_column p)) →
    past_byte 9 (next_column p) ≡ past_byte 9 p
past-column bytes p one more =
    sym (tab_end-stop (next_column p) (omega arith))
    ∙ tab_end-next (columns_more (next_column p)) p
    ∙ ap (λ (n : ℕ). tab_end n p) (sym more) ∙ tab_end-stop p one

past-last : (p : Point) → 1 ≤ p.column → columns_more p ≡ 0 → after_last p ≡ past_byte 9 p
past-last p one none =
    tab_end-last p ∙ ap (λ (n : ℕ). tab_end n p) (sym none) ∙ tab_end-stop p one

-- a further column is a space
column-white : (p : Point) → 0 < p.vs → column_byte p ≡ 32
column-white p lt = let more : nat_lt 0 p.vs ≡ true = grind (arith, nat_tests) in rw more refl

-- a column of a tab before others
run-column : (bytes : List ℕ) (p q : Point) (c : Cell) (cs : List Cell) → Valid bytes p → IsColumn bytes p c →
    RunOf bytes c.after q cs → RunOf bytes p q (c ∷ cs)
run-column bytes p q c cs valid is more =
    subst (λ (d : Cell). RunOf bytes p q (d ∷ cs)) (sym is.cell_is)
    (on (subst (λ (d : Cell). RunOf bytes d.after q cs) is.cell_is more))
  where
    r : Point
    r = next_column p

    at : (run : RunOf bytes r q cs) → (n : ℕ) → run.spaces ≡ suc n → (vs : ℕ) → p.vs ≡ vs →
        cs ≡ cells_by no_line (suc n) run.text r → Cut (suc n) r →
        drop p.index bytes ≡ (9 ∷ run.text) ++ drop q.index bytes →
        q.index ≡ p.index + suc (length run.text) → q ≡ past_text run.text (past_byte 9 r) →
        RunOf bytes p q (cell (column_byte p) r no_line ∷ cs)
    at run n k zero vs e cut here size end =
        let byte : column_byte p ≡ 9 = rw vs refl in
        let columns : columns_more p ≡ suc n = let left = cut.1 in is.more ∙ ap suc (sym left) in
        let same : tab_end n r ≡ past_byte 9 p =
        tab_end-next n p ∙ ap (λ (m : ℕ). tab_end m p) (sym columns) ∙ tab_end-stop p valid.column in
        record {
          spaces = 0;
          text = 9 ∷ run.text;
          cells_are =
              ap (λ (x : ℕ). cell x r no_line ∷ cs) byte
              ∙ ap (λ (l : List Cell). cell 9 r no_line ∷ l) e
              ∙ ap (λ (x : Point). cell 9 r no_line ∷ tab_cells no_line n 32 r ++ spread no_line run.text x) same
              ∙ ap (λ (m : ℕ). tab_cells no_line m 9 p ++ spread no_line run.text (past_byte 9 p)) (sym columns);
          cut = vs;
          no_ending = (refl, run.no_ending);
          here = here;
          size = size;
          end = end ∙ ap (past_text run.text) (past-column bytes p valid.column is.more);
          within = run.within;
          whole = run.whole;
        }
    at run n k (suc m) vs e cut here size end =
        let byte : column_byte p ≡ 32 = column-white p (omega (arith, vs)) in
        let left = cut.1 in
        let more = is.more in
        record {
          spaces = suc (suc n);
          text = run.text;
          cells_are =
              ap (λ (x : ℕ). cell x r no_line ∷ cs) byte
              ∙ ap (λ (l : List Cell). cell 32 r no_line ∷ l) e
              ∙ ap (λ (x : Point). cell 32 r no_line ∷ tab_cells no_line n 32 r ++ spread no_line run.text x)
              (tab_end-next n p);
          cut = (omega (arith, vs), omega (arith, left, more));
          no_ending = run.no_ending;
          here = here;
          size = size;
          end = end ∙ ap (past_text run.text) (past-column bytes p valid.column is.more);
          within = run.within;
          whole = run.whole;
        }

    on : RunOf bytes r q cs → RunOf bytes p q (cell (column_byte p) r no_line ∷ cs)
    on run = go run.spaces refl run.cells_are run.cut run.here run.size run.end
      where
        go : (spaces : ℕ) → run.spaces ≡ spaces → cs ≡ cells_by no_line spaces run.text r → Cut spaces r →
            drop r.index bytes ≡ (cut_tab spaces ++ run.text) ++ drop q.index bytes →
            q.index ≡ r.index + length (cut_tab spaces ++ run.text) → q ≡ past_text (cut_tab spaces ++ run.text) r →
            RunOf bytes p q (cell (column_byte p) r no_line ∷ cs)
        go zero k e cut here size end = absurd (omega (arith, cut))
        go (suc n) k e cut here size end = at run n k p.vs refl e cut here size end

-- and the last
run-last : (bytes : List ℕ) (p q : Point) (c : Cell) (cs : List Cell) → Valid bytes p → IsLast bytes p c →
    p.index < length bytes → RunOf bytes c.after q cs → RunOf bytes p q (c ∷ cs)
run-last bytes p q c cs valid is lt more =
    subst (λ (d : Cell). RunOf bytes p q (d ∷ cs)) (sym is.cell_is)
    (on p.vs refl
    (bytes-only bytes (after_last p) q cs refl
    (subst (λ (d : Cell). RunOf bytes d.after q cs) is.cell_is more)))
  where
    r : Point
    r = after_last p

    same : r ≡ past_byte 9 p
    same = past-last p valid.column is.more

    all : (text : List ℕ) → drop r.index bytes ≡ text ++ drop q.index bytes →
        drop p.index bytes ≡ 9 ∷ text ++ drop q.index bytes
    all text here =
        drop-here p.index bytes lt ∙ ap (λ (x : ℕ). x ∷ drop (p.index + 1) bytes) is.tab
        ∙ ap (λ (l : List ℕ). 9 ∷ l) here

    on : (vs : ℕ) → p.vs ≡ vs → Bytes bytes r q cs → RunOf bytes p q (cell (column_byte p) r no_line ∷ cs)
    on zero vs run =
        let byte : column_byte p ≡ 9 = rw vs refl in
        let none = is.more in
        let size = run.size in
        record {
          spaces = 0;
          text = 9 ∷ run.text;
          cells_are =
              ap (λ (x : ℕ). cell x r no_line ∷ cs) byte
              ∙ ap (λ (l : List Cell). cell 9 r no_line ∷ l) run.cells_are
              ∙ ap (λ (x : Point). cell 9 r no_line ∷ spread no_line run.text x) same
              ∙ ap (λ (m : ℕ). tab_cells no_line m 9 p ++ spread no_line run.text (past_byte 9 p)) (sym none);
          cut = vs;
          no_ending = (refl, run.no_ending);
          here = all run.text run.here;
          size = omega (arith, size);
          end = run.end ∙ ap (past_text run.text) same;
          within = run.within;
          whole = run.whole;
        }
    on (suc m) vs run =
        let byte : column_byte p ≡ 32 = column-white p (omega (arith, vs)) in
        let none = is.more in
        let size = run.size in
        record {
          spaces = 1;
          text = run.text;
          cells_are =
              ap (λ (x : ℕ). cell x r no_line ∷ cs) byte
              ∙ ap (λ (l : List Cell). cell 32 r no_line ∷ l) run.cells_are
              ∙ ap (λ (x : Point). cell 32 r no_line ∷ spread no_line run.text x) (tab_end-last p);
          cut = (omega (arith, vs), sym none);
          no_ending = run.no_ending;
          here = all run.text run.here;
          size = omega (arith, size);
          end = run.end ∙ ap (past_text run.text) same;
          within = run.within;
          whole = run.whole;
        }

-- after a cell of a line
pub step-valid : (bytes : List ℕ) (p : Point) (c : Cell) → Valid bytes p → IsStep bytes p c → Valid bytes c.after
step-valid bytes p c valid is = go (kind bytes p c valid is)
  where
    go : Kind bytes p c → Valid bytes c.after
    go (OfByte k) =
        subst (λ (d : Cell). Valid bytes d.after) (sym k.cell_is)
        (record {
          column = omega arith;
          within = let lt = is.within in omega (arith, lt);
          tab = λ e. absurd (omega (arith, e));
        })
    go (OfColumn k) =
        subst (λ (d : Cell). Valid bytes d.after) (sym k.cell_is)
        (record { column = omega arith; within = valid.within; tab = λ e. k.tab })
    go (OfLast k) =
        subst (λ (d : Cell). Valid bytes d.after) (sym k.cell_is)
        (record {
          column = omega arith;
          within = let lt = is.within in omega (arith, lt);
          tab = λ e. absurd (omega (arith, e));
        })

-- and it stays on its line, and does not go back
pub step-line : (bytes : List ℕ) (p : Point) (c : Cell) → Valid bytes p → IsStep bytes p c →
    (c.after.line ≡ p.line) × (p.index ≤ c.after.index)
step-line bytes p c valid is = go (kind bytes p c valid is)
  where
    Is : Cell → Type 0
    Is d = (d.after.line ≡ p.line) × (p.index ≤ d.after.index)

    go : Kind bytes p c → Is c
    go (OfByte k) = subst Is (sym k.cell_is) (refl, omega arith)
    go (OfColumn k) = subst Is (sym k.cell_is) (refl, omega arith)
    go (OfLast k) = subst Is (sym k.cell_is) (refl, omega arith)

-- Cells of a line that end where a byte does are a run.
pub run-of : (bytes : List ℕ) (p : Point) (cells : List Cell) → Valid bytes p → Steps bytes p cells →
    (point_after cells p).vs ≡ 0 → RunOf bytes p (point_after cells p) cells
run-of bytes p [] valid is whole = run-none bytes p valid whole
run-of bytes p (c ∷ cs) valid is whole =
    go (kind bytes p c valid is.0) (run-of bytes c.after cs (step-valid bytes p c valid is.0) is.1 whole)
  where
    go : Kind bytes p c → RunOf bytes c.after (point_after cs c.after) cs →
        RunOf bytes p (point_after cs c.after) (c ∷ cs)
    go (OfByte k) more = run-plain bytes p (point_after cs c.after) c cs k is.0.plain is.0.within more
    go (OfColumn k) more = run-column bytes p (point_after cs c.after) c cs valid k more
    go (OfLast k) more = run-last bytes p (point_after cs c.after) c cs valid k is.0.within more

abbrev pub run_text : (bytes : List ℕ) (p q : Point) (cells : List Cell) → RunOf bytes p q cells → List ℕ
run_text bytes p q cells run = cut_tab run.spaces ++ run.text

-- as a form has it
pub is-run : (bytes : List ℕ) (p q : Point) (cells : List Cell) → Valid bytes p → (run : RunOf bytes p q cells) →
    IsRun bytes (run_text bytes p q cells run) p q
is-run bytes p q cells valid run = record {
  no_ending = none run.spaces;
  slice =
      slice-front bytes p.index q.index (cut_tab run.spaces ++ run.text) (drop q.index bytes) run.here run.size;
  size = run.size;
  within = run.within;
  end = run.end;
  column = valid.column;
  whole = run.whole;
  cut_first = first run.spaces run.cut run.text;
}
  where
    none : (n : ℕ) → NoEnding (cut_tab n ++ run.text)
    none zero = run.no_ending
    none (suc n) = (refl, run.no_ending)

    first : (n : ℕ) → Cut n p → (text : List ℕ) → CutsFirst p (cut_tab n ++ text)
    first zero cut [] = tt
    first zero cut (b ∷ bs) = rw cut refl
    first (suc n) cut text = or-true (nat_eq p.vs 0)
      where
        or-true : (x : Bool) → (x || true) ≡ true
        or-true true = refl
        or-true false = refl
