-- The runs of a delimiter row byte by byte, as the walk that puts cells into rows meets them.
use Rattle.std.proofs.Common.{◌≡◌, ℕ, Bool, true, false, cond, nat_eq, List, [], ◌∷◌, ◌++◌, drop, refl, sym, ◌∙◌, ap}
use Rattle.std.proofs.Common.{ap₂, append_assoc}
use Rattle.std.proofs.lemmas.Bool.{and_parts}
use Rattle.md_engine.specs.declared.event.Event.{Event}
use Rattle.md_engine.specs.declared.event.Name.TheVariants as n
use Rattle.md_engine.specs.declared.event.Point.{Point}
use Rattle.md_meaning.specs.Rest.{is_blank, is_white, trim_end, trim_start}
use Rattle.md_events.specs.Events.Nested.{enter, exit}
use Rattle.md_events.specs.Events.Places.{past_byte, past_text}
use Rattle.md_events.proofs.RestLines.{trim-white}
use Rattle.md_tables.specs.Cells.{ends_row, first_is, is_white as is_white_name, row_ends}
use Rattle.md_tables.specs.DelimiterCells.{delimiter_runs, value_part}
use Rattle.md_tables.specs.DelimiterRule.{Apart, Colon, Filler, Pipe, Run, Space, begun, closes, is_continued, opens}
use Rattle.md_tables.specs.RowCells.{Cells, after_pipe, cell_by, cells_of, onto, white_back, white_front, white_part}
use Rattle.md_tables.proofs.PipeWalk.{dark-looks, pipe_runs}
use Rattle.md_tables.proofs.RowCellLemmas.{following_first, dark-cell, first-following, first_cell}
use Rattle.md_tables.proofs.RowCellLemmas.{left_of, onto-left, white_left}
use Rattle.md_tables.proofs.WhiteEnds.{blank-first, dark-first, end-blank, end-more, front-none, front-one, start-none}

-- What a byte does in a run.

pub space-opens : (b : ℕ) (bs : List ℕ) (p : Point) → is_white b ≡ true →
    delimiter_runs Apart (b ∷ bs) p ≡ enter n.SpaceOrTab p ∷ delimiter_runs Space bs (past_byte b p)
space-opens b bs p e = rw e refl

pub space-on : (b : ℕ) (bs : List ℕ) (p : Point) → is_white b ≡ true →
    delimiter_runs Space (b ∷ bs) p ≡ delimiter_runs Space bs (past_byte b p)
space-on b bs p e = rw e refl

-- after whitespace the next run begins as between two
pub space-ends : (b : ℕ) (bs : List ℕ) (p : Point) → is_white b ≡ false →
    delimiter_runs Space (b ∷ bs) p ≡ exit n.SpaceOrTab p ∷ delimiter_runs Apart (b ∷ bs) p
space-ends b bs p e = rw e refl

-- whitespace alone is one run
pub space-alone : (bs : List ℕ) (p : Point) → is_blank bs ≡ true →
    delimiter_runs Space bs p ≡ exit n.SpaceOrTab (past_text bs p) ∷ []
space-alone [] p h = refl
space-alone (b ∷ bs) p h =
    let both = and_parts (is_white b) (is_blank bs) h in
    space-on b bs p both.0 ∙ space-alone bs (past_byte b p) both.1

pub blank-runs : (bs : List ℕ) (p : Point) → is_blank bs ≡ true → delimiter_runs Apart bs p ≡ white_part bs p
blank-runs [] p h = refl
blank-runs (b ∷ bs) p h =
    let both = and_parts (is_white b) (is_blank bs) h in
    space-opens b bs p both.0
    ∙ ap (λ (es : List Event). enter n.SpaceOrTab p ∷ es) (space-alone bs (past_byte b p) both.1)

-- and ends before what is none
pub space-front : (bs : List ℕ) (p : Point) →
    delimiter_runs Space bs p ≡
    exit n.SpaceOrTab (past_text (white_front bs) p)
    ∷ delimiter_runs Apart (trim_start bs) (past_text (white_front bs) p)
space-front [] p = refl
space-front (b ∷ bs) p = go (is_white b) refl (space-front bs (past_byte b p))
  where
    by : List ℕ → List ℕ → List Event
    by w t = exit n.SpaceOrTab (past_text w p) ∷ delimiter_runs Apart t (past_text w p)

    go : (x : Bool) → is_white b ≡ x →
        delimiter_runs Space bs (past_byte b p) ≡ by (b ∷ white_front bs) (trim_start bs) →
        delimiter_runs Space (b ∷ bs) p ≡ by (white_front (b ∷ bs)) (trim_start (b ∷ bs))
    go true e more = space-on b bs p e ∙ more ∙ sym (ap₂ by (front-one b bs e) (trim-white b bs e))
    go false e more = space-ends b bs p e ∙ sym (ap₂ by (front-none b bs e) (start-none b bs e))

-- the runs of a line are the whitespace before it, and those after that
pub front-runs : (line : List ℕ) (p : Point) →
    delimiter_runs Apart line p ≡
    white_part (white_front line) p ++ delimiter_runs Apart (trim_start line) (past_text (white_front line) p)
front-runs [] p = refl
front-runs (b ∷ bs) p = go (is_white b) refl
  where
    by : List ℕ → List ℕ → List Event
    by w t = white_part w p ++ delimiter_runs Apart t (past_text w p)

    go : (x : Bool) → is_white b ≡ x → delimiter_runs Apart (b ∷ bs) p ≡ by (white_front (b ∷ bs)) (trim_start (b ∷ bs))
    go true e =
        space-opens b bs p e ∙ ap (λ (es : List Event). enter n.SpaceOrTab p ∷ es) (space-front bs (past_byte b p))
        ∙ sym (ap₂ by (front-one b bs e) (trim-white b bs e))
    go false e = sym (ap₂ by (front-none b bs e) (start-none b bs e))

-- the runs that a pipe begins
abbrev pub piped : List ℕ → Point → List Event
piped bs p = pipe_runs (delimiter_runs Apart bs (past_byte 124 p)) p

pub pipe-alone : (bs : List ℕ) (p : Point) →
    delimiter_runs Pipe bs p ≡ exit n.GfmTableCellDivider p ∷ delimiter_runs Apart bs p
pipe-alone [] p = refl
pipe-alone (b ∷ bs) p = refl

pub pipe-opens : (bs : List ℕ) (p : Point) → delimiter_runs Apart (124 ∷ bs) p ≡ piped bs p
pipe-opens bs p = ap (λ (es : List Event). enter n.GfmTableCellDivider p ∷ es) (pipe-alone bs (past_byte 124 p))

-- a run of a cell ends before one
pub value-pipe : (run : Run) (bs : List ℕ) (p : Point) → is_continued run 124 ≡ false →
    delimiter_runs run (124 ∷ bs) p ≡ closes run p ++ piped bs p
value-pipe run bs p e =
    rw e
    (append_assoc (closes run p) (enter n.GfmTableCellDivider p ∷ []) (delimiter_runs Pipe bs (past_byte 124 p))
    ∙ ap (λ (es : List Event). closes run p ++ es) (pipe-opens bs p))

-- What a cell holds.

-- what is left of it in a run, and after it
abbrev pub value_left : Run → List ℕ → Point → List Event
value_left run x p =
    let q = past_text (trim_end x) p in
    delimiter_runs run (trim_end x) p ++ exit n.GfmTableDelimiterCellValue q ∷ white_part (white_back x) q

pub value-first : (b : ℕ) (x : List ℕ) (p : Point) → is_white b ≡ false →
    cell_by value_part (b ∷ x) p ≡
    enter n.GfmTableDelimiterCellValue p ∷ opens (begun b) p ++ value_left (begun b) x (past_byte b p)
value-first b x p dark = dark-cell value_part b x p dark ∙ simp append_assoc refl

pub value-more : (run : Run) (b : ℕ) (x : List ℕ) (p : Point) → is_white b ≡ false → is_continued run b ≡ true →
    value_left run (b ∷ x) p ≡ value_left run x (past_byte b p)
value-more run b x p dark on =
    let e = end-more b x (dark-first b x dark) in
    ap₂
    (λ (t w : List ℕ).
    delimiter_runs run t p ++ exit n.GfmTableDelimiterCellValue (past_text t p) ∷ white_part w (past_text t p)) e.0 e.1
    ∙ ap
    (λ (t : Bool).
    let q = past_text (trim_end x) (past_byte b p) in
    cond t (delimiter_runs run (trim_end x) (past_byte b p))
    (closes run p ++ opens (begun b) p ++ delimiter_runs (begun b) (trim_end x) (past_byte b p))
    ++ exit n.GfmTableDelimiterCellValue q ∷ white_part (white_back x) q) on

pub value-turns : (run : Run) (b : ℕ) (x : List ℕ) (p : Point) → is_white b ≡ false → is_continued run b ≡ false →
    value_left run (b ∷ x) p ≡ (closes run p ++ opens (begun b) p) ++ value_left (begun b) x (past_byte b p)
value-turns run b x p dark on =
    let e = end-more b x (dark-first b x dark) in
    let q = past_text (trim_end x) (past_byte b p) in
    ap₂
    (λ (t w : List ℕ).
    delimiter_runs run t p ++ exit n.GfmTableDelimiterCellValue (past_text t p) ∷ white_part w (past_text t p)) e.0 e.1
    ∙ ap
    (λ (t : Bool).
    cond t (delimiter_runs run (trim_end x) (past_byte b p))
    (closes run p ++ opens (begun b) p ++ delimiter_runs (begun b) (trim_end x) (past_byte b p))
    ++ exit n.GfmTableDelimiterCellValue q ∷ white_part (white_back x) q) on
    ∙ append_assoc (closes run p ++ opens (begun b) p) (delimiter_runs (begun b) (trim_end x) (past_byte b p))
    (exit n.GfmTableDelimiterCellValue q ∷ white_part (white_back x) q)

pub value-ends : (run : Run) (x : List ℕ) (p : Point) → is_blank x ≡ true →
    value_left run x p ≡ closes run p ++ exit n.GfmTableDelimiterCellValue p ∷ white_part x p
value-ends run x p h =
    let e = end-blank x h in
    ap₂
    (λ (t w : List ℕ).
    delimiter_runs run t p ++ exit n.GfmTableDelimiterCellValue (past_text t p) ∷ white_part w (past_text t p)) e.0 e.1

-- What is left of cells: where the first begins, in the whitespace before what it holds, and in a run of that.

abbrev pub following : Cells → Point → List Event
following cells p = following_first n.GfmTableDelimiterCell value_part cells p

abbrev pub left_by : (List ℕ → Point → List Event) → Cells → Point → List Event
left_by left cells p = left_of n.GfmTableDelimiterCell value_part left cells p

abbrev pub cells_left : Cells → Point → List Event
cells_left cells p = left_by (cell_by value_part) cells p

abbrev pub left_in_space : Cells → Point → List Event
left_in_space cells p = left_by (white_left value_part) cells p

abbrev pub left_in_value : Run → Cells → Point → List Event
left_in_value run cells p = left_by (value_left run) cells p

-- a byte in front
pub onto-by : (left : List ℕ → Point → List Event) (b : ℕ) (cells : Cells) (p : Point) (es : List Event) →
    left (b ∷ first_cell cells) p ≡ es →
    left_by left (onto b cells) p ≡ es ++ following cells (past_text (first_cell cells) (past_byte b p))
onto-by left b cells p es e =
    onto-left n.GfmTableDelimiterCell value_part left b cells p
    ∙ ap (λ (xs : List Event). xs ++ following cells (past_text (first_cell cells) (past_byte b p))) e

-- and a pipe
pub pipe-by : (left : List ℕ → Point → List Event) (bs : List ℕ) (p : Point) →
    left_by left (after_pipe bs (cells_of false bs)) p ≡ left [] p ++ following (after_pipe bs (cells_of false bs)) p
pipe-by left bs p =
    ap (λ (x : List ℕ). left x p ++ following (after_pipe bs (cells_of false bs)) (past_text x p))
    (first-following bs (cells_of false bs))

-- Looks ahead.

-- the end of the row
abbrev pub row_end : List ℕ → Point → List Event
row_end bs p = exit n.GfmTableDelimiterRow (past_text bs p) ∷ []

-- what begins there is no whitespace, and not the end of the row
pub record Begun (es : List Event) : Type 0 where
  pub first : Event
  pub after : List Event
  pub is : es ≡ first ∷ after
  pub no_row : ends_row first ≡ false
  pub no_white : is_white_name first.name ≡ false

pub run-begun : (b : ℕ) (bs : List ℕ) (p : Point) → is_white b ≡ false →
    Begun (delimiter_runs Apart (b ∷ bs) p ++ row_end (b ∷ bs) p)
run-begun b bs p e = go (nat_eq b 124) refl (nat_eq b 58) refl
  where
    go : (x : Bool) → nat_eq b 124 ≡ x → (y : Bool) → nat_eq b 58 ≡ y →
        Begun (delimiter_runs Apart (b ∷ bs) p ++ row_end (b ∷ bs) p)
    go true k y m = record {
      first = enter n.GfmTableCellDivider p;
      after = delimiter_runs Pipe bs (past_byte b p) ++ row_end (b ∷ bs) p;
      is = rw (e, k) refl;
      no_row = refl;
      no_white = refl;
    }
    go false k true m = record {
      first = enter n.GfmTableDelimiterMarker p;
      after = delimiter_runs Colon bs (past_byte b p) ++ row_end (b ∷ bs) p;
      is = rw (e, k, m) refl;
      no_row = refl;
      no_white = refl;
    }
    go false k false m = record {
      first = enter n.GfmTableDelimiterFiller p;
      after = delimiter_runs Filler bs (past_byte b p) ++ row_end (b ∷ bs) p;
      is = rw (e, k, m) refl;
      no_row = refl;
      no_white = refl;
    }

-- whitespace that continues: where it ends, and whether the row ends after it
pub record SpaceRun (bs : List ℕ) (p : Point) : Type 0 where
  pub at : Point
  pub after : List Event
  pub is : delimiter_runs Space bs p ++ row_end bs p ≡ exit n.SpaceOrTab at ∷ after
  pub ends : first_is ends_row after ≡ is_blank bs

pub space-run : (bs : List ℕ) (p : Point) → SpaceRun bs p
space-run [] p = record { at = p; after = row_end [] p; is = refl; ends = refl }
space-run (b ∷ bs) p = go (is_white b) refl (space-run bs (past_byte b p))
  where
    go : (x : Bool) → is_white b ≡ x → SpaceRun bs (past_byte b p) → SpaceRun (b ∷ bs) p
    go true e more = record {
      at = more.at;
      after = more.after;
      is = ap (λ (es : List Event). es ++ row_end (b ∷ bs) p) (space-on b bs p e) ∙ more.is;
      ends = more.ends ∙ sym (blank-first b bs e);
    }
    go false e more =
        let next = run-begun b bs p e in
        record {
          at = p;
          after = delimiter_runs Apart (b ∷ bs) p ++ row_end (b ∷ bs) p;
          is = ap (λ (es : List Event). es ++ row_end (b ∷ bs) p) (space-ends b bs p e);
          ends = ap (first_is ends_row) next.is ∙ next.no_row ∙ sym (dark-first b bs e);
        }

-- a pipe is the last where whitespace alone is after it
pub last-pipe : (bs : List ℕ) (p : Point) → row_ends (delimiter_runs Apart bs p ++ row_end bs p) ≡ is_blank bs
last-pipe [] p = refl
last-pipe (b ∷ bs) p = go (is_white b) refl
  where
    go : (x : Bool) → is_white b ≡ x →
        row_ends (delimiter_runs Apart (b ∷ bs) p ++ row_end (b ∷ bs) p) ≡ is_blank (b ∷ bs)
    go true e =
        let run = space-run bs (past_byte b p) in
        ap (λ (es : List Event). row_ends (es ++ row_end (b ∷ bs) p)) (space-opens b bs p e)
        ∙ ap (λ (es : List Event). row_ends (enter n.SpaceOrTab p ∷ es)) run.is
        ∙ run.ends ∙ sym (blank-first b bs e)
    go false e =
        let next = run-begun b bs p e in
        ap row_ends next.is
        ∙ ap (λ (t : Bool). first_is ends_row (cond t (drop 2 (next.first ∷ next.after)) (next.first ∷ next.after)))
        (dark-looks next.first next.after next.no_white)
        ∙ next.no_row ∙ sym (dark-first b bs e)
