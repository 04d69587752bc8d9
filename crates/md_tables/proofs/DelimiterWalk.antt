-- The walk that puts cells into rows gives for the runs of a delimiter row its cells, by the bytes of its line.
use Rattle.std.proofs.Common.{◌≡◌, ℕ, Bool, true, false, cond, nat_eq, List, [], ◌∷◌, ◌++◌, refl, sym, ◌∙◌, ap}
use Rattle.std.proofs.Common.{append_assoc, subst}
use Rattle.std.proofs.lemmas.Bool.{eqb-true}
use Rattle.md_engine.specs.declared.event.Event.{Event}
use Rattle.md_engine.specs.declared.event.Name.TheVariants as n
use Rattle.md_engine.specs.declared.event.Point.{Point}
use Rattle.md_engine.specs.declared.tokenizer.Scratch.{Scratch}
use Rattle.md_meaning.specs.Lines.{begins_with}
use Rattle.md_meaning.specs.Rest.{is_blank, is_white, trim_start}
use Rattle.md_events.specs.Events.Nested.{enter, exit}
use Rattle.md_events.specs.Events.Places.{past_byte, past_text}
use Rattle.md_events.proofs.InlineLemmas.{past_text-append}
use Rattle.md_tables.specs.Cells.{celled}
use Rattle.md_tables.specs.Delimiter.{Aligns, Dash, Divides as Pipes, Mark, Other, Stops, White, mark_of}
use Rattle.md_tables.specs.DelimiterCells.{delimiter_events, delimiter_runs, value_part}
use Rattle.md_tables.specs.DelimiterRule.{Apart, Following as AfterCell, Colon, Dashes, Filler, Front as FrontOfRow}
use Rattle.md_tables.specs.DelimiterRule.{Left, Open, Place, Run, Space, begun, closes, counted, fits, is_continued}
use Rattle.md_tables.specs.DelimiterRule.{led, met, move, opens}
use Rattle.md_tables.specs.RowCells.{Cells, after_pipe, cell_by, cells_by, cells_of, line_cells}
use Rattle.md_tables.specs.RowCells.{white_front, white_part}
use Rattle.md_tables.specs.declared.cells.RowKind.TheVariants.{Delimiter}
use Rattle.md_tables.specs.declared.cells.Stage.TheVariants.{Following, Front, Inner, Within}
use Rattle.md_tables.proofs.DelimiterLemmas.{Recorded, recorded}
use Rattle.md_tables.proofs.PipeWalk.{pipe-walk, white-following}
use Rattle.md_tables.proofs.RowBytes.{front-whole}
use Rattle.md_tables.proofs.DelimiterColumns.{colon-slash, dash-slash}
use Rattle.md_tables.proofs.RowCellLemmas.{cells-none, cells-pipe, cells-plain, cells-begin, first-following}
use Rattle.md_tables.proofs.RowCellLemmas.{first-onto, first_cell, white-blank, white-ends, white-first, white-more}
use Rattle.md_tables.proofs.RowCellLemmas.{white_left}
use Rattle.md_tables.proofs.WhiteEnds.{blank-first}
use Rattle.md_tables.proofs.DelimiterRuns.{space-opens, space-on, space-ends, blank-runs, piped, pipe-opens, value-pipe}
use Rattle.md_tables.proofs.DelimiterRuns.{value_left, value-first, value-more, value-turns, value-ends, following}
use Rattle.md_tables.proofs.DelimiterRuns.{cells_left, left_in_space, left_in_value, onto-by, pipe-by, row_end}
use Rattle.md_tables.proofs.DelimiterRuns.{last-pipe}
use Rattle.md_leaves.proofs.BreakLemmas.{white-apart}

-- The walk.

-- where a cell begins, or in the whitespace before it
record AtCell (bs : List ℕ) (p : Point) : Type 0 where
  pub start : celled (Within Delimiter) (delimiter_runs Apart bs p ++ row_end bs p) ≡
      cells_left (cells_of false bs) p ++ row_end bs p
  pub space : celled (Within Delimiter) (delimiter_runs Space bs p ++ row_end bs p) ≡
      left_in_space (cells_of false bs) p ++ row_end bs p

-- in a run of what it holds
abbrev InRun : Run → List ℕ → Point → Type 0
InRun run bs p =
    celled (Inner Delimiter) (delimiter_runs run bs p ++ row_end bs p) ≡
    left_in_value run (cells_of false bs) p ++ row_end bs p

-- after that
record AfterValue (bs : List ℕ) (p : Point) : Type 0 where
  pub blank : is_blank (first_cell (cells_of false bs)) ≡ true
  pub run : InRun Colon bs p
  pub space : celled (Within Delimiter) (delimiter_runs Space bs p ++ row_end bs p) ≡
      left_in_space (cells_of false bs) p ++ row_end bs p

-- what the walk gives at each place
abbrev WalksAt : Place → List ℕ → Point → Type 0
WalksAt FrontOfRow bs p = Unit {0}
WalksAt Open bs p = AtCell bs p
WalksAt Left bs p = InRun Colon bs p
WalksAt Dashes bs p = InRun Filler bs p
WalksAt AfterCell bs p = AfterValue bs p

piped-walk : (bs : List ℕ) (p : Point) → AtCell bs (past_byte 124 p) →
    celled (Within Delimiter) (piped bs p ++ row_end (124 ∷ bs) p) ≡
    following (after_pipe bs (cells_of false bs)) p ++ row_end (124 ∷ bs) p
unfolding celled
piped-walk bs p walks =
    pipe-walk Delimiter value_part bs (cells_of false bs) p (delimiter_runs Apart bs q ++ row_end bs q) (row_end bs q)
    (last-pipe bs q)
    (λ h.
    ap (λ (es : List Event). celled Following (es ++ row_end bs q)) (blank-runs bs q h)
    ∙ white-following bs q (row_end bs q) refl)
    walks.start
  where
    q : Point
    q = past_byte 124 p

-- what a run of a cell is: a colon, or dashes
data IsValue : Run → Type 0 where
  IsColon : IsValue Colon
  IsFiller : IsValue Filler

-- it ends with the row,
run-none : (run : Run) (p : Point) → IsValue run → InRun run [] p
unfolding celled
run-none _ p IsColon = sym (ap (λ (c : Cells). left_in_value Colon c p ++ row_end [] p) (cells-none false))
run-none _ p IsFiller = sym (ap (λ (c : Cells). left_in_value Filler c p ++ row_end [] p) (cells-none false))

-- before a pipe,
run-pipe : (run : Run) (bs : List ℕ) (p : Point) → IsValue run → AtCell bs (past_byte 124 p) → InRun run (124 ∷ bs) p
unfolding celled
run-pipe run bs p is walks = go run is
  where
    end : List Event
    end = row_end (124 ∷ bs) p

    wanted : (run : Run) → left_in_value run (cells_of false (124 ∷ bs)) p ++ end ≡
        (value_left run [] p ++ following (after_pipe bs (cells_of false bs)) p) ++ end
    wanted run =
        ap (λ (c : Cells). left_in_value run c p ++ end) (cells-pipe bs)
        ∙ ap (λ (es : List Event). es ++ end) (pipe-by (value_left run) bs p)

    go : (run : Run) → IsValue run → InRun run (124 ∷ bs) p
    go _ IsColon =
        ap (λ (es : List Event). celled (Inner Delimiter) (es ++ end)) (value-pipe Colon bs p refl)
        ∙ ap
        (λ (es : List Event). exit n.GfmTableDelimiterMarker p ∷ exit n.GfmTableDelimiterCellValue p ∷ es)
        (piped-walk bs p walks) ∙ sym (wanted Colon)
    go _ IsFiller =
        ap (λ (es : List Event). celled (Inner Delimiter) (es ++ end)) (value-pipe Filler bs p refl)
        ∙ ap
        (λ (es : List Event). exit n.GfmTableDelimiterFiller p ∷ exit n.GfmTableDelimiterCellValue p ∷ es)
        (piped-walk bs p walks) ∙ sym (wanted Filler)

-- before whitespace, after which nothing else is in the cell,
run-space : (run : Run) (b : ℕ) (bs : List ℕ) (p : Point) → IsValue run → Recorded b White →
    AfterValue bs (past_byte b p) → InRun run (b ∷ bs) p
unfolding celled
run-space run b bs p is t more = go run is
  where
    cells : Cells
    cells = cells_of false bs

    q : Point
    q = past_byte b p

    end : List Event
    end = row_end (b ∷ bs) p

    after : List Event
    after = following cells (past_text (first_cell cells) q)

    wanted : (run : Run) → left_in_value run (cells_of false (b ∷ bs)) p ++ end ≡
        ((closes run p ++ exit n.GfmTableDelimiterCellValue p ∷ white_part (b ∷ first_cell cells) p) ++ after) ++ end
    wanted run =
        ap (λ (c : Cells). left_in_value run c p ++ end) (cells-plain b bs t.pipe (white-apart b 92 t.white refl))
        ∙ ap (λ (es : List Event). es ++ end)
        (onto-by (value_left run) b cells p _
        (value-ends run (b ∷ first_cell cells) p (blank-first b (first_cell cells) t.white ∙ more.blank)))

    rest : celled (Within Delimiter) (delimiter_runs Space bs q ++ end) ≡
        exit n.SpaceOrTab (past_text (first_cell cells) q) ∷ after ++ end
    rest =
        more.space
        ∙ ap (λ (es : List Event). (es ++ after) ++ end)
        (white-blank value_part (λ r. refl) (first_cell cells) q more.blank)

    go : (run : Run) → IsValue run → InRun run (b ∷ bs) p
    go _ IsColon =
        let turns : delimiter_runs Colon (b ∷ bs) p ≡
        exit n.GfmTableDelimiterMarker p ∷ enter n.SpaceOrTab p ∷ delimiter_runs Space bs q = rw t.white refl in
        ap (λ (es : List Event). celled (Inner Delimiter) (es ++ end)) turns
        ∙ ap
        (λ (es : List Event).
        exit n.GfmTableDelimiterMarker p ∷ exit n.GfmTableDelimiterCellValue p ∷ enter n.SpaceOrTab p ∷ es) rest
        ∙ sym (wanted Colon)
    go _ IsFiller =
        let turns : delimiter_runs Filler (b ∷ bs) p ≡
        exit n.GfmTableDelimiterFiller p ∷ enter n.SpaceOrTab p ∷ delimiter_runs Space bs q =
        rw (t.white, t.dash) refl in
        ap (λ (es : List Event). celled (Inner Delimiter) (es ++ end)) turns
        ∙ ap
        (λ (es : List Event).
        exit n.GfmTableDelimiterFiller p ∷ exit n.GfmTableDelimiterCellValue p ∷ enter n.SpaceOrTab p ∷ es) rest
        ∙ sym (wanted Filler)

-- or before another,
run-turns : (run into : Run) (b : ℕ) (bs : List ℕ) (p : Point) → IsValue run → IsValue into → is_white b ≡ false →
    nat_eq b 124 ≡ false → nat_eq b 92 ≡ false → is_continued run b ≡ false → begun b ≡ into →
    InRun into bs (past_byte b p) → InRun run (b ∷ bs) p
unfolding celled
run-turns run into b bs p is at dark pipe slash off same more = go run into is at off same more
  where
    cells : Cells
    cells = cells_of false bs

    q : Point
    q = past_byte b p

    end : List Event
    end = row_end (b ∷ bs) p

    after : List Event
    after = following cells (past_text (first_cell cells) q)

    wanted : (run into : Run) → is_continued run b ≡ false → begun b ≡ into →
        left_in_value run (cells_of false (b ∷ bs)) p ++ end ≡
        (((closes run p ++ opens into p) ++ value_left into (first_cell cells) q) ++ after) ++ end
    wanted run into off same =
        ap (λ (c : Cells). left_in_value run c p ++ end) (cells-plain b bs pipe slash)
        ∙ ap (λ (es : List Event). es ++ end)
        (onto-by (value_left run) b cells p _
        (value-turns run b (first_cell cells) p dark off
        ∙ ap (λ (r : Run). (closes run p ++ opens r p) ++ value_left r (first_cell cells) q) same))

    turns : (run into : Run) → is_continued run b ≡ false → begun b ≡ into →
        delimiter_runs run (b ∷ bs) p ≡ closes run p ++ opens into p ++ delimiter_runs into bs q
    turns run into off same =
        ap
        (λ (t : Bool).
        cond t (delimiter_runs run bs q) (closes run p ++ opens (begun b) p ++ delimiter_runs (begun b) bs q)) off
        ∙ ap (λ (r : Run). closes run p ++ opens r p ++ delimiter_runs r bs q) same

    go : (run into : Run) → IsValue run → IsValue into → is_continued run b ≡ false → begun b ≡ into → InRun into bs q →
        InRun run (b ∷ bs) p
    go _ _ IsColon IsColon off same more =
        ap (λ (es : List Event). celled (Inner Delimiter) (es ++ end)) (turns Colon Colon off same)
        ∙ ap (λ (es : List Event). exit n.GfmTableDelimiterMarker p ∷ enter n.GfmTableDelimiterMarker p ∷ es) more
        ∙ sym (wanted Colon Colon off same)
    go _ _ IsColon IsFiller off same more =
        ap (λ (es : List Event). celled (Inner Delimiter) (es ++ end)) (turns Colon Filler off same)
        ∙ ap (λ (es : List Event). exit n.GfmTableDelimiterMarker p ∷ enter n.GfmTableDelimiterFiller p ∷ es) more
        ∙ sym (wanted Colon Filler off same)
    go _ _ IsFiller IsColon off same more =
        ap (λ (es : List Event). celled (Inner Delimiter) (es ++ end)) (turns Filler Colon off same)
        ∙ ap (λ (es : List Event). exit n.GfmTableDelimiterFiller p ∷ enter n.GfmTableDelimiterMarker p ∷ es) more
        ∙ sym (wanted Filler Colon off same)
    go _ _ IsFiller IsFiller off same more =
        ap (λ (es : List Event). celled (Inner Delimiter) (es ++ end)) (turns Filler Filler off same)
        ∙ ap (λ (es : List Event). exit n.GfmTableDelimiterFiller p ∷ enter n.GfmTableDelimiterFiller p ∷ es) more
        ∙ sym (wanted Filler Filler off same)

-- or it continues
run-more : (b : ℕ) (bs : List ℕ) (p : Point) → is_white b ≡ false → nat_eq b 124 ≡ false → nat_eq b 92 ≡ false →
    nat_eq b 45 ≡ true → InRun Filler bs (past_byte b p) → InRun Filler (b ∷ bs) p
run-more b bs p dark pipe slash on more =
    ap (λ (es : List Event). celled (Inner Delimiter) (es ++ row_end (b ∷ bs) p)) proceeds ∙ more
    ∙ sym
    (ap (λ (c : Cells). left_in_value Filler c p ++ row_end (b ∷ bs) p) (cells-plain b bs pipe slash)
    ∙ ap (λ (es : List Event). es ++ row_end (b ∷ bs) p)
    (onto-by (value_left Filler) b (cells_of false bs) p _
    (value-more Filler b (first_cell (cells_of false bs)) p dark on)))
  where
    proceeds : delimiter_runs Filler (b ∷ bs) p ≡ delimiter_runs Filler bs (past_byte b p)
    proceeds = rw on refl

-- A cell begins with one,
cell-value : (into : Run) (b : ℕ) (bs : List ℕ) (p : Point) → IsValue into → is_white b ≡ false →
    nat_eq b 124 ≡ false → nat_eq b 92 ≡ false → begun b ≡ into → InRun into bs (past_byte b p) → AtCell (b ∷ bs) p
unfolding celled
cell-value into b bs p at dark pipe slash same more = record {
  start = starts;
  space =
      ap (λ (es : List Event). celled (Within Delimiter) (es ++ end)) (space-ends b bs p dark)
      ∙ ap (λ (es : List Event). exit n.SpaceOrTab p ∷ es) starts
      ∙ sym
      (ap (λ (c : Cells). left_in_space c p ++ end) (cells-plain b bs pipe slash)
      ∙ ap (λ (es : List Event). es ++ end)
      (onto-by (white_left value_part) b cells p _ (white-ends value_part b (first_cell cells) p dark))
      ∙ sym
      (ap (λ (es : List Event). exit n.SpaceOrTab p ∷ es ++ end)
      (ap (λ (c : Cells). cells_left c p) (cells-plain b bs pipe slash)
      ∙ onto-by (cell_by value_part) b cells p _ refl)));
}
  where
    cells : Cells
    cells = cells_of false bs

    q : Point
    q = past_byte b p

    end : List Event
    end = row_end (b ∷ bs) p

    after : List Event
    after = following cells (past_text (first_cell cells) q)

    wanted : (into : Run) → begun b ≡ into →
        cells_left (cells_of false (b ∷ bs)) p ++ end ≡
        ((enter n.GfmTableDelimiterCellValue p ∷ opens into p ++ value_left into (first_cell cells) q) ++ after) ++ end
    wanted into same =
        ap (λ (c : Cells). cells_left c p ++ end) (cells-plain b bs pipe slash)
        ∙ ap (λ (es : List Event). es ++ end)
        (onto-by (cell_by value_part) b cells p _
        (value-first b (first_cell cells) p dark
        ∙ ap
        (λ (r : Run). enter n.GfmTableDelimiterCellValue p ∷ opens r p ++ value_left r (first_cell cells) q) same))

    turns : (into : Run) → begun b ≡ into → delimiter_runs Apart (b ∷ bs) p ≡ opens into p ++ delimiter_runs into bs q
    turns into same = ap (λ (r : Run). opens r p ++ delimiter_runs r bs q) same

    go : (into : Run) → IsValue into → begun b ≡ into → InRun into bs q →
        celled (Within Delimiter) (delimiter_runs Apart (b ∷ bs) p ++ end) ≡
        cells_left (cells_of false (b ∷ bs)) p ++ end
    go _ IsColon same more =
        ap (λ (es : List Event). celled (Within Delimiter) (es ++ end)) (turns Colon same)
        ∙ ap
        (λ (es : List Event). enter n.GfmTableDelimiterCellValue p ∷ enter n.GfmTableDelimiterMarker p ∷ es) more
        ∙ sym (wanted Colon same)
    go _ IsFiller same more =
        ap (λ (es : List Event). celled (Within Delimiter) (es ++ end)) (turns Filler same)
        ∙ ap
        (λ (es : List Event). enter n.GfmTableDelimiterCellValue p ∷ enter n.GfmTableDelimiterFiller p ∷ es) more
        ∙ sym (wanted Filler same)

    starts : celled (Within Delimiter) (delimiter_runs Apart (b ∷ bs) p ++ end) ≡
        cells_left (cells_of false (b ∷ bs)) p ++ end
    starts = go into at same more

-- or with whitespace,
space-more : (b : ℕ) (bs : List ℕ) (p : Point) → Recorded b White →
    celled (Within Delimiter) (delimiter_runs Space bs (past_byte b p) ++ row_end (b ∷ bs) p) ≡
    left_in_space (cells_of false bs) (past_byte b p) ++ row_end (b ∷ bs) p →
    celled (Within Delimiter) (delimiter_runs Space (b ∷ bs) p ++ row_end (b ∷ bs) p) ≡
    left_in_space (cells_of false (b ∷ bs)) p ++ row_end (b ∷ bs) p
space-more b bs p t more =
    ap (λ (es : List Event). celled (Within Delimiter) (es ++ row_end (b ∷ bs) p)) (space-on b bs p t.white) ∙ more
    ∙ sym
    (ap (λ (c : Cells). left_in_space c p ++ row_end (b ∷ bs) p)
    (cells-plain b bs t.pipe (white-apart b 92 t.white refl))
    ∙ ap (λ (es : List Event). es ++ row_end (b ∷ bs) p)
    (onto-by (white_left value_part) b (cells_of false bs) p _
    (white-more value_part b (first_cell (cells_of false bs)) p t.white)))

cell-space : (b : ℕ) (bs : List ℕ) (p : Point) → Recorded b White → AtCell bs (past_byte b p) → AtCell (b ∷ bs) p
unfolding celled
cell-space b bs p t more = record {
  start =
      ap (λ (es : List Event). celled (Within Delimiter) (es ++ row_end (b ∷ bs) p)) (space-opens b bs p t.white)
      ∙ ap (λ (es : List Event). enter n.SpaceOrTab p ∷ es) more.space
      ∙ sym
      (ap (λ (c : Cells). cells_left c p ++ row_end (b ∷ bs) p)
      (cells-plain b bs t.pipe (white-apart b 92 t.white refl))
      ∙ ap (λ (es : List Event). es ++ row_end (b ∷ bs) p)
      (onto-by (cell_by value_part) b (cells_of false bs) p _
      (white-first value_part b (first_cell (cells_of false bs)) p t.white)));
  space = space-more b bs p t more.space;
}

-- or it is empty, at the end of the row
cell-none : (p : Point) → AtCell [] p
unfolding celled
cell-none p = record {
  start = sym (ap (λ (c : Cells). cells_left c p ++ row_end [] p) (cells-none false));
  space = sym (ap (λ (c : Cells). left_in_space c p ++ row_end [] p) (cells-none false));
}

-- After what a cell holds.

following-none : (p : Point) → AfterValue [] p
following-none p = record {
  blank = ap (λ (c : Cells). is_blank (first_cell c)) (cells-none false);
  run = run-none Colon p IsColon;
  space = (cell-none p).space;
}

following-space : (b : ℕ) (bs : List ℕ) (p : Point) → Recorded b White → AfterValue bs (past_byte b p) →
    AfterValue (b ∷ bs) p
following-space b bs p t more = record {
  blank =
      ap (λ (c : Cells). is_blank (first_cell c)) (cells-plain b bs t.pipe (white-apart b 92 t.white refl))
      ∙ ap is_blank (first-onto b (cells_of false bs))
      ∙ blank-first b (first_cell (cells_of false bs)) t.white ∙ more.blank;
  run = run-space Colon b bs p IsColon t more;
  space = space-more b bs p t more.space;
}

following-pipe : (bs : List ℕ) (p : Point) → AtCell bs (past_byte 124 p) → AfterValue (124 ∷ bs) p
unfolding celled
following-pipe bs p walks = record {
  blank = ap is_blank (ap first_cell (cells-pipe bs) ∙ first-following bs (cells_of false bs));
  run = run-pipe Colon bs p IsColon walks;
  space =
      ap (λ (es : List Event). celled (Within Delimiter) (es ++ row_end (124 ∷ bs) p))
      (space-ends 124 bs p refl ∙ ap (λ (es : List Event). exit n.SpaceOrTab p ∷ es) (pipe-opens bs p))
      ∙ ap (λ (es : List Event). exit n.SpaceOrTab p ∷ es) (piped-walk bs p walks)
      ∙ sym
      (ap (λ (c : Cells). left_in_space c p ++ row_end (124 ∷ bs) p) (cells-pipe bs)
      ∙ ap (λ (es : List Event). es ++ row_end (124 ∷ bs) p) (pipe-by (white_left value_part) bs p));
}

-- By the byte: what may not be there does not.

-- what is known of the bytes after one
abbrev Walked : List ℕ → Type 0
Walked bs = (place : Place) (s : Scratch) (q : Point) → fits place s bs ≡ true → WalksAt place bs q

-- what a byte leads to
abbrev leads : Place → Scratch → List ℕ → Mark → Bool
leads place s bs x = led (move place x) s (λ q t. fits q t bs)

-- a colon, and dashes
begun-colon : (b : ℕ) → Recorded b Aligns → begun b ≡ Colon
begun-colon b t = rw (t.white, t.pipe, t.colon) refl

begun-dash : (b : ℕ) → Recorded b Dash → begun b ≡ Filler
begun-dash b t = rw (t.white, t.pipe, t.colon) refl

as-pipe : (P : ℕ → Type 0) (b : ℕ) → Recorded b Pipes → P 124 → P b
as-pipe P b t h = subst P (sym (eqb-true b 124 t.pipe)) h

open-by : (s : Scratch) (b : ℕ) (bs : List ℕ) (p : Point) (x : Mark) → Recorded b x → leads Open s bs x ≡
    true → Walked bs →
    AtCell (b ∷ bs) p
open-by s b bs p Stops t h on = let no : false ≡ true = h in cc
open-by s b bs p White t h on = cell-space b bs p t (on Open s (past_byte b p) h)
open-by s b bs p Pipes t h on = let no : false ≡ true = h in cc
open-by s b bs p Aligns t h on =
    cell-value Colon b bs p IsColon t.white t.pipe (colon-slash b t.colon) (begun-colon b t)
    (on Left (met s) (past_byte b p) h)
open-by s b bs p Dash t h on =
    cell-value Filler b bs p IsFiller t.white t.pipe (dash-slash b t.dash) (begun-dash b t)
    (on Dashes (counted s) (past_byte b p) h)
open-by s b bs p Other t h on = let no : false ≡ true = h in cc

left-by : (s : Scratch) (b : ℕ) (bs : List ℕ) (p : Point) (x : Mark) → Recorded b x → leads Left s bs x ≡
    true → Walked bs →
    InRun Colon (b ∷ bs) p
left-by s b bs p Dash t h on =
    run-turns Colon Filler b bs p IsColon IsFiller t.white t.pipe (dash-slash b t.dash) refl (begun-dash b t)
    (on Dashes (counted s) (past_byte b p) h)
left-by s b bs p Stops t h on = let no : false ≡ true = h in cc
left-by s b bs p White t h on = let no : false ≡ true = h in cc
left-by s b bs p Pipes t h on = let no : false ≡ true = h in cc
left-by s b bs p Aligns t h on = let no : false ≡ true = h in cc
left-by s b bs p Other t h on = let no : false ≡ true = h in cc

dashes-by : (s : Scratch) (b : ℕ) (bs : List ℕ) (p : Point) (x : Mark) → Recorded b x → leads Dashes s bs x ≡ true →
    Walked bs → InRun Filler (b ∷ bs) p
dashes-by s b bs p Stops t h on = let no : false ≡ true = h in cc
dashes-by s b bs p White t h on = run-space Filler b bs p IsFiller t (on AfterCell s (past_byte b p) h)
dashes-by s b bs p Pipes t h on =
    as-pipe (λ (c : ℕ). InRun Filler (c ∷ bs) p) b t
    (run-pipe Filler bs p IsFiller (on Open (met s) (past_byte 124 p) h))
dashes-by s b bs p Aligns t h on =
    run-turns Filler Colon b bs p IsFiller IsColon t.white t.pipe (colon-slash b t.colon) t.dash (begun-colon b t)
    (on AfterCell (met s) (past_byte b p) h).run
dashes-by s b bs p Dash t h on =
    run-more b bs p t.white t.pipe (dash-slash b t.dash) t.dash (on Dashes s (past_byte b p) h)
dashes-by s b bs p Other t h on = let no : false ≡ true = h in cc

following-by : (s : Scratch) (b : ℕ) (bs : List ℕ) (p : Point) (x : Mark) → Recorded b x →
    leads AfterCell s bs x ≡ true →
    Walked bs → AfterValue (b ∷ bs) p
following-by s b bs p White t h on = following-space b bs p t (on AfterCell s (past_byte b p) h)
following-by s b bs p Pipes t h on =
    as-pipe (λ (c : ℕ). AfterValue (c ∷ bs) p) b t (following-pipe bs p (on Open (met s) (past_byte 124 p) h))
following-by s b bs p Stops t h on = let no : false ≡ true = h in cc
following-by s b bs p Aligns t h on = let no : false ≡ true = h in cc
following-by s b bs p Dash t h on = let no : false ≡ true = h in cc
following-by s b bs p Other t h on = let no : false ≡ true = h in cc

walked : (bs : List ℕ) → Walked bs
walked bs FrontOfRow s p h = tt
walked [] Open s p h = cell-none p
walked [] Left s p h = let no : false ≡ true = h in cc
walked [] Dashes s p h = run-none Filler p IsFiller
walked [] AfterCell s p h = following-none p
walked (b ∷ bs) Open s p h = open-by s b bs p (mark_of b) (recorded b) h (walked bs)
walked (b ∷ bs) Left s p h = left-by s b bs p (mark_of b) (recorded b) h (walked bs)
walked (b ∷ bs) Dashes s p h = dashes-by s b bs p (mark_of b) (recorded b) h (walked bs)
walked (b ∷ bs) AfterCell s p h = following-by s b bs p (mark_of b) (recorded b) h (walked bs)

-- A whole row.

-- where no whitespace is before it
row-starts : (s : Scratch) (line : List ℕ) (p : Point) → fits FrontOfRow s line ≡ true →
    celled (Front Delimiter) (delimiter_runs Apart line p ++ row_end line p) ≡
    cells_by n.GfmTableDelimiterCell value_part (begins_with 124 line) (line_cells line) p ++ row_end line p
unfolding celled
row-starts s [] p h = let no : false ≡ true = h in cc
row-starts s (b ∷ bs) p h = go (mark_of b) (recorded b) h
  where
    end : List Event
    end = row_end (b ∷ bs) p

    Row : ℕ → Type 0
    Row c =
        celled (Front Delimiter) (delimiter_runs Apart (c ∷ bs) p ++ row_end (c ∷ bs) p) ≡
        cells_by n.GfmTableDelimiterCell value_part (begins_with 124 (c ∷ bs)) (line_cells (c ∷ bs)) p
        ++ row_end (c ∷ bs) p

    -- after a pipe
    piped_row : AtCell bs (past_byte 124 p) → Row 124
    piped_row more =
        let q = past_byte 124 p in
        ap (λ (es : List Event). celled (Front Delimiter) (es ++ row_end bs q)) (pipe-opens bs p)
        ∙ ap
        (λ (es : List Event).
        enter n.GfmTableDelimiterCell p ∷ enter n.GfmTableCellDivider p ∷ exit n.GfmTableCellDivider q ∷ es) more.start
        ∙ sym
        (ap (λ (es : List Event). es ++ row_end bs q)
        (cells-begin n.GfmTableDelimiterCell value_part true (cells_of false bs) p))

    -- from the first cell on
    plain_row : (into : Run) → IsValue into → begun b ≡ into → nat_eq b 124 ≡ false → is_white b ≡ false →
        AtCell (b ∷ bs) p → Row b
    plain_row into at same pipe dark more =
        shown into at same
        ∙ ap (λ (es : List Event). enter n.GfmTableDelimiterCell p ∷ es) more.start
        ∙ sym
        (ap
        (λ (t : Bool).
        cells_by n.GfmTableDelimiterCell value_part t (cells_of false (cond t bs (b ∷ bs))) p ++ end) pipe
        ∙ ap (λ (es : List Event). es ++ end)
        (cells-begin n.GfmTableDelimiterCell value_part false (cells_of false (b ∷ bs)) p))
      where
        turns : (into : Run) → begun b ≡ into →
            delimiter_runs Apart (b ∷ bs) p ≡ opens into p ++ delimiter_runs into bs (past_byte b p)
        turns into same = ap (λ (r : Run). opens r p ++ delimiter_runs r bs (past_byte b p)) same

        shown : (into : Run) → IsValue into → begun b ≡ into →
            celled (Front Delimiter) (delimiter_runs Apart (b ∷ bs) p ++ end) ≡
            enter n.GfmTableDelimiterCell p ∷ celled (Within Delimiter) (delimiter_runs Apart (b ∷ bs) p ++ end)
        shown _ IsColon same =
            ap (λ (es : List Event). celled (Front Delimiter) (es ++ end)) (turns Colon same)
            ∙ sym
            (ap (λ (es : List Event). enter n.GfmTableDelimiterCell p ∷ celled (Within Delimiter) (es ++ end))
            (turns Colon same))
        shown _ IsFiller same =
            ap (λ (es : List Event). celled (Front Delimiter) (es ++ end)) (turns Filler same)
            ∙ sym
            (ap (λ (es : List Event). enter n.GfmTableDelimiterCell p ∷ celled (Within Delimiter) (es ++ end))
            (turns Filler same))

    go : (x : Mark) → Recorded b x → leads FrontOfRow s bs x ≡ true → Row b
    go Pipes t h = as-pipe Row b t (piped_row (walked bs Open (met s) (past_byte 124 p) h))
    go Aligns t h =
        plain_row Colon IsColon (begun-colon b t) t.pipe t.white (open-by s b bs p Aligns t h (walked bs))
    go Dash t h =
        plain_row Filler IsFiller (begun-dash b t) t.pipe t.white (open-by s b bs p Dash t h (walked bs))
    go Stops t h = let no : false ≡ true = h in cc
    go White t h = let no : false ≡ true = h in cc
    go Other t h = let no : false ≡ true = h in cc

-- The walk gives for the runs of a delimiter row, after the whitespace before it, the row with its cells.
pub delimiter-celled : (s : Scratch) (line : List ℕ) (p : Point) → fits FrontOfRow s (trim_start line) ≡ true →
    celled (Front Delimiter)
    ((white_part (white_front line) p ++ delimiter_runs Apart (trim_start line) (past_text (white_front line) p))
    ++ exit n.GfmTableDelimiterRow (past_text line p) ∷ []) ≡
    delimiter_events line p ++ exit n.GfmTableDelimiterRow (past_text line p) ∷ []
unfolding celled
delimiter-celled s line p h =
    ap (celled (Front Delimiter)) (append_assoc (white_part (white_front line) p) _ _)
    ∙ go (white_front line)
    ∙ sym (append_assoc (white_part (white_front line) p) _ _)
  where
    q : Point
    q = past_text (white_front line) p

    end : List Event
    end = exit n.GfmTableDelimiterRow (past_text line p) ∷ []

    same : past_text line p ≡ past_text (trim_start line) q
    same =
        ap (λ (l : List ℕ). past_text l p) (front-whole line) ∙ past_text-append (white_front line) (trim_start line) p

    rest : celled (Front Delimiter) (delimiter_runs Apart (trim_start line) q ++ end) ≡
        cells_by n.GfmTableDelimiterCell value_part (begins_with 124 (trim_start line)) (line_cells (trim_start line)) q
        ++ end
    rest =
        subst
        (λ (r : Point).
        celled (Front Delimiter) (delimiter_runs Apart (trim_start line) q ++ exit n.GfmTableDelimiterRow r ∷ []) ≡
        cells_by n.GfmTableDelimiterCell value_part (begins_with 124 (trim_start line)) (line_cells (trim_start line)) q
        ++ exit n.GfmTableDelimiterRow r ∷ []) (sym same) (row-starts s (trim_start line) q h)

    go : (w : List ℕ) →
        celled (Front Delimiter) (white_part w p ++ (delimiter_runs Apart (trim_start line) q ++ end)) ≡
        white_part w p
        ++ (cells_by n.GfmTableDelimiterCell value_part (begins_with 124 (trim_start line))
        (line_cells (trim_start line)) q
        ++ end)
    go [] = rest
    go (b ∷ w) = ap (λ (es : List Event). white_part (b ∷ w) p ++ es) rest
