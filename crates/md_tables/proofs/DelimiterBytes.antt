-- A line is a delimiter row by its cells if it is one by its bytes, and by the line definition.
use Rattle.std.proofs.Common.{◌≡◌, ℕ, zero, suc, ◌<◌, Bool, true, false, cond, List, [], ◌∷◌, ◌++◌, refl, sym, ap, ◌∙◌}
use Rattle.std.proofs.Common.{subst}
use Rattle.std.specs.Prelude.{◌==◌}
use Rattle.std.proofs.lemmas.Bool.{eqb-true}
use Rattle.md_engine.specs.declared.event.Point.{Point}
use Rattle.md_engine.specs.declared.tokenizer.Line.{Line}
use Rattle.md_engine.specs.declared.tokenizer.Scratch.{Scratch}
use Rattle.md_engine.specs.declared.tokenizer.TheConstants.Scratch.{REST}
use Rattle.md_engine.specs.Meaning.{Cell}
use Rattle.md_meaning.specs.Bytes.{begins}
use Rattle.md_meaning.specs.Rest.{is_white, trim, trim_end, trim_start}
use Rattle.md_meaning.specs.Table.{delimiter_columns}
use Rattle.md_leaves.proofs.TitleTexts.{front-stops}
use Rattle.md_events.specs.Events.Places.{past_byte}
use Rattle.md_events.proofs.FeedLines.{bytes_of, cell, columns_more, next_column, spread, tab_cells}
use Rattle.md_tables.specs.Delimiter.{mark_of}
use Rattle.md_tables.specs.DelimiterRule.{Following, Dashes, Front, Left, Open, Place, fits, move}
use Rattle.md_tables.specs.GfmTable.{asking_columns}
use Rattle.md_tables.specs.GfmTableLine.{are_columns, is_row_of}
use Rattle.md_tables.proofs.DelimiterColumns.{delimiter-fits, led-same, start-same}
use Rattle.md_tables.proofs.DelimiterLemmas.{white-mark}

-- in whitespace one byte does what several do
white-once : (place : Place) (s : Scratch) (b : ℕ) (bs cs : List ℕ) → is_white b ≡ true →
    ((q : Place) → fits q s bs ≡ fits q s (32 ∷ cs)) → fits place s (b ∷ bs) ≡ fits place s (b ∷ cs)
white-once Front s b bs cs white same = rw (white-mark b white) refl
white-once Open s b bs cs white same = rw (white-mark b white) (same Open)
white-once Left s b bs cs white same = rw (white-mark b white) refl
white-once Dashes s b bs cs white same = rw (white-mark b white) (same Following)
white-once Following s b bs cs white same = rw (white-mark b white) (same Following)

-- so a tab does what its columns do
fits-tab : (line : Line) (n b : ℕ) (p : Point) (place : Place) (s : Scratch) (cs : List Cell) → is_white b ≡ true →
    fits place s (bytes_of (tab_cells line n b p ++ cs)) ≡ fits place s (b ∷ bytes_of cs)
fits-tab line zero b p place s cs white = refl
fits-tab line (suc n) b p place s cs white =
    white-once place s b (bytes_of (tab_cells line n 32 (next_column p) ++ cs)) (bytes_of cs) white
    (λ q. fits-tab line n 32 (next_column p) q s cs refl)

-- and a row is one by its cells if it is by its bytes
fits-spread : (line : Line) (bytes : List ℕ) (p : Point) (place : Place) (s : Scratch) →
    fits place s (bytes_of (spread line bytes p)) ≡ fits place s bytes
fits-spread line [] p place s = refl
fits-spread line (b ∷ bs) p place s =
    go (b == 9) refl
    (led-same (move place (mark_of b)) s (λ q t. fits q t (bytes_of (spread line bs (past_byte b p))))
    (λ q t. fits q t bs) (λ q t. fits-spread line bs (past_byte b p) q t))
  where
    cs : List Cell
    cs = spread line bs (past_byte b p)

    Same : Bool → Type 0
    Same t =
        fits place s
        (bytes_of (cond t (tab_cells line (columns_more p) 9 p) (cell b (past_byte b p) line ∷ []) ++ cs)) ≡
        fits place s (b ∷ bs)

    go : (x : Bool) → (b == 9) ≡ x → fits place s (b ∷ bytes_of cs) ≡ fits place s (b ∷ bs) → Same (b == 9)
    go true e on =
        let white : is_white b ≡ true = rw (eqb-true b 9 e) refl in
        subst Same (sym e)
        (ap (λ (c : ℕ). fits place s (bytes_of (tab_cells line (columns_more p) c p ++ cs))) (sym (eqb-true b 9 e))
        ∙ fits-tab line (columns_more p) b p place s cs white ∙ on)
    go false e on = subst Same (sym e) on

pub row_of-spread : (columns : ℕ) (line : Line) (bytes : List ℕ) (p : Point) →
    is_row_of columns (bytes_of (spread line bytes p)) ≡ is_row_of columns bytes
row_of-spread columns line bytes p = fits-spread line bytes p Front (asking_columns columns REST)

-- none begins with whitespace
pub row_of-white : (columns b : ℕ) (bs : List ℕ) → is_white b ≡ true → is_row_of columns (b ∷ bs) ≡ false
row_of-white columns b bs white = rw (white-mark b white) refl

-- and it is what the line definition has
pub row_of-columns : (columns : ℕ) (bytes : List ℕ) → 0 < columns →
    is_row_of columns (trim_start bytes) ≡ are_columns (delimiter_columns (trim bytes)) columns
row_of-columns columns bytes some =
    let dark : begins is_white (trim_start bytes) ≡ false = front-stops is_white bytes in
    delimiter-fits (asking_columns columns REST) (trim_start bytes)
    (record { size = refl; seen = refl; some = some }) dark
    ∙ ap (λ (row : List ℕ). are_columns (delimiter_columns (trim_end row)) columns) (start-same (trim_start bytes) dark)
