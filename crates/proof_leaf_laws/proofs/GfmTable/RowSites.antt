-- Where an outline goes in a row of a table: cell by cell, and in a cell over its text, if it has one.
use Rattle.std.proofs.Common.{ℕ, Bool, true, List, [], ◌∷◌, ◌++◌, refl, sym, subst, append_assoc, append-nil}
use Rattle.md_engine.specs.declared.event.Event.{Event}
use Rattle.md_engine.specs.declared.event.Name.TheVariants as n
use Rattle.md_engine.specs.declared.event.Point.{Point}
use Rattle.md_meaning.specs.Lines.{begins_with}
use Rattle.md_meaning.specs.Rest.{trim, trim_start}
use Rattle.md_outline.specs.LinesAllowed.{InTable}
use Rattle.md_outline.specs.TablePlaces.{AtCell, AfterCell, InRow, Row}
use Rattle.md_outline.proofs.LinesPass.{passes-append}
use Rattle.md_outline.proofs.TablesPass.{PassesIn, passes-cell, passes-cell_text, passes-empty_cell, passes-unshown}
use Rattle.md_events.specs.Events.Nested.{around}
use Rattle.md_events.specs.Events.Places.{past_byte, past_text}
use Rattle.md_events.proofs.SpelledLemmas.{Quiet, Roles, roles-append}
use Rattle.md_tables.specs.RowCells.{Cells, Divides, Ends, Shut, cell_inside, cells_events, first_pipe, line_cells}
use Rattle.md_tables.specs.RowCells.{past_pipe, pipe_part, read_text, row_events, text_part}
use Rattle.md_tables.specs.RowCells.{white_back, white_front, white_part}
use Rattle.md_tables.proofs.CellData.{data-read}
use Rattle.md_tables.proofs.RowBytes.{cell-whole, cells_bytes, line-bytes, pipe_bytes}
use Rattle.md_tables.proofs.RowRead.{pipe-quiet, white-quiet}
use Rattle.proof_frame.proofs.LineWalk.{At}
use Rattle.proof_leaf_laws.proofs.GfmTable.RowAt.{RowAt, at-following, at-first, row-start}
use Rattle.proof_leaf_laws.proofs.GfmTable.RowCells.{at-pipe, past-pipe}

-- A cell, with what the tree does not show after what it holds.
cell-passes : (bytes : List ℕ) (row : Row) (piped : Bool) (cell rest : List ℕ) (p end : Point) (more : List Event) →
    At bytes cell (past_pipe piped p) rest → Roles Quiet more →
    PassesIn bytes (InRow row) (InRow row)
    (around n.GfmTableCell p end
    (first_pipe piped p ++ (cell_inside (read_text bytes) cell (past_pipe piped p) ++ more)))
cell-passes bytes row piped cell rest p end more at quiet = go (trim cell) at-text
  where
    q : Point
    q = past_text (white_front cell) (past_pipe piped p)

    back : List ℕ
    back = white_back (trim_start cell)

    at-text : At bytes (trim cell) (past_text (white_front cell) (past_pipe piped p))
        (white_back (trim_start cell) ++ rest)
    at-text =
        at-first bytes (trim cell) back rest q
        (at-following bytes (white_front cell) (trim cell ++ back) rest (past_pipe piped p)
        (subst (λ (xs : List ℕ). At bytes xs (past_pipe piped p) rest) (cell-whole cell) at))

    front-quiet : Roles Quiet (white_part (white_front cell) (past_pipe piped p))
    front-quiet = white-quiet (white_front cell) (past_pipe piped p)

    -- what follows its text
    last : List ℕ → List Event
    last t = white_part (white_back (trim_start cell)) (past_text t q)

    held : List ℕ → List Event
    held t =
        first_pipe piped p
        ++ ((white_part (white_front cell) (past_pipe piped p) ++ (text_part (read_text bytes) t q ++ last t)) ++ more)

    go : (t : List ℕ) → At bytes t q (back ++ rest) →
        PassesIn bytes (InRow row) (InRow row) (around n.GfmTableCell p end (held t))
    go [] at =
        passes-empty_cell bytes row n.GfmTableCell p end (held []) refl
        (roles-append Quiet (first_pipe piped p) _ (pipe-quiet piped p)
        (roles-append Quiet (white_part (white_front cell) (past_pipe piped p) ++ last []) more
        (roles-append Quiet (white_part (white_front cell) (past_pipe piped p)) (last []) front-quiet
        (white-quiet back q)) quiet))
    go (b ∷ bs) at =
        passes-cell bytes row n.GfmTableCell p end (held (b ∷ bs)) refl
        (passes-append bytes (InTable (AtCell row)) (InTable (AtCell row)) (InTable (AfterCell row))
        (first_pipe piped p) _
        (passes-unshown bytes (AtCell row) (first_pipe piped p) (pipe-quiet piped p))
        (passes-append bytes (InTable (AtCell row)) (InTable (AfterCell row)) (InTable (AfterCell row))
        (white_part (white_front cell) (past_pipe piped p)
        ++ (text_part (read_text bytes) (b ∷ bs) q ++ last (b ∷ bs))) more
        (passes-append bytes (InTable (AtCell row)) (InTable (AtCell row)) (InTable (AfterCell row))
        (white_part (white_front cell) (past_pipe piped p))
        (text_part (read_text bytes) (b ∷ bs) q ++ last (b ∷ bs))
        (passes-unshown bytes (AtCell row) (white_part (white_front cell) (past_pipe piped p)) front-quiet)
        (passes-append bytes (InTable (AtCell row)) (InTable (AfterCell row)) (InTable (AfterCell row))
        (text_part (read_text bytes) (b ∷ bs) q) (last (b ∷ bs))
        (passes-cell_text bytes row n.GfmTableCellText q (past_text (b ∷ bs) q)
        (read_text bytes q (past_text (b ∷ bs) q)) refl
        (subst (Roles Quiet)
        (sym (data-read bytes b bs q (record { following = back ++ rest; text = at.valid; whole = at.whole }) at.none))
        (tt, (tt, tt))))
        (passes-unshown bytes (AfterCell row) (last (b ∷ bs)) (white-quiet back (past_text (b ∷ bs) q)))))
        (passes-unshown bytes (AfterCell row) more quiet)))

-- with nothing more after that
plain-passes : (bytes : List ℕ) (row : Row) (piped : Bool) (cell rest : List ℕ) (p : Point) →
    At bytes (pipe_bytes piped ++ cell) p rest →
    let q = past_pipe piped p in
    PassesIn bytes (InRow row) (InRow row)
    (around n.GfmTableCell p (past_text cell q) (first_pipe piped p ++ cell_inside (read_text bytes) cell q))
plain-passes bytes row piped cell rest p at =
    let q = past_pipe piped p in
    subst
    (λ (es : List Event).
    PassesIn bytes (InRow row) (InRow row) (around n.GfmTableCell p (past_text cell q) (first_pipe piped p ++ es)))
    (append-nil (cell_inside (read_text bytes) cell q))
    (cell-passes bytes row piped cell rest p (past_text cell q) [] (at-pipe bytes piped cell rest p at) tt)

-- Cells.
cells-pass : (bytes : List ℕ) (row : Row) (piped : Bool) (cells : Cells) (rest : List ℕ) (p : Point) →
    At bytes (cells_bytes piped cells) p rest →
    PassesIn bytes (InRow row) (InRow row) (cells_events (read_text bytes) piped cells p)
cells-pass bytes row piped (Ends cell) rest p at = plain-passes bytes row piped cell rest p at
cells-pass bytes row piped (Shut cell white) rest p at =
    passes-append bytes (InTable (InRow row)) (InTable (InRow row)) (InTable (InRow row))
    (around n.GfmTableCell p over
    (first_pipe piped p ++ (cell_inside (read_text bytes) cell (past_pipe piped p) ++ pipe_part end)))
    (white_part white over)
    (cell-passes bytes row piped cell ((124 ∷ white) ++ rest) p over (pipe_part end)
    (at-first bytes cell (124 ∷ white) rest (past_pipe piped p) (at-pipe bytes piped (cell ++ 124 ∷ white) rest p at))
    (pipe-quiet true end))
    (passes-unshown bytes (InRow row) (white_part white over) (white-quiet white over))
  where
    end : Point
    end = past_text cell (past_pipe piped p)

    over : Point
    over = past_byte 124 (past_text cell (past_pipe piped p))
cells-pass bytes row piped (Divides cell cells) rest p at =
    passes-append bytes (InTable (InRow row)) (InTable (InRow row)) (InTable (InRow row))
    (around n.GfmTableCell p mid
    (first_pipe piped p ++ cell_inside (read_text bytes) cell (past_pipe piped p)))
    (cells_events (read_text bytes) true cells mid)
    (plain-passes bytes row piped cell (cells_bytes true cells ++ rest) p
    (at-first bytes (pipe_bytes piped ++ cell) (cells_bytes true cells) rest p all))
    (cells-pass bytes row true cells rest mid
    (subst (λ (r : Point). At bytes (cells_bytes true cells) r rest) (past-pipe piped cell p)
    (at-following bytes (pipe_bytes piped ++ cell) (cells_bytes true cells) rest p all)))
  where
    mid : Point
    mid = past_text cell (past_pipe piped p)

    all : At bytes ((pipe_bytes piped ++ cell) ++ cells_bytes true cells) p rest
    all =
        subst (λ (xs : List ℕ). At bytes xs p rest)
        (sym (append_assoc (pipe_bytes piped) cell (cells_bytes true cells))) at

-- What is in a row.
pub row-passes : (bytes line rest : List ℕ) (p : Point) (row : Row) → RowAt bytes line rest p →
    PassesIn bytes (InRow row) (InRow row) (row_events (read_text bytes) line p)
row-passes bytes line rest p row at =
    let q = past_text (white_front line) p in
    let start = trim_start line in
    passes-append bytes (InTable (InRow row)) (InTable (InRow row)) (InTable (InRow row))
    (white_part (white_front line) p)
    (cells_events (read_text bytes) (begins_with 124 start) (line_cells start) q)
    (passes-unshown bytes (InRow row) (white_part (white_front line) p) (white-quiet (white_front line) p))
    (cells-pass bytes row (begins_with 124 start) (line_cells start) rest q
    (subst (λ (xs : List ℕ). At bytes xs q rest) (sym (line-bytes start)) (row-start bytes line rest p at)))
