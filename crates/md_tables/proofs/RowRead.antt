-- What is read of a row of a table: its cells, as the line definition has them.
use Rattle.std.proofs.Common.{◌≡◌, ℕ, ◌+◌, Bool, true, false, cond, List, [], ◌∷◌, ◌++◌, drop, map, refl, sym, ◌∙◌}
use Rattle.std.proofs.Common.{ap, ap₂, append_assoc, append-nil, slice_range, subst}
use Rattle.std.specs.Prelude.{◌==◌, Option, Some, None, option_map}
use Rattle.md_engine.specs.declared.event.Event.{Event}
use Rattle.md_engine.specs.declared.event.Name.{Name}
use Rattle.md_engine.specs.declared.event.Name.TheVariants as n
use Rattle.md_engine.specs.declared.event.Point.{Point}
use Rattle.md_meaning.specs.Bytes.{begins}
use Rattle.md_meaning.specs.Lines.{begins_with}
use Rattle.md_meaning.specs.Rest.{is_white, trim, trim_start}
use Rattle.md_meaning.specs.Table.{row_cells}
use Rattle.md_events.specs.declared.inline.Chunk.{Chunk}
use Rattle.md_events.specs.Events.Inline.{line_end, pair_unless_empty, plain_chunk}
use Rattle.md_events.specs.Events.Nested.{around, exit, pair}
use Rattle.md_events.specs.Events.Places.{past_byte, past_text, same_place}
use Rattle.md_events.specs.Events.Spelled.{AsCell, OpenLeaf, Reading, TableLeaf, Text, at_cell, at_row, begun, byte_at}
use Rattle.md_events.specs.Events.Spelled.{first_recorded, on_last, on_leaf, read, role, text_to, recorded_at}
use Rattle.md_events.proofs.SpelledLemmas.{Quiet, QuietOrEnding, Roles, read-from, read-inline, read-quiet}
use Rattle.md_events.proofs.SpelledLemmas.{roles-append}
use Rattle.md_tables.specs.RowCells.{Cells, Divides, Ends, Shut, cell_inside, cells_events, first_pipe, line_cells}
use Rattle.md_tables.specs.RowCells.{past_pipe, pipe_part, read_text, row_events, text_part}
use Rattle.md_tables.specs.RowCells.{white_back, white_front, white_part}
use Rattle.md_tables.proofs.RowBytes.{Valid, cell-whole, cells_bytes, line-bytes, pipe_bytes, valid-first}
use Rattle.md_tables.proofs.RowBytes.{valid-line, valid-next}
use Rattle.md_tables.proofs.RowTexts.{held-cells, held_in}

-- A table is open, and no text is being read: after these rows is one with these cells.
abbrev pub in_row : Reading → List ℕ → List (List (List ℕ)) → List (List ℕ) → Reading
in_row r delimiter rows row = record r {
  leaf = Some (TableLeaf (record { delimiter = delimiter; rows = rows ++ row ∷ [] }));
  text = None;
}

on-last : {A : Type 0} (f : A → A) (xs : List A) (x : A) → on_last f (xs ++ x ∷ []) ≡ xs ++ f x ∷ []
on-last f [] x = refl
on-last f (y ∷ []) x = refl
on-last f (y ∷ z ∷ xs) x = ap (λ (l : List _). y ∷ l) (on-last f (z ∷ xs) x)

-- What is not shown.

pub white-quiet : (w : List ℕ) (p : Point) → Roles Quiet (white_part w p)
white-quiet [] p = tt
white-quiet (b ∷ w) p = (tt, (tt, tt))

pub pipe-quiet : (piped : Bool) (p : Point) → Roles Quiet (first_pipe piped p)
pipe-quiet true p = (tt, (tt, tt))
pipe-quiet false p = tt

-- A cell.

-- it begins empty
cell-begins : (r : Reading) (delimiter : List ℕ) (rows : List (List (List ℕ))) (row : List (List ℕ)) →
    on_leaf at_cell (in_row r delimiter rows row) ≡ in_row r delimiter rows (row ++ [] ∷ [])
cell-begins r delimiter rows row =
    ap
    (λ (all : List (List (List ℕ))).
    record r { leaf = Some (TableLeaf (record { delimiter = delimiter; rows = all })); text = None })
    (on-last (λ (x : List (List ℕ)). x ++ [] ∷ []) rows row)

-- a text ends, and is that of the last cell
text-recorded : (bytes : List ℕ) (r : Reading) (delimiter : List ℕ) (rows : List (List (List ℕ))) (row : List (List ℕ))
    (p q : Point) (text : List ℕ) →
    text_to bytes q.index (begun p) ≡ text →
    recorded_at bytes AsCell q (Some (begun p))
    (record (in_row r delimiter rows (row ++ [] ∷ [])) { text = Some (begun p) }) ≡
    in_row r delimiter rows (row ++ text ∷ [])
text-recorded bytes r delimiter rows row p q text e =
    ap
    (λ (all : List (List (List ℕ))).
    record r { leaf = Some (TableLeaf (record { delimiter = delimiter; rows = all })); text = None })
    (on-last (on_last recorded) rows (row ++ [] ∷ [])
    ∙ ap (λ (x : List (List ℕ)). rows ++ x ∷ []) (on-last recorded row [] ∙ ap (λ (t : List ℕ). row ++ t ∷ []) e))
  where
    recorded : List ℕ → List ℕ
    recorded cell = first_recorded cell (text_to bytes q.index (begun p))

-- what the plain layer reads in it is not shown
pair-quiet : (name : Name) (p q : Point) → QuietOrEnding (role name) → Roles QuietOrEnding (pair_unless_empty name p q)
pair-quiet name p q h = go (same_place p q)
  where
    go : (x : Bool) → Roles QuietOrEnding (cond x [] (pair name p q))
    go true = tt
    go false = (h, (h, tt))

said-quiet : (bytes : List ℕ) (p q : Point) → Roles QuietOrEnding (read_text bytes p q)
said-quiet bytes p q =
    let chunk : Chunk = record { first = p; after = q } in
    let end = line_end bytes chunk in
    roles-append QuietOrEnding (plain_chunk bytes chunk) []
    (roles-append QuietOrEnding (pair_unless_empty n.Data p end) (pair_unless_empty n.LineEnding end q)
    (pair-quiet n.Data p end tt) (pair-quiet n.LineEnding end q tt)) tt

text-read : (bytes : List ℕ) (r : Reading) (delimiter : List ℕ) (rows : List (List (List ℕ))) (row : List (List ℕ))
    (text rest : List ℕ) (p : Point) →
    Valid bytes p (text ++ rest) →
    read bytes (in_row r delimiter rows (row ++ [] ∷ [])) (text_part (read_text bytes) text p) ≡
    in_row r delimiter rows (row ++ text ∷ [])
text-read bytes r delimiter rows row [] rest p is = refl
text-read bytes r delimiter rows row (b ∷ bs) rest p is =
    read-from bytes inside inside (read_text bytes p q) (exit n.GfmTableCellText q ∷ [])
    (read-inline bytes inside (begun p) (read_text bytes p q) refl (said-quiet bytes p q))
    ∙ text-recorded bytes r delimiter rows row p q (b ∷ bs)
    (ap (λ (i : ℕ). slice_range bytes i q.index) from ∙ valid-first bytes p (b ∷ bs) rest is)
  where
    q : Point
    q = past_text (b ∷ bs) p

    inside : Reading
    inside = record (in_row r delimiter rows (row ++ [] ∷ [])) { text = Some (begun p) }

    from : byte_at p ≡ p.index
    from = ap (λ (k : ℕ). cond (k == 0) p.index (p.index + 1)) is.whole

inside-read : (bytes : List ℕ) (r : Reading) (delimiter : List ℕ) (rows : List (List (List ℕ))) (row : List (List ℕ))
    (cell rest : List ℕ) (p : Point) →
    Valid bytes p (cell ++ rest) →
    read bytes (in_row r delimiter rows (row ++ [] ∷ [])) (cell_inside (read_text bytes) cell p) ≡
    in_row r delimiter rows (row ++ trim cell ∷ [])
inside-read bytes r delimiter rows row cell rest p is =
    read-from bytes before before (white_part (white_front cell) p) _
    (read-quiet bytes before (white_part (white_front cell) p) (white-quiet (white_front cell) p))
    ∙ read-from bytes before after (text_part (read_text bytes) (trim cell) q) _
    (text-read bytes r delimiter rows row (trim cell) (back ++ rest) q text)
    ∙ read-quiet bytes after (white_part back (past_text (trim cell) q)) (white-quiet back (past_text (trim cell) q))
  where
    q : Point
    q = past_text (white_front cell) p

    back : List ℕ
    back = white_back (trim_start cell)

    before : Reading
    before = in_row r delimiter rows (row ++ [] ∷ [])

    after : Reading
    after = in_row r delimiter rows (row ++ trim cell ∷ [])

    whole : cell ++ rest ≡ white_front cell ++ (trim cell ++ (back ++ rest))
    whole =
        ap (λ (x : List ℕ). x ++ rest) (cell-whole cell) ∙ append_assoc (white_front cell) (trim cell ++ back) rest
        ∙ ap (λ (x : List ℕ). white_front cell ++ x) (append_assoc (trim cell) back rest)

    text : Valid bytes q (trim cell ++ (back ++ rest))
    text = valid-next bytes p (white_front cell) (trim cell ++ (back ++ rest)) (subst (Valid bytes p) whole is)

-- after its begin: the pipe before it, what it holds, and what else is not shown
cell-read : (bytes : List ℕ) (r : Reading) (delimiter : List ℕ) (rows : List (List (List ℕ))) (row : List (List ℕ))
    (piped : Bool) (cell rest : List ℕ) (p end : Point) (more : List Event) →
    Valid bytes (past_pipe piped p) (cell ++ rest) → Roles Quiet more →
    read bytes (in_row r delimiter rows row)
    (around n.GfmTableCell p end
    (first_pipe piped p ++ (cell_inside (read_text bytes) cell (past_pipe piped p) ++ more))) ≡
    in_row r delimiter rows (row ++ trim cell ∷ [])
cell-read bytes r delimiter rows row piped cell rest p end more is quiet =
    ap (λ (x : Reading). read bytes x (inside ++ exit n.GfmTableCell end ∷ [])) (cell-begins r delimiter rows row)
    ∙ read-from bytes before after inside (exit n.GfmTableCell end ∷ [])
    (read-from bytes before before (first_pipe piped p) _
    (read-quiet bytes before (first_pipe piped p) (pipe-quiet piped p))
    ∙ read-from bytes before after (cell_inside (read_text bytes) cell (past_pipe piped p)) more
    (inside-read bytes r delimiter rows row cell rest (past_pipe piped p) is)
    ∙ read-quiet bytes after more quiet)
  where
    inside : List Event
    inside = first_pipe piped p ++ (cell_inside (read_text bytes) cell (past_pipe piped p) ++ more)

    before : Reading
    before = in_row r delimiter rows (row ++ [] ∷ [])

    after : Reading
    after = in_row r delimiter rows (row ++ trim cell ∷ [])

-- where it is
past-pipe : (bytes : List ℕ) (piped : Bool) (p : Point) (xs : List ℕ) → Valid bytes p (pipe_bytes piped ++ xs) →
    Valid bytes (past_pipe piped p) xs
past-pipe bytes true p xs is = valid-next bytes p (124 ∷ []) xs is
past-pipe bytes false p xs is = is

-- Cells.
cells-read : (bytes : List ℕ) (r : Reading) (delimiter : List ℕ) (rows : List (List (List ℕ))) (row : List (List ℕ))
    (piped : Bool) (cells : Cells) (p : Point) →
    Valid bytes p (cells_bytes piped cells) →
    read bytes (in_row r delimiter rows row) (cells_events (read_text bytes) piped cells p) ≡
    in_row r delimiter rows (row ++ map trim (held_in cells))
cells-read bytes r delimiter rows row piped (Ends cell) p is =
    ap (λ (es : List Event). read bytes (in_row r delimiter rows row)
    (around n.GfmTableCell p (past_text cell q) (first_pipe piped p ++ es)))
    (sym (append-nil (cell_inside (read_text bytes) cell q)))
    ∙ cell-read bytes r delimiter rows row piped cell [] p (past_text cell q) []
    (past-pipe bytes piped p (cell ++ [])
    (subst (λ (x : List ℕ). Valid bytes p (pipe_bytes piped ++ x)) (sym (append-nil cell)) is)) tt
  where
    q : Point
    q = past_pipe piped p
cells-read bytes r delimiter rows row piped (Shut cell white) p is =
    read-from bytes (in_row r delimiter rows row) (in_row r delimiter rows (row ++ trim cell ∷ [])) one
    (white_part white (past_byte 124 end))
    (cell-read bytes r delimiter rows row piped cell (124 ∷ white) p (past_byte 124 end) (pipe_part end)
    (past-pipe bytes piped p (cell ++ 124 ∷ white) is) (tt, (tt, tt)))
    ∙ read-quiet bytes (in_row r delimiter rows (row ++ trim cell ∷ [])) (white_part white (past_byte 124 end))
    (white-quiet white (past_byte 124 end))
  where
    end : Point
    end = past_text cell (past_pipe piped p)

    one : List Event
    one =
        let q = past_pipe piped p in
        around n.GfmTableCell p (past_byte 124 (past_text cell q))
        (first_pipe piped p ++ (cell_inside (read_text bytes) cell q ++ pipe_part (past_text cell q)))
cells-read bytes r delimiter rows row piped (Divides cell cells) p is =
    read-from bytes (in_row r delimiter rows row) (in_row r delimiter rows (row ++ trim cell ∷ [])) one
    (cells_events (read_text bytes) true cells end)
    (ap (λ (es : List Event). read bytes (in_row r delimiter rows row)
    (around n.GfmTableCell p end (first_pipe piped p ++ es)))
    (sym (append-nil (cell_inside (read_text bytes) cell q)))
    ∙ cell-read bytes r delimiter rows row piped cell (cells_bytes true cells) p end [] here tt)
    ∙ cells-read bytes r delimiter rows (row ++ trim cell ∷ []) true cells end
    (valid-next bytes q cell (cells_bytes true cells) here)
    ∙ ap (in_row r delimiter rows) (append_assoc row (trim cell ∷ []) (map trim (held_in cells)))
  where
    q : Point
    q = past_pipe piped p

    end : Point
    end = past_text cell (past_pipe piped p)

    one : List Event
    one =
        let q = past_pipe piped p in
        around n.GfmTableCell p (past_text cell q) (first_pipe piped p ++ cell_inside (read_text bytes) cell q)

    here : Valid bytes (past_pipe piped p) (cell ++ cells_bytes true cells)
    here = past-pipe bytes piped p (cell ++ cells_bytes true cells) is

-- A row.

-- A row on a line adds its cells: no tab is cut where its first byte is no whitespace.
pub row-read : (bytes : List ℕ) (r : Reading) (delimiter : List ℕ) (rows : List (List (List ℕ)))
    (line following : List ℕ) (p end : Point) →
    drop p.index bytes ≡ line ++ following → (begins is_white line ≡ false → p.vs ≡ 0) →
    r.text ≡ None → r.leaf ≡ Some (TableLeaf (record { delimiter = delimiter; rows = rows })) →
    read bytes r (around n.GfmTableRow p end (row_events (read_text bytes) line p)) ≡
    record r {
      leaf = Some (TableLeaf (record { delimiter = delimiter; rows = rows ++ row_cells line ∷ [] }));
      text = None;
    }
row-read bytes r delimiter rows line following p end text whole none leaf =
    ap (λ (x : Reading). read bytes x (inside ++ exit n.GfmTableRow end ∷ [])) begins
    ∙ read-from bytes empty full inside (exit n.GfmTableRow end ∷ [])
    (read-from bytes empty empty (white_part (white_front line) p) _
    (read-quiet bytes empty (white_part (white_front line) p) (white-quiet (white_front line) p))
    ∙ cells-read bytes r delimiter rows [] (begins_with 124 (trim_start line)) (line_cells (trim_start line)) q
    (subst (Valid bytes q) (sym (line-bytes (trim_start line)))
    (valid-line bytes line following p text whole))
    ∙ ap (in_row r delimiter rows) (held-cells line))
  where
    q : Point
    q = past_text (white_front line) p

    inside : List Event
    inside = row_events (read_text bytes) line p

    empty : Reading
    empty = in_row r delimiter rows []

    full : Reading
    full = in_row r delimiter rows (row_cells line)

    begins : on_leaf at_row r ≡ empty
    begins =
        ap₂ (λ (o : Option OpenLeaf) (t : Option Text). record r { leaf = option_map at_row o; text = t }) leaf none
