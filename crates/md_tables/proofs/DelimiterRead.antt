-- What is read of a delimiter row: its line without outer whitespace.
use Rattle.std.proofs.Common.{◌≡◌, ℕ, ◌+◌, Bool, true, false, cond, List, [], ◌∷◌, ◌++◌, drop, slice_range, refl}
use Rattle.std.proofs.Common.{sym, ◌∙◌, ap}
use Rattle.std.specs.Prelude.{◌==◌, Option, Some, None}
use Rattle.md_engine.specs.declared.event.Event.{Event}
use Rattle.md_engine.specs.declared.event.Name.{Name}
use Rattle.md_engine.specs.declared.event.Name.TheVariants as n
use Rattle.md_engine.specs.declared.event.Point.{Point}
use Rattle.md_meaning.specs.Bytes.{begins}
use Rattle.md_meaning.specs.Lines.{begins_with}
use Rattle.md_meaning.specs.Rest.{is_white, trim, trim_end, trim_start}
use Rattle.md_events.specs.Events.Nested.{around, exit}
use Rattle.md_events.specs.Events.Places.{past_byte, past_text}
use Rattle.md_events.specs.Events.Spelled.{AsDelimiter, IsQuiet, OpenLeaf, Reading, Role, TableLeaf, begun, byte_at}
use Rattle.md_events.specs.Events.Spelled.{read, role, recorded_at}
use Rattle.md_events.proofs.FeedLines.{past-next, slice-front}
use Rattle.md_events.proofs.InlineLemmas.{past-index}
use Rattle.md_events.proofs.RestLines.{trim-white}
use Rattle.md_events.proofs.SpelledLemmas.{Quiet, Roles, read-from, read-quiet, roles-append}
use Rattle.md_tables.specs.DelimiterCells.{delimiter_events, delimiter_runs, value_part}
use Rattle.md_tables.specs.DelimiterRule.{Apart, Colon, Filler, Pipe, Run, Space}
use Rattle.md_tables.specs.DelimiterRule.{begun as run_begun, closes, is_continued, opens}
use Rattle.md_tables.specs.RowCells.{Cells, Divides, Ends, Shut, cell_by, cells_by, first_pipe, line_cells, past_pipe}
use Rattle.md_tables.specs.RowCells.{pipe_part, row_by, white_back, white_front, white_part}

-- A fact of roles that holds of what the tree does not show, of the cells and of what they hold, holds of a row.
pub record OfRow (P : Role → Type 0) (name : Name) (part : List ℕ → Point → List Event) : Type 0 where
  pub quiet : P IsQuiet
  pub cell : P (role name)
  pub held : (xs : List ℕ) (p : Point) → Roles P (part xs p)

white-roles : (P : Role → Type 0) → P IsQuiet → (w : List ℕ) (p : Point) → Roles P (white_part w p)
white-roles P h [] p = tt
white-roles P h (b ∷ w) p = (h, (h, tt))

pipe-roles : (P : Role → Type 0) → P IsQuiet → (piped : Bool) (p : Point) → Roles P (first_pipe piped p)
pipe-roles P h true p = (h, (h, tt))
pipe-roles P h false p = tt

cell-roles : (P : Role → Type 0) (name : Name) (part : List ℕ → Point → List Event) → OfRow P name part →
    (cell : List ℕ) (p : Point) → Roles P (cell_by part cell p)
cell-roles P name part of cell p =
    let q = past_text (white_front cell) p in
    roles-append P _ _ (white-roles P of.quiet (white_front cell) p)
    (roles-append P _ _ (of.held (trim cell) q)
    (white-roles P of.quiet (white_back (trim_start cell)) (past_text (trim cell) q)))

around-roles : (P : Role → Type 0) (name : Name) (p q : Point) (es : List Event) → P (role name) → Roles P es →
    Roles P (around name p q es)
around-roles P name p q es h all = (h, roles-append P es (exit name q ∷ []) all (h, tt))

-- a cell with the pipe before it, and what else is in it
piped-roles : (P : Role → Type 0) (name : Name) (part : List ℕ → Point → List Event) → OfRow P name part →
    (piped : Bool) (cell : List ℕ) (p end : Point) →
    Roles P (around name p end (first_pipe piped p ++ cell_by part cell (past_pipe piped p)))
piped-roles P name part of piped cell p end =
    around-roles P name p end (first_pipe piped p ++ cell_by part cell (past_pipe piped p)) of.cell
    (roles-append P (first_pipe piped p) (cell_by part cell (past_pipe piped p)) (pipe-roles P of.quiet piped p)
    (cell-roles P name part of cell (past_pipe piped p)))

cells-roles : (P : Role → Type 0) (name : Name) (part : List ℕ → Point → List Event) → OfRow P name part →
    (piped : Bool) (cells : Cells) (p : Point) → Roles P (cells_by name part piped cells p)
cells-roles P name part of piped (Ends cell) p = piped-roles P name part of piped cell p _
cells-roles P name part of piped (Shut cell white) p =
    roles-append P (around name p past inside) (white_part white past)
    (around-roles P name p past inside of.cell
    (roles-append P (first_pipe piped p) (cell_by part cell q ++ pipe_part end) (pipe-roles P of.quiet piped p)
    (roles-append P (cell_by part cell q) (pipe_part end) (cell-roles P name part of cell q)
    (pipe-roles P of.quiet true end))))
    (white-roles P of.quiet white past)
  where
    q : Point
    q = past_pipe piped p

    end : Point
    end = past_text cell (past_pipe piped p)

    past : Point
    past = past_byte 124 (past_text cell (past_pipe piped p))

    inside : List Event
    inside = first_pipe piped p ++ (cell_by part cell q ++ pipe_part end)
cells-roles P name part of piped (Divides cell cells) p =
    roles-append P (around name p end (first_pipe piped p ++ cell_by part cell (past_pipe piped p)))
    (cells_by name part true cells end) (piped-roles P name part of piped cell p end)
    (cells-roles P name part of true cells end)
  where
    end : Point
    end = past_text cell (past_pipe piped p)

pub row-roles : (P : Role → Type 0) (name : Name) (part : List ℕ → Point → List Event) → OfRow P name part →
    (line : List ℕ) (p : Point) → Roles P (row_by name part line p)
row-roles P name part of line p =
    roles-append P _ _ (white-roles P of.quiet (white_front line) p)
    (cells-roles P name part of (begins_with 124 (trim_start line)) (line_cells (trim_start line))
    (past_text (white_front line) p))

-- A delimiter row is not shown.

closes-quiet : (run : Run) (p : Point) → Roles Quiet (closes run p)
closes-quiet Apart p = tt
closes-quiet Space p = (tt, tt)
closes-quiet Pipe p = (tt, tt)
closes-quiet Colon p = (tt, tt)
closes-quiet Filler p = (tt, tt)

opens-quiet : (run : Run) (p : Point) → Roles Quiet (opens run p)
opens-quiet Apart p = tt
opens-quiet Space p = (tt, tt)
opens-quiet Pipe p = (tt, tt)
opens-quiet Colon p = (tt, tt)
opens-quiet Filler p = (tt, tt)

runs-quiet : (run : Run) (bs : List ℕ) (p : Point) → Roles Quiet (delimiter_runs run bs p)
runs-quiet run [] p = closes-quiet run p
runs-quiet run (b ∷ bs) p =
    go (is_continued run b) (runs-quiet run bs (past_byte b p)) (runs-quiet (run_begun b) bs (past_byte b p))
  where
    go : (x : Bool) → Roles Quiet (delimiter_runs run bs (past_byte b p)) →
        Roles Quiet (delimiter_runs (run_begun b) bs (past_byte b p)) →
        Roles Quiet
        (cond x (delimiter_runs run bs (past_byte b p))
        (closes run p ++ opens (run_begun b) p ++ delimiter_runs (run_begun b) bs (past_byte b p)))
    go true on next = on
    go false on next =
        roles-append Quiet (closes run p ++ opens (run_begun b) p) _
        (roles-append Quiet (closes run p) (opens (run_begun b) p) (closes-quiet run p) (opens-quiet (run_begun b) p))
        next

value-quiet : (xs : List ℕ) (p : Point) → Roles Quiet (value_part xs p)
value-quiet [] p = tt
value-quiet (b ∷ bs) p =
    around-roles Quiet n.GfmTableDelimiterCellValue p (past_text (b ∷ bs) p) (delimiter_runs Apart (b ∷ bs) p) tt
    (runs-quiet Apart (b ∷ bs) p)

pub delimiter-quiet : (line : List ℕ) (p : Point) → Roles Quiet (delimiter_events line p)
delimiter-quiet line p =
    row-roles Quiet n.GfmTableDelimiterCell value_part (record { quiet = tt; cell = tt; held = value-quiet }) line p

-- Its text.

-- a tab that is cut before it belongs to its whitespace
text-trim : (bytes line following : List ℕ) (p : Point) → drop p.index bytes ≡ line ++ following →
    (begins is_white line ≡ false → p.vs ≡ 0) →
    trim (slice_range bytes (byte_at p) (past_text line p).index) ≡ trim line
text-trim bytes line following p text whole = go line text whole (p.vs == 0) refl
  where
    go : (l : List ℕ) → drop p.index bytes ≡ l ++ following → (begins is_white l ≡ false → p.vs ≡ 0) → (x : Bool) →
        (p.vs == 0) ≡ x →
        trim (slice_range bytes (byte_at p) (past_text l p).index) ≡ trim l
    go l text whole true e =
        ap (λ (t : Bool). trim (slice_range bytes (cond t p.index (p.index + 1)) (past_text l p).index)) e
        ∙ ap trim (slice-front bytes p.index (past_text l p).index l following text (past-index l p))
    go [] text whole false e = let no : true ≡ false = sym (ap (λ (k : ℕ). k == 0) (whole refl)) ∙ e in cc
    go (b ∷ bs) text whole false e = by (is_white b) refl
      where
        by : (y : Bool) → is_white b ≡ y →
            trim (slice_range bytes (byte_at p) (past_text (b ∷ bs) p).index) ≡ trim (b ∷ bs)
        by false k = let no : true ≡ false = sym (ap (λ (m : ℕ). m == 0) (whole k)) ∙ e in cc
        by true k =
            ap (λ (t : Bool). trim (slice_range bytes (cond t p.index (p.index + 1)) (past_text (b ∷ bs) p).index)) e
            ∙ ap trim
            (slice-front bytes (p.index + 1) (past_text (b ∷ bs) p).index bs following
            (past-next p.index bytes b (bs ++ following) text) (past-index bs (past_byte b p)))
            ∙ sym (ap trim_end (trim-white b bs k))

-- A delimiter row shows its line, where none was said before.
pub delimiter-read : (bytes : List ℕ) (r : Reading) (rows : List (List (List ℕ)))
    (line following : List ℕ) (p : Point) →
    drop p.index bytes ≡ line ++ following → (begins is_white line ≡ false → p.vs ≡ 0) →
    r.leaf ≡ Some (TableLeaf (record { delimiter = []; rows = rows })) →
    read bytes r (around n.GfmTableDelimiterRow p (past_text line p) (delimiter_events line p)) ≡
    record r {
      leaf = Some (TableLeaf (record { delimiter = trim line; rows = rows }));
      text = None;
    }
delimiter-read bytes r rows line following p text whole leaf =
    read-from bytes begun_row begun_row (delimiter_events line p) (exit n.GfmTableDelimiterRow q ∷ [])
    (read-quiet bytes begun_row (delimiter_events line p) (delimiter-quiet line p))
    ∙ ap
    (λ (o : Option OpenLeaf).
    recorded_at bytes AsDelimiter q (Some (begun p)) (record r { leaf = o; text = Some (begun p) })) leaf
    ∙ ap
    (λ (t : List ℕ). record r { leaf = Some (TableLeaf (record { delimiter = t; rows = rows })); text = None })
    (text-trim bytes line following p text whole)
  where
    q : Point
    q = past_text line p

    begun_row : Reading
    begun_row = record r { text = Some (begun p) }
