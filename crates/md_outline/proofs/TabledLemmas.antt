-- Tables: an outline shows their rows and cells as they come. Each cell begins with an empty line, which its text
-- fills, and the line of the table counts the cells of its head.
use Rattle.std.proofs.Common.{◌≡◌, ℕ, ◌+◌, Bool, true, false, cond, List, [], ◌∷◌, ◌++◌, length, slice_range, refl, sym}
use Rattle.std.proofs.Common.{◌∙◌, ap, subst, append_assoc}
use Rattle.std.specs.Prelude.{Option, Some, None}
use Rattle.std.proofs.lemmas.List.{append-nil, length-append, map-append}
use Rattle.md_engine.specs.declared.event.Kind.{Kind}
use Rattle.md_engine.specs.declared.event.Kind.TheVariants.{Enter, Exit}
use Rattle.md_engine.specs.declared.event.Point.{Point}
use Rattle.md_meaning.specs.declared.outline.Word.TheVariants as word
use Rattle.md_meaning.specs.Outline.{Entry, entry, entry_with, row_entries, rows_entries, table_entries}
use Rattle.md_meaning.specs.Rest.{trim}
use Rattle.md_meaning.specs.Tree.{Line}
use Rattle.md_events.specs.Events.Spelled.{AsCell, AsDelimiter, IsCell, IsEnding, IsPrefix, IsQuiet, IsQuoteMarker}
use Rattle.md_events.specs.Events.Spelled.{IsRow, OfTable, LeafRole, Reading, TableLeaf, TableSoFar, TextRole, at_cell}
use Rattle.md_events.specs.Events.Spelled.{at_row, byte_at, columns_left, first_recorded, next_line, on_last, on_leaf}
use Rattle.md_events.specs.Events.Spelled.{read_by}
use Rattle.md_events.specs.Events.Spelled as spelled
use Rattle.md_outline.specs.LinedState.{now_recorded, with_head, without_end}
use Rattle.md_outline.specs.OutlineSteps.{OutlineState, cell_begun, counted_at, state_by, recorded, recorded_at}
use Rattle.md_outline.specs.OutlineSteps.{with_empty}
use Rattle.md_outline.specs.Roles.{shown_as}
use Rattle.md_outline.specs.TablePlaces.{AtCell, AtHead, AfterCell, AfterHead, AfterRow, BodyRow, HeadRow, InCell}
use Rattle.md_outline.specs.TablePlaces.{InDelimiter, InRow, MayBe, Row, TablePlace, after_row, spot_by}
use Rattle.md_outline.specs.TableState.{counted_word, with_cell, with_delimiter, with_row}
use Rattle.md_outline.specs.declared.outline.lined.Form.TheVariants as form
use Rattle.md_outline.specs.declared.outline.lined.Lined.{Lined}
use Rattle.md_outline.specs.declared.outline.role.Purpose.TheVariants as purpose
use Rattle.md_outline.proofs.ClosedTrees.{shown}
use Rattle.md_outline.proofs.LeavesOpen.{Shows, gap-line, known-next, known-open, known-recorded, open-ends}
use Rattle.md_outline.proofs.LinedLines.{end-taken, head-recorded, on-last}
use Rattle.md_outline.proofs.OutlineAgrees.{Agrees}
use Rattle.md_outline.proofs.SiteTexts.{IsOpen, NoText, TextFrom, from-here, marker-within}
use Rattle.md_outline.proofs.SiteTexts.{prefix-enter, prefix-exit, text-ending, text-ends}

-- What is known of one that is open, which has said its delimiter row or not, and of what was shown of it.
abbrev Tabled : TableSoFar → Bool → (ℕ → List Entry) → OutlineState → Reading → Type 0
Tabled table is_recorded lines s r = Shows (TableLeaf table) form.Table is_recorded lines s r

abbrev grid : List ℕ → List (List (List ℕ)) → TableSoFar
grid delimiter rows = record { delimiter = delimiter; rows = rows }

-- the lines of a head with these cells, of which so many are counted
abbrev head_lines : ℕ → List (List ℕ) → ℕ → List Entry
head_lines columns cells depth = entry depth (word.Table columns) ∷ row_entries (depth + 1) cells

-- the lines of all rows, the head first
abbrev all_lines : List ℕ → List (List (List ℕ)) → ℕ → List Entry
all_lines delimiter rows depth = table_entries depth delimiter rows

-- the last row has these cells
abbrev pub OnRow : Row → List (List ℕ) → OutlineState → Reading → Type 0
OnRow HeadRow cells s r = Tabled (grid [] (cells ∷ [])) false (head_lines (length cells) cells) s r
OnRow BodyRow cells s r =
    (delimiter : List ℕ) × (head : List (List ℕ)) × (rows : List (List (List ℕ))) ×
    Tabled (grid delimiter (head ∷ (rows ++ cells ∷ []))) true (all_lines delimiter (head ∷ (rows ++ cells ∷ []))) s r

-- with some cells, and with one more, which is empty yet
abbrev pub Filled : Row → OutlineState → Reading → Type 0
Filled row s r = (cells : List (List ℕ)) × OnRow row cells s r

abbrev pub WithEmpty : Row → OutlineState → Reading → Type 0
WithEmpty row s r = (cells : List (List ℕ)) × OnRow row (cells ++ [] ∷ []) s r

-- all rows that have begun have ended, and the delimiter row has
abbrev pub Rows : OutlineState → Reading → Type 0
Rows s r =
    (delimiter : List ℕ) × (head : List (List ℕ)) × (rows : List (List (List ℕ))) ×
    Tabled (grid delimiter (head ∷ rows)) true (all_lines delimiter (head ∷ rows)) s r

-- before its head
abbrev pub NoRow : OutlineState → Reading → Type 0
NoRow s r = Tabled (grid [] []) false (λ depth. entry depth (word.Table 0) ∷ []) s r

-- What is known at each spot.
abbrev pub AgreesSpot : TablePlace → OutlineState → Reading → Type 0
AgreesSpot AtHead s r = NoRow s r × NoText s r
AgreesSpot (InRow row) s r = Filled row s r × NoText s r
AgreesSpot (AtCell row) s r = WithEmpty row s r × NoText s r
AgreesSpot (InCell row) s r = WithEmpty row s r × ((q : Point) × TextFrom q s r)
AgreesSpot (AfterCell row) s r = Filled row s r × NoText s r
AgreesSpot AfterHead s r = Filled HeadRow s r × NoText s r
AgreesSpot InDelimiter s r = Filled HeadRow s r × ((q : Point) × TextFrom q s r)
AgreesSpot AfterRow s r = Rows s r × NoText s r

-- at each the table is open
row-open : (row : Row) (cells : List (List ℕ)) (s : OutlineState) (r : Reading) → OnRow row cells s r → IsOpen s r
row-open HeadRow cells s r is = known-open s r is.0
row-open BodyRow cells s r is = known-open s r is.3.0

pub spot-open : (spot : TablePlace) (s : OutlineState) (r : Reading) → AgreesSpot spot s r → IsOpen s r
spot-open AtHead s r is = known-open s r is.0.0
spot-open (InRow row) s r is = row-open row is.0.0 s r is.0.1
spot-open (AtCell row) s r is = row-open row (is.0.0 ++ [] ∷ []) s r is.0.1
spot-open (InCell row) s r is = row-open row (is.0.0 ++ [] ∷ []) s r is.0.1
spot-open (AfterCell row) s r is = row-open row is.0.0 s r is.0.1
spot-open AfterHead s r is = row-open HeadRow is.0.0 s r is.0.1
spot-open InDelimiter s r is = row-open HeadRow is.0.0 s r is.0.1
spot-open AfterRow s r is = known-open s r is.0.3.0

-- and after an event there
abbrev pub AgreesAfter : Option TablePlace → OutlineState → Reading → Type 0
AgreesAfter None s r = Agrees s r
AgreesAfter (Some spot) s r = AgreesSpot spot s r

-- Its lines, with one row or one cell more.

rows-more : (depth : ℕ) (rows : List (List (List ℕ))) (cells : List (List ℕ)) →
    rows_entries depth (rows ++ cells ∷ []) ≡ rows_entries depth rows ++ row_entries depth cells
rows-more depth [] cells = append-nil (row_entries depth cells)
rows-more depth (row ∷ rows) cells =
    ap (λ es. row_entries depth row ++ es) (rows-more depth rows cells)
    ∙ sym (append_assoc (row_entries depth row) (rows_entries depth rows) (row_entries depth cells))

row-added : (depth : ℕ) (delimiter : List ℕ) (head : List (List ℕ)) (rows : List (List (List ℕ)))
    (cells : List (List ℕ)) →
    all_lines delimiter (head ∷ (rows ++ cells ∷ [])) depth
    ≡ all_lines delimiter (head ∷ rows) depth ++ row_entries (depth + 1) cells
row-added depth delimiter head rows cells =
    let front : List Entry = head_lines (length head) head depth in
    let line : Entry = entry_with (depth + 1) word.Delimiter delimiter in
    ap (λ es. front ++ line ∷ es) (rows-more (depth + 1) rows cells)
    ∙ sym (append_assoc front (line ∷ rows_entries (depth + 1) rows) (row_entries (depth + 1) cells))

cell-added : (depth : ℕ) (cells : List (List ℕ)) (cell : List ℕ) →
    row_entries depth (cells ++ cell ∷ []) ≡ row_entries depth cells ++ entry_with (depth + 1) word.Cell cell ∷ []
cell-added depth cells cell =
    ap (λ es. entry depth word.Row ∷ es) (map-append (entry_with (depth + 1) word.Cell) cells (cell ∷ []))

head-cell : (depth columns : ℕ) (cells : List (List ℕ)) (cell : List ℕ) →
    head_lines columns (cells ++ cell ∷ []) depth
    ≡ head_lines columns cells depth ++ entry_with ((depth + 1) + 1) word.Cell cell ∷ []
head-cell depth columns cells cell =
    ap (λ es. entry depth (word.Table columns) ∷ es) (cell-added (depth + 1) cells cell)

body-cell : (depth : ℕ) (delimiter : List ℕ) (head : List (List ℕ)) (rows : List (List (List ℕ)))
    (cells : List (List ℕ)) (cell : List ℕ) →
    all_lines delimiter (head ∷ (rows ++ (cells ++ cell ∷ []) ∷ [])) depth
    ≡ all_lines delimiter (head ∷ (rows ++ cells ∷ [])) depth ++ entry_with ((depth + 1) + 1) word.Cell cell ∷ []
body-cell depth delimiter head rows cells cell =
    let front : List Entry = all_lines delimiter (head ∷ rows) depth in
    let more : List Entry = entry_with ((depth + 1) + 1) word.Cell cell ∷ [] in
    row-added depth delimiter head rows (cells ++ cell ∷ [])
    ∙ ap (λ es. front ++ es) (cell-added (depth + 1) cells cell)
    ∙ sym (append_assoc front (row_entries (depth + 1) cells) more)
    ∙ ap (λ es. es ++ more) (sym (row-added depth delimiter head rows cells))

-- the last line is said a text
line-filled : (before front lines from to : List Entry) (e f : Entry) → lines ≡ before ++ from →
    from ≡ front ++ e ∷ [] → to ≡ front ++ f ∷ [] → without_end lines ++ f ∷ [] ≡ before ++ to
line-filled before front lines from to e f is efrom eto =
    ap (λ es. without_end es ++ f ∷ [])
    (is ∙ ap (λ es. before ++ es) efrom ∙ sym (append_assoc before front (e ∷ [])))
    ∙ ap (λ es. es ++ f ∷ []) (end-taken (before ++ front) e)
    ∙ append_assoc before front (f ∷ [])
    ∙ ap (λ es. before ++ es) (sym eto)

-- A row begins: the head,

head-begins : (s : OutlineState) (r : Reading) → NoRow s r →
    OnRow HeadRow [] (record s { lines = with_row s.depth s.lines }) (on_leaf at_row r)
head-begins s r is = (
  known-next at_row is.0 refl,
  ap (with_row s.depth) is.1
      ∙ append_assoc (shown r.outer r.here) (entry s.depth (word.Table 0) ∷ [])
      (entry (s.depth + 1) word.Row ∷ []),
)

-- or a further one
further-begins : (s : OutlineState) (r : Reading) → Rows s r →
    OnRow BodyRow [] (record s { lines = with_row s.depth s.lines }) (on_leaf at_row r)
further-begins s r h = (
  h.0,
  h.1,
  h.2,
  (
    known-next at_row h.3.0 refl,
    ap (with_row s.depth) h.3.1
        ∙ append_assoc (shown r.outer r.here) (all_lines h.0 (h.1 ∷ h.2) s.depth)
        (entry (s.depth + 1) word.Row ∷ [])
        ∙ ap (λ es. shown r.outer r.here ++ es) (sym (row-added s.depth h.0 h.1 h.2 [])),
  ),
)

-- A cell begins.

more-columns : (cells : List (List ℕ)) (cell : List ℕ) → length (cells ++ cell ∷ []) ≡ length cells + 1
more-columns cells cell = length-append cells (cell ∷ [])

cell-begins : (row : Row) (cells : List (List ℕ)) (s : OutlineState) (r : Reading) → OnRow row cells s r →
    OnRow row (cells ++ [] ∷ []) (cell_begun s) (on_leaf at_cell r)
cell-begins HeadRow cells s r is =
    let before : List Entry = shown r.outer r.here in
    let columns : ℕ = length cells in
    let more : List Entry = entry ((s.depth + 1) + 1) word.Cell ∷ [] in
    subst (λ (l : Option Lined). OnRow HeadRow (cells ++ [] ∷ []) (with_empty (counted_at l s)) (on_leaf at_cell r))
    (sym is.0.lined) (
      known-next at_cell is.0 refl,
      ap (λ es. with_cell s.depth (with_head counted_word (length before) es)) is.1
          ∙ ap (with_cell s.depth)
          (head-recorded counted_word before (row_entries (s.depth + 1) cells) (entry s.depth (word.Table columns)))
          ∙ append_assoc before (head_lines (columns + 1) cells s.depth) more
          ∙ ap (λ es. before ++ es) (sym (head-cell s.depth (columns + 1) cells []))
          ∙ ap (λ n. before ++ head_lines n (cells ++ [] ∷ []) s.depth) (sym (more-columns cells [])),
    )
cell-begins BodyRow cells s r h =
    let before : List Entry = shown r.outer r.here in
    let is = h.3 in
    let rows : List (List (List ℕ)) = h.1 ∷ h.2 in
    let more : List Entry = entry ((s.depth + 1) + 1) word.Cell ∷ [] in
    subst (λ (l : Option Lined). OnRow BodyRow (cells ++ [] ∷ []) (with_empty (counted_at l s)) (on_leaf at_cell r))
    (sym is.0.lined) (
      h.0,
      h.1,
      h.2,
      (
        known-next at_cell is.0
            (ap (λ all. TableLeaf (grid h.0 all)) (on-last (λ (now : List (List ℕ)). now ++ [] ∷ []) rows cells)),
        ap (with_cell s.depth) is.1
            ∙ append_assoc before (all_lines h.0 (h.1 ∷ (h.2 ++ cells ∷ [])) s.depth) more
            ∙ ap (λ es. before ++ es) (sym (body-cell s.depth h.0 h.1 h.2 cells [])),
      ),
    )

-- Its text is said.

abbrev with_text : List ℕ → List (List ℕ) → List (List ℕ)
with_text text cells = on_last (λ (cell : List ℕ). first_recorded cell text) cells

text-recorded : (row : Row) (cells : List (List ℕ)) (line : Line) (s : OutlineState) (r : Reading) →
    OnRow row (cells ++ [] ∷ []) s r →
    OnRow row (cells ++ line.text ∷ []) (recorded purpose.Cell false line.text (record s { text = None }))
    (spelled.recorded AsCell line (record r { text = None }))
text-recorded HeadRow cells line s r is =
    let before : List Entry = shown r.outer r.here in
    let columns : ℕ = length (cells ++ [] ∷ []) in (
      known-next (spelled.noted AsCell line) is.0
          (ap (λ row. TableLeaf (grid [] (row ∷ [])))
          (on-last (λ (cell : List ℕ). first_recorded cell line.text) cells [])),
      line-filled before (head_lines columns cells s.depth) s.lines (head_lines columns (cells ++ [] ∷ []) s.depth)
          (head_lines columns (cells ++ line.text ∷ []) s.depth)
          (entry ((s.depth + 1) + 1) word.Cell) (entry_with ((s.depth + 1) + 1) word.Cell line.text) is.1
          (head-cell s.depth columns cells []) (head-cell s.depth columns cells line.text)
          ∙ ap (λ n. before ++ head_lines n (cells ++ line.text ∷ []) s.depth)
          (more-columns cells [] ∙ sym (more-columns cells line.text)),
    )
text-recorded BodyRow cells line s r h =
    let before : List Entry = shown r.outer r.here in
    let is = h.3 in
    let rows : List (List (List ℕ)) = h.1 ∷ h.2 in (
      h.0,
      h.1,
      h.2,
      (
        known-next (spelled.noted AsCell line) is.0
            (ap (λ all. TableLeaf (grid h.0 all))
            (on-last (with_text line.text) rows (cells ++ [] ∷ [])
            ∙ ap (λ row. rows ++ row ∷ []) (on-last (λ (cell : List ℕ). first_recorded cell line.text) cells []))),
        line-filled before (all_lines h.0 (h.1 ∷ (h.2 ++ cells ∷ [])) s.depth) s.lines
            (all_lines h.0 (h.1 ∷ (h.2 ++ (cells ++ [] ∷ []) ∷ [])) s.depth)
            (all_lines h.0 (h.1 ∷ (h.2 ++ (cells ++ line.text ∷ []) ∷ [])) s.depth)
            (entry ((s.depth + 1) + 1) word.Cell) (entry_with ((s.depth + 1) + 1) word.Cell line.text) is.1
            (body-cell s.depth h.0 h.1 h.2 cells []) (body-cell s.depth h.0 h.1 h.2 cells line.text),
      ),
    )

cell-ends : (bytes : List ℕ) (row : Row) (q p : Point) (s : OutlineState) (r : Reading) → WithEmpty row s r →
    TextFrom q s r →
    Filled row (recorded_at bytes purpose.Cell p.index s.text s) (spelled.recorded_at bytes AsCell p r.text r)
    × NoText (recorded_at bytes purpose.Cell p.index s.text s) (spelled.recorded_at bytes AsCell p r.text r)
cell-ends bytes row q p s r h from =
    let line : Line = record { spaces = columns_left q; text = slice_range bytes (byte_at q) p.index } in
    text-ends (λ s r. Filled row s r × NoText s r) bytes q p AsCell purpose.Cell s r from
    ((h.0 ++ line.text ∷ [], text-recorded row h.0 line s r h.1), (refl, refl))

-- The delimiter row.

delimiter-recorded : (cells : List (List ℕ)) (line : Line) (s : OutlineState) (r : Reading) → OnRow HeadRow cells s r →
    Rows (recorded purpose.Delimiter false line.text (record s { text = None }))
    (spelled.recorded AsDelimiter line (record r { text = None }))
delimiter-recorded cells line s r is = (
  trim line.text,
  cells,
  [],
  (
    known-recorded (spelled.noted AsDelimiter line) is.0 refl is.0.leaf (ap now_recorded is.0.lined),
    ap (with_delimiter s.depth line.text) is.1
        ∙ append_assoc (shown r.outer r.here) (head_lines (length cells) cells s.depth)
        (entry_with (s.depth + 1) word.Delimiter (trim line.text) ∷ []),
  ),
)

delimiter-ends : (bytes : List ℕ) (q p : Point) (s : OutlineState) (r : Reading) → Filled HeadRow s r →
    TextFrom q s r →
    Rows (recorded_at bytes purpose.Delimiter p.index s.text s) (spelled.recorded_at bytes AsDelimiter p r.text r)
    × NoText (recorded_at bytes purpose.Delimiter p.index s.text s) (spelled.recorded_at bytes AsDelimiter p r.text r)
delimiter-ends bytes q p s r h from =
    text-ends (λ s r. Rows s r × NoText s r) bytes q p AsDelimiter purpose.Delimiter s r from (
      delimiter-recorded h.0 (record { spaces = columns_left q; text = slice_range bytes (byte_at q) p.index }) s r h.1,
      (refl, refl),
    )

-- One event in it.

row-ends : (row : Row) (s : OutlineState) (r : Reading) → Filled row s r × NoText s r →
    AgreesSpot (after_row row) s r
row-ends HeadRow s r is = is
row-ends BodyRow s r is = ((is.0.1.0, is.0.1.1, is.0.1.2 ++ is.0.0 ∷ [], is.0.1.3), is.1)

span-counted : (lined : Option Lined) (s : OutlineState) → (with_empty (counted_at lined s)).text ≡ s.text
span-counted None s = refl
span-counted (Some lined) s = go lined.is_fenced
  where
    go : (x : Bool) →
        (with_empty (cond x s (record s { lines = with_head counted_word lined.place s.lines }))).text ≡ s.text
    go true = refl
    go false = refl

-- the text that is read stays where a cell begins
pub span-cell : (s : OutlineState) → (cell_begun s).text ≡ s.text
span-cell s = span-counted s.lined s

pub agrees-spot : (bytes : List ℕ) (spot : TablePlace) (kind : Kind) (x : spelled.Role) (p : Point) (s : OutlineState)
    (r : Reading) → MayBe spot kind x → AgreesSpot spot s r →
    AgreesAfter (spot_by spot kind x) (state_by bytes kind (shown_as x) p s) (read_by bytes kind x p r)
agrees-spot bytes AtHead Enter IsRow p s r may is = (([], head-begins s r is.0), is.1)
agrees-spot bytes (InRow row) Enter IsCell p s r may is =
    ((is.0.0, cell-begins row is.0.0 s r is.0.1), (span-cell s ∙ is.1.0, is.1.1))
agrees-spot bytes (InRow row) Exit IsRow p s r may is = row-ends row s r is
agrees-spot bytes (AtCell HeadRow) Enter (TextRole AsCell) p s r may is = (is.0, (p, from-here p s r))
agrees-spot bytes (AtCell BodyRow) Enter (TextRole AsCell) p s r may is = (is.0, (p, from-here p s r))
agrees-spot bytes (AtCell row) Exit IsCell p s r may is = ((is.0.0 ++ [] ∷ [], is.0.1), is.1)
agrees-spot bytes (InCell row) Enter IsEnding p s r may is = is
agrees-spot bytes (InCell row) Exit IsEnding p s r may is =
    text-ending (AgreesSpot (InCell row)) bytes is.1.0 p s r is.1.1 is
agrees-spot bytes (InCell row) Exit (TextRole AsCell) p s r may is = cell-ends bytes row is.1.0 p s r is.0 is.1.1
agrees-spot bytes (AfterCell row) Exit IsCell p s r may is = is
agrees-spot bytes AfterHead Enter IsPrefix p s r may is =
    prefix-enter (Filled HeadRow) bytes p s r (λ s r span spaces text is. is) is
agrees-spot bytes AfterHead Exit IsPrefix p s r may is =
    prefix-exit (Filled HeadRow) bytes p s r (λ s r span spaces text is. is) is
agrees-spot bytes AfterHead Enter IsEnding p s r may is = is
agrees-spot bytes AfterHead Exit IsEnding p s r may is =
    gap-line (Filled HeadRow) bytes p s r is.0.1.0 refl (is.0.0, (known-next next_line is.0.1.0 refl, is.0.1.1)) is
agrees-spot bytes AfterHead Enter (TextRole AsDelimiter) p s r may is = (is.0, (p, from-here p s r))
agrees-spot bytes InDelimiter Exit (TextRole AsDelimiter) p s r may is = delimiter-ends bytes is.1.0 p s r is.0 is.1.1
agrees-spot bytes AfterRow Enter IsPrefix p s r may is =
    prefix-enter Rows bytes p s r (λ s r span spaces text is. is) is
agrees-spot bytes AfterRow Exit IsPrefix p s r may is = prefix-exit Rows bytes p s r (λ s r span spaces text is. is) is
agrees-spot bytes AfterRow Enter IsEnding p s r may is = is
agrees-spot bytes AfterRow Exit IsEnding p s r may is =
    gap-line Rows bytes p s r is.0.3.0 refl
    (is.0.0, is.0.1, is.0.2, (known-next next_line is.0.3.0 refl, is.0.3.1)) is
agrees-spot bytes AfterRow Enter IsRow p s r may is = (([], further-begins s r is.0), is.1)
agrees-spot bytes AfterRow Exit (LeafRole OfTable) p s r may is = open-ends s r is.0.3.0 is.0.3.1 is.1
agrees-spot bytes _ Enter IsQuiet p s r may is = is
agrees-spot bytes _ Exit IsQuiet p s r may is = is
agrees-spot bytes spot Enter IsQuoteMarker p s r may is =
    marker-within (AgreesSpot spot) bytes p s r (spot-open spot s r is) is
agrees-spot bytes _ Exit IsQuoteMarker p s r may is = is
agrees-spot bytes _ _ _ p s r may is = absurd may
