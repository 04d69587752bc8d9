-- The events of leaves other than text: they hold no item.
use Rattle.std.proofs.Common.{◌≡◌, ℕ, zero, suc, Bool, true, false, cond, List, [], ◌∷◌, ◌++◌, length, take, refl}
use Rattle.std.specs.Prelude.{◌==◌}
use Rattle.md_engine.specs.declared.configuration.ParseOptions.{ParseOptions}
use Rattle.md_engine.specs.declared.event.Content.{Content}
use Rattle.md_engine.specs.declared.event.Content.TheVariants.{String, Text}
use Rattle.md_engine.specs.declared.event.Event.{Event}
use Rattle.md_engine.specs.declared.event.Name.{Name}
use Rattle.md_engine.specs.declared.event.Name.TheVariants as n
use Rattle.md_engine.specs.declared.event.Point.{Point}
use Rattle.md_meaning.specs.Ascii.{dollar, hash, hyphen, colon, pipe}
use Rattle.md_meaning.specs.Bytes.{is_end}
use Rattle.md_meaning.specs.Leaves.{closes, first_word, heading_text}
use Rattle.md_meaning.specs.Rest.{Rest, after_indent, is_blank, lose, run_len, trim_end}
use Rattle.md_meaning.specs.State.{Opening}
use Rattle.md_meaning.specs.Texts.{first_byte}
use Rattle.md_events.specs.Events.Blocks.{is_block}
use Rattle.md_events.specs.Events.Nested.{around, exit, pair}
use Rattle.md_events.specs.Events.Spelled.{role}
use Rattle.md_containers.specs.Listed.{is_item}
use Rattle.md_events.specs.Exact.Leaves.{Inner, cell_content, cell_dashes, cell_len, cell_text, cells, content_line, fence}
use Rattle.md_events.specs.Exact.Leaves.{fence_part, fenced_line, first_end, for_marker, heading_line, info_parts, joined}
use Rattle.md_events.specs.Exact.Leaves.{delimiter_row, last_end, leaf, onto_next, past_optional, row_line, runs, runs_line}
use Rattle.md_events.specs.Exact.Leaves.{span, start, table, text_row}
use Rattle.md_events.specs.Exact.Places.{TextLine, chunk, ending, is_same, line_end, next_line, part, past, piece, place}
use Rattle.md_events.specs.Exact.Places.{text_part, white}
use Rattle.md_events.specs.Exact.Rows.{Row}
use Rattle.proof_exact_lines.specs.Unlisted.{NoneIs}
use Rattle.proof_exact_lines.proofs.ListWalk.{none-append, none-items, none-part, none-piece}

-- no event is of an item
abbrev pub NoItem : List Event → Type 0
NoItem es = NoneIs is_item es

pub item-append : (es fs : List Event) → NoItem es → NoItem fs → NoItem (es ++ fs)
item-append es fs h k = none-append is_item es fs h k

pub item-around : (name : Name) (p q : Point) (inside : List Event) → is_item (role name) ≡ false → NoItem inside →
    NoItem (around name p q inside)
item-around name p q inside h k = (h, item-append inside (exit name q ∷ []) k (h, tt))

pub item-white : (line : TextLine) (r s : Rest) → NoItem (white line r s)
item-white line r s = none-piece is_item line n.SpaceOrTab r s refl

pub item-chunk : (c : Content) (p q : Point) → NoItem (chunk c p q)
item-chunk c p q = (refl, (refl, tt))

item-text : (line : TextLine) (content : Content) (name : Name) (r s : Rest) → is_item (role name) ≡ false →
    NoItem (text_part line content name r s)
item-text line content name r s h = go (is_same r s)
  where
    go : (x : Bool) → NoItem (cond x [] (part line name r s (chunk content (place line r) (place line s))))
    go true = tt
    go false = (h, (refl, (refl, (h, tt))))

-- Several lines.

-- what is before lines is of no block
abbrev pub Plain : List Row → Type 0
Plain [] = Unit {0}
Plain (row ∷ rows) = NoneIs is_block row.front × Plain rows

line-ending : (line : TextLine) → NoneIs is_block (ending n.LineEnding line)
line-ending line = go (is_end line.ending)
  where
    go : (x : Bool) →
        NoneIs is_block (cond x [] (pair n.LineEnding (place line (line_end line)) (next_line line)))
    go true = tt
    go false = (refl, (refl, tt))

pub next-none : (row : Row) (rows : List Row) → Plain rows → NoneIs is_block (onto_next (row ∷ rows))
next-none row [] h = tt
next-none row (next ∷ rows) h =
    none-append is_block (ending n.LineEnding row.line) next.front (line-ending row.line) h.0

abbrev pub OfLines : (TextLine → Rest → List Event) → Type 0
OfLines inside = (line : TextLine) (r : Rest) → NoItem (inside line r)

joined-items : (inside : TextLine → Rest → List Event) → OfLines inside → (rows : List Row) → Plain rows →
    NoItem (joined inside rows)
joined-items inside h [] k = tt
joined-items inside h (row ∷ rows) k =
    item-append (inside row.line row.rest ++ onto_next (row ∷ rows)) (joined inside rows)
    (item-append (inside row.line row.rest) (onto_next (row ∷ rows)) (h row.line row.rest)
    (none-items (onto_next (row ∷ rows)) (next-none row rows k.1)))
    (joined-items inside h rows k.1)

-- the first row may have anything in front
pub leaf-items : (name : Name) (inside : TextLine → Rest → List Event) → is_item (role name) ≡ false → OfLines inside →
    (row : Row) (rows : List Row) → Plain rows → NoItem (leaf name inside (row ∷ rows))
leaf-items name inside e h row rows k =
    item-around name (start (row ∷ rows)) (start (last_end (row ∷ rows))) (joined inside (row ∷ rows)) e
    (item-append (inside row.line row.rest ++ onto_next (row ∷ rows)) (joined inside rows)
    (item-append (inside row.line row.rest) (onto_next (row ∷ rows)) (h row.line row.rest)
    (none-items (onto_next (row ∷ rows)) (next-none row rows k)))
    (joined-items inside h rows k))

-- Lines.

runs-items : (size : ℕ) (name : Name) → is_item (role name) ≡ false → OfLines (runs size name)
runs-items zero name e line r = tt
runs-items (suc size) name e line r =
    let marks = after_indent r in
    let after = past (run_len (first_byte marks.bytes) marks.bytes) marks in
    item-append (white line r marks ++ piece line name marks after) (runs size name line after)
    (item-append (white line r marks) (piece line name marks after) (item-white line r marks)
    (none-piece is_item line name marks after e))
    (runs-items size name e line after)

pub runs_line-items : (name : Name) → is_item (role name) ≡ false → OfLines (runs_line name)
runs_line-items name e line r = runs-items (length r.bytes) name e line r

pub heading-items : OfLines heading_line
heading-items line r =
    let opening = after_indent r in
    let after_opening = past (run_len hash opening.bytes) opening in
    let text = after_indent after_opening in
    let after_text = past (length (heading_text after_opening.bytes)) text in
    let closing = after_indent after_text in
    let after_closing = past (run_len hash closing.bytes) closing in
    let a = white line r opening in
    let b = piece line n.HeadingAtxSequence opening after_opening in
    let c = white line after_opening text in
    let d = text_part line Text n.HeadingAtxText text after_text in
    let e = white line after_text closing in
    let f = piece line n.HeadingAtxSequence closing after_closing in
    let g = white line after_closing (line_end line) in
    item-append (a ++ b ++ c ++ d ++ e ++ f) g
    (item-append (a ++ b ++ c ++ d ++ e) f
    (item-append (a ++ b ++ c ++ d) e
    (item-append (a ++ b ++ c) d
    (item-append (a ++ b) c
    (item-append a b (item-white line r opening)
    (none-piece is_item line n.HeadingAtxSequence opening after_opening refl))
    (item-white line after_opening text))
    (item-text line Text n.HeadingAtxText text after_text refl))
    (item-white line after_text closing))
    (none-piece is_item line n.HeadingAtxSequence closing after_closing refl))
    (item-white line after_closing (line_end line))

pub content-items : (name : Name) (columns : ℕ) → is_item (role name) ≡ false → OfLines (content_line name columns)
content-items name columns e line r =
    item-append (white line r (lose columns r)) (piece line name (lose columns r) (line_end line))
    (item-white line r (lose columns r)) (none-piece is_item line name (lose columns r) (line_end line) e)

-- Fences.

marker-item : (m : ℕ) (code math : Name) → is_item (role code) ≡ false → is_item (role math) ≡ false →
    is_item (role (for_marker m code math)) ≡ false
marker-item m code math h k = go (m == dollar)
  where
    go : (x : Bool) → is_item (role (cond x math code)) ≡ false
    go true = k
    go false = h

fence_part-items : (m : ℕ) (line : TextLine) (r : Rest) (inside : Rest → List Event) →
    ((s : Rest) → NoItem (inside s)) → NoItem (fence_part m line r inside)
fence_part-items m line r inside h =
    let after = past (run_len m r.bytes) r in
    let name = for_marker m n.CodeFencedFenceSequence n.MathFlowFenceSequence in
    none-part is_item line (for_marker m n.CodeFencedFence n.MathFlowFence) r (line_end line)
    (piece line name r after ++ inside after) (marker-item m n.CodeFencedFence n.MathFlowFence refl refl)
    (item-append (piece line name r after) (inside after)
    (none-piece is_item line name r after (marker-item m n.CodeFencedFenceSequence n.MathFlowFenceSequence refl refl))
    (h after))

info-items : (m : ℕ) (line : TextLine) (r : Rest) → NoItem (info_parts m line r)
info-items m line r = item-append (white line r text) _ (item-white line r text) (go (m == dollar))
  where
    text : Rest
    text = after_indent r

    after_word : Rest
    after_word = past (length (first_word text.bytes)) text

    meta : Rest
    meta = after_indent after_word

    info : List Event
    info = text_part line String n.CodeFencedFenceInfo text after_word

    last : List Event
    last = text_part line String n.CodeFencedFenceMeta meta (line_end line)

    go : (x : Bool) →
        NoItem
        (cond x (text_part line String n.MathFlowFenceMeta text (line_end line))
        (info ++ white line after_word meta ++ last))
    go true = item-text line String n.MathFlowFenceMeta text (line_end line) refl
    go false =
        item-append (info ++ white line after_word meta) last
        (item-append info (white line after_word meta)
        (item-text line String n.CodeFencedFenceInfo text after_word refl) (item-white line after_word meta))
        (item-text line String n.CodeFencedFenceMeta meta (line_end line) refl)

fenced-items : (options : ParseOptions) (o : Opening) → OfLines (fenced_line options o)
fenced-items options o line r = go (closes options o r)
  where
    go : (x : Bool) →
        NoItem
        (cond x
        (white line r (after_indent r)
        ++ fence_part o.marker line (after_indent r) (λ after. white line after (line_end line)))
        (content_line (for_marker o.marker n.CodeFlowChunk n.MathFlowChunk) o.indent line r))
    go true =
        item-append (white line r (after_indent r))
        (fence_part o.marker line (after_indent r) (λ after. white line after (line_end line)))
        (item-white line r (after_indent r))
        (fence_part-items o.marker line (after_indent r) (λ after. white line after (line_end line))
        (λ after. item-white line after (line_end line)))
    go false =
        content-items (for_marker o.marker n.CodeFlowChunk n.MathFlowChunk) o.indent
        (marker-item o.marker n.CodeFlowChunk n.MathFlowChunk refl refl) line r

pub fence-items : (options : ParseOptions) (o : Opening) (row : Row) (rows : List Row) → Plain rows →
    NoItem (fence options o (row ∷ rows))
fence-items options o row rows h =
    let first : Row = record row { rest = after_indent row.rest } in
    let part = fence_part o.marker row.line first.rest (info_parts o.marker row.line) in
    let inside = part ++ onto_next (row ∷ rows) ++ joined (fenced_line options o) rows in
    item-append (white row.line row.rest first.rest)
    (span (for_marker o.marker n.CodeFenced n.MathFlow) (first ∷ rows) (last_end (first ∷ rows)) inside)
    (item-white row.line row.rest first.rest)
    (item-around (for_marker o.marker n.CodeFenced n.MathFlow) (start (first ∷ rows)) (start (last_end (first ∷ rows)))
    inside (marker-item o.marker n.CodeFenced n.MathFlow refl refl)
    (item-append (part ++ onto_next (row ∷ rows)) (joined (fenced_line options o) rows)
    (item-append part (onto_next (row ∷ rows))
    (fence_part-items o.marker row.line first.rest (info_parts o.marker row.line)
    (λ after. info-items o.marker row.line after))
    (none-items (onto_next (row ∷ rows)) (next-none row rows h)))
    (joined-items (fenced_line options o) (fenced-items options o) rows h)))

-- Tables.

-- what is in a cell
abbrev OfCells : Inner → Type 0
OfCells inner = (line : TextLine) (r s : Rest) → NoItem (inner line r s)

text-cells : OfCells cell_text
text-cells line r s = item-text line Text n.GfmTableCellText r s refl

dashes-cells : OfCells cell_dashes
dashes-cells line r s =
    let dashes = past_optional colon r in
    let after = past (run_len hyphen dashes.bytes) dashes in
    let a = piece line n.GfmTableDelimiterMarker r dashes in
    let b = piece line n.GfmTableDelimiterFiller dashes after in
    let c = piece line n.GfmTableDelimiterMarker after s in
    none-part is_item line n.GfmTableDelimiterCellValue r s (a ++ b ++ c) refl
    (item-append (a ++ b) c
    (item-append a b (none-piece is_item line n.GfmTableDelimiterMarker r dashes refl)
    (none-piece is_item line n.GfmTableDelimiterFiller dashes after refl))
    (none-piece is_item line n.GfmTableDelimiterMarker after s refl))

cell-items : (inner : Inner) → OfCells inner → (size : ℕ) → OfCells (cell_content inner size)
cell-items inner h size line r s = go (is_blank bytes)
  where
    bytes : List ℕ
    bytes = take size r.bytes

    begin : Rest
    begin = after_indent r

    end : Rest
    end = past (length (trim_end bytes)) r

    go : (x : Bool) → NoItem (cond x (white line r s) (white line r begin ++ inner line begin end ++ white line end s))
    go true = item-white line r s
    go false =
        item-append (white line r begin ++ inner line begin end) (white line end s)
        (item-append (white line r begin) (inner line begin end) (item-white line r begin) (h line begin end))
        (item-white line end s)

cells-items : (size : ℕ) (name : Name) → is_item (role name) ≡ false → (inner : Inner) → OfCells inner →
    OfLines (cells size name inner)
cells-items zero name e inner h line r = tt
cells-items (suc size) name e inner h line r = by (cells-items size name e inner h line bar) (is_blank after.bytes)
  where
    begin : Rest
    begin = past_optional pipe r

    len : ℕ
    len = cell_len false begin.bytes

    bar : Rest
    bar = past len begin

    after : Rest
    after = past_optional pipe bar

    front : List Event
    front = piece line n.GfmTableCellDivider r begin

    content : List Event
    content = cell_content inner len line begin bar

    by : NoItem (cells size name inner line bar) → (x : Bool) →
        NoItem
        (part line name r (cond x after bar)
        (front ++ content ++ piece line n.GfmTableCellDivider bar (cond x after bar))
        ++ cond x (white line (cond x after bar) (line_end line)) (cells size name inner line bar))
    by more x =
        item-append
        (part line name r end (front ++ content ++ piece line n.GfmTableCellDivider bar end))
        (cond x (white line end (line_end line)) (cells size name inner line bar))
        (none-part is_item line name r end (front ++ content ++ piece line n.GfmTableCellDivider bar end) e
        (item-append (front ++ content) (piece line n.GfmTableCellDivider bar end)
        (item-append front content (none-piece is_item line n.GfmTableCellDivider r begin refl)
        (cell-items inner h len line begin bar))
        (none-piece is_item line n.GfmTableCellDivider bar end refl)))
        (last x)
      where
        end : Rest
        end = cond x after bar

        last : (y : Bool) → NoItem (cond y (white line end (line_end line)) (cells size name inner line bar))
        last true = item-white line end (line_end line)
        last false = more

row-items : (name cell : Name) → is_item (role name) ≡ false → is_item (role cell) ≡ false → (inner : Inner) →
    OfCells inner → OfLines (row_line name cell inner)
row-items name cell e f inner h line r =
    let after = after_indent r in
    none-part is_item line name r (line_end line) (white line r after ++ cells (length r.bytes) cell inner line after) e
    (item-append (white line r after) (cells (length r.bytes) cell inner line after) (item-white line r after)
    (cells-items (length r.bytes) cell f inner h line after))

pub table-items : (head under : Row) (body : List Row) → Plain (under ∷ body) → NoItem (table (head ∷ under ∷ body))
table-items head under body h =
    let first = text_row head.line head.rest in
    let second = delimiter_row under.line under.rest in
    let way = onto_next (head ∷ under ∷ []) in
    let inside = span n.GfmTableHead (head ∷ []) (first_end (under ∷ [])) (first ++ way ++ second) in
    let last = leaf n.GfmTableBody text_row body in
    item-around n.GfmTable (start (head ∷ [])) (start (last_end (under ∷ body)))
    (inside ++ onto_next (under ∷ body) ++ last) refl
    (item-append (inside ++ onto_next (under ∷ body)) last
    (item-append inside (onto_next (under ∷ body))
    (item-around n.GfmTableHead (start (head ∷ [])) (start (first_end (under ∷ []))) (first ++ way ++ second) refl
    (item-append (first ++ way) second
    (item-append first way (row-items n.GfmTableRow n.GfmTableCell refl refl cell_text text-cells head.line head.rest)
    (none-items way (next-none head (under ∷ []) (h.0, tt))))
    (row-items n.GfmTableDelimiterRow n.GfmTableDelimiterCell refl refl cell_dashes dashes-cells under.line
    under.rest)))
    (none-items (onto_next (under ∷ body)) (next-none under body h.1)))
    (by body h.1))
  where
    by : (body : List Row) → Plain body → NoItem (leaf n.GfmTableBody text_row body)
    by [] k = tt
    by (row ∷ rows) k =
        leaf-items n.GfmTableBody text_row refl
        (row-items n.GfmTableRow n.GfmTableCell refl refl cell_text text-cells) row rows k.1
