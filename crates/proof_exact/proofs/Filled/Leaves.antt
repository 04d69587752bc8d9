-- The events of leaves other than paragraphs: the text parts of headings and of cells are filled, and no other part
-- must be.
use Rattle.std.proofs.Common.{◌≡◌, ℕ, zero, suc, Bool, true, false, cond, List, [], ◌∷◌, ◌++◌, length, take, refl}
use Rattle.std.specs.Prelude.{◌==◌}
use Rattle.md_engine.specs.declared.configuration.ParseOptions.{ParseOptions}
use Rattle.md_engine.specs.declared.event.Content.TheVariants.{String, Text}
use Rattle.md_engine.specs.declared.event.Event.{Event}
use Rattle.md_engine.specs.declared.event.Name.{Name}
use Rattle.md_engine.specs.declared.event.Name.TheVariants as n
use Rattle.md_meaning.specs.Ascii.{dollar, hash, hyphen, colon, pipe}
use Rattle.md_meaning.specs.Bytes.{is_end}
use Rattle.md_meaning.specs.Leaves.{closes, first_word, heading_text}
use Rattle.md_meaning.specs.Lines.{begins_with}
use Rattle.md_meaning.specs.Rest.{Rest, after_indent, is_blank, lose, run_len, trim_end}
use Rattle.md_meaning.specs.State.{Opening}
use Rattle.md_meaning.specs.Texts.{first_byte}
use Rattle.md_events.specs.Events.Nested.{pair}
use Rattle.md_events.specs.Exact.Leaves.{Inner, cell_content, cell_dashes, cell_len, cell_text, cells, content_line, fence}
use Rattle.md_events.specs.Exact.Leaves.{fence_part, fenced_line, first_end, for_marker, heading_line, info_parts, joined}
use Rattle.md_events.specs.Exact.Leaves.{delimiter_row, last_end, leaf, onto_next, past_optional, row_line, runs, runs_line}
use Rattle.md_events.specs.Exact.Leaves.{span, start, table, text_row}
use Rattle.md_events.specs.Exact.Places.{TextLine, ending, line_end, next_line, part, past, piece, place}
use Rattle.md_events.specs.Exact.Places.{text_part, white}
use Rattle.md_events.specs.Exact.Rows.{Row}
use Rattle.proof_exact.proofs.Filled.LineParts.{filled-cell, filled-size, indent-dark, indent-whole}
use Rattle.proof_exact.proofs.Filled.LineTexts.{IsRest, rest-indent, rest-past}
use Rattle.proof_exact.proofs.Filled.Parts.{Filled, filled-append, filled-around, filled-none, filled-pair, filled-part}
use Rattle.proof_exact.proofs.Filled.Parts.{filled-piece, filled-string, filled-white, is_plain}

-- A line that was read: its rest is one of a line of the text, and what is before and after it is filled.
pub record IsLine (bytes : List ℕ) (row : Row) : Type 0 where
  pub rest : IsRest bytes row.line row.rest
  pub front : Filled bytes row.front
  pub ends : Filled bytes row.ends

abbrev pub AreLines : List ℕ → List Row → Type 0
AreLines bytes [] = Unit {0}
AreLines bytes (row ∷ rows) = IsLine bytes row × AreLines bytes rows

-- Several lines.

pub line-ending : {bytes : List ℕ} (name : Name) (line : TextLine) → is_plain name ≡ true →
    Filled bytes (ending name line)
line-ending {bytes} name line h = go (is_end line.ending)
  where
    go : (x : Bool) → Filled bytes (cond x [] (pair name (place line (line_end line)) (next_line line)))
    go true = filled-none
    go false = filled-pair name (place line (line_end line)) (next_line line) h

pub next-filled : {bytes : List ℕ} (row : Row) (rows : List Row) → AreLines bytes rows →
    Filled bytes (onto_next (row ∷ rows))
next-filled row [] h = filled-none
next-filled row (next ∷ rows) h =
    filled-append (ending n.LineEnding row.line) next.front (line-ending n.LineEnding row.line refl) h.0.front

abbrev pub OfLines : List ℕ → (TextLine → Rest → List Event) → Type 0
OfLines bytes inside = (line : TextLine) (r : Rest) → IsRest bytes line r → Filled bytes (inside line r)

pub joined-filled : {bytes : List ℕ} (inside : TextLine → Rest → List Event) → OfLines bytes inside →
    (rows : List Row) → AreLines bytes rows → Filled bytes (joined inside rows)
joined-filled inside h [] k = filled-none
joined-filled inside h (row ∷ rows) k =
    filled-append (inside row.line row.rest ++ onto_next (row ∷ rows)) (joined inside rows)
    (filled-append (inside row.line row.rest) (onto_next (row ∷ rows)) (h row.line row.rest k.0.rest)
    (next-filled row rows k.1))
    (joined-filled inside h rows k.1)

-- the first line may have anything in front
pub leaf-filled : {bytes : List ℕ} (name : Name) (inside : TextLine → Rest → List Event) → is_plain name ≡ true →
    OfLines bytes inside → (row : Row) (rows : List Row) → IsRest bytes row.line row.rest → AreLines bytes rows →
    Filled bytes (leaf name inside (row ∷ rows))
leaf-filled name inside e h row rows is k =
    filled-around name (start (row ∷ rows)) (start (last_end (row ∷ rows))) (joined inside (row ∷ rows)) e
    (filled-append (inside row.line row.rest ++ onto_next (row ∷ rows)) (joined inside rows)
    (filled-append (inside row.line row.rest) (onto_next (row ∷ rows)) (h row.line row.rest is) (next-filled row rows k))
    (joined-filled inside h rows k))

-- Lines.

runs-filled : {bytes : List ℕ} (size : ℕ) (name : Name) → is_plain name ≡ true → OfLines bytes (runs size name)
runs-filled zero name e line r is = filled-none
runs-filled (suc size) name e line r is =
    let marks = after_indent r in
    let after = past (run_len (first_byte marks.bytes) marks.bytes) marks in
    filled-append (white line r marks ++ piece line name marks after) (runs size name line after)
    (filled-append (white line r marks) (piece line name marks after) (filled-white line r marks)
    (filled-piece line name marks after e))
    (runs-filled size name e line after (rest-past line marks (run_len (first_byte marks.bytes) marks.bytes)
    (rest-indent line r is)))

pub runs_line-filled : {bytes : List ℕ} (name : Name) → is_plain name ≡ true → OfLines bytes (runs_line name)
runs_line-filled name e line r is = runs-filled (length r.bytes) name e line r is

pub heading-filled : {bytes : List ℕ} → OfLines bytes heading_line
heading-filled line r is =
    let opening = after_indent r in
    let after_opening = past (run_len hash opening.bytes) opening in
    let text = after_indent after_opening in
    let after_text = past (length (heading_text after_opening.bytes)) text in
    let closing = after_indent after_text in
    let after_closing = past (run_len hash closing.bytes) closing in
    let a = white line r opening in
    let b = piece line n.HeadingAtxSequence opening after_opening in
    let c = white line after_opening text in
    let d = text_part line Text n.HeadingAtxText text after_text in
    let e = white line after_text closing in
    let f = piece line n.HeadingAtxSequence closing after_closing in
    let g = white line after_closing (line_end line) in
    filled-append (a ++ b ++ c ++ d ++ e ++ f) g
    (filled-append (a ++ b ++ c ++ d ++ e) f
    (filled-append (a ++ b ++ c ++ d) e
    (filled-append (a ++ b ++ c) d
    (filled-append (a ++ b) c
    (filled-append a b (filled-white line r opening)
    (filled-piece line n.HeadingAtxSequence opening after_opening refl))
    (filled-white line after_opening text))
    (filled-size line n.HeadingAtxText text (length (heading_text after_opening.bytes)) refl
    (rest-indent line after_opening (rest-past line opening (run_len hash opening.bytes) (rest-indent line r is)))
    (indent-whole after_opening) (indent-dark after_opening)))
    (filled-white line after_text closing))
    (filled-piece line n.HeadingAtxSequence closing after_closing refl))
    (filled-white line after_closing (line_end line))

pub content-filled : {bytes : List ℕ} (name : Name) (columns : ℕ) → is_plain name ≡ true → OfLines bytes (content_line name columns)
content-filled name columns e line r is =
    filled-append (white line r (lose columns r)) (piece line name (lose columns r) (line_end line))
    (filled-white line r (lose columns r)) (filled-piece line name (lose columns r) (line_end line) e)

-- Fences.

marker-plain : (m : ℕ) (code math : Name) → is_plain code ≡ true → is_plain math ≡ true →
    is_plain (for_marker m code math) ≡ true
marker-plain m code math h k = go (m == dollar)
  where
    go : (x : Bool) → is_plain (cond x math code) ≡ true
    go true = k
    go false = h

fence_part-filled : {bytes : List ℕ} (m : ℕ) (line : TextLine) (r : Rest) (inside : Rest → List Event) →
    ((s : Rest) → Filled bytes (inside s)) → Filled bytes (fence_part m line r inside)
fence_part-filled m line r inside h =
    let after = past (run_len m r.bytes) r in
    let name = for_marker m n.CodeFencedFenceSequence n.MathFlowFenceSequence in
    filled-part line (for_marker m n.CodeFencedFence n.MathFlowFence) r (line_end line)
    (piece line name r after ++ inside after) (marker-plain m n.CodeFencedFence n.MathFlowFence refl refl)
    (filled-append (piece line name r after) (inside after)
    (filled-piece line name r after (marker-plain m n.CodeFencedFenceSequence n.MathFlowFenceSequence refl refl))
    (h after))

info-filled : {bytes : List ℕ} (m : ℕ) (line : TextLine) (r : Rest) → Filled bytes (info_parts m line r)
info-filled {bytes} m line r = filled-append (white line r text) _ (filled-white line r text) (go (m == dollar))
  where
    text : Rest
    text = after_indent r

    after_word : Rest
    after_word = past (length (first_word text.bytes)) text

    meta : Rest
    meta = after_indent after_word

    info : List Event
    info = text_part line String n.CodeFencedFenceInfo text after_word

    last : List Event
    last = text_part line String n.CodeFencedFenceMeta meta (line_end line)

    go : (x : Bool) →
        Filled bytes
        (cond x (text_part line String n.MathFlowFenceMeta text (line_end line))
        (info ++ white line after_word meta ++ last))
    go true = filled-string line String n.MathFlowFenceMeta text (line_end line) refl
    go false =
        filled-append (info ++ white line after_word meta) last
        (filled-append info (white line after_word meta)
        (filled-string line String n.CodeFencedFenceInfo text after_word refl) (filled-white line after_word meta))
        (filled-string line String n.CodeFencedFenceMeta meta (line_end line) refl)

fenced-filled : {bytes : List ℕ} (options : ParseOptions) (o : Opening) → OfLines bytes (fenced_line options o)
fenced-filled {bytes} options o line r is = go (closes options o r)
  where
    go : (x : Bool) →
        Filled bytes
        (cond x
        (white line r (after_indent r)
        ++ fence_part o.marker line (after_indent r) (λ after. white line after (line_end line)))
        (content_line (for_marker o.marker n.CodeFlowChunk n.MathFlowChunk) o.indent line r))
    go true =
        filled-append (white line r (after_indent r))
        (fence_part o.marker line (after_indent r) (λ after. white line after (line_end line)))
        (filled-white line r (after_indent r))
        (fence_part-filled o.marker line (after_indent r) (λ after. white line after (line_end line))
        (λ after. filled-white line after (line_end line)))
    go false =
        content-filled (for_marker o.marker n.CodeFlowChunk n.MathFlowChunk) o.indent
        (marker-plain o.marker n.CodeFlowChunk n.MathFlowChunk refl refl) line r is

pub fence-filled : {bytes : List ℕ} (options : ParseOptions) (o : Opening) (row : Row) (rows : List Row) → AreLines bytes rows →
    Filled bytes (fence options o (row ∷ rows))
fence-filled options o row rows h =
    let first : Row = record row { rest = after_indent row.rest } in
    let part = fence_part o.marker row.line first.rest (info_parts o.marker row.line) in
    let inside = part ++ onto_next (row ∷ rows) ++ joined (fenced_line options o) rows in
    filled-append (white row.line row.rest first.rest)
    (span (for_marker o.marker n.CodeFenced n.MathFlow) (first ∷ rows) (last_end (first ∷ rows)) inside)
    (filled-white row.line row.rest first.rest)
    (filled-around (for_marker o.marker n.CodeFenced n.MathFlow) (start (first ∷ rows)) (start (last_end (first ∷ rows)))
    inside (marker-plain o.marker n.CodeFenced n.MathFlow refl refl)
    (filled-append (part ++ onto_next (row ∷ rows)) (joined (fenced_line options o) rows)
    (filled-append part (onto_next (row ∷ rows))
    (fence_part-filled o.marker row.line first.rest (info_parts o.marker row.line)
    (λ after. info-filled o.marker row.line after))
    (next-filled row rows h))
    (joined-filled (fenced_line options o) (fenced-filled options o) rows h)))

-- Tables.

-- what is in a cell
abbrev OfCells : List ℕ → Inner → Type 0
OfCells bytes inner =
    (size : ℕ) (line : TextLine) (r : Rest) → IsRest bytes line r → is_blank (take size r.bytes) ≡ false →
    Filled bytes (inner line (after_indent r) (past (length (trim_end (take size r.bytes))) r))

text-cells : {bytes : List ℕ} → OfCells bytes cell_text
text-cells size line r is dark = filled-cell line n.GfmTableCellText size r refl is dark

dashes-part : {bytes : List ℕ} (line : TextLine) (r s : Rest) → Filled bytes (cell_dashes line r s)
dashes-part line r s =
    let dashes = past_optional colon r in
    let after = past (run_len hyphen dashes.bytes) dashes in
    let a = piece line n.GfmTableDelimiterMarker r dashes in
    let b = piece line n.GfmTableDelimiterFiller dashes after in
    let c = piece line n.GfmTableDelimiterMarker after s in
    filled-part line n.GfmTableDelimiterCellValue r s (a ++ b ++ c) refl
    (filled-append (a ++ b) c
    (filled-append a b (filled-piece line n.GfmTableDelimiterMarker r dashes refl)
    (filled-piece line n.GfmTableDelimiterFiller dashes after refl))
    (filled-piece line n.GfmTableDelimiterMarker after s refl))

dashes-cells : {bytes : List ℕ} → OfCells bytes cell_dashes
dashes-cells size line r is dark =
    dashes-part line (after_indent r) (past (length (trim_end (take size r.bytes))) r)

cell-filled : {bytes : List ℕ} (inner : Inner) → OfCells bytes inner → (size : ℕ) (line : TextLine) (r s : Rest) →
    IsRest bytes line r → Filled bytes (cell_content inner size line r s)
cell-filled {bytes} inner h size line r s is = go (is_blank (take size r.bytes)) refl
  where
    begin : Rest
    begin = after_indent r

    end : Rest
    end = past (length (trim_end (take size r.bytes))) r

    go : (x : Bool) → is_blank (take size r.bytes) ≡ x →
        Filled bytes (cond x (white line r s) (white line r begin ++ inner line begin end ++ white line end s))
    go true e = filled-white line r s
    go false e =
        filled-append (white line r begin ++ inner line begin end) (white line end s)
        (filled-append (white line r begin) (inner line begin end) (filled-white line r begin) (h size line r is e))
        (filled-white line end s)

rest-optional : {bytes : List ℕ} (b : ℕ) (line : TextLine) (r : Rest) → IsRest bytes line r →
    IsRest bytes line (past_optional b r)
rest-optional {bytes} b line r is = go (begins_with b r.bytes)
  where
    go : (x : Bool) → IsRest bytes line (cond x (past 1 r) r)
    go true = rest-past line r 1 is
    go false = is

cells-filled : {bytes : List ℕ} (size : ℕ) (name : Name) → is_plain name ≡ true → (inner : Inner) →
    OfCells bytes inner → OfLines bytes (cells size name inner)
cells-filled zero name e inner h line r is = filled-none
cells-filled {bytes} (suc size) name e inner h line r is =
    by (cells-filled size name e inner h line bar (rest-past line begin len begin-is)) (is_blank after.bytes)
  where
    begin : Rest
    begin = past_optional pipe r

    begin-is : IsRest bytes line (past_optional pipe r)
    begin-is = rest-optional pipe line r is

    len : ℕ
    len = cell_len false begin.bytes

    bar : Rest
    bar = past len begin

    after : Rest
    after = past_optional pipe bar

    front : List Event
    front = piece line n.GfmTableCellDivider r begin

    content : List Event
    content = cell_content inner len line begin bar

    by : Filled bytes (cells size name inner line bar) → (x : Bool) →
        Filled bytes
        (part line name r (cond x after bar)
        (front ++ content ++ piece line n.GfmTableCellDivider bar (cond x after bar))
        ++ cond x (white line (cond x after bar) (line_end line)) (cells size name inner line bar))
    by more x =
        filled-append
        (part line name r end (front ++ content ++ piece line n.GfmTableCellDivider bar end))
        (cond x (white line end (line_end line)) (cells size name inner line bar))
        (filled-part line name r end (front ++ content ++ piece line n.GfmTableCellDivider bar end) e
        (filled-append (front ++ content) (piece line n.GfmTableCellDivider bar end)
        (filled-append front content (filled-piece line n.GfmTableCellDivider r begin refl)
        (cell-filled inner h len line begin bar begin-is))
        (filled-piece line n.GfmTableCellDivider bar end refl)))
        (last x)
      where
        end : Rest
        end = cond x after bar

        last : (y : Bool) → Filled bytes (cond y (white line end (line_end line)) (cells size name inner line bar))
        last true = filled-white line end (line_end line)
        last false = more

row-filled : {bytes : List ℕ} (name cell : Name) → is_plain name ≡ true → is_plain cell ≡ true → (inner : Inner) →
    OfCells bytes inner → OfLines bytes (row_line name cell inner)
row-filled name cell e f inner h line r is =
    let after = after_indent r in
    filled-part line name r (line_end line) (white line r after ++ cells (length r.bytes) cell inner line after) e
    (filled-append (white line r after) (cells (length r.bytes) cell inner line after) (filled-white line r after)
    (cells-filled (length r.bytes) cell f inner h line after (rest-indent line r is)))

text-row : {bytes : List ℕ} → OfLines bytes text_row
text-row line r is = row-filled n.GfmTableRow n.GfmTableCell refl refl cell_text text-cells line r is

body-filled : {bytes : List ℕ} (body : List Row) → AreLines bytes body → Filled bytes (leaf n.GfmTableBody text_row body)
body-filled [] k = filled-none
body-filled (row ∷ rows) k = leaf-filled n.GfmTableBody text_row refl text-row row rows k.0.rest k.1

pub table-filled : {bytes : List ℕ} (rows : List Row) → AreLines bytes rows → Filled bytes (table rows)
table-filled [] h = filled-none
table-filled (head ∷ []) h = filled-none
table-filled (head ∷ under ∷ body) h =
    let first = text_row head.line head.rest in
    let second = delimiter_row under.line under.rest in
    let way = onto_next (head ∷ under ∷ []) in
    let inside = span n.GfmTableHead (head ∷ []) (first_end (under ∷ [])) (first ++ way ++ second) in
    let last = leaf n.GfmTableBody text_row body in
    filled-around n.GfmTable (start (head ∷ [])) (start (last_end (under ∷ body)))
    (inside ++ onto_next (under ∷ body) ++ last) refl
    (filled-append (inside ++ onto_next (under ∷ body)) last
    (filled-append inside (onto_next (under ∷ body))
    (filled-around n.GfmTableHead (start (head ∷ [])) (start (first_end (under ∷ []))) (first ++ way ++ second) refl
    (filled-append (first ++ way) second
    (filled-append first way (text-row head.line head.rest h.0.rest)
    (next-filled head (under ∷ []) (h.1.0, tt)))
    (row-filled n.GfmTableDelimiterRow n.GfmTableDelimiterCell refl refl cell_dashes dashes-cells under.line
    under.rest h.1.0.rest)))
    (next-filled under body h.1.1))
    (body-filled body h.1.1))
