-- The events of leaves: lines one after the other in one leaf, and what is in a line of each leaf.
use Rattle.std.specs.Prelude.{ℕ, zero, suc, ◌+◌, Bool, true, false, ◌==◌, if◌then◌else◌, List, [], ◌∷◌, ◌++◌, length}
use Rattle.std.specs.Prelude.{take}
use Rattle.md_engine.specs.declared.configuration.ParseOptions.{ParseOptions}
use Rattle.md_engine.specs.declared.event.Content.TheVariants.{String, Text}
use Rattle.md_engine.specs.declared.event.Event.{Event}
use Rattle.md_engine.specs.declared.event.Name.{Name}
use Rattle.md_engine.specs.declared.event.Name.TheVariants as n
use Rattle.md_engine.specs.declared.event.Point.{Point}
use Rattle.md_meaning.specs.Ascii.{backslash, colon, dollar, hash, hyphen, pipe}
use Rattle.md_meaning.specs.Leaves.{closes, first_word, heading_text}
use Rattle.md_meaning.specs.Lines.{begins_with}
use Rattle.md_meaning.specs.Rest.{Rest, after_indent, is_blank, lose, run_len, trim_end}
use Rattle.md_meaning.specs.State.{Opening}
use Rattle.md_meaning.specs.Texts.{first_byte}
use Rattle.md_events.specs.Events.Nested.{around}
use Rattle.md_events.specs.Events.Places.{first_point}
use Rattle.md_events.specs.Exact.Places.{TextLine, ending, line_end, part, past, piece, place, text_part, white}
use Rattle.md_events.specs.Exact.Rows.{Row}

-- Leaves of several lines.

-- the point where the first of these rows begins
abbrev pub start : List Row → Point
start [] = first_point
start (row ∷ rows) = place row.line row.rest

-- the end of the first of them, and that of the last
abbrev pub first_end : List Row → List Row
first_end [] = []
first_end (row ∷ rows) = record row { rest = line_end row.line } ∷ rows

abbrev pub last_end : List Row → List Row
last_end [] = []
last_end (row ∷ []) = first_end (row ∷ [])
last_end (row ∷ next ∷ rows) = last_end (next ∷ rows)

-- a part from one place to another
abbrev pub span : Name → List Row → List Row → List Event → List Event
span name rows ends inside = around name (start rows) (start ends) inside

-- on to the next line: an ending, and the prefixes after it
abbrev pub onto_next : List Row → List Event
onto_next (row ∷ next ∷ rows) = ending n.LineEnding row.line ++ next.front
onto_next rows = []

-- what is in these lines, with the way from each to the next
abbrev pub joined : (TextLine → Rest → List Event) → List Row → List Event
joined inside [] = []
joined inside (row ∷ rows) = inside row.line row.rest ++ onto_next (row ∷ rows) ++ joined inside rows

-- the leaf over them; none over no lines
abbrev pub leaf : Name → (TextLine → Rest → List Event) → List Row → List Event
leaf name inside [] = []
leaf name inside (row ∷ rows) = span name (row ∷ rows) (last_end (row ∷ rows)) (joined inside (row ∷ rows))

-- Thematic breaks and underlines (CommonMark 4.1, 4.3).

-- at most so many runs of one marker, with whitespace before each and after them
abbrev pub runs : ℕ → Name → TextLine → Rest → List Event
runs zero name line r = []
runs (suc size) name line r =
    let marks = after_indent r in
    let after = past (run_len (first_byte marks.bytes) marks.bytes) marks in
    white line r marks ++ piece line name marks after ++ runs size name line after

-- all runs of a line
abbrev pub runs_line : Name → TextLine → Rest → List Event
runs_line name line r = runs (length r.bytes) name line r

-- ATX headings (CommonMark 4.2).

-- the opening run after its indent, the text, and perhaps a closing run after whitespace
abbrev pub heading_line : TextLine → Rest → List Event
heading_line line r =
    let opening = after_indent r in
    let after_opening = past (run_len hash opening.bytes) opening in
    let text = after_indent after_opening in
    let after_text = past (length (heading_text after_opening.bytes)) text in
    let closing = after_indent after_text in
    let after_closing = past (run_len hash closing.bytes) closing in
    white line r opening
    ++ piece line n.HeadingAtxSequence opening after_opening
    ++ white line after_opening text
    ++ text_part line Text n.HeadingAtxText text after_text
    ++ white line after_text closing
    ++ piece line n.HeadingAtxSequence closing after_closing
    ++ white line after_closing (line_end line)

-- Code, HTML and math (CommonMark 4.4 to 4.6).

-- a line that loses so many columns of whitespace, or as many as there are: what it loses, and what is left of it
abbrev pub content_line : Name → ℕ → TextLine → Rest → List Event
content_line name columns line r =
    white line r (lose columns r) ++ piece line name (lose columns r) (line_end line)

-- by the marker of a fence: a name of fenced code, or of math
abbrev pub for_marker : ℕ → Name → Name → Name
for_marker m code math = if m == dollar then math else code

-- a fence from its first marker on, and what is between its run and the end of the line
abbrev pub fence_part : ℕ → TextLine → Rest → (Rest → List Event) → List Event
fence_part m line r inside =
    let after = past (run_len m r.bytes) r in
    part line (for_marker m n.CodeFencedFence n.MathFlowFence) r (line_end line)
    (piece line (for_marker m n.CodeFencedFenceSequence n.MathFlowFenceSequence) r after ++ inside after)

-- after the run of an opening fence: for code the first word and what follows it, for math all as one
abbrev pub info_parts : ℕ → TextLine → Rest → List Event
info_parts m line r =
    let text = after_indent r in
    let after_word = past (length (first_word text.bytes)) text in
    let meta = after_indent after_word in
    white line r text
    ++ (if m == dollar then text_part line String n.MathFlowFenceMeta text (line_end line)
    else text_part line String n.CodeFencedFenceInfo text after_word
    ++ white line after_word meta
    ++ text_part line String n.CodeFencedFenceMeta meta (line_end line))

-- a further line after this opening fence: a closing fence after its indent, or content
abbrev pub fenced_line : ParseOptions → Opening → TextLine → Rest → List Event
fenced_line options o line r =
    if closes options o r
    then white line r (after_indent r)
    ++ fence_part o.marker line (after_indent r) (λ after. white line after (line_end line))
    else content_line (for_marker o.marker n.CodeFlowChunk n.MathFlowChunk) o.indent line r

-- all lines: the indent of the opening fence is before the leaf
abbrev pub fence : ParseOptions → Opening → List Row → List Event
fence options o [] = []
fence options o (row ∷ rows) =
    let first = record row { rest = after_indent row.rest } in
    white row.line row.rest first.rest
    ++ span (for_marker o.marker n.CodeFenced n.MathFlow) (first ∷ rows) (last_end (first ∷ rows))
    (fence_part o.marker row.line first.rest (info_parts o.marker row.line)
    ++ onto_next (row ∷ rows) ++ joined (fenced_line options o) rows)

-- Tables (GFM 4.10).

-- how many bytes are before the next pipe; `escaped` says that a backslash takes the byte that is next
abbrev pub cell_len : Bool → List ℕ → ℕ
cell_len escaped [] = 0
cell_len true (b ∷ bytes) = 1 + cell_len false bytes
cell_len false (b ∷ bytes) = if b == pipe then 0 else 1 + cell_len (b == backslash) bytes

-- after this byte, if it comes first
abbrev pub past_optional : ℕ → Rest → Rest
past_optional b r = if begins_with b r.bytes then past 1 r else r

-- What is in a cell, from one rest to another.
abbrev pub Inner : Type 0
Inner = TextLine → Rest → Rest → List Event

-- a text, and in a delimiter row dashes with a colon perhaps on either side
abbrev pub cell_text : Inner
cell_text line r s = text_part line Text n.GfmTableCellText r s

abbrev pub cell_dashes : Inner
cell_dashes line r s =
    let dashes = past_optional colon r in
    let after = past (run_len hyphen dashes.bytes) dashes in
    part line n.GfmTableDelimiterCellValue r s
    (piece line n.GfmTableDelimiterMarker r dashes
    ++ piece line n.GfmTableDelimiterFiller dashes after
    ++ piece line n.GfmTableDelimiterMarker after s)

-- so many bytes between two rests: whitespace, or what is in a cell with whitespace around it
abbrev pub cell_content : Inner → ℕ → TextLine → Rest → Rest → List Event
cell_content inner size line r s =
    let bytes = take size r.bytes in
    let begin = after_indent r in
    let end = past (length (trim_end bytes)) r in
    if is_blank bytes then white line r s else white line r begin ++ inner line begin end ++ white line end s

-- Cells from a rest on, at most so many. Each has the pipe before it; the last has also the pipe after it, and
-- whitespace after that is after the cells.
abbrev pub cells : ℕ → Name → Inner → TextLine → Rest → List Event
cells zero name inner line r = []
cells (suc size) name inner line r =
    let begin = past_optional pipe r in
    let len = cell_len false begin.bytes in
    let bar = past len begin in
    let after = past_optional pipe bar in
    let is_last = is_blank after.bytes in
    let end = if is_last then after else bar in
    part line name r end
    (piece line n.GfmTableCellDivider r begin ++ cell_content inner len line begin bar
    ++ piece line n.GfmTableCellDivider bar end)
    ++ (if is_last then white line end (line_end line) else cells size name inner line bar)

-- a row, its cells after its indent
abbrev pub row_line : Name → Name → Inner → TextLine → Rest → List Event
row_line name cell inner line r =
    part line name r (line_end line)
    (white line r (after_indent r) ++ cells (length r.bytes) cell inner line (after_indent r))

-- a row of texts, as the head and those of the body, and a delimiter row
abbrev pub text_row : TextLine → Rest → List Event
text_row line r = row_line n.GfmTableRow n.GfmTableCell cell_text line r

abbrev pub delimiter_row : TextLine → Rest → List Event
delimiter_row line r = row_line n.GfmTableDelimiterRow n.GfmTableDelimiterCell cell_dashes line r

-- the head, its delimiter row, and the rows of the body
abbrev pub table : List Row → List Event
table (head ∷ under ∷ body) =
    span n.GfmTable (head ∷ []) (last_end (under ∷ body))
    (span n.GfmTableHead (head ∷ []) (first_end (under ∷ []))
    (text_row head.line head.rest ++ onto_next (head ∷ under ∷ []) ++ delimiter_row under.line under.rest)
    ++ onto_next (under ∷ body) ++ leaf n.GfmTableBody text_row body)
table rows = []
