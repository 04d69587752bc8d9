-- The events of a text: its byte order mark, its frontmatter, and the lines of its body, put together as leaves.
use Rattle.std.specs.Prelude.{ℕ, ◌-◌, Bool, true, false, ◌||◌, if◌then◌else◌, List, [], ◌∷◌, ◌++◌, flat_map, length}
use Rattle.std.specs.Prelude.{map, take, drop, Option, Some, None}
use Rattle.md_engine.specs.declared.configuration.ParseOptions.{ParseOptions}
use Rattle.md_engine.specs.declared.event.Event.{Event}
use Rattle.md_engine.specs.declared.event.Name.{Name}
use Rattle.md_engine.specs.declared.event.Name.TheVariants as n
use Rattle.md_meaning.specs.Bytes.{is_end}
use Rattle.md_meaning.specs.Leaves.{LeafResult, Opened, Finished}
use Rattle.md_meaning.specs.Lines.{full_lines_of, lines_of}
use Rattle.md_meaning.specs.Preamble.{first_column, front_of, has_mark, is_front_fence, without_mark}
use Rattle.md_meaning.specs.Rest.{Rest}
use Rattle.md_meaning.specs.State.{At, OpenCode, OpenFence, OpenHtml}
use Rattle.md_meaning.specs.Step.{spot_of}
use Rattle.md_meaning.specs.Texts.{first_byte}
use Rattle.md_meaning.specs.Tree.{Bare, End, Heading, Html}
use Rattle.md_events.specs.Events.Names.{bare_names}
use Rattle.md_events.specs.Events.Nested.{pair}
use Rattle.md_events.specs.Events.Places.{first_point}
use Rattle.md_events.specs.Exact.Leaves.{content_line, fence, heading_line, joined, leaf, runs_line, table}
use Rattle.md_events.specs.Exact.Places.{TextLine, ending, line_end, lines_from, part, past, piece, white, whole}
use Rattle.md_events.specs.Exact.Rows.{AfterCode, Blank, Delimiter, First, FirstText, Further, FurtherText, Head, Role, Row}
use Rattle.md_events.specs.Exact.Rows.{Underline, is_blank_role, rows_of}
use Rattle.md_events.specs.Exact.Texts.{text}

-- The front of a text.

-- its lines after its mark, whose bytes are a column each
abbrev pub text_lines : List ℕ → List TextLine
text_lines source =
    let size = first_column source in lines_from 1 size size (full_lines_of (without_mark source))

-- the events of its mark, if it has one
abbrev pub mark_events : List ℕ → List Event
mark_events source =
    if has_mark source
    then pair n.ByteOrderMark first_point (record { line = 1; column = 4; index = 3; vs = 0 }) else []

-- how many lines its frontmatter has; 0 if there is none
abbrev pub front_size : ParseOptions → List ℕ → ℕ
front_size options source =
    let lines = lines_of (without_mark source) in
    elim (front_of options lines) [ Some front ↦ length lines - length front.after | None ↦ 0 ]

-- a line of frontmatter with this marker: a fence, or any other
abbrev pub front_line : ℕ → TextLine → Rest → List Event
front_line m line r =
    if is_front_fence m r.bytes
    then part line n.FrontmatterFence r (line_end line)
    (piece line n.FrontmatterSequence r (past 3 r) ++ white line (past 3 r) (line_end line))
    else piece line n.FrontmatterChunk r (line_end line)

-- a line that is in no container
abbrev pub front_row : TextLine → Row
front_row line = record {
  line = line;
  stays = 0;
  held = [];
  front = [];
  rest = whole line;
  role = FirstText;
  ends = [];
}

-- Leaves.

-- whether a line continues the leaf of the line before it
abbrev pub is_continued : Role → Bool
is_continued (Further leaf) = true
is_continued FurtherText = true
is_continued Underline = true
is_continued Delimiter = true
is_continued role = false

-- a line before others that are put together: one with the first of them, if that continues it
abbrev pub onto : Row → List (List Row) → List (List Row)
onto row ((next ∷ rows) ∷ groups) =
    if is_continued next.role then (row ∷ next ∷ rows) ∷ groups else (row ∷ []) ∷ (next ∷ rows) ∷ groups
onto row groups = (row ∷ []) ∷ groups

-- the lines of each leaf
abbrev pub grouped : List Row → List (List Row)
grouped [] = []
grouped (row ∷ rows) = onto row (grouped rows)

-- a leaf of which nothing is known but its word, by its names: runs of markers, with whitespace between them
abbrev pub bare_events : List Row → Option (Name × Name) → List Event
bare_events rows (Some names) = leaf names.0 (runs_line names.1) rows
bare_events rows None = []

-- a leaf that is no text, by what the line definition has of its first line
abbrev pub leaf_events : ParseOptions → LeafResult → List Row → List Event
leaf_events options (Finished (Bare word)) rows = bare_events rows (bare_names word)
leaf_events options (Finished (Heading depth lines)) rows = leaf n.HeadingAtx heading_line rows
leaf_events options (Opened (OpenCode lines)) rows = leaf n.CodeIndented (content_line n.CodeFlowChunk 4) rows
leaf_events options (Opened (OpenFence o lines)) rows = fence options o rows
leaf_events options (Opened (OpenHtml kind lines)) rows = leaf n.HtmlFlow (content_line n.HtmlFlowData 0) rows
leaf_events options (Finished (Html lines)) rows = leaf n.HtmlFlow (content_line n.HtmlFlowData 0) rows
leaf_events options became rows = []

-- any, by what its first line is: a blank line after code is cut like a line of it
abbrev pub events_by : ParseOptions → Role → List Row → List Event
events_by options Blank rows = joined (content_line n.SpaceOrTab 0) rows
events_by options AfterCode rows = joined (content_line n.SpaceOrTab 4) rows
events_by options (First became) rows = leaf_events options became rows
events_by options Head rows = table rows
events_by options role rows = text options rows

-- The body of a text.

-- after the last of these lines: the containers that end there, and its ending. That of a line on which nothing at all
-- is is that of a blank line, also where a leaf takes the line.
abbrev pub tail : List Row → List Event
tail [] = []
tail (row ∷ []) =
    row.ends
    ++ ending (if is_blank_role row.role || is_end row.line.bytes then n.BlankLineEnding else n.LineEnding) row.line
tail (row ∷ next ∷ rows) = tail (next ∷ rows)

-- what is before a leaf, the leaf, and what follows it
abbrev pub group_events : ParseOptions → List Row → List Event
group_events options [] = []
group_events options (row ∷ rows) = row.front ++ events_by options row.role (row ∷ rows) ++ tail (row ∷ rows)

-- The events of a text, one for one, before its text parts are read.
abbrev pub exact : ParseOptions → List ℕ → List Event
exact options source =
    let size = front_size options source in
    let front = map front_row (take size (text_lines source)) in
    mark_events source
    ++ leaf n.Frontmatter (front_line (first_byte (without_mark source))) front ++ tail front
    ++ flat_map (group_events options)
    (grouped (rows_of options (At (spot_of End)) (drop size (text_lines source))))
