-- Texts: the definitions at the front of the lines of a text, and what remains of it as a paragraph or a heading.
--
-- What is left of a text is a list of rows, of which the first may be read in part.
use Rattle.std.specs.Prelude.{ℕ, zero, suc, ◌+◌, ◌-◌, Bool, true, false, ◌==◌, if◌then◌else◌, List, [], ◌∷◌, ◌++◌}
use Rattle.std.specs.Prelude.{length, map, drop, Some, None}
use Rattle.std.specs.Option.{is_some}
use Rattle.std.specs.List.{before_first}
use Rattle.md_engine.specs.declared.configuration.ParseOptions.{ParseOptions}
use Rattle.md_engine.specs.declared.event.Content.{Content}
use Rattle.md_engine.specs.declared.event.Content.TheVariants.{String, Text}
use Rattle.md_engine.specs.declared.event.Event.{Event}
use Rattle.md_engine.specs.declared.event.Name.{Name}
use Rattle.md_engine.specs.declared.event.Name.TheVariants as n
use Rattle.md_meaning.specs.Ascii.{less_than}
use Rattle.md_meaning.specs.Definition.{after_gap, definition_at, destination_at, label_at, title_after, title_closer}
use Rattle.md_meaning.specs.Enclosed.{enclosed_lines}
use Rattle.md_meaning.specs.Rest.{Rest, after_indent}
use Rattle.md_meaning.specs.Texts.{first_byte, trim_further}
use Rattle.md_events.specs.Exact.Leaves.{first_end, last_end, leaf, onto_next, runs_line, span, start}
use Rattle.md_events.specs.Exact.Places.{chunk, is_same, line_end, next_line, past, piece, white}
use Rattle.md_events.specs.Exact.Rows.{Role, Row, Underline}

-- Places in a text.

-- what is left as lines, without the whitespace before each further one
abbrev pub lines_left : List Row → List (List ℕ)
lines_left rows = trim_further (map (λ (row : Row). row.rest.bytes) rows)

-- the byte that is next; 0 where a line ends
abbrev pub next_byte : List Row → ℕ
next_byte [] = 0
next_byte (row ∷ rows) = first_byte row.rest.bytes

-- with another rest of the first row
abbrev pub on_first : (Rest → Rest) → List Row → List Row
on_first f [] = []
on_first f (row ∷ rows) = record row { rest = f row.rest } ∷ rows

-- where so many rows are left after one, and so many bytes of that one
abbrev pub ahead : List Row → ℕ → ℕ → List Row
ahead rows others size = on_first (λ r. past (length r.bytes - size) r) (drop (length rows - (others + 1)) rows)

-- where these lines are left, and before the last byte of a text that ends here
abbrev pub left : List Row → List (List ℕ) → List Row
left rows [] = []
left rows (bytes ∷ more) = ahead rows (length more) (length bytes)

abbrev pub back : List Row → List Row → List Row
back rows [] = []
back rows (end ∷ ends) = ahead rows (length ends) (length end.rest.bytes + 1)

-- Events from one place to another.

-- over the next byte
abbrev pub mark : Name → List Row → List Event
mark name [] = []
mark name (row ∷ rows) = piece row.line name row.rest (past 1 row.rest)

-- whitespace, which may continue over line endings
abbrev pub gap : List Row → List Row → List Event
gap (row ∷ rows) (end ∷ ends) =
    if length rows == length ends then white row.line row.rest end.rest
    else white row.line row.rest (line_end row.line) ++ onto_next (row ∷ rows) ++ gap rows (end ∷ ends)
gap rows ends = []

-- the chunks of a text part: one a line, with its ending where the part continues after it, and then the prefixes there
abbrev pub chunks : Content → List Row → List Row → List Event
chunks c (row ∷ rows) (end ∷ ends) =
    if length rows == length ends
    then (if is_same row.rest end.rest then [] else chunk c (start (row ∷ rows)) (start (end ∷ ends)))
    else chunk c (start (row ∷ rows)) (next_line row.line) ++ front_of rows ++ chunks c rows (end ∷ ends)
  where
    front_of : List Row → List Event
    front_of [] = []
    front_of (next ∷ rows) = next.front
chunks c rows ends = []

-- a text part; none if it would be empty
abbrev pub text_span : Content → Name → List Row → List Row → List Event
text_span c name rows ends = around_chunks (chunks c rows ends)
  where
    around_chunks : List Event → List Event
    around_chunks [] = []
    around_chunks (e ∷ es) = span name rows ends (e ∷ es)

-- Definitions (CommonMark 4.7).

-- after the label, the destination and the title that is next, and after whitespace with at most one ending
abbrev pub after_label : List Row → List Row
after_label rows = elim (label_at (lines_left rows)) [ Some label ↦ left rows label.rest | None ↦ [] ]

abbrev pub after_destination : List Row → List Row
after_destination [] = []
after_destination (row ∷ rows) = elim (destination_at row.rest.bytes) [
  | Some d ↦ ahead (row ∷ rows) (length rows) (length d.rest)
  | None ↦ []
]

abbrev pub after_title : List Row → List Row
after_title rows =
    let b = next_byte rows in
    elim (title_closer b) [
      | Some closer ↦ elim (enclosed_lines b closer (lines_left (on_first (past 1) rows))) [
        | Some text ↦ left rows text.rest
        | None ↦ []
      ]
      | None ↦ []
    ]

abbrev pub following_gap : List Row → List Row
following_gap rows = left rows (after_gap (lines_left rows))

-- whether a title follows a destination
abbrev pub has_title : List Row → Bool
has_title [] = false
has_title (row ∷ rows) = is_some (title_after row.rest.bytes (drop 1 (lines_left (row ∷ rows))))

-- a marker, a text and a marker
abbrev pub enclosed_part : Name → Name → Name → List Row → List Row → List Event
enclosed_part name marker text rows ends =
    let close = back rows ends in
    span name rows ends (mark marker rows ++ text_span String text (on_first (past 1) rows) close ++ mark marker close)

-- a destination, in angle brackets or not
abbrev pub destination_part : List Row → List Row → List Event
destination_part rows ends =
    span n.DefinitionDestination rows ends
    (if next_byte rows == less_than
    then enclosed_part n.DefinitionDestinationLiteral n.DefinitionDestinationLiteralMarker
    n.DefinitionDestinationString rows ends
    else span n.DefinitionDestinationRaw rows ends (text_span String n.DefinitionDestinationString rows ends))

-- where the definition at the front of these rows ends
abbrev pub definition_end : List Row → List Row
definition_end rows =
    let following = after_destination (following_gap (on_first (past 1) (after_label rows))) in
    if has_title following then after_title (following_gap following) else following

-- the definition, to the end of its last line: its label, `:`, its destination, and perhaps its title
abbrev pub definition : List Row → List Event
definition rows =
    let label = after_label rows in
    let value = on_first (past 1) label in
    let from = following_gap value in
    let to = after_destination from in
    let title = following_gap to in
    let end = definition_end rows in
    span n.Definition rows (first_end end)
    (enclosed_part n.DefinitionLabel n.DefinitionLabelMarker n.DefinitionLabelString rows label
    ++ mark n.DefinitionMarker label
    ++ gap value from
    ++ destination_part from to
    ++ (if has_title to
    then gap to title ++ enclosed_part n.DefinitionTitle n.DefinitionTitleMarker n.DefinitionTitleString title end
    else [])
    ++ gap end (first_end end))

-- at most so many definitions, each after its indent and with the way to the next line, and what remains of the text
abbrev pub text_events : (List Row → List Event) → ℕ → List Row → List Event
text_events remain zero rows = remain rows
text_events remain (suc n) rows =
    let first = on_first after_indent rows in
    let end = definition_end first in
    if is_some (definition_at (lines_left first))
    then gap rows first ++ definition first ++ onto_next end ++ text_events remain n (drop 1 end)
    else remain rows

-- What remains, by the line that underlines it, if one does.
abbrev pub remaining : List Row → List Row → List Event
remaining unders [] = []
remaining [] (row ∷ rows) = text_span Text n.Paragraph (row ∷ rows) (last_end (row ∷ rows))
remaining (under ∷ unders) (row ∷ rows) =
    let end = last_end (row ∷ rows) in
    span n.HeadingSetext (row ∷ rows) (first_end (under ∷ []))
    (text_span Text n.HeadingSetextText (row ∷ rows) end
    ++ onto_next (end ++ under ∷ [])
    ++ leaf n.HeadingSetextUnderline (runs_line n.HeadingSetextUnderlineSequence) (under ∷ []))

-- whether a line underlines the text before it
abbrev pub is_underline : Role → Bool
is_underline Underline = true
is_underline role = false

-- the lines of a text, of which the last may underline the others
abbrev pub text : ParseOptions → List Row → List Event
text options rows =
    let lines = before_first (λ (row : Row). is_underline row.role) rows in
    let unders = drop (length lines) rows in
    text_events (remaining unders) (if options.constructs.definition then length lines else 0) lines
