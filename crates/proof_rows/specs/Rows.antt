-- The lines of a text as they are read, and the events of each.
use Rattle.proof_frame.specs.HeldLeaf.{takes_lazy}
use Rattle.md_engine.specs.declared.tokenizer.held_leaf.HeldLeaf.TheVariants as held_leaf
use Rattle.md_engine.specs.declared.tokenizer.held_leaf.HeldLeaf.{HeldLeaf}
use Rattle.std.specs.Prelude.{ℕ, zero, suc, Bool, true, false, ◌&&◌, ◌||◌, length, if◌then◌else◌, List, [], ◌∷◌, ◌++◌}
use Rattle.std.specs.Prelude.{◌-◌, drop, take, Option, Some, None}
use Rattle.md_events.specs.Events.Tiles.{plain_read}
use Rattle.md_engine.specs.declared.configuration.ParseOptions.{ParseOptions}
use Rattle.md_engine.specs.declared.event.Event.{Event}
use Rattle.md_engine.specs.declared.event.Name.{Name}
use Rattle.md_engine.specs.declared.event.Name.TheVariants as n
use Rattle.md_engine.specs.declared.event.Point.{Point}
use Rattle.md_engine.specs.Meaning.{Cell}
use Rattle.md_content.specs.Chunks.{content_link}
use Rattle.md_content.specs.ContentReads.{part_world}
use Rattle.md_content.specs.ContentRule.{definition_in}
use Rattle.md_engine.specs.TextFeed.{text_feed}
use Rattle.md_leaves.specs.BlankRule.{blank_events}
use Rattle.md_events.specs.Ahead.{from_ending, line_bytes, line_end}
use Rattle.md_events.specs.Look.{first_seen}
use Rattle.md_events.specs.Events.Nested.{around, enter_link, exit}
use Rattle.md_meaning.specs.Rest.{Rest, is_blank}
use Rattle.md_meaning.specs.State.{Container}
use Rattle.proof_frame.specs.EndingName.{ending_name}
use Rattle.md_registry.specs.LineFlags.{nothing_is_here}
use Rattle.md_link_definitions.specs.OpenText.{text_following}
use Rattle.md_link_definitions.specs.WholeCells.{whole_rest}
use Rattle.md_link_definitions.specs.DefinitionRule.{DefinitionParts, definition_end}
use Rattle.proof_frame.specs.Passed.{Passed}
use Rattle.proof_frame.specs.LeafName.{LeafName, first_of}
use Rattle.proof_frame.specs.TextLines.{text_leaf}
use Rattle.md_registry.specs.Registry.{proceeds_at, asked_first, leaf, opens_at, bars_containers, trials, turn_leaf}
use Rattle.proof_frame.specs.Change.{Change, change_by, ends_of, interrupts, is_none, against, open_following}
use Rattle.proof_frame.specs.Change.{others_of}
use Rattle.proof_frame.specs.Row.{BlankRow, LeafRow, Row, RowKind, TextRow, chunks_of, ending_events, ending_of}
use Rattle.proof_frame.specs.Row.{is_blank_by, last_row, read_lines, row_line, span_done, turned_by}
use Rattle.proof_content_laws.specs.Defined.{defined_unread}
use Rattle.proof_leaf_laws.specs.Headed.{headed_done}

-- a leaf, if one takes the line, and else text
abbrev pub kind_of : Option LeafName → RowKind
kind_of None = TextRow
kind_of (Some l) = LeafRow l

-- a further line of the leaf that is asked first, if it passes a test, and else another
abbrev pub inside_or : (LeafName → Bool) → Option LeafName → RowKind → RowKind
inside_or test None other = other
inside_or test (Some l) other = if test l then LeafRow l else other

-- By the rest of a line, as the line definition has it, where it meets this leaf: its kind, and what is open after a
-- line of a kind.
abbrev pub line_kind : ParseOptions → HeldLeaf → Rest → RowKind
line_kind options on r =
    inside_or (λ l. (leaf l).starts options on r) (asked_first on)
    (if is_blank r.bytes then BlankRow else kind_of (first_of (λ l. (leaf l).starts options on r) trials))

abbrev pub line_following : ParseOptions → HeldLeaf → Rest → RowKind → HeldLeaf
line_following options on r BlankRow = held_leaf.None
line_following options on r (LeafRow l) = (leaf l).holds options on r
line_following options on r TextRow = text_following on r

-- By its cells.
abbrev pub row_kind : ParseOptions → HeldLeaf → List Cell → RowKind
row_kind options on cells =
    inside_or (λ l. (leaf l).takes options on cells) (asked_first on)
    (if is_blank (line_bytes cells) then BlankRow else kind_of (first_of (λ l. (leaf l).takes options on cells) trials))

abbrev pub leaf_following : ParseOptions → HeldLeaf → List Cell → Point → RowKind → HeldLeaf
leaf_following options on cells p BlankRow = held_leaf.None
leaf_following options on cells p (LeafRow l) = (leaf l).keeps options on cells p
leaf_following options on cells p TextRow = text_following on (whole_rest p cells)

-- what flow adds for a line that is no text
abbrev pub inside_of : ParseOptions → HeldLeaf → List Cell → Point → RowKind → List Event
inside_of options on cells p BlankRow = blank_events cells p
inside_of options on cells p (LeafRow l) = (leaf l).adds options on cells p
inside_of options on cells p TextRow = []

-- where the cells after an ending begin
abbrev pub after_ending : List Cell → Option Point
after_ending [] = None
after_ending (c ∷ cs) = Some c.after

-- Containers by the cells of a line.

-- containers that have a prefix on a line, and what is left of it after them
pub record Front : Type 0 where
  pub containers : List Container
  pub events : List Event
  pub cells : List Cell
  pub point : Point

abbrev pub no_front : List Cell → Point → Front
no_front cells p = record { containers = []; events = []; cells = cells; point = p }

-- one more in front
abbrev pub in_front : Passed → Front → Front
in_front t f = record f { containers = t.container ∷ f.containers; events = t.events ++ f.events }

-- each open container is asked whether it continues, from the outermost in, until one does not
abbrev pub continued_prefixes : ParseOptions → List Container → List Cell → Point → Front
continued_prefixes options [] cells p = no_front cells p
continued_prefixes options (c ∷ cs) cells p = elim (proceeds_at options c cells p) [
  | None ↦ no_front cells p
  | Some t ↦ in_front t (continued_prefixes options cs t.cells t.point)
]

-- containers open as often as they do, at most so many; the first may interrupt text
abbrev pub opened_prefixes : ParseOptions → Bool → ℕ → List Cell → Point → Front
opened_prefixes options interrupting zero cells p = no_front cells p
opened_prefixes options interrupting (suc size) cells p =
    elim (opens_at options interrupting cells p) [
      | None ↦ no_front cells p
      | Some t ↦ in_front t (opened_prefixes options false size t.cells t.point)
    ]

-- What a line does to the containers that are open before it, the leaf that it meets, and what is left of it.
pub record Held : Type 0 where
  pub change : Change
  pub on : HeldLeaf
  pub front : List Event
  pub cells : List Cell
  pub point : Point

abbrev pub is_text : RowKind → Bool
is_text TextRow = true
is_text _ = false

-- whether a line continues the open text, whatever containers continue (CommonMark 5.1, "laziness")
abbrev pub is_lazy : HeldLeaf → List Container → RowKind → Bool
is_lazy still opens kind = takes_lazy still && is_none opens && is_text kind

abbrev pub held_by : List Container → Bool → HeldLeaf → Front → Front → Held
held_by cs lazy on proceeded new = record {
  change = change_by lazy proceeded.containers (others_of cs proceeded.containers) new.containers;
  on = on;
  front = proceeded.events ++ new.events;
  cells = new.cells;
  point = new.point;
}

abbrev pub held_of : ParseOptions → List Container → HeldLeaf → Front → Front → Held
held_of options cs still proceeded new =
    let on = against still (others_of cs proceeded.containers) new.containers in
    held_by cs (is_lazy still new.containers (row_kind options on new.cells)) on proceeded new

-- where a leaf is open in which no container opens, none does unless one did not continue
abbrev pub is_inside : HeldLeaf → List Container → Bool
is_inside still others = bars_containers still && is_none others

abbrev pub new_after : ParseOptions → HeldLeaf → List Container → Front → Front
new_after options still others proceeded =
    if is_inside still others then no_front proceeded.cells proceeded.point
    else opened_prefixes options (interrupts still others) (length proceeded.cells) proceeded.cells proceeded.point

abbrev pub held_after : ParseOptions → List Container → HeldLeaf → Front → Held
held_after options cs still proceeded =
    held_of options cs still proceeded (new_after options still (others_of cs proceeded.containers) proceeded)

-- where these containers and this leaf are open before it
unfoldable pub held_at : ParseOptions → List Container → HeldLeaf → List Cell → Point → Held
held_at options cs still cells p = held_after options cs still (continued_prefixes options cs cells p)

-- The lines.

-- which containers end before these lines; all do at the end of the text
abbrev pub closes_before : List Container → List Row → List Container
closes_before cs [] = cs
closes_before cs (row ∷ rows) = row.change.closes

-- whether a blank line stays blank, where a leaf of this kind takes it
abbrev pub stays_blank : RowKind → Bool
stays_blank (LeafRow l) = (leaf l).stays_blank
stays_blank kind = false

-- whether the ending of a line is that of a blank line, where a leaf takes it: it is blank and stays so, or nothing at
-- all is on it
abbrev pub ends_blank : RowKind → List Cell → Point → Bool
ends_blank kind cells p = (stays_blank kind && is_blank (line_bytes cells)) || nothing_is_here (first_seen cells) p

-- the leaf that is open after it
abbrev pub after_held : ParseOptions → Held → HeldLeaf
after_held options h = leaf_following options h.on h.cells h.point (row_kind options h.on h.cells)

abbrev pub row_of : ParseOptions → Held → List Row → Row
row_of options h below = record {
  kind = row_kind options h.on h.cells;
  on = h.on;
  following = after_held options h;
  front = h.front;
  change = h.change;
  closed_after = closes_before (open_following h.change) below;
  first = h.point;
  empty = ends_blank (row_kind options h.on h.cells) h.cells h.point;
  inside = inside_of options h.on h.cells h.point (row_kind options h.on h.cells);
  end = line_end h.cells h.point;
  after = after_ending (from_ending h.cells);
}

abbrev pub onto_rows : ParseOptions → Held → List Row → List Row
onto_rows options h below = row_of options h below ∷ below

-- the lines after one, by what reads them
abbrev pub rows_by : ParseOptions → Held → (List Container → HeldLeaf → List Cell → Point → List Row) → List Row
rows_by options h further =
    onto_rows options h
    (elim (from_ending h.cells) [
      | [] ↦ []
      | c ∷ cs ↦ further (open_following h.change) (after_held options h) cs c.after
    ])

-- At most so many lines, where these containers and this leaf are open; after the last ending is an empty line.
abbrev pub rows_at : ParseOptions → ℕ → List Container → HeldLeaf → List Cell → Point → List Row
rows_at options zero open_before still cells p = []
rows_at options (suc size) open_before still cells p =
    rows_by options (held_at options open_before still cells p) (rows_at options size)

-- Events.

-- after a line: the containers that end there, and its ending
abbrev pub tail_events : Name → Row → List Event
tail_events name row = ends_of row.closed_after row.end ++ ending_events name row

-- what flow adds for the rest of a line
abbrev pub leaf_events : RowKind → Row → List Event
leaf_events BlankRow row = row.inside
leaf_events (LeafRow l) row = row.inside
leaf_events TextRow row = enter_link n.Content row.first content_link ∷ exit n.Content row.end ∷ []

abbrev pub row_events_by : RowKind → Row → List Event
row_events_by kind row = row.front ++ leaf_events kind row ++ tail_events (ending_of kind row) row

-- all events of a line
abbrev pub row_events : Row → List Event
row_events row = row_events_by row.kind row

abbrev pub rows_events : List Row → List Event
rows_events [] = []
rows_events (row ∷ rows) = row_events row ++ rows_events rows

-- Leaves.

-- what is in the place of a line that is no text, before text parts are read
abbrev pub leaf_unread : List ℕ → RowKind → Row → List Event
leaf_unread bytes BlankRow row = row.inside
leaf_unread bytes (LeafRow l) row = (leaf l).unread (row_line bytes row) row.first
leaf_unread bytes TextRow row = leaf_events TextRow row

-- and once they are
abbrev pub leaf_done : List ℕ → RowKind → Row → List Event
leaf_done bytes BlankRow row = row.inside
leaf_done bytes (LeafRow l) row = (leaf l).done bytes (row_line bytes row) row.first
leaf_done bytes TextRow row = leaf_events TextRow row

-- what is before a line, once text parts are read: a footnote definition that opens on it has its label there
abbrev pub front_done : List ℕ → Row → List Event
front_done bytes row = plain_read bytes row.front

-- Texts.

-- a line that is no text, the lines of a text, those of a text and the underline that turns it, a line of text that is
-- a head with the line that takes it and those that continue that, or those of a leaf of several
pub data Group : Type 0 where
  Single : Row → Group
  Lines : Row → List Row → Group
  Turned : Row → List Row → Row → Group
  Headed : Row → Row → List Row → Group
  LeafLines : Row → List Row → Group

-- whether a line of text continues the text of the one before: no container ends or opens between them
abbrev pub is_continued : Row → Row → Bool
is_continued row next = is_none row.closed_after && is_none next.change.opens

abbrev pub onto_lines : Row → Row → List Row → List Group → List Group
onto_lines row next rows groups =
    if is_continued row next then Lines row (next ∷ rows) ∷ groups else Lines row [] ∷ Lines next rows ∷ groups

abbrev pub onto_turned : Row → Row → List Row → Row → List Group → List Group
onto_turned row next rows under groups =
    if is_continued row next then Turned row (next ∷ rows) under ∷ groups
    else Lines row [] ∷ Turned next rows under ∷ groups

-- whether a line of this kind continues the leaf that it meets
abbrev pub is_further : RowKind → HeldLeaf → Bool
is_further (LeafRow l) on = (leaf l).further on
is_further kind on = false

-- whether no line is after another
abbrev pub is_last : List Row → Bool
is_last [] = true
is_last (row ∷ rows) = false

-- whether a line of this kind takes the last line of a text that it continues as its head
abbrev pub takes_head : RowKind → Bool
takes_head (LeafRow l) = (leaf l).heads
takes_head kind = false

-- a line of text: a line after it that continues it takes it as its head, or is its underline
abbrev pub onto_underline : Row → Row → List Row → List Group → List Group
onto_underline row next rows groups =
    if is_further next.kind next.on && takes_head next.kind then Headed row next rows ∷ groups
    else if is_further next.kind next.on && is_last rows then Turned row [] next ∷ groups
    else Lines row [] ∷ LeafLines next rows ∷ groups

-- a line of a leaf of several: a line that continues it is one of the same
abbrev pub onto_span : Row → List Group → List Group
onto_span row (LeafLines next rows ∷ groups) =
    if is_further next.kind next.on then LeafLines row (next ∷ rows) ∷ groups
    else LeafLines row [] ∷ LeafLines next rows ∷ groups
onto_span row groups = LeafLines row [] ∷ groups

abbrev pub onto_leaf : Bool → Row → List Group → List Group
onto_leaf true row groups = Single row ∷ groups
onto_leaf false row groups = onto_span row groups

abbrev pub onto_groups : Row → RowKind → List Group → List Group
onto_groups row TextRow (Lines next rows ∷ groups) = onto_lines row next rows groups
onto_groups row TextRow (Turned next rows under ∷ groups) = onto_turned row next rows under groups
onto_groups row TextRow (LeafLines next rows ∷ groups) = onto_underline row next rows groups
onto_groups row TextRow groups = Lines row [] ∷ groups
onto_groups row (LeafRow l) groups = onto_leaf (leaf l).ends row groups
onto_groups row BlankRow groups = Single row ∷ groups

-- lines of text that follow one another are one text, unless containers end or open between them, with the underline
-- that follows them
abbrev pub groups : List Row → List Group
groups [] = []
groups (row ∷ rows) = onto_groups row row.kind (groups rows)

-- the leaf of these lines, once they are read
abbrev pub lines_done : List ℕ → Row → List Row → List Event
lines_done bytes row rows = around text_leaf.name row.first (last_row row rows).end (read_lines bytes row rows)

-- Definitions at the front of a text (CommonMark 4.7).

abbrev pub defined_done : List ℕ → DefinitionParts → Row → List Row → List Event
defined_done bytes d row rows = plain_read bytes (defined_unread d row rows)

-- the cells of lines, after the prefixes of their containers
abbrev pub lines_cells : ParseOptions → List ℕ → Row → List Row → List Cell
lines_cells options bytes row rows =
    let w = part_world bytes options (chunks_of row rows) in text_feed w.setting w.point

-- how many lines a definition takes after its first one
abbrev pub further_lines : DefinitionParts → Row → ℕ
further_lines d row = (definition_end d).line - row.first.line

-- after a definition: the ending of its last line, what is before the next line, and what that begins
abbrev pub after_cut : (Row → List Row → List Event) → Row → List Row → List Event
after_cut more last [] = []
after_cut more last (next ∷ rows) = ending_events n.LineEnding last ++ next.front ++ more next rows

-- by the definition at the front, if there is one
abbrev pub cut_by : (DefinitionParts → Row → List Row → List Event) → (Row → List Row → List Event) →
    (Row → List Row → List Event) → Option DefinitionParts → Row → List Row → List Event
cut_by defined text more None row rows = text row rows
cut_by defined text more (Some d) row rows =
    let own = take (further_lines d row) rows in
    defined d row own ++ after_cut more (last_row row own) (drop (further_lines d row) rows)

-- at most so many definitions, and the leaf of the lines that remain
abbrev pub cut_at_most : (DefinitionParts → Row → List Row → List Event) → (Row → List Row → List Event) →
    ParseOptions → List ℕ → ℕ → Row → List Row → List Event
cut_at_most defined text options bytes zero row rows = text row rows
cut_at_most defined text options bytes (suc n) row rows =
    cut_by defined text (cut_at_most defined text options bytes n)
    (definition_in options (lines_cells options bytes row rows)) row rows

-- what is in the place of the lines of a text, once they are read: its definitions, and the leaf of what remains
abbrev pub text_done : ParseOptions → List ℕ → Row → List Row → List Event
text_done options bytes row rows =
    cut_at_most (defined_done bytes) (lines_done bytes) options bytes (suc (length rows)) row rows

-- what a line turns these lines into, once they are read
abbrev pub heading_done : List ℕ → Row → Row → List Row → List Event
heading_done bytes under row rows = turned_by turn_leaf (read_lines bytes row rows) row rows under

-- what is in the place of a text and the line that turns it, once they are read: the definitions at the front of
-- the text, and what that line turns the rest into
abbrev pub turned_done : ParseOptions → List ℕ → Row → List Row → Row → List Event
turned_done options bytes row rows under =
    cut_at_most (defined_done bytes) (heading_done bytes under) options bytes (suc (length rows)) row rows

-- The lines of a leaf of several, joined. A line is a pair of its own, from its begin to its end; but a blank line in
-- indented code is bare, without them, since it may be after the code. What the first line adds but its end, what a
-- further one adds but its begin and its end, and the end of the last that has one are one block; between its lines are
-- an ending in the leaf, and prefixes. Bare lines after it are whitespace.

-- Of a group: its first line and its last, what its last line is, and its leaf.

abbrev pub first_row : Group → Row
first_row (Single row) = row
first_row (Lines row rows) = row
first_row (Turned row rows under) = row
first_row (Headed row next rows) = row
first_row (LeafLines row rows) = row

abbrev pub final_row : Group → Row
final_row (Single row) = row
final_row (Lines row rows) = last_row row rows
final_row (Turned row rows under) = under
final_row (Headed row next rows) = last_row next rows
final_row (LeafLines row rows) = last_row row rows

abbrev pub group_kind : Group → RowKind
group_kind (Single row) = row.kind
group_kind (Lines row rows) = TextRow
group_kind (Turned row rows under) = under.kind
group_kind (Headed row next rows) = (last_row next rows).kind
group_kind (LeafLines row rows) = (last_row row rows).kind

-- whether that line is blank to its ending, and the name of this
abbrev pub is_blank_group : Group → Bool
is_blank_group group = is_blank_by (group_kind group) (final_row group)

abbrev pub group_ending : Group → Name
group_ending group = ending_name (is_blank_group group)

abbrev pub group_done : ParseOptions → List ℕ → Group → List Event
group_done options bytes (Single row) = leaf_done bytes row.kind row
group_done options bytes (Lines row rows) = text_done options bytes row rows
group_done options bytes (Turned row rows under) = turned_done options bytes row rows under
group_done options bytes (Headed row next rows) = headed_done bytes row next rows
group_done options bytes (LeafLines row rows) = span_done bytes row rows

-- what is before its first line, its leaf, and what follows its last line
abbrev pub group_events : ParseOptions → List ℕ → Group → List Event
group_events options bytes group =
    front_done bytes (first_row group) ++ group_done options bytes group
    ++ tail_events (group_ending group) (final_row group)

-- the events of a text, once all its parts are read
abbrev pub groups_events : ParseOptions → List ℕ → List Group → List Event
groups_events options bytes [] = []
groups_events options bytes (group ∷ groups) = group_events options bytes group ++ groups_events options bytes groups
