-- The events of a text, one for one, before its text parts are read.
--
-- They are those of its front, its byte order mark and its frontmatter, and then those of its lines. A line adds, from
-- left to right: what is before it (the begins and the prefixes of its containers, from the outermost in), its leaf,
-- the ends of the containers that end after it, and its ending. Lines of text that belong together are one leaf: a
-- chunk for each line, with its ending but the last, and before each further chunk what is before its line.
--
-- What the lines are (`Row`), which of them are one text (`groups`), and which definitions are at its front
-- (`cut_at_most`), is in `Rows`; the events of each leaf in its own file of `Leaf`.
use Rattle.std.specs.Prelude.{ℕ, suc, List, [], ◌∷◌, ◌++◌, length}
use Rattle.md_engine.specs.declared.configuration.ParseOptions.{ParseOptions}
use Rattle.md_engine.specs.declared.event.Event.{Event}
use Rattle.md_engine.specs.declared.event.Name.TheVariants as n
use Rattle.md_containers.specs.Listed.{listed}
use Rattle.md_events.specs.Events.Nested.{around}
use Rattle.proof_leaf_laws.specs.Front.{body_point, front_events}
use Rattle.proof_frame.specs.TextLines.{text_leaf}
use Rattle.proof_frame.specs.Row.{Row, RowKind, turned_by, span_by, ending_of, last_row}
use Rattle.proof_leaf_laws.specs.Headed.{headed_unread}
use Rattle.proof_content_laws.specs.Defined.{defined_unread}
use Rattle.md_registry.specs.Registry.{turn_leaf}
use Rattle.proof_rows.specs.Rows.{Group, Headed, Lines, LeafLines, Turned, final_row, first_row, Single, cut_at_most}
use Rattle.proof_rows.specs.Rows.{group_ending, groups, leaf_unread, tail_events}
use Rattle.proof_rows.specs.TextRows.{text_rows}
use Rattle.proof_frame.specs.UnreadText.{linked_lines}

-- the lines of a text that is not read yet
abbrev pub unread_lines : Row → List Row → List Event
unread_lines row rows = linked_lines n.Data text_leaf.link row rows

-- and the leaf of these lines
abbrev pub lines_unread : Row → List Row → List Event
lines_unread row rows = around text_leaf.name row.first (last_row row rows).end (unread_lines row rows)

-- what is in the place of the lines of a text: its definitions, and the leaf of what remains
abbrev pub text_unread : ParseOptions → List ℕ → Row → List Row → List Event
text_unread options bytes row rows =
    cut_at_most defined_unread lines_unread options bytes (suc (length rows)) row rows

-- what a line turns these lines into
abbrev pub heading_unread : Row → Row → List Row → List Event
heading_unread under row rows = turned_by turn_leaf (unread_lines row rows) row rows under

-- what is in the place of a text and the line that turns it: the definitions at the front of the text, and what
-- that line turns the rest into
abbrev pub turned_unread : ParseOptions → List ℕ → Row → List Row → Row → List Event
turned_unread options bytes row rows under =
    cut_at_most defined_unread (heading_unread under) options bytes (suc (length rows)) row rows

-- a line that is no text
abbrev pub tabled_row_by : List ℕ → RowKind → Row → List Event
tabled_row_by bytes kind row = row.front ++ leaf_unread bytes kind row ++ tail_events (ending_of kind row) row

-- the leaf of such a line, of the lines of a text, of a text with its underline, or of a head with what it heads
abbrev pub group_unread : ParseOptions → List ℕ → Group → List Event
group_unread options bytes (Single row) = leaf_unread bytes row.kind row
group_unread options bytes (Lines row rows) = text_unread options bytes row rows
group_unread options bytes (Turned row rows under) = turned_unread options bytes row rows under
group_unread options bytes (Headed row next rows) = headed_unread bytes row next rows
group_unread options bytes (LeafLines row rows) = span_by (λ (r : Row). r.inside) row rows

-- with what is before it, and after it
abbrev pub tabled_group : ParseOptions → List ℕ → Group → List Event
tabled_group options bytes group =
    (first_row group).front ++ group_unread options bytes group ++ tail_events (group_ending group) (final_row group)

abbrev pub tabled_groups : ParseOptions → List ℕ → List Group → List Event
tabled_groups options bytes [] = []
tabled_groups options bytes (group ∷ groups) = tabled_group options bytes group ++ tabled_groups options bytes groups

-- The block list of a text: its front, and then its lines, with the lists around their items.
unfoldable pub block_list : ParseOptions → List ℕ → List Event
block_list options text =
    listed text
    (front_events options text
    ++ tabled_groups options text (groups (text_rows options text (body_point options text))))
