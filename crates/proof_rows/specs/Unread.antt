-- The events of a text on the way to its block list.
use Rattle.std.specs.Prelude.{List, [], ◌∷◌, ◌++◌, ℕ}
use Rattle.md_engine.specs.declared.configuration.ParseOptions.{ParseOptions}
use Rattle.md_engine.specs.declared.event.Event.{Event}
use Rattle.md_engine.specs.declared.event.Name.TheVariants as n
use Rattle.md_content.specs.Chunks.{content_link}
use Rattle.proof_frame.specs.UnreadText.{linked_lines}
use Rattle.proof_rows.specs.BlockList.{text_unread, tabled_group}
use Rattle.proof_frame.specs.Row.{Row, last_row, span_by}
use Rattle.proof_leaf_laws.specs.Headed.{headed_row}
use Rattle.proof_rows.specs.Rows.{Group, Headed, Lines, Single, LeafLines, Turned, row_events, rows_events, tail_events}

-- A line of text that was read again as a head, and the lines that continue it.
abbrev pub headed_lines : List ℕ → Row → Row → List Row → List Event
headed_lines bytes row next rows =
    (row.front ++ (headed_row bytes row).inside ++ tail_events n.LineEnding row) ++ rows_events (next ∷ rows)

-- Lines of text that follow one another, before their content is read.
abbrev pub joined_group : List ℕ → Group → List Event
joined_group bytes (Single row) = row_events row
joined_group bytes (LeafLines row rows) = rows_events (row ∷ rows)
joined_group bytes (Headed row next rows) = headed_lines bytes row next rows
joined_group bytes (Turned row rows under) =
    row.front ++ linked_lines n.Content content_link row rows ++ tail_events n.LineEnding (last_row row rows)
    ++ row_events under
joined_group bytes (Lines row rows) =
    row.front ++ linked_lines n.Content content_link row rows ++ tail_events n.LineEnding (last_row row rows)

abbrev pub joined_groups : List ℕ → List Group → List Event
joined_groups bytes [] = []
joined_groups bytes (group ∷ groups) = joined_group bytes group ++ joined_groups bytes groups

-- Texts, before they are read; leaves as their states leave them.
abbrev pub unread_group : ParseOptions → List ℕ → Group → List Event
unread_group options bytes (Single row) = row_events row
unread_group options bytes (LeafLines row rows) = rows_events (row ∷ rows)
unread_group options bytes (Headed row next rows) = headed_lines bytes row next rows
unread_group options bytes (Turned row rows under) =
    row.front ++ text_unread options bytes row rows ++ tail_events n.LineEnding (last_row row rows) ++ row_events under
unread_group options bytes (Lines row rows) =
    row.front ++ text_unread options bytes row rows ++ tail_events n.LineEnding (last_row row rows)

abbrev pub unread_groups : ParseOptions → List ℕ → List Group → List Event
unread_groups options bytes [] = []
unread_groups options bytes (group ∷ groups) = unread_group options bytes group ++ unread_groups options bytes groups

-- The lines of each leaf of several once they are joined, before the leaves on one line are set.
abbrev pub spanned_group : ParseOptions → List ℕ → Group → List Event
spanned_group options bytes (LeafLines row rows) = tabled_group options bytes (LeafLines row rows)
spanned_group options bytes (Headed row next rows) =
    row.front ++ span_by (λ (r : Row). r.inside) (headed_row bytes row) (next ∷ rows)
    ++ tail_events n.LineEnding (last_row next rows)
spanned_group options bytes group = unread_group options bytes group

abbrev pub spanned_groups : ParseOptions → List ℕ → List Group → List Event
spanned_groups options bytes [] = []
spanned_groups options bytes (group ∷ groups) = spanned_group options bytes group ++ spanned_groups options bytes groups

-- Those leaves once their resolvers have run, before setext headings are set.
abbrev pub set_group : ParseOptions → List ℕ → Group → List Event
set_group options bytes (Single row) = tabled_group options bytes (Single row)
set_group options bytes group = spanned_group options bytes group

abbrev pub set_groups : ParseOptions → List ℕ → List Group → List Event
set_groups options bytes [] = []
set_groups options bytes (group ∷ groups) = set_group options bytes group ++ set_groups options bytes groups

-- Setext headings once they are set, before tables get their cells.
abbrev pub turned_group : ParseOptions → List ℕ → Group → List Event
turned_group options bytes (Headed row next rows) = spanned_group options bytes (Headed row next rows)
turned_group options bytes group = tabled_group options bytes group

abbrev pub turned_groups : ParseOptions → List ℕ → List Group → List Event
turned_groups options bytes [] = []
turned_groups options bytes (group ∷ groups) = turned_group options bytes group ++ turned_groups options bytes groups
