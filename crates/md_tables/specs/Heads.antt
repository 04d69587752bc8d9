-- The heads of tables, among the events (GFM 4.10).
--
-- Text is first read a line at a time: each line is one chunk of content. Where a delimiter row follows a line of text
-- and fits it, that line is the head of a table. Then it is read again, as a row, and is a table of one row; the
-- delimiter row continues it, as each further line of the table does.
use Rattle.std.specs.Prelude.{ℕ, Bool, true, false, ◌&&◌, ◌||◌, if◌then◌else◌, List, [], ◌∷◌, ◌++◌}
use Rattle.md_engine.specs.declared.configuration.ParseOptions.{ParseOptions}
use Rattle.md_engine.specs.declared.event.Event.{Event}
use Rattle.md_engine.specs.declared.event.Name.{Name}
use Rattle.md_engine.specs.declared.event.Name.TheVariants as n
use Rattle.md_engine.specs.declared.event.Point.{Point}
use Rattle.md_engine.specs.Meaning.{Cell}
use Rattle.md_engine.specs.TextFeed.{text_feed}
use Rattle.md_engine.specs.World.{fresh, reads_to}
use Rattle.md_leaves.specs.Spanned.{is_blank_ending, links_back}
use Rattle.md_events.specs.Ahead.{line_cells, line_end}
use Rattle.md_events.specs.Events.Blocks.{is_block}
use Rattle.md_events.specs.Events.Nested.{around, is_enter}
use Rattle.md_events.specs.Events.Spelled.{role}
use Rattle.md_tables.specs.RowRule.{Apart, row_closes, row_opens, runs}
use Rattle.md_tables.specs.declared.row.Row.TheVariants.{Head}

-- Which line is a head.

abbrev pub is_chunk : Name → Bool
is_chunk n.Content = true
is_chunk _ = false

abbrev pub is_table : Name → Bool
is_table n.GfmTable = true
is_table _ = false

-- whether a line of text begins here
abbrev pub begins_chunk : Event → Bool
begins_chunk e = is_enter e.kind && is_chunk e.name

-- whether a further row begins here: a line of a table that continues the line before
abbrev pub begins_further_row : Event → Bool
begins_further_row e = is_enter e.kind && (is_table e.name && links_back e.link)

-- whether a look for what comes next after a line stops here: at another line of text, a blank line or a block. So its
-- own ending is passed, and the prefixes of containers
abbrev pub stops_look : Event → Bool
stops_look e = is_chunk e.name || is_blank_ending e.name || is_block (role e.name)

-- whether what comes next after a line is a further row
abbrev pub meets_table : List Event → Bool
meets_table [] = false
meets_table (e ∷ es) = if stops_look e then begins_further_row e else meets_table es

-- What it is read as.

-- the cells of a text from a point up to another
abbrev pub cells_between : List ℕ → ParseOptions → Point → Point → List Cell
cells_between bytes options p q = text_feed (reads_to (fresh bytes options p) q.index).setting p

-- a head row, over these cells
abbrev pub head_row : List Cell → Point → List Event
head_row cells p = row_opens Head p ++ runs Apart (line_cells cells) p ++ row_closes Head (line_end cells p)

-- a table of one row, over the line from a point up to another
unfoldable pub head_line : List ℕ → ParseOptions → Point → Point → List Event
head_line bytes options p q =
    let cells = cells_between bytes options p q in
    around n.GfmTable p (line_end cells p) (head_row cells p)

-- All events.

-- whether a line of text that is a head begins with these events: its begin and its end come first
abbrev pub is_head : List Event → Bool
is_head (e ∷ x ∷ es) = begins_chunk e && meets_table es
is_head _ = false

-- the events with each head in the place of its chunk
abbrev pub headed : List ℕ → ParseOptions → List Event → List Event
headed bytes options [] = []
headed bytes options (e ∷ []) = e ∷ []
headed bytes options (e ∷ x ∷ es) =
    if is_head (e ∷ x ∷ es) then head_line bytes options e.point x.point ++ headed bytes options es
    else e ∷ headed bytes options (x ∷ es)
