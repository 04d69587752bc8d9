-- A line of a table as a whole (GFM 4.10): by its cells, whether its states take it, and which events they add; and the
-- same events by its bytes.
use Rattle.std.specs.Prelude.{ℕ, Bool, true, false, ◌&&◌, ◌==◌, if◌then◌else◌, List, [], ◌∷◌, ◌++◌, Option, Some, None}
use Rattle.md_engine.specs.declared.configuration.ParseOptions.{ParseOptions}
use Rattle.md_engine.specs.declared.event.Event.{Event}
use Rattle.md_engine.specs.declared.event.Name.TheVariants.{GfmTable, SpaceOrTab}
use Rattle.md_engine.specs.declared.event.Point.{Point}
use Rattle.md_engine.specs.declared.tokenizer.held_leaf.HeldLeaf.{HeldLeaf}
use Rattle.md_engine.specs.declared.tokenizer.held_leaf.HeldLeaf.TheVariants as held_leaf
use Rattle.md_engine.specs.declared.tokenizer.TheConstants.Scratch.{REST}
use Rattle.md_engine.specs.Meaning.{Cell}
use Rattle.md_events.specs.Ahead.{begins_white, line_bytes, line_cells, line_end, white_end, white_rest}
use Rattle.md_events.specs.Events.Nested.{around, pair}
use Rattle.md_events.specs.Events.Places.{past_byte, past_text}
use Rattle.md_events.specs.Spaces.{small_indent}
use Rattle.md_tables.specs.DelimiterRule as delimiter
use Rattle.md_tables.specs.GfmTable.{asking_columns, may_head}
use Rattle.md_tables.specs.RowRule as row
use Rattle.md_tables.specs.declared.row.Row.TheVariants.{Body, Head}

-- whether a row has so many cells
abbrev pub are_columns : Option ℕ → ℕ → Bool
are_columns None n = false
are_columns (Some m) n = m == n

-- By its cells.

-- whether these bytes are a delimiter row of so many cells, after an indent
abbrev pub is_row_of : ℕ → List ℕ → Bool
is_row_of columns bytes = delimiter.fits delimiter.Front (asking_columns columns REST) bytes

-- whether the line is one, with a small indent
abbrev pub delimiter_fits : ParseOptions → ℕ → List Cell → Bool
delimiter_fits options columns cells = is_row_of columns (line_bytes (white_rest (small_indent options) cells))

-- whether it is a line of a table, by the leaf that it meets: any line is one where a table is open
abbrev pub table_takes : ParseOptions → HeldLeaf → List Cell → Bool
table_takes options (held_leaf.Text text) cells = may_head options text && delimiter_fits options text.columns cells
table_takes options held_leaf.Table cells = true
table_takes options _ cells = false

-- the events of a delimiter row: its indent, and its runs after that
abbrev pub delimiter_adds : ParseOptions → List Cell → Point → List Event
delimiter_adds options cells p =
    let room = small_indent options in
    let q = white_end room cells p in
    delimiter.row_opens p
    ++ ((if begins_white cells then pair SpaceOrTab p q else [])
    ++ delimiter.runs delimiter.Apart (line_cells (white_rest room cells)) q)
    ++ delimiter.row_closes (line_end cells p)

-- and those of a row of the body
abbrev pub row_adds : List Cell → Point → List Event
row_adds cells p =
    row.row_opens Body p ++ row.runs row.Apart (line_cells cells) p ++ row.row_closes Body (line_end cells p)

abbrev pub table_adds : ParseOptions → HeldLeaf → List Cell → Point → List Event
table_adds options held_leaf.Table cells p = row_adds cells p
table_adds options _ cells p = delimiter_adds options cells p

-- By its bytes.

-- the runs that are left of a delimiter row, and of any other row: each is one part, as long as it can be
abbrev pub delimiter_runs : delimiter.Run → List ℕ → Point → List Event
delimiter_runs run [] p = delimiter.closes run p
delimiter_runs run (b ∷ bs) p =
    if delimiter.is_continued run b then delimiter_runs run bs (past_byte b p)
    else delimiter.closes run p ++ delimiter.opens (delimiter.begun b) p
    ++ delimiter_runs (delimiter.begun b) bs (past_byte b p)

abbrev pub row_runs : row.Run → List ℕ → Point → List Event
row_runs run [] p = row.closes run p
row_runs run (b ∷ bs) p =
    if row.is_continued run b then row_runs (row.next run b) bs (past_byte b p)
    else row.closes run p ++ row.opens (row.begun b) p ++ row_runs (row.begun b) bs (past_byte b p)

-- the events of the line
abbrev pub delimiter_line : List ℕ → Point → List Event
delimiter_line line p =
    delimiter.row_opens p ++ delimiter_runs delimiter.Apart line p ++ delimiter.row_closes (past_text line p)

abbrev pub row_line : List ℕ → Point → List Event
row_line line p = row.row_opens Body p ++ row_runs row.Apart line p ++ row.row_closes Body (past_text line p)

-- that of a head, which is a table of one row at first
abbrev pub head_line : List ℕ → Point → List Event
head_line line p =
    let q = past_text line p in
    around GfmTable p q (row.row_opens Head p ++ row_runs row.Apart line p ++ row.row_closes Head q)

abbrev pub table_line : HeldLeaf → List ℕ → Point → List Event
table_line held_leaf.Table line p = row_line line p
table_line _ line p = delimiter_line line p
