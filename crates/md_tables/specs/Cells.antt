-- The cells of rows (GFM 4.10), as they are put around the events of rows.
use Rattle.std.specs.Prelude.{Bool, true, false, ◌&&◌, if◌then◌else◌, List, [], ◌∷◌, ◌++◌, drop, Option, Some, None}
use Rattle.md_engine.specs.declared.event.Event.{Event}
use Rattle.md_engine.specs.declared.event.Name.{Name}
use Rattle.md_engine.specs.declared.event.Name.TheVariants as n
use Rattle.md_events.specs.Events.Nested.{enter, exit, is_enter, is_exit}
use Rattle.md_tables.specs.declared.cells.RowKind.{RowKind}
use Rattle.md_tables.specs.declared.cells.RowKind.TheVariants.{Delimiter, Text}
use Rattle.md_tables.specs.declared.cells.Stage.{Stage}
use Rattle.md_tables.specs.declared.cells.Stage.TheVariants.{Following, Front, Gap, Inner, Last, Outside, Within}

-- Which event this is.

abbrev pub row_kind : Name → Option RowKind
row_kind n.GfmTableRow = Some Text
row_kind n.GfmTableDelimiterRow = Some Delimiter
row_kind _ = None

-- the row that begins there
abbrev pub begins_row : Event → Option RowKind
begins_row e = if is_enter e.kind then row_kind e.name else None

abbrev pub is_row : Name → Bool
is_row name = elim (row_kind name) [ None ↦ false | Some k ↦ true ]

abbrev pub ends_row : Event → Bool
ends_row e = is_exit e.kind && is_row e.name

abbrev pub is_divider : Name → Bool
is_divider n.GfmTableCellDivider = true
is_divider _ = false

abbrev pub begins_divider : Event → Bool
begins_divider e = is_enter e.kind && is_divider e.name

abbrev pub ends_divider : Event → Bool
ends_divider e = is_exit e.kind && is_divider e.name

-- what the cells of a row hold: words, or colons and dashes
abbrev pub is_inner : RowKind → Name → Bool
is_inner Text n.Data = true
is_inner Delimiter n.GfmTableDelimiterMarker = true
is_inner Delimiter n.GfmTableDelimiterFiller = true
is_inner _ _ = false

abbrev pub begins_inner : RowKind → Event → Bool
begins_inner k e = is_enter e.kind && is_inner k e.name

abbrev pub ends_inner : RowKind → Event → Bool
ends_inner k e = is_exit e.kind && is_inner k e.name

abbrev pub cell_name : RowKind → Name
cell_name Text = n.GfmTableCell
cell_name Delimiter = n.GfmTableDelimiterCell

abbrev pub inner_name : RowKind → Name
inner_name Text = n.GfmTableCellText
inner_name Delimiter = n.GfmTableDelimiterCellValue

-- What follows one.

abbrev pub is_white : Name → Bool
is_white n.SpaceOrTab = true
is_white _ = false

-- whitespace
abbrev pub has_white : List Event → Bool
has_white (a ∷ b ∷ es) = is_white a.name && is_white b.name
has_white _ = false

-- what comes first passes a test
abbrev pub first_is : (Event → Bool) → List Event → Bool
first_is test [] = false
first_is test (e ∷ es) = test e

-- the end of a row, maybe after whitespace
abbrev pub row_ends : List Event → Bool
row_ends es = first_is ends_row (if has_white es then drop 2 es else es)

-- the end of a pipe that is the last of its row
abbrev pub is_last : List Event → Bool
is_last [] = false
is_last (e ∷ es) = ends_divider e && row_ends es

-- more of what a cell holds: a further word after whitespace, or a further colon or dashes
abbrev pub is_continued : RowKind → List Event → Bool
is_continued Text es = has_white es && first_is (begins_inner Text) (drop 2 es)
is_continued Delimiter es = first_is (begins_inner Delimiter) es

-- One event.

-- what is written for it, and where the walk is after it
pub record Step : Type 0 where
  pub given : List Event
  pub stage : Stage

abbrev pub passed : Event → Stage → Step
passed e stage = record { given = e ∷ []; stage = stage }

-- before the first cell of a row
abbrev pub front_step : RowKind → Event → Step
front_step k e =
    if begins_divider e
    then record { given = enter (cell_name k) e.point ∷ e ∷ []; stage = Within k }
    else if begins_inner k e
    then record { given = enter (cell_name k) e.point ∷ enter (inner_name k) e.point ∷ e ∷ []; stage = Inner k }
    else passed e (Front k)

-- at a pipe in a cell: it ends the row, or a cell and begins the next
abbrev pub divider_step : RowKind → Event → Bool → Step
divider_step k e true = passed e (Last k)
divider_step k e false =
    record { given = exit (cell_name k) e.point ∷ enter (cell_name k) e.point ∷ e ∷ []; stage = Within k }

-- in a cell
abbrev pub within_step : RowKind → Event → List Event → Step
within_step k e es =
    if begins_divider e then divider_step k e (is_last es)
    else if begins_inner k e then record { given = enter (inner_name k) e.point ∷ e ∷ []; stage = Inner k }
    else passed e (Within k)

-- after a piece of what it holds, by whether that continues: what is between two words is text
abbrev pub piece_step : RowKind → Event → Bool → Step
piece_step Text e true = record { given = []; stage = Gap }
piece_step Delimiter e true = passed e (Inner Delimiter)
piece_step k e false = record { given = e ∷ exit (inner_name k) e.point ∷ []; stage = Within k }

abbrev pub inner_step : RowKind → Event → List Event → Step
inner_step k e es = if ends_inner k e then piece_step k e (is_continued k es) else passed e (Inner k)

-- between two words, up to the begin of the second
abbrev pub gap_step : Event → Step
gap_step e = record { given = []; stage = if begins_inner Text e then Inner Text else Gap }

-- in the last pipe
abbrev pub last_step : RowKind → Event → Step
last_step k e =
    if ends_divider e then record { given = e ∷ exit (cell_name k) e.point ∷ []; stage = Following } else
    passed e (Last k)

abbrev pub outside_step : Event → Option RowKind → Step
outside_step e (Some k) = passed e (Front k)
outside_step e None = passed e Outside

abbrev pub inside_step : Stage → Event → List Event → Step
inside_step Outside e es = outside_step e (begins_row e)
inside_step (Front k) e es = front_step k e
inside_step (Within k) e es = within_step k e es
inside_step (Inner k) e es = inner_step k e es
inside_step Gap e es = gap_step e
inside_step (Last k) e es = last_step k e
inside_step Following e es = passed e Following

-- at the end of a row, which ends a cell
abbrev pub ends_with : Stage → Event → List Event
ends_with (Within k) e = exit (cell_name k) e.point ∷ e ∷ []
ends_with _ e = e ∷ []

abbrev pub step : Stage → Event → List Event → Step
step stage e es =
    if ends_row e then record { given = ends_with stage e; stage = Outside } else inside_step stage e es

-- The events of a row, from a stage on.
unfoldable pub celled : Stage → List Event → List Event
celled stage [] = []
celled stage (e ∷ es) = (step stage e es).given ++ celled (step stage e es).stage es
