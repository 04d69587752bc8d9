-- A table line by line: its events as they are read, and as they are given with head, body and cells.
use Rattle.std.specs.Prelude.{ℕ, List, [], ◌∷◌, ◌++◌, Option}
use Rattle.md_engine.specs.declared.event.Event.{Event}
use Rattle.md_engine.specs.declared.event.Kind.TheVariants.{Enter}
use Rattle.md_engine.specs.declared.event.Link.{Link}
use Rattle.md_engine.specs.declared.event.Name.{Name}
use Rattle.md_engine.specs.declared.event.Name.TheVariants as n
use Rattle.md_engine.specs.declared.event.Point.{Point}
use Rattle.md_events.specs.Events.Nested.{around, enter, exit}
use Rattle.md_events.specs.Events.Places.{past_text}
use Rattle.md_tables.specs.Cells.{celled}
use Rattle.md_tables.specs.DelimiterCells.{delimiter_runs}
use Rattle.md_tables.specs.DelimiterRule as delimiter
use Rattle.md_tables.specs.RowCells.{row_runs}
use Rattle.md_tables.specs.RowRule as text
use Rattle.md_tables.specs.declared.cells.RowKind.{RowKind}
use Rattle.md_tables.specs.declared.cells.RowKind.TheVariants.{Delimiter, Text}
use Rattle.md_tables.specs.declared.cells.Stage.TheVariants.{Front}

-- a row, from a point to a point
pub record TableRow : Type 0 where
  pub begins : Point
  pub ends : Point
  pub inside : List Event

-- a further line: what is between the row before it and its own
pub record TableLine : Type 0 where
  pub between : List Event
  pub row : TableRow

pub record Table : Type 0 where
  pub begins : Point
  pub ends : Point
  pub link : Option Link
  pub head : TableRow
  pub delimiter : TableLine
  pub body : List TableLine

-- Rows.

abbrev pub row_name : RowKind → Name
row_name Text = n.GfmTableRow
row_name Delimiter = n.GfmTableDelimiterRow

abbrev pub row_read : RowKind → TableRow → List Event
row_read k r = around (row_name k) r.begins r.ends r.inside

-- with its cells, which are known from its own events
abbrev pub row_celled : RowKind → TableRow → List Event
row_celled k r = enter (row_name k) r.begins ∷ celled (Front k) (r.inside ++ exit (row_name k) r.ends ∷ [])

-- Lines.

abbrev pub lines_read : List TableLine → List Event
lines_read [] = []
lines_read (l ∷ ls) = l.between ++ (row_read Text l.row ++ lines_read ls)

abbrev pub lines_celled : List TableLine → List Event
lines_celled [] = []
lines_celled (l ∷ ls) = l.between ++ (row_celled Text l.row ++ lines_celled ls)

-- Tables.

-- the begin of a table
abbrev pub table_begin : Table → Event
table_begin t = record { kind = Enter; name = n.GfmTable; point = t.begins; link = t.link }

-- as it is read
abbrev pub table_read : Table → List Event
table_read t =
    table_begin t
    ∷ row_read Text t.head
    ++ (t.delimiter.between
    ++ (row_read Delimiter t.delimiter.row ++ (lines_read t.body ++ exit n.GfmTable t.ends ∷ [])))

-- what is in its head
abbrev pub head_celled : Table → List Event
head_celled t = row_celled Text t.head ++ (t.delimiter.between ++ row_celled Delimiter t.delimiter.row)

-- the lines of its body up to its end, if there are any
abbrev pub body_given : List TableLine → Point → List Event
body_given [] q = []
body_given (l ∷ ls) q =
    l.between ++ around n.GfmTableBody l.row.begins q (row_celled Text l.row ++ lines_celled ls)

-- as it is given
abbrev pub table_given : Table → List Event
table_given t =
    table_begin t
    ∷ around n.GfmTableHead t.begins t.delimiter.row.ends (head_celled t)
    ++ (body_given t.body t.ends ++ exit n.GfmTable t.ends ∷ [])

-- The rows of lines.

-- of the head and the body
abbrev pub text_row : List ℕ → Point → TableRow
text_row line p = record { begins = p; ends = past_text line p; inside = row_runs text.Apart line p }

abbrev pub delimiter_row : List ℕ → Point → TableRow
delimiter_row line p =
    record { begins = p; ends = past_text line p; inside = delimiter_runs delimiter.Apart line p }
