-- Tables (GFM 4.10), as their heads and bodies are put around rows, and cells into them.
--
-- The first row of a table and its delimiter row are the head. The rows after them are the body, if there are any: it
-- begins where the first of them does, and ends where the table does. What is between two rows (line endings,
-- whitespace, prefixes of containers) stays as it is, and so does all that is outside of tables.
use Rattle.std.specs.Prelude.{Bool, true, false, not, List, [], ◌∷◌, ◌++◌}
use Rattle.md_engine.specs.declared.event.Event.{Event}
use Rattle.md_engine.specs.declared.event.Kind.{Kind}
use Rattle.md_engine.specs.declared.event.Kind.TheVariants.{Enter, Exit}
use Rattle.md_engine.specs.declared.event.Name.{Name}
use Rattle.md_engine.specs.declared.event.Name.TheVariants as n
use Rattle.md_engine.specs.declared.event.Point.{Point}
use Rattle.md_events.specs.Events.Nested.{enter, exit}
use Rattle.md_tables.specs.Cells.{Step, passed, step}
use Rattle.md_tables.specs.declared.cells.Stage.{Stage}
use Rattle.md_tables.specs.declared.cells.Stage.TheVariants as row
use Rattle.md_tables.specs.declared.tables.Bound.{Bound}
use Rattle.md_tables.specs.declared.tables.Bound.TheVariants.{BeginsRow, BeginsTable, EndsDelimiter, EndsTable, Other}
use Rattle.md_tables.specs.declared.tables.Section.{Section}
use Rattle.md_tables.specs.declared.tables.Section.TheVariants.{Between, Body, Head, Outside}

-- what an event is to the head and the body of a table
abbrev pub begin_bound : Name → Bound
begin_bound n.GfmTable = BeginsTable
begin_bound n.GfmTableRow = BeginsRow
begin_bound _ = Other

abbrev pub end_bound : Name → Bound
end_bound n.GfmTable = EndsTable
end_bound n.GfmTableDelimiterRow = EndsDelimiter
end_bound _ = Other

abbrev pub bound_by : Kind → Name → Bound
bound_by Enter name = begin_bound name
bound_by Exit name = end_bound name

abbrev pub bound_of : Event → Bound
bound_of e = bound_by e.kind e.name

-- the body begins before the first row after the head, and ends before the end of the table
abbrev pub in_front : Section → Bound → Point → List Event
in_front Between BeginsRow p = enter n.GfmTableBody p ∷ []
in_front Body EndsTable p = exit n.GfmTableBody p ∷ []
in_front _ _ p = []

-- the head begins after the begin of the table, and ends after the delimiter row
abbrev pub following : Section → Bound → Point → List Event
following Outside BeginsTable p = enter n.GfmTableHead p ∷ []
following Head EndsDelimiter p = exit n.GfmTableHead p ∷ []
following _ _ p = []

-- the section of a table in which one is after an event
abbrev pub next : Section → Bound → Section
next Outside BeginsTable = Head
next Outside _ = Outside
next _ EndsTable = Outside
next Head EndsDelimiter = Between
next Between BeginsRow = Body
next section _ = section

-- what is given for the event itself: in a table, with the cells of its row
abbrev pub with_cells : Section → Stage → Event → List Event → Step
with_cells Outside stage e es = passed e row.Outside
with_cells _ stage e es = step stage e es

abbrev pub given : Section → Stage → Event → List Event → List Event
given section stage e es =
    in_front section (bound_of e) e.point ++ (with_cells section stage e es).given
    ++ following section (bound_of e) e.point

-- what is given from there on
abbrev pub tabled_from : Section → Stage → List Event → List Event
tabled_from section stage [] = []
tabled_from section stage (e ∷ es) =
    given section stage e es ++ tabled_from (next section (bound_of e)) (with_cells section stage e es).stage es

-- the events with the heads, bodies and cells of their tables
abbrev pub tabled : List Event → List Event
tabled events = tabled_from Outside row.Outside events

-- outside of tables all pass but the begin of one
abbrev pub begins_table : Bound → Bool
begins_table BeginsTable = true
begins_table _ = false

abbrev pub passes : Section → Event → Bool
passes Outside e = not (begins_table (bound_of e))
passes _ e = false
