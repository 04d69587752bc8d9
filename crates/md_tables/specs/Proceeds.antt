-- The walk that gives tables their heads, bodies and cells.
use Rattle.std.specs.Prelude.{◌≡◌, ◌<◌, ℕ, Bool, true, false, ◌&&◌, List, ◌++◌}
use Rattle.md_engine.specs.declared.event.Event.{Event}
use Rattle.md_engine.specs.declared.event.Name.{Name}
use Rattle.md_engine.specs.declared.event.Name.TheVariants as n
use Rattle.md_events.specs.Events.Nested.{is_enter, is_exit}
use Rattle.md_tables.specs.Tabled.{tabled_from}
use Rattle.md_tables.specs.declared.cells.RowKind.{RowKind}
use Rattle.md_tables.specs.declared.cells.Stage.{Stage}
use Rattle.md_tables.specs.declared.cells.Stage.TheVariants.{Within}
use Rattle.md_tables.specs.declared.tables.Section.{Section}
use Rattle.md_tables.specs.declared.tables.Section.TheVariants.{Between, Head, Outside}
use Rattle.md_tables.specs.declared.tables.Walk.{Walk}

-- what it gives in all, with these events left
abbrev pub in_all : Walk → List Event → List Event
in_all w rest = w.rows.given.items ++ tabled_from w.section w.rows.stage rest

-- a part, of so many events, after which the walk is in a cell again
pub record IsWithin (kind : RowKind) (many : ℕ) (stage : Stage) : Type 0 where
  pub some : 0 < many
  pub is : stage ≡ Within kind

abbrev pub in_table : Section → Bool
in_table Outside = false
in_table _ = true

-- after the head, and before the first row of the body
abbrev pub is_between : Section → Bool
is_between Between = true
is_between _ = false

-- the end of a row of text
abbrev pub is_text_row : Name → Bool
is_text_row n.GfmTableRow = true
is_text_row _ = false

abbrev pub ends_text_row : Event → Bool
ends_text_row e = is_exit e.kind && is_text_row e.name

-- the end of the head of a table, with its delimiter row
abbrev pub is_delimiter_row : Name → Bool
is_delimiter_row n.GfmTableDelimiterRow = true
is_delimiter_row _ = false

abbrev pub ends_head : Section → Event → Bool
ends_head Head e = is_exit e.kind && is_delimiter_row e.name
ends_head _ e = false

-- the begin of its body, with the first row
abbrev pub begins_body : Section → Event → Bool
begins_body Between e = is_enter e.kind && is_text_row e.name
begins_body _ e = false

-- the begin and the end of a part with such a name
abbrev pub is_pair : (Name → Bool) → Event → Event → Bool
is_pair test a b = (is_enter a.kind && test a.name) && (is_exit b.kind && test b.name)

-- the ending of a line
abbrev pub is_ending : Name → Bool
is_ending n.LineEnding = true
is_ending _ = false
