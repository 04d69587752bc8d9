-- Tables whose rows are by themselves, and that end after a delimiter row: where heads, bodies and cells are put into
-- them, the events nest as before.
use Rattle.std.specs.Prelude.{◌≡◌, Bool, true, false, ◌||◌, if◌then◌else◌, List, [], ◌∷◌, Option, Some, None}
use Rattle.md_engine.specs.declared.event.Event.{Event}
use Rattle.md_engine.specs.declared.event.Kind.TheVariants.{Enter, Exit}
use Rattle.md_engine.specs.declared.event.Name.{Name}
use Rattle.md_events.specs.Events.Nested.{open_following}
use Rattle.md_tables.specs.Cells.{begins_row, ends_row, is_divider, is_inner, is_row}
use Rattle.md_tables.specs.Tabled.{begins_table, bound_of}
use Rattle.md_tables.specs.declared.cells.RowKind.{RowKind}
use Rattle.md_tables.specs.declared.cells.RowKind.TheVariants.{Delimiter, Text}
use Rattle.md_order.specs.HeadingsNest.{IsByItself}
use Rattle.md_order.specs.Left.{ends_table}

-- Where one is: outside of tables; in one, by whether a delimiter row has ended and what is open in the table; in a row
-- of it, by what is open in the row.
pub data Place : Type 0 where
  Outside : Place
  InTable : Bool → List Name → Place
  InRow : Bool → RowKind → List Name → Place

-- a pipe, or what the cells of a row hold
abbrev pub is_cell_part : RowKind → Name → Bool
is_cell_part k name = is_divider name || is_inner k name

-- A row begins where nothing is open in its table, and ends where nothing is open in it. A table ends outside of rows,
-- after a delimiter row, where nothing is open. In a row each pipe and each part of what cells hold is by itself.
abbrev pub MayOccur : Place → Event → Type 0
MayOccur Outside e = Unit {0}
MayOccur (InTable headed names) e =
    (is_row e.name ≡ true → (e.kind ≡ Enter) × (names ≡ []))
    × (ends_table e ≡ true → (headed ≡ true) × (names ≡ []))
MayOccur (InRow headed k names) e =
    (is_row e.name ≡ true → (e.kind ≡ Exit) × (names ≡ []))
    × (ends_table e ≡ false)
    × (is_cell_part k e.name ≡ true → IsByItself names e.kind e.name)

abbrev pub is_delimiter : RowKind → Bool
is_delimiter Text = false
is_delimiter Delimiter = true

-- in a row, if one has begun
abbrev pub within : Bool → List Name → Option RowKind → Place
within headed names (Some k) = InRow headed k []
within headed names None = InTable headed names

abbrev pub place_following : Place → Event → Place
place_following Outside e = if begins_table (bound_of e) then InTable false [] else Outside
place_following (InTable headed names) e =
    if ends_table e then Outside else within headed (open_following names e.kind e.name) (begins_row e)
place_following (InRow headed k names) e =
    if ends_row e then InTable (headed || is_delimiter k) [] else InRow headed k (open_following names e.kind e.name)

abbrev pub RowsAllowed : Place → List Event → Type 0
RowsAllowed place [] = Unit {0}
RowsAllowed place (e ∷ es) = MayOccur place e × RowsAllowed (place_following place e) es

abbrev pub TablesNest : List Event → Type 0
TablesNest es = RowsAllowed Outside es
