-- Rows of a table (GFM 4.10): what their states do.
use Rattle.std.specs.Prelude.{refl, ℕ, Bool, true, false, ◌||◌, ◌==◌, if◌then◌else◌, Option, Some, None}
use Rattle.md_engine.specs.declared.event.Content.TheVariants as content
use Rattle.md_engine.specs.declared.event.Link.{Link}
use Rattle.md_engine.specs.declared.event.Name.TheVariants.{Data, GfmTable, GfmTableCellDivider, GfmTableRow}
use Rattle.md_engine.specs.declared.state.Name.{Name as StateName}
use Rattle.md_engine.specs.declared.state.Name.TheVariants as n
use Rattle.md_engine.specs.declared.state.gfm_table.State.{State as TableState}
use Rattle.md_engine.specs.declared.state.gfm_table.State.TheVariants as its
use Rattle.md_engine.specs.declared.state.State.TheVariants.{Ok, Nok, Next, Retry}
use Rattle.md_engine.specs.Scheme.{After, Rank, Scheme, Position, ranked, seen}
use Rattle.md_engine.specs.World.{World}
use Rattle.md_meaning.specs.Ascii.{backslash, line_feed, pipe}
use Rattle.md_meaning.specs.Rest.{is_white}
use Rattle.md_leaves.specs.Further.{further_link}
use Rattle.md_events.specs.Spaces.{any_size, rest_ready, sees_white, white_then}
use Rattle.md_events.specs.Transition.{Transition, entered, entered_link, exited, taken}
use Rattle.md_tables.specs.declared.row.Place.{Place}
use Rattle.md_tables.specs.declared.row.Place.TheVariants as place
use Rattle.md_tables.specs.declared.row.Row.{Row}
use Rattle.md_tables.specs.declared.row.Row.TheVariants.{Head, Body}

abbrev pub text_link : Link
text_link = record { previous = false; next = false; content = content.Text }

-- the state at a place of a row
abbrev pub state_at : Row → Place → TableState
state_at Head place.Start = its.HeadRowBefore
state_at Head place.Break = its.HeadRowBreak
state_at Head place.Data = its.HeadRowData
state_at Head place.Escape = its.HeadRowEscape
state_at Head place.CellBefore = its.HeadRowCellBefore
state_at Body place.Start = its.BodyRowStart
state_at Body place.Break = its.BodyRowBreak
state_at Body place.Data = its.BodyRowData
state_at Body place.Escape = its.BodyRowEscape
state_at Body place.CellBefore = its.BodyRowCellBefore

abbrev pub name_at : Row → Place → StateName
name_at r p = n.GfmTable (state_at r p)

-- the place at which a state of a row is, if it is one
abbrev pub place_of : Row → TableState → Option Place
place_of Head its.HeadRowBefore = Some place.Start
place_of Head its.HeadRowBreak = Some place.Break
place_of Head its.HeadRowData = Some place.Data
place_of Head its.HeadRowEscape = Some place.Escape
place_of Head its.HeadRowCellBefore = Some place.CellBefore
place_of Body its.BodyRowStart = Some place.Start
place_of Body its.BodyRowBreak = Some place.Break
place_of Body its.BodyRowData = Some place.Data
place_of Body its.BodyRowEscape = Some place.Escape
place_of Body its.BodyRowCellBefore = Some place.CellBefore
place_of _ _ = None

-- What is in a row.
pub data Piece : Type 0 where
  Ends : Piece
  White : Piece
  Divides : Piece
  Escapes : Piece
  Other : Piece

abbrev pub piece_of : ℕ → Piece
piece_of b =
    if b == line_feed then Ends
    else if is_white b then White
    else if b == pipe then Divides
    else if b == backslash then Escapes
    else Other

abbrev pub piece : Option ℕ → Piece
piece None = Ends
piece (Some b) = piece_of b

-- a word is made of such
abbrev pub is_text : Piece → Bool
is_text Ends = false
is_text White = false
is_text Divides = false
is_text Escapes = true
is_text Other = true

-- whether a backslash in front takes it
abbrev pub is_escaped : Option ℕ → Bool
is_escaped None = false
is_escaped (Some b) = (b == backslash) || (b == pipe)

-- where a row begins, and ends
abbrev pub begun : Row → World → World
begun Head w = entered w GfmTableRow
begun Body w = entered (entered_link w GfmTable further_link) GfmTableRow

abbrev pub shut : Row → World → World
shut Head w = exited w GfmTableRow
shut Body w = exited (exited w GfmTableRow) GfmTable

-- after a part of the row, by whether whitespace is here
abbrev pub after_part : Row → World → Bool → Transition
after_part r w true = white_then w 1 any_size (Next (name_at r place.Break)) Nok
after_part r w false = record { to = Retry (name_at r place.Break); world = w }

-- by what is here
abbrev pub at_break_code : Row → World → Piece → Transition
at_break_code r w Ends = record { to = Ok; world = shut r w }
at_break_code r w White = record { to = Nok; world = w }
at_break_code r w Divides = record {
  to = Next (name_at r place.CellBefore);
  world = exited (taken (entered w GfmTableCellDivider)) GfmTableCellDivider;
}
at_break_code r w Escapes = record { to = Retry (name_at r place.Data); world = entered_link w Data text_link }
at_break_code r w Other = record { to = Retry (name_at r place.Data); world = entered_link w Data text_link }

abbrev pub data_code : Row → World → Piece → Transition
data_code r w Ends = after_part r (exited w Data) false
data_code r w White = after_part r (exited w Data) true
data_code r w Divides = after_part r (exited w Data) false
data_code r w Escapes = record { to = Next (name_at r place.Escape); world = taken w }
data_code r w Other = record { to = Next (name_at r place.Data); world = taken w }

-- by whether the backslash takes what is here
abbrev pub escape_code : Row → World → Bool → Transition
escape_code r w true = record { to = Next (name_at r place.Data); world = taken w }
escape_code r w false = record { to = Retry (name_at r place.Data); world = w }

-- each state with what it does, where there is memory
abbrev pub start_transition : Row → World → Transition
start_transition r w = after_part r (begun r w) (sees_white w.current)

abbrev pub at_break_transition : Row → World → Transition
at_break_transition r w = at_break_code r w (piece w.current)

abbrev pub data_transition : Row → World → Transition
data_transition r w = data_code r w (piece w.current)

abbrev pub escape_transition : Row → World → Transition
escape_transition r w = escape_code r w (is_escaped w.current)

abbrev pub cell_before_transition : Row → World → Transition
cell_before_transition r w = after_part r w (sees_white w.current)

-- all of them
abbrev pub row_transition : Row → Place → World → Transition
row_transition r place.Start w = start_transition r w
row_transition r place.Break w = at_break_transition r w
row_transition r place.Data w = data_transition r w
row_transition r place.Escape w = escape_transition r w
row_transition r place.CellBefore w = cell_before_transition r w

-- Readiness.

abbrev pub row_ready : StateName → Position → After → Type 0
row_ready name x K = rest_ready x K

abbrev pub break_rank : Position → Rank
break_rank x = if is_text (piece (seen x)) then ranked 2 refl else ranked 0 refl

abbrev pub data_rank : Position → Rank
data_rank x = if is_text (piece (seen x)) then ranked 1 refl else ranked 2 refl

abbrev pub row_rank : StateName → Position → Rank
row_rank (n.GfmTable its.HeadRowBreak) x = break_rank x
row_rank (n.GfmTable its.BodyRowBreak) x = break_rank x
row_rank (n.GfmTable its.HeadRowData) x = data_rank x
row_rank (n.GfmTable its.BodyRowData) x = data_rank x
row_rank _ x = ranked 3 refl

abbrev pub row_scheme : Scheme
row_scheme = record { ready = row_ready; level = λ name. 1; rank = row_rank; tries = λ name. ranked 1 refl }
