-- The rule of a row of a table, as what is left of it at each state (GFM 4.10): any line is one.
use Rattle.std.specs.Prelude.{◌≡◌, ℕ, Bool, false, ◌||◌, ◌==◌, not, if◌then◌else◌, List, [], ◌∷◌, ◌++◌, Some}
use Rattle.md_engine.specs.declared.event.Event.{Event}
use Rattle.md_engine.specs.declared.event.Kind.TheVariants.{Enter}
use Rattle.md_engine.specs.declared.event.Name.TheVariants.{Data, GfmTable, GfmTableCellDivider, GfmTableRow}
use Rattle.md_engine.specs.declared.event.Name.TheVariants.{SpaceOrTab}
use Rattle.md_engine.specs.declared.event.Point.{Point}
use Rattle.md_engine.specs.declared.state.State.{State}
use Rattle.md_engine.specs.Meaning.{Accepts, Behaviour, Cell, Here, Outcome, Refuses}
use Rattle.md_engine.specs.Sees.{IsStep}
use Rattle.md_engine.specs.World.{World}
use Rattle.md_meaning.specs.Ascii.{backslash, pipe}
use Rattle.md_meaning.specs.Rest.{is_white}
use Rattle.md_leaves.specs.Further.{further_link}
use Rattle.md_events.specs.Ahead.{HasWhite, begins_white, from_ending, line_cells, line_end}
use Rattle.md_events.specs.Events.Nested.{enter, exit}
use Rattle.md_events.specs.Spaces.{IsRest}
use Rattle.md_tables.specs.Row.{name_at, text_link, row_transition}
use Rattle.md_tables.specs.declared.row.Place.{Place}
use Rattle.md_tables.specs.declared.row.Place.TheVariants as place
use Rattle.md_tables.specs.declared.row.Row.{Row}
use Rattle.md_tables.specs.declared.row.Row.TheVariants.{Head, Body}
use Rattle.md_events.specs.States.{IsState, IsSureState}
use Rattle.md_engine.specs.declared.tokenizer.Tokenizer.{Tokenizer}
use Rattle.md_engine.specs.Full.{IsFull}

-- in which run of a line a place lies
pub data Run : Type 0 where
  -- between two runs
  Apart : Run
  White : Run
  -- after a pipe that divides
  Pipe : Run
  -- in a word, and there after a backslash
  Text : Run
  Escaped : Run

-- the run after a byte of a word
abbrev pub in_text : ℕ → Run
in_text b = if b == backslash then Escaped else Text

-- the run that begins with this byte
abbrev pub begun : ℕ → Run
begun b = if is_white b then White else if b == pipe then Pipe else in_text b

-- whether a run continues with this byte: a word continues up to whitespace, or a pipe that no backslash takes
abbrev pub is_continued : Run → ℕ → Bool
is_continued Apart b = false
is_continued White b = is_white b
is_continued Pipe b = false
is_continued Text b = not (is_white b || (b == pipe))
is_continued Escaped b = not (is_white b)

-- the run that it is then
abbrev pub next : Run → ℕ → Run
next Text b = in_text b
next Escaped b = Text
next run b = run

-- the events at the begin and at the end of a run
abbrev pub opens : Run → Point → List Event
opens Apart p = []
opens White p = enter SpaceOrTab p ∷ []
opens Pipe p = enter GfmTableCellDivider p ∷ []
opens Text p = record { kind = Enter; name = Data; point = p; link = Some text_link } ∷ []
opens Escaped p = record { kind = Enter; name = Data; point = p; link = Some text_link } ∷ []

abbrev pub closes : Run → Point → List Event
closes Apart p = []
closes White p = exit SpaceOrTab p ∷ []
closes Pipe p = exit GfmTableCellDivider p ∷ []
closes Text p = exit Data p ∷ []
closes Escaped p = exit Data p ∷ []

-- the runs that are left of a line: each is one part, as long as it can be
abbrev pub runs : Run → List Cell → Point → List Event
runs run [] p = closes run p
runs run (c ∷ cs) p =
    if is_continued run c.byte then runs (next run c.byte) cs c.after
    else closes run p ++ opens (begun c.byte) p ++ runs (begun c.byte) cs c.after

-- the events at the begin and at the end of a row
abbrev pub row_opens : Row → Point → List Event
row_opens Head p = enter GfmTableRow p ∷ []
row_opens Body p =
    record { kind = Enter; name = GfmTable; point = p; link = Some further_link } ∷ enter GfmTableRow p ∷ []

abbrev pub row_closes : Row → Point → List Event
row_closes Head p = exit GfmTableRow p ∷ []
row_closes Body p = exit GfmTableRow p ∷ exit GfmTable p ∷ []

-- a row to the end of the line
unfoldable pub in_row : Row → Run → List Cell → Here → Outcome
in_row r run cells h =
    let p = line_end cells h.point in
    Accepts
    (record h {
      events = h.events ++ runs run (line_cells cells) h.point ++ row_closes r p;
      point = p;
    })
    (from_ending cells)

-- after a part and the whitespace that follows it
unfoldable pub at_break : Row → List Cell → Here → Outcome
at_break r cells h = if begins_white cells then Refuses h.scratch h.flags else in_row r Apart cells h

-- what is left at each state
abbrev pub row_behaves : Row → Place → List Cell → Here → Outcome
row_behaves r place.Start cells h = in_row r Apart cells (record h { events = h.events ++ row_opens r h.point })
row_behaves r place.Break cells h = at_break r cells h
row_behaves r place.Data cells h = in_row r Text cells h
row_behaves r place.Escape cells h = in_row r Escaped cells h
row_behaves r place.CellBefore cells h = in_row r Apart cells h

pub record HasRow (B : Behaviour) (r : Row) : Type 0 where
  pub white : HasWhite B
  pub each : (p : Place) (cells : List Cell) (h : Here) → B (name_at r p) cells h ≡ row_behaves r p cells h

-- what a state of a row means: at rest, its call is one step of the rule
unfoldable pub RowMeans : Row → Place → World → State → World → Type 0
RowMeans r p old to new = IsRest old.scratch → IsStep (λ B. HasRow B r) (name_at r p) to old new

-- what a state of a row of a table promises
abbrev pub IsRowState : Row → Place → World → State → Tokenizer → Type 0
IsRowState row place old answer new =
    IsState (row_transition row place old) (RowMeans row place old) (IsFull new) answer new

-- the same of a state that wants no memory
abbrev pub IsSureRowState : Row → Place → World → State → Tokenizer → Type 0
IsSureRowState row place old answer new = IsSureState (row_transition row place old) (RowMeans row place old) answer new
