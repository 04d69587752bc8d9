-- Parts of a row that are taken at once, as its states take them one after another.
use Rattle.std.specs.Prelude.{◌≡◌, ◌≢◌, ℕ, ◌<◌, ◌⊎◌, ◌==◌, Bool, false, Option, None, Some}
use Rattle.md_engine.specs.declared.event.Name.TheVariants.{GfmTableCellDivider}
use Rattle.md_engine.specs.declared.state.Name.{Name as StateName}
use Rattle.md_engine.specs.declared.state.Name.TheVariants as n
use Rattle.md_engine.specs.declared.state.space_or_tab.State.{State as WhiteState}
use Rattle.md_engine.specs.declared.state.State.{State}
use Rattle.md_engine.specs.declared.state.State.TheVariants.{Error, Next}
use Rattle.md_engine.specs.Going.{SeesOn}
use Rattle.md_engine.specs.Run.{RunsHere, Step, reading}
use Rattle.md_engine.specs.World.{World, looks}
use Rattle.md_meaning.specs.Ascii.{backslash}
use Rattle.md_events.specs.OneSpace.{IsOneSpace, spaced}
use Rattle.md_events.specs.Spaces.{sees_white, white_transition}
use Rattle.md_events.specs.Transition.{entered, exited, taken}
use Rattle.md_tables.specs.Row.{name_at, row_transition}
use Rattle.md_tables.specs.declared.row.Place.{Place}
use Rattle.md_tables.specs.declared.row.Place.TheVariants as place
use Rattle.md_tables.specs.declared.row.Row.{Row}

-- what the states of a row do, and those of whitespace
pub data RowStep (r : Row) (name : StateName) (w : World) (to : State) (new : World) : Type 0 where
  OfRow : (p : Place) → name ≡ name_at r p → to ≡ (row_transition r p w).to → new ≡ (row_transition r p w).world →
      RowStep r name w to new
  OfWhite : (state : WhiteState) → name ≡ n.SpaceOrTab state → to ≡ (white_transition state w).to →
      new ≡ (white_transition state w).world →
      RowStep r name w to new

-- the pipe that is here was taken
abbrev pub divided : World → World
divided w = exited (taken (entered w GfmTableCellDivider)) GfmTableCellDivider

-- after a part of a row: one space was taken, or no whitespace is here
pub data IsGap (w : World) : World → Type 0 where
  OneSpace : IsOneSpace w → IsGap w (spaced w)
  NoSpace : sees_white w.current ≡ false → IsGap w w

-- From one state another is reached, which sees what is here: what runs from there runs from the first.
pub record Passes (T : Step) (first : StateName) (old : World) (name : StateName) (w : World) : Type 0 where
  pub leads : (to : State) (new : World) → RunsHere T name w to new → RunsHere T first old to new
  pub current : w.current ≡ looks w
  pub may : (w.point ≡ old.point) ⊎ (w.point.index < w.setting.limit)
  pub setting : w.setting ≡ old.setting

-- From a state of a row another of them is reached, or a state with which the row is left.
abbrev pub ProceedsTo : Row → StateName → World → StateName → Option State → World → Type 0
ProceedsTo r first old next None w = Passes (RowStep r) first old next w
ProceedsTo r first old next (Some to) w = to ≢ Error → RunsHere (RowStep r) first old to w × SeesOn to old w

-- the next of its parts is reached
abbrev pub Proceeds : Row → StateName → World → Option State → World → Type 0
Proceeds r first old result w = ProceedsTo r first old (name_at r place.Break) result w

-- What is here was taken, and what follows it is seen at a place of the row, or waited for.
abbrev pub TakesTo : Row → Place → World → Option State → World → Type 0
TakesTo r p w None new = (new ≡ reading (taken w)) × ((taken w).point.index < w.setting.limit)
TakesTo r p w (Some to) new = (to ≡ Next (name_at r p)) × (new ≡ taken w)

abbrev pub is_backslash : Option ℕ → Bool
is_backslash None = false
is_backslash (Some b) = b == backslash
