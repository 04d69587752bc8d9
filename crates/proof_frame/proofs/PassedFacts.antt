-- A container of a line, by the cells of the line and by its bytes: that it is the same one, and what it leaves of the
-- line.
use Rattle.std.proofs.Common.{◌≡◌, ℕ, ◌<◌, ◌≤◌, List, ◌∷◌, ◌++◌, length, Option, Some, None}
use Rattle.md_engine.specs.declared.event.Event.{Event}
use Rattle.md_engine.specs.declared.event.Point.{Point}
use Rattle.md_engine.specs.declared.tokenizer.Line.{Line}
use Rattle.md_engine.specs.Meaning.{Cell}
use Rattle.md_meaning.specs.Containers.{Taken}
use Rattle.md_events.specs.Events.Nested.{enter}
use Rattle.md_events.proofs.RestCells.{RestAt, past_rest, rest_cells}
use Rattle.md_meaning.proofs.TextsLemmas.{NoEnding}
use Rattle.proof_frame.specs.ContainerNames.{container_name}
use Rattle.proof_frame.specs.Passed.{Passed}
use Rattle.proof_frame.proofs.RegistryRead.{IsRead}
use Rattle.proof_frame.proofs.PrefixFacts.{Continues, OpensRead}

-- what a container leaves of a line, by the cells of the line and by its bytes
pub record HasPassed (line : Line) (text past : List ℕ) (end : Point) (stop cells : List Cell) (passed : Passed)
    (taken : Taken) : Type 0 where
  pub container : passed.container ≡ taken.container
  pub read : IsRead passed.container
  pub fed : passed.cells ≡ rest_cells line taken.rest passed.point ++ stop
  pub valid : RestAt text past taken.rest passed.point
  pub ends : past_rest taken.rest passed.point ≡ end
  pub no_ending : NoEnding taken.rest.bytes
  pub shorter : length passed.cells ≤ length cells

-- of one that continues: this is before its content
pub record HasFurther (line : Line) (text past : List ℕ) (p end : Point) (stop cells : List Cell) (passed : Passed)
    (taken : Taken) : Type 0 where
  pub passes : HasPassed line text past end stop cells passed taken
  pub further : Continues text p passed.point passed.events

-- of one that opens: this is after its begin; it takes a cell
pub record HasOpening (line : Line) (text past : List ℕ) (p end : Point) (stop cells : List Cell) (passed : Passed)
    (taken : Taken) : Type 0 where
  pub passes : HasPassed line text past end stop cells passed taken
  pub inside : List Event
  pub events : passed.events ≡ enter (container_name passed.container) p ∷ inside
  pub opening : OpensRead text passed.container p passed.point inside
  pub fewer : length passed.cells < length cells

-- a container continues, or opens, by the cells of a line where it does by its bytes
abbrev pub Agree : (Passed → Taken → Type 0) → Option Passed → Option Taken → Type 0
Agree Has None None = Unit {0}
Agree Has (Some passed) (Some taken) = Has passed taken
Agree Has passed taken = ⊥
