-- A container on a line, by the cells of the line.
use Rattle.std.specs.Prelude.{List, [], ◌++◌, Option, Some, None}
use Rattle.md_engine.specs.declared.event.Event.{Event}
use Rattle.md_engine.specs.declared.event.Point.{Point}
use Rattle.md_engine.specs.declared.tokenizer.container.Container.{Container as Held}
use Rattle.md_engine.specs.Meaning.{Accepts, Cell, Here, Outcome, Refuses}
use Rattle.md_meaning.specs.State.{Container}

-- one that continues or opens: as it is then, and as the tokenizer holds it; what is before its content, and what is
-- left after it
pub record Passed : Type 0 where
  pub container : Container
  pub held : Held
  pub events : List Event
  pub cells : List Cell
  pub point : Point

-- after its prefix
abbrev pub passed_here : Passed → Here → Here
passed_here t h = record h {
  events = h.events ++ t.events;
  point = t.point;
  flags = record h.flags { asked = t.held };
}

-- taken where it continues or opens, and refused elsewhere
abbrev pub passed_by : Option Passed → Here → Outcome
passed_by None h = Refuses h.scratch h.flags
passed_by (Some t) h = Accepts (passed_here t h) t.cells

-- one that continues where the line ends: it takes nothing, and stays as it is
abbrev pub passed_over : Held → Container → List Cell → Point → Passed
passed_over held c cells p = record { container = c; held = held; events = []; cells = cells; point = p }
