-- What the feed has where a state is called, and that a call is one step of a rule.
use Rattle.std.specs.Prelude.{◌≡◌, ◌<◌, ◌^◌, ℕ, List, [], ◌∷◌, length, Option, Some, None}
use Rattle.md_engine.specs.declared.event.Point.{Point}
use Rattle.md_engine.specs.declared.state.Name.{Name as StateName}
use Rattle.md_engine.specs.declared.state.State.{State}
use Rattle.md_engine.specs.declared.state.State.TheVariants.{Next}
use Rattle.md_engine.specs.Meaning.{Behaviour, Cell, Feed, Steps, line_of}
use Rattle.md_engine.specs.Place.{seen_at}
use Rattle.md_engine.specs.World.{World, after}

-- the cell of a byte that is at the point
abbrev pub cell_here : Feed → World → ℕ → Cell
cell_here feed w b = record { byte = b; after = after w.setting w.point; line = line_of w.setting.line (feed w.point) }

-- the cells from what is at the point on
abbrev pub ahead : Feed → World → Option ℕ → List Cell
ahead feed w None = []
ahead feed w (Some b) = cell_here feed w b ∷ feed (after w.setting w.point)

-- the feed is what the tokenizer sees, and follows the text as far as it may be read
pub record Sees (feed : Feed) (w : World) : Type 0 where
  pub next : feed w.point ≡ ahead feed w w.current
  pub along : (p : Point) → p.index < w.setting.limit →
      feed p ≡
      (record { byte = seen_at w.setting.bytes p; after = after w.setting p; line = line_of w.setting.line (feed p) }
      ∷ feed (after w.setting p))
  pub short : length (feed w.point) < 2 ^ 63

-- A call of the state `name` that answers `to` is one step of the rule, whatever behaviour has the rule and whatever
-- follows: what is left of the rule at `name`, where the tokenizer is before, is what is left at `to`, where it is
-- after; events are appended. So `Ok` is answered only where the rule accepts with just the events that are there, and
-- `Nok` only where it accepts nothing that may follow.
abbrev pub IsStep : (Behaviour → Type 0) → StateName → State → World → World → Type 0
IsStep Has name to old new = (B : Behaviour) (feed : Feed) → Has B → Sees feed old → Steps B feed (Next name) old to new
