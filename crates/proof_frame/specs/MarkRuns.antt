-- Runs of one marker and of whitespace, as events: each is one part, as long as it can be.
use Rattle.std.specs.Prelude.{ℕ, ◌==◌, if◌then◌else◌, List, [], ◌∷◌}
use Rattle.md_engine.specs.declared.event.Event.{Event}
use Rattle.md_engine.specs.declared.event.Name.{Name}
use Rattle.md_engine.specs.declared.event.Name.TheVariants as n
use Rattle.md_engine.specs.declared.event.Point.{Point}
use Rattle.md_events.specs.Events.Nested.{enter, exit}
use Rattle.md_events.specs.Events.Places.{past_byte}

-- in which run of a line a place lies
pub data Run : Type 0 where
  -- between two runs
  Apart : Run
  Marks : Run
  White : Run

-- the runs that are left of some bytes, where those of the marker are of this name
abbrev pub mark_runs : Name → Run → ℕ → List ℕ → Point → List Event
mark_runs name Apart m [] p = []
mark_runs name Marks m [] p = exit name p ∷ []
mark_runs name White m [] p = exit n.SpaceOrTab p ∷ []
mark_runs name Apart m (b ∷ bs) p =
    if b == m then enter name p ∷ mark_runs name Marks m bs (past_byte b p)
    else enter n.SpaceOrTab p ∷ mark_runs name White m bs (past_byte b p)
mark_runs name Marks m (b ∷ bs) p =
    if b == m then mark_runs name Marks m bs (past_byte b p)
    else exit name p ∷ enter n.SpaceOrTab p ∷ mark_runs name White m bs (past_byte b p)
mark_runs name White m (b ∷ bs) p =
    if b == m then exit n.SpaceOrTab p ∷ enter name p ∷ mark_runs name Marks m bs (past_byte b p)
    else mark_runs name White m bs (past_byte b p)
