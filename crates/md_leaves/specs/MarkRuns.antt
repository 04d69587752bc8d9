-- Runs of one marker and of whitespace by the cells of a line, as events: each is one part, as long as it can be.
use Rattle.std.specs.Prelude.{ℕ, ◌==◌, if◌then◌else◌, List, [], ◌∷◌}
use Rattle.md_engine.specs.declared.event.Event.{Event}
use Rattle.md_engine.specs.declared.event.Name.{Name}
use Rattle.md_engine.specs.declared.event.Name.TheVariants.{SpaceOrTab}
use Rattle.md_engine.specs.declared.event.Point.{Point}
use Rattle.md_engine.specs.Meaning.{Cell}
use Rattle.md_events.specs.Events.Nested.{enter, exit}

-- in which run of a line a place lies
pub data Run : Type 0 where
  -- between two runs
  Apart : Run
  Marks : Run
  White : Run

-- the runs that are left of some cells, where those of the marker are of this name
abbrev pub mark_runs : Name → Run → ℕ → List Cell → Point → List Event
mark_runs name Apart m [] p = []
mark_runs name Marks m [] p = exit name p ∷ []
mark_runs name White m [] p = exit SpaceOrTab p ∷ []
mark_runs name Apart m (c ∷ cs) p =
    if c.byte == m then enter name p ∷ mark_runs name Marks m cs c.after
    else enter SpaceOrTab p ∷ mark_runs name White m cs c.after
mark_runs name Marks m (c ∷ cs) p =
    if c.byte == m then mark_runs name Marks m cs c.after
    else exit name p ∷ enter SpaceOrTab p ∷ mark_runs name White m cs c.after
mark_runs name White m (c ∷ cs) p =
    if c.byte == m then exit SpaceOrTab p ∷ enter name p ∷ mark_runs name Marks m cs c.after
    else mark_runs name White m cs c.after
