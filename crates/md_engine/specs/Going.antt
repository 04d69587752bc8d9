-- How a table goes from state to state at what is at the point.
use Rattle.std.specs.Prelude.{◌≡◌, ◌<◌, ◌⊎◌}
use Rattle.md_engine.specs.declared.state.State.{State}
use Rattle.md_engine.specs.declared.state.State.TheVariants.{Retry}
use Rattle.md_engine.specs.World.{World, looks}

-- a state that stays sees what is there, and may be called where the one before it was, or where something is
abbrev pub SeesOn : State → World → World → Type 0
SeesOn (Retry name) w w' = (w'.current ≡ looks w') × ((w'.point ≡ w.point) ⊎ (w'.point.index < w'.setting.limit))
SeesOn _ w w' = Unit {0}
