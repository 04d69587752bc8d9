-- States that only take and count, by what they do.
use Rattle.std.specs.Prelude.{◌≡◌, ℕ, true, Some}
use Rattle.md_engine.specs.declared.state.Name.{Name as StateName}
use Rattle.md_engine.specs.declared.state.State.TheVariants.{Next}
use Rattle.md_engine.specs.declared.stay.Stay.{Stay}
use Rattle.md_engine.specs.Staying.{counted, takes}
use Rattle.md_engine.specs.World.{World}
use Rattle.md_events.specs.Transition.{Transition, taken}

-- a state takes and counts this, does nothing else, and stays
abbrev pub TakesEach : Stay → StateName → (World → Transition) → Type 0
TakesEach k n t =
    (w : World) (b : ℕ) → w.current ≡ Some b → takes k w.scratch b ≡ true →
    t w ≡ record { to = Next n; world = record (taken w) { scratch = counted k w.scratch } }
