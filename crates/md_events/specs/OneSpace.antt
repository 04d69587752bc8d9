-- One space between two parts of a line, taken at once.
use Rattle.std.specs.Prelude.{◌≡◌, ◌<◌, Some, false}
use Rattle.md_engine.specs.declared.event.Name.TheVariants.{SpaceOrTab}
use Rattle.md_engine.specs.World.{World, after, looks, looks_at}
use Rattle.md_events.specs.Spaces.{calmed, sees_white}
use Rattle.md_events.specs.Transition.{entered, exited, taken}

-- a space is here, and after it something that may be read and is no whitespace
pub record IsOneSpace (w : World) : Type 0 where
  pub here : looks w ≡ Some 32
  pub next : (after w.setting w.point).index < w.setting.limit
  pub following : sees_white (looks_at w.setting (after w.setting w.point)) ≡ false

-- it was taken as whitespace, and what follows it is seen
abbrev pub spaced : World → World
spaced w = record (exited (taken (entered w SpaceOrTab)) SpaceOrTab) {
  current = looks_at w.setting (after w.setting w.point);
  scratch = calmed w.scratch;
}
