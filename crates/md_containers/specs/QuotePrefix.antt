-- The prefix `> ` of a quote, taken at once.
use Rattle.std.specs.Prelude.{◌≡◌, ◌<◌, Some}
use Rattle.md_engine.specs.declared.event.Name.TheVariants.{BlockQuoteMarker, BlockQuotePrefix, SpaceOrTab}
use Rattle.md_engine.specs.Run.{reading}
use Rattle.md_engine.specs.World.{World, after, looks, looks_at}
use Rattle.md_events.specs.Transition.{entered, exited, taken}

-- `>` and a space are here, and after them something that may be read
pub record IsPlainPrefix (w : World) : Type 0 where
  pub here : looks w ≡ Some 62
  pub inside : (after w.setting w.point).index < w.setting.limit
  pub space : looks_at w.setting (after w.setting w.point) ≡ Some 32
  pub next : (after w.setting (after w.setting w.point)).index < w.setting.limit

-- its marker was taken,
abbrev pub marked : World → World
marked w = exited (taken (entered (entered w BlockQuotePrefix) BlockQuoteMarker)) BlockQuoteMarker

-- and its space, and what follows it is seen
abbrev pub prefixed : World → World
prefixed w = reading (exited (exited (taken (entered (marked w) SpaceOrTab)) SpaceOrTab) BlockQuotePrefix)
