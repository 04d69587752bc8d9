-- The indent of a further line of an item, taken at once.
use Rattle.std.specs.Prelude.{◌≡◌, ℕ, ◌+◌, ◌<◌, ◌≤◌, false, ◌==◌, List, Some, slice_index}
use Rattle.md_engine.specs.declared.event.Name.TheVariants.{SpaceOrTab}
use Rattle.md_engine.specs.Run.{reading}
use Rattle.md_engine.specs.Staying.{along}
use Rattle.md_engine.specs.World.{World}
use Rattle.md_containers.specs.Item.{item_is_further}
use Rattle.md_events.specs.Look.{looks_after}
use Rattle.md_events.specs.Spaces.{calmed}
use Rattle.md_events.specs.Transition.{entered, exited}

-- spaces are from an index on up to another,
abbrev pub AreSpaces : List ℕ → ℕ → ℕ → Type 0
AreSpaces bytes from to = (k : ℕ) → from ≤ k → k < to → slice_index bytes k ≡ 32

-- so many from here on
abbrev pub SpacesHere : ℕ → World → Type 0
SpacesHere columns w = AreSpaces w.setting.bytes w.point.index (w.point.index + columns)

-- so many spaces are here, and after them something that may be read; the line is not blank, and of no whitespace a
-- part was counted
pub record IsPlainIndent (columns : ℕ) (w : World) : Type 0 where
  pub spaces : SpacesHere columns w
  pub inside : w.point.index + columns < w.setting.limit
  pub first : ℕ
  pub following : looks_after w ≡ Some first
  pub filled : (first == 10) ≡ false
  pub rest : w.scratch.whitespace.max ≡ 0

-- so much was taken,
abbrev pub moved : ℕ → World → World
moved n w = record w { point = along w.setting n w.point }

-- and what follows it is seen
abbrev pub indented : ℕ → World → World
indented n w =
    reading
    (record (exited (moved n (entered w SpaceOrTab)) SpaceOrTab) {
      scratch = calmed w.scratch;
      flags = item_is_further w.flags;
    })
