-- Which chunks a writer can count in, and which lines at once.
use Rattle.std.specs.Prelude.{ℕ, ◌+◌, ◌*◌, ◌^◌, ◌<◌, ◌≤◌, Bool, List, length}
use Rattle.std.specs.List.{list_all}
use Rattle.md_engine.specs.Classes.{has}
use Rattle.md_engine.specs.declared.class.Class.TheVariants.{Text}
use Rattle.md_events.specs.declared.inline.Chunk.{Chunk}

-- a chunk is a piece of the text
pub record IsStretch (bytes : List ℕ) (chunk : Chunk) : Type 0 where
  pub sized : length bytes < 2 ^ 61
  pub column : chunk.first.column ≤ 4 * chunk.first.index + 5
  pub forward : chunk.first.index ≤ chunk.after.index
  pub within : chunk.after.index ≤ length bytes

-- each byte of a line is one column
abbrev pub is_even : List ℕ → Bool
is_even line = list_all (has Text) line
