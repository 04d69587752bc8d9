-- How many bytes forests and items are over, and that their names are inline.
use Rattle.std.specs.Prelude.{◌≡◌, ℕ, ◌+◌, ◌<◌, ◌≤◌, true, List, [], ◌∷◌, length}
use Rattle.md_inline_events.specs.Forest.{Forest, has_names, size}
use Rattle.md_inlines.specs.Emphasis.{Item, read, run}

-- over so many bytes, with inline names
pub record Over (forest : Forest) (count : ℕ) : Type 0 where
  pub sized : size forest ≡ count
  pub names : has_names forest ≡ true

-- at the front of a text, and not empty
pub record IsFront (text : List ℕ) (forest : Forest) : Type 0 where
  pub some : 0 < size forest
  pub within : size forest ≤ length text
  pub names : has_names forest ≡ true

abbrev pub item_size : Item → ℕ
item_size (read forest) = size forest
item_size (run r) = r.left

abbrev pub items_size : List Item → ℕ
items_size [] = 0
items_size (item ∷ items) = item_size item + items_size items

-- names are inline, and runs are not empty
abbrev pub Good : List Item → Type 0
Good [] = Unit {0}
Good (read forest ∷ items) = (has_names forest ≡ true) × Good items
Good (run r ∷ items) = (0 < r.left) × Good items
