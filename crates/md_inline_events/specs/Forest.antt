-- Forests: the inline content of a text as parts in parts, down to pieces over its bytes.
--
-- A forest has no positions: a piece says how many bytes it is over, and what follows begins where it ended. So parts
-- nest and lie side by side whatever the forest is. A part that is over no byte gives no events.
use Rattle.std.specs.Prelude.{◌≡◌, ℕ, zero, suc, Bool, true, ◌&&◌, List, [], ◌∷◌, ◌++◌, length}
use Rattle.md_engine.specs.declared.event.Name.{Name}
use Rattle.md_inline_events.specs.Marks.{Back, Front, Mark, begins, ends, is_part_name, passes, stays}

pub data Forest : Type 0 where
  nothing : Forest
  -- so many bytes and one, read as this, and what follows
  piece : Name → ℕ → Forest → Forest
  -- a part around a forest, and what follows
  part : Name → Forest → Forest → Forest

-- a piece over so many bytes, none if there is none, and what follows
abbrev pub over : Name → ℕ → Forest → Forest
over name zero following = following
over name (suc more) following = piece name more following

-- Its marks: what begins before each of its bytes, and what ends after it.

-- the second name matters only where no piece begins
abbrev pub front_within : Name → Front → Name → Front
front_within name passes first = begins (name ∷ []) first
front_within name (begins opens first) other = begins (name ∷ opens) first

abbrev pub back_within : Name → Back → Back
back_within name stays = ends (name ∷ [])
back_within name (ends closes) = ends (closes ++ name ∷ [])

-- a part begins before the first of some bytes
abbrev pub begin : Name → List Mark → List Mark
begin name [] = []
begin name (mark ∷ marks) = record { front = front_within name mark.front name; back = mark.back } ∷ marks

-- a part ends after the last of some bytes
abbrev pub finish : Name → List Mark → List Mark
finish name [] = []
finish name (mark ∷ []) = record { front = mark.front; back = back_within name mark.back } ∷ []
finish name (mark ∷ next ∷ marks) = mark ∷ finish name (next ∷ marks)

-- the marks of the further bytes of a piece
abbrev pub bare : ℕ → List Mark
bare zero = []
bare (suc more) = record { front = passes; back = stays } ∷ bare more

abbrev pub marks : Forest → List Mark
marks nothing = []
marks (piece name more following) = record { front = begins [] name; back = stays } ∷ bare more ++ marks following
marks (part name inside following) = finish name (begin name (marks inside)) ++ marks following

-- how many bytes it is over
abbrev pub size : Forest → ℕ
size forest = length (marks forest)

-- whether all its names are of an inline layer
abbrev pub has_names : Forest → Bool
has_names nothing = true
has_names (piece name more following) = is_part_name name && has_names following
has_names (part name inside following) = is_part_name name && (has_names inside && has_names following)

-- A forest over a text: it is over all bytes, and its names are inline.
pub record IsForestOf (text : List ℕ) (forest : Forest) : Type 0 where
  pub long : size forest ≡ length text
  pub names : has_names forest ≡ true
