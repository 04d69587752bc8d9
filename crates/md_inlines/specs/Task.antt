-- The check of a task item (GFM 5.3): `[ ]`, `[x]` or `[X]`, and then whitespace.
use Rattle.std.specs.Prelude.{ℕ, Bool, false, ◌&&◌, ◌||◌, ◌==◌, List, [], ◌∷◌}
use Rattle.md_meaning.specs.Ascii.{left_bracket, right_bracket, space}
use Rattle.md_meaning.specs.Bytes.{begins}
use Rattle.md_inlines.specs.Characters.{is_gap}

-- whether this byte between the brackets says that the item is done
abbrev pub is_checked : ℕ → Bool
is_checked b = (b == 120) || (b == 88)

-- whether a text begins so; the first paragraph of an item does
abbrev pub is_task : List ℕ → Bool
is_task [] = false
is_task (a ∷ []) = false
is_task (a ∷ b ∷ []) = false
is_task (a ∷ b ∷ c ∷ text) =
    (a == left_bracket) && (is_checked b || (b == space)) && (c == right_bracket) && begins is_gap text
