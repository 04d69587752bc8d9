-- Which marks the bytes of a text may have: their names are inline, and parts end in the order in which they are open.
use Rattle.std.specs.Prelude.{◌≡◌, ℕ, Bool, true, ◌&&◌, List, [], ◌∷◌, ◌++◌, length}
use Rattle.std.specs.List.{list_all}
use Rattle.md_engine.specs.declared.event.Name.{Name}
use Rattle.md_inline_events.specs.Marks.{Back, Front, Mark, begins, closes_in, ends, is_part_name, opens_in, passes}
use Rattle.md_inline_events.specs.Marks.{stays}

abbrev pub are_front_names : Front → Bool
are_front_names passes = true
are_front_names (begins opens name) = is_part_name name && list_all is_part_name opens

abbrev pub are_back_names : Back → Bool
are_back_names stays = true
are_back_names (ends closes) = list_all is_part_name closes

abbrev pub is_named : Mark → Bool
is_named mark = are_front_names mark.front && are_back_names mark.back

-- these names are open, the innermost first, and more begin
abbrev pub opened : List Name → List Name → List Name
opened [] names = names
opened (name ∷ more) names = opened more (name ∷ names)

-- from these open parts to those
abbrev pub Runs : List Name → List Mark → List Name → Type 0
Runs names [] end = names ≡ end
Runs names (mark ∷ marks) end =
    (next : List Name) × (opened (opens_in mark.front) names ≡ closes_in mark.back ++ next) × Runs next marks end

-- The marks of a text.
pub record AreMarks (text : List ℕ) (marks : List Mark) : Type 0 where
  pub long : length marks ≡ length text
  pub named : list_all is_named marks ≡ true
  pub runs : Runs [] marks []
