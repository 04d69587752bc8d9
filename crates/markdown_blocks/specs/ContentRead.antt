-- The step that reads content after flow: it is made where a line of text is among the events that flow has added.
use Rattle.std.specs.Prelude.{◌≡◌, ◌⊎◌, Bool, true, false, not, ◌&&◌, List, [], ◌∷◌, Some}
use Rattle.std.specs.List.{list_any}
use Rattle.md_engine.specs.declared.event.Event.{Event}
use Rattle.md_engine.specs.declared.resolve.name.Name.TheVariants as r
use Rattle.md_engine.specs.Found.{Found, nothing}
use Rattle.md_engine.specs.World.{World}
use Rattle.md_content.specs.Joined.{is_content}
use Rattle.md_registry.specs.Resolving.{resolved_as}

-- whether a line of text is among events
abbrev pub holds_content : List Event → Bool
holds_content es = list_any (λ e. is_content e.name) es

-- Whether the begin and the end of each line of text lie side by side among events, of which the first is such an end
-- or not.
abbrev pub side_by_side : Bool → List Event → Bool
side_by_side begun [] = not begun
side_by_side true (e ∷ es) = is_content e.name && side_by_side false es
side_by_side false (e ∷ es) = side_by_side (is_content e.name) es

-- so it is in events that begin before a line of text, or in it
abbrev pub AreSideBySide : List Event → Type 0
AreSideBySide es = (side_by_side false es ≡ true) ⊎ (side_by_side true es ≡ true)

-- Content is read, or nothing changes.
abbrev pub ReadIf : Bool → World → Found → World → Type 0
ReadIf true old found new = resolved_as r.Content old (Some found) new
ReadIf false old found new = (found ≡ nothing) × (new ≡ old)
