-- The grammar of events before lists are put around their items: an item is where a list may, and no list does.
use Rattle.std.specs.Prelude.{Bool, if◌then◌else◌, List, [], ◌∷◌}
use Rattle.std.specs.List.{list_any}
use Rattle.md_engine.specs.declared.event.Event.{Event}
use Rattle.md_engine.specs.declared.event.Kind.{Kind}
use Rattle.md_engine.specs.declared.event.Kind.TheVariants.{Enter, Exit}
use Rattle.md_engine.specs.declared.event.Name.{Name}
use Rattle.md_engine.specs.declared.event.Name.TheVariants as n
use Rattle.md_events.specs.Events.Grammar.{Expression, following, inside, is_whole, may_end, texts}

-- the name in whose place a name is: no item is in a container by the grammar of events
abbrev pub in_place : Name → Name
in_place n.ListItem = n.ListOrdered
in_place n.ListOrdered = n.ListItem
in_place n.ListUnordered = n.ListItem
in_place name = name

-- for each part that is open, the innermost first, what may still come in it
abbrev pub unlisted_after : Expression → List Expression → Kind → Name → List Expression
unlisted_after text [] kind name = []
unlisted_after text (x ∷ xs) Enter name = inside text name ∷ following (in_place name) x ∷ xs
unlisted_after text (x ∷ xs) Exit name = if may_end x then xs else []

abbrev pub unlisted_left : Expression → List Expression → List Event → List Expression
unlisted_left text stack [] = stack
unlisted_left text stack (e ∷ es) = unlisted_left text (unlisted_after text stack e.kind e.name) es

-- Whether events keep this grammar, where this is in text parts.
unfoldable pub keeps_unlisted : Expression → List Event → Bool
keeps_unlisted text events = list_any (λ (x : Expression). is_whole (unlisted_left text (x ∷ []) events)) texts
