-- Lines of content that follow one another, joined: the ending between two belongs to the first.
use Rattle.std.specs.Prelude.{ℕ, Bool, true, false, ◌&&◌, if◌then◌else◌, List, [], ◌∷◌}
use Rattle.md_engine.specs.declared.event.Event.{Event}
use Rattle.md_engine.specs.declared.event.Name.{Name}
use Rattle.md_engine.specs.declared.event.Name.TheVariants as n
use Rattle.md_events.specs.Events.Inline.{is_line_ending}
use Rattle.md_events.specs.Events.Nested.{is_enter, is_exit}
use Rattle.md_events.specs.Events.Prefix.{is_prefix}

abbrev pub is_content : Name → Bool
is_content n.Content = true
is_content _ = false

-- whether a line of content ends with an event
abbrev pub ends_content : Event → Bool
ends_content e = is_exit e.kind && is_content e.name

-- whether a line of content begins after container prefixes
abbrev pub content_after : List Event → Bool
content_after [] = false
content_after (e ∷ es) = if is_prefix e.name then content_after es else is_enter e.kind && is_content e.name

-- whether a line of content that ends before these events continues after them: with its ending, and another line of
-- content
abbrev pub is_continued : List Event → Bool
is_continued (e ∷ f ∷ es) = is_line_ending e.name && content_after es
is_continued _ = false

-- how many events are joined with the first of these
abbrev pub joined_with : List Event → ℕ
joined_with (e ∷ f ∷ g ∷ es) = if is_exit e.kind && is_content e.name && is_continued (f ∷ g ∷ es) then 2 else 0
joined_with _ = 0

-- each line of content that continues ends after its ending
abbrev pub joined : List Event → List Event
joined [] = []
joined (e ∷ []) = e ∷ []
joined (e ∷ f ∷ []) = e ∷ f ∷ []
joined (e ∷ f ∷ g ∷ es) =
    if is_exit e.kind && is_content e.name && is_continued (f ∷ g ∷ es)
    then record e { point = g.point } ∷ joined es
    else e ∷ joined (f ∷ g ∷ es)

-- whether an event belongs to a container prefix
abbrev pub is_of_prefix : Event → Bool
is_of_prefix e = is_prefix e.name
