-- ATX headings whose runs are by themselves: where their texts are set, the events nest as before.
use Rattle.std.specs.Prelude.{◌≡◌, true, if◌then◌else◌, List, [], ◌∷◌, Option, Some, None}
use Rattle.md_engine.specs.declared.event.Event.{Event}
use Rattle.md_engine.specs.declared.event.Kind.{Kind}
use Rattle.md_engine.specs.declared.event.Kind.TheVariants.{Enter, Exit}
use Rattle.md_engine.specs.declared.event.Name.{Name}
use Rattle.md_leaves.specs.HeadingText.{begins, ends, is_heading, is_run}
use Rattle.md_events.specs.Events.Nested.{open_following}

-- A part is by itself: nothing is open where it begins, nor after its end.
abbrev pub IsByItself : List Name → Kind → Name → Type 0
IsByItself names Enter name = names ≡ []
IsByItself names Exit name = open_following names Exit name ≡ []

-- In an ATX heading each run of `#` and of text is by itself, among what is open in the heading. Outside of one nothing
-- is asked.
abbrev pub RunsAllowed : Option (List Name) → List Event → Type 0
RunsAllowed heading [] = Unit {0}
RunsAllowed None (e ∷ es) = RunsAllowed (if begins is_heading e then Some [] else None) es
RunsAllowed (Some names) (e ∷ es) =
    (is_run e.name ≡ true → IsByItself names e.kind e.name)
    × RunsAllowed (if ends is_heading e then None else Some (open_following names e.kind e.name)) es

abbrev pub HeadingsNest : List Event → Type 0
HeadingsNest es = RunsAllowed None es
