-- The ends of containers, and where they are put among the events.
use Rattle.std.specs.Prelude.{ℕ, List, [], ◌∷◌, ◌++◌, take, drop, None}
use Rattle.md_engine.specs.declared.event.Event.{Event}
use Rattle.md_engine.specs.declared.event.Kind.TheVariants.{Exit}
use Rattle.md_engine.specs.declared.event.Point.{Point}
use Rattle.md_engine.specs.ContainerName.{name_of}
use Rattle.md_engine.specs.declared.tokenizer.container.Container.{Container}

-- the ends of containers at a point, the innermost first; the outermost is first among them
abbrev pub ends_at : List Container → Point → List Event
ends_at [] p = []
ends_at (c ∷ cs) p = ends_at cs p ++ record { kind = Exit; name = name_of c.kind; point = p; link = None } ∷ []

-- the point of the first of these events, and this one of none
abbrev pub point_of : List Event → Point → Point
point_of [] p = p
point_of (e ∷ es) p = e.point

-- events with these before the one at an index, or after the last
abbrev pub put : ℕ → List Event → List Event → List Event
put at ends events = take at events ++ ends ++ drop at events
