-- Links of the chunks of a text.
use Rattle.std.specs.Prelude.{List, [], ◌∷◌}
use Rattle.md_engine.specs.declared.event.Event.{Event}
use Rattle.md_engine.specs.declared.event.Link.{Link}
use Rattle.md_engine.specs.declared.event.Name.{Name}
use Rattle.md_events.specs.declared.inline.Chunk.{Chunk}
use Rattle.md_events.specs.Events.Nested.{enter_link, exit}

-- the chunks of a part that is not read yet
abbrev pub linked : Name → Link → List Chunk → List Event
linked name link [] = []
linked name link (chunk ∷ chunks) = enter_link name chunk.first link ∷ exit name chunk.after ∷ linked name link chunks
