-- Lines of text as the states of flow leave them.
use Rattle.std.specs.Prelude.{List, [], ◌∷◌, ◌++◌}
use Rattle.md_engine.specs.declared.event.Event.{Event}
use Rattle.md_engine.specs.declared.event.Link.{Link}
use Rattle.md_engine.specs.declared.event.Name.{Name}
use Rattle.md_events.specs.Events.Nested.{enter_link, exit}
use Rattle.proof_frame.specs.Row.{Row, after_row}

-- the lines of a part that is not read yet, each a chunk; before each further one are the prefixes of its containers
abbrev pub linked_lines : Name → Link → Row → List Row → List Event
linked_lines name link row [] = enter_link name row.first link ∷ exit name row.end ∷ []
linked_lines name link row (next ∷ rows) =
    enter_link name row.first link ∷ exit name (after_row row) ∷ next.front ++ linked_lines name link next rows
