-- What the plain layer reads in a text part.
use Rattle.std.specs.Prelude.{◌≡◌, ℕ, List}
use Rattle.md_engine.specs.declared.event.Event.{Event}
use Rattle.md_events.specs.Events.Inline.{Part, plain_events}

-- a text part is read as the plain layer reads it
abbrev pub reads_plain : List ℕ → Part → List Event → Type 0
reads_plain text part events = events ≡ plain_events text part
