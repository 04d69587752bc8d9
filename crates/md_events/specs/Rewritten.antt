-- A list of events that is rewritten in its own place.
use Rattle.std.specs.Prelude.{◌≡◌, ◌-◌, List, ◌∷◌, ◌++◌, take, drop}
use Rattle.md_engine.specs.declared.event.Event.{Event}
use Rattle.md_events.specs.declared.rewriting.Rewriting.{Rewriting}

-- what was written, what was read and is held, and what is left to be read
abbrev pub written_of : Rewriting → List Event
written_of r = take r.written r.events.items

abbrev pub held_of : Rewriting → List Event
held_of r = take (r.read - r.done) (drop r.done r.events.items)

abbrev pub left_of : Rewriting → List Event
left_of r = drop r.read r.events.items

-- what is given for what was read, where what is held is given as it is
abbrev pub given_of : Rewriting → List Event
given_of r = written_of r ++ held_of r

-- whether an event is the first of some
abbrev pub IsFirst : Event → List Event → Type 0
IsFirst e es = es ≡ e ∷ drop 1 es
