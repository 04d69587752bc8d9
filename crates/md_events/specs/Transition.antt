-- What a state of a construct does.
use Rattle.std.specs.Prelude.{◌≡◌, false, [], ◌∷◌, ◌++◌, length, Some}
use Rattle.md_engine.specs.declared.event.Link.{Link}
use Rattle.md_engine.specs.declared.event.Name.{Name}
use Rattle.md_engine.specs.declared.event.Kind.TheVariants.{Enter}
use Rattle.md_engine.specs.declared.state.Name.{Name as StateName}
use Rattle.md_engine.specs.declared.state.State.{State}
use Rattle.md_engine.specs.World.{World, after, looks}
use Rattle.md_events.specs.Events.Nested.{enter, exit}

-- the state that it answers, and what the tokenizer is then, where there is memory
pub record Transition : Type 0 where
  pub to : State
  pub world : World

-- the tokenizer is at a state: it sees what is at its point, and has what the state needs
pub record IsAt (needs : StateName → World → Type 0) (name : StateName) (w : World) : Type 0 where
  pub current : w.current ≡ looks w
  pub has : needs name w

-- a part begins or ends at the point
abbrev pub entered : World → Name → World
entered w name = record w { events = w.events ++ enter name w.point ∷ [] }

abbrev pub exited : World → Name → World
exited w name = record w { events = w.events ++ exit name w.point ∷ [] }

-- a part begins that is read later
abbrev pub entered_link : World → Name → Link → World
entered_link w name link = record w {
  events = w.events
      ++ record { kind = Enter; name = name; point = w.point; link = Some link } ∷ [];
}

-- what is at the point is taken
abbrev pub taken : World → World
taken w = record w { point = after w.setting w.point }

-- an attempt has begun
abbrev pub tried : World → State → State → World
tried w ok nok = record w {
  frames = record {
    ok = ok;
    nok = nok;
    is_check = false;
    events_len = length w.events;
    point = w.point;
  }
      ∷ w.frames;
}

-- a state that needs no more than to see what is at its point
abbrev pub NeedsNothing : StateName → World → Type 0
NeedsNothing name w = Unit {0}
