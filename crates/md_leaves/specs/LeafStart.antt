-- The start of a leaf that is after a small indent, as a heading: what is its own comes after that.
use Rattle.std.specs.Prelude.{Bool, true, false, if◌then◌else◌, List, [], ◌∷◌, ◌++◌}
use Rattle.md_engine.specs.declared.configuration.ParseOptions.{ParseOptions}
use Rattle.md_engine.specs.declared.event.Name.{Name}
use Rattle.md_engine.specs.declared.event.Name.TheVariants.{SpaceOrTab}
use Rattle.md_engine.specs.declared.state.Name.{Name as StateName}
use Rattle.md_engine.specs.declared.state.State.TheVariants.{Next, Nok, Retry}
use Rattle.md_engine.specs.Meaning.{Cell, Here, Outcome, Refuses}
use Rattle.md_engine.specs.World.{World}
use Rattle.md_events.specs.Ahead.{begins_white, white_end, white_rest}
use Rattle.md_events.specs.Events.Nested.{enter, exit}
use Rattle.md_events.specs.Spaces.{calmed, sees_white, small_indent, white_then}
use Rattle.md_events.specs.Transition.{Transition, entered}

-- What its first state does, by its name and its state after the indent: by whether it is on, and whether whitespace is
-- here.
abbrev pub start_code : Name → StateName → World → Bool → Bool → Transition
start_code name following w false white = record { to = Nok; world = w }
start_code name following w true true = white_then (entered w name) 0 (small_indent w.setting.options)
    (Next following) Nok
start_code name following w true false = record { to = Retry following; world = entered w name }

abbrev pub start_transition : Name → StateName → Bool → World → Transition
start_transition name following on w = start_code name following w on (sees_white w.current)

-- Where it has begun.
abbrev pub entered_here : Name → Here → Here
entered_here name h = record h { events = h.events ++ enter name h.point ∷ [] }

-- What is left of it there, if it is on: a small indent, and what is left of it after that.
unfoldable pub start_at : Name → Bool → (List Cell → Here → Outcome) → ParseOptions → List Cell → Here → Outcome
start_at name on following options cells h =
    let begun = entered_here name h in
    let room = small_indent options in
    let p = white_end room cells h.point in
    if on
    then if begins_white cells
    then following (white_rest room cells) (record begun {
      events = begun.events ++ enter SpaceOrTab h.point ∷ exit SpaceOrTab p ∷ [];
      point = p;
      scratch = calmed h.scratch;
    })
    else following cells begun
    else Refuses h.scratch h.flags
