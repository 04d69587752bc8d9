-- What a resolver answers nests, if what its function gives does.
use Rattle.std.proofs.Common.{◌≡◌, List, Result, Ok, Err, ap, sym, subst}
use Rattle.std.specs.Prelude.{IfOk, OnOk}
use Rattle.md_engine.specs.World.{World}
use Rattle.md_engine.specs.declared.event.Event.{Event}
use Rattle.md_events.specs.Events.Nested.{Nested}

pub answers-nested : {X E : Type 0} (answer : Result X E) (old new : World) (events : List Event) (May : Type 0) →
    (May → Nested old.events → Nested events) → IfOk answer (λ found. new ≡ record old { events = events }) →
    OnOk answer (May → Nested old.events → Nested new.events)
answers-nested (Ok found) old new events May keeps is = λ may nested.
    subst Nested (sym (ap (λ (w : World). w.events) is)) (keeps may nested)
answers-nested (Err message) old new events May keeps is = tt
