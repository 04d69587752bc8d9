-- Placed events.
use Rattle.std.proofs.Common.{◌≡◌, ℕ, List, ◌++◌, take, drop}
use Rattle.std.proofs.lemmas.List.Elements.{All-append, All-drop, All-take}
use Rattle.md_engine.specs.declared.event.Event.{Event}
use Rattle.md_engine.specs.Place.{IsPlaced}
use Rattle.md_events.specs.Parts.{ArePlaced}

-- some of the events that are left after others
pub placed-place : (bytes : List ℕ) (all new more : List Event) (from many : ℕ) →
    new ≡ all ++ take many (drop from more) → ArePlaced bytes all → ArePlaced bytes more → ArePlaced bytes new
placed-place bytes all new more from many is h k =
    rw is
    (All-append (λ (e : Event). IsPlaced bytes e.point) all (take many (drop from more)) h
    (All-take (λ (e : Event). IsPlaced bytes e.point) _ _
    (All-drop (λ (e : Event). IsPlaced bytes e.point) _ more k)))
