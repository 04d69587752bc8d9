-- Events that are taken some at a time.
use Rattle.std.specs.Prelude.{◌≡◌, List, [], ◌∷◌}
use Rattle.md_engine.specs.declared.event.Event.{Event}

-- Who takes these events, one list after the other, is first as at the front and then as at the end.
abbrev pub AreTaken : {S : Type 0} → (S → List Event → S → Type 0) → S → List (List Event) → S → Type 0
AreTaken takes old [] new = new ≡ old
AreTaken {S} takes old (events ∷ further) new =
    (after : S) × (taken : takes old events after) × AreTaken takes after further new
