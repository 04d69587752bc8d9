-- What is around events that no resolver rewrites.
use Rattle.std.proofs.Common.{◌≡◌, false, List, [], ◌∷◌, refl}
use Rattle.md_engine.specs.declared.event.Event.{Event}
use Rattle.md_engine.specs.declared.event.Name.{Name}
use Rattle.md_engine.specs.declared.event.Point.{Point}
use Rattle.md_events.specs.Events.Nested.{around, exit}
use Rattle.proof_frame.proofs.EventNames.{is_own}
use Rattle.proof_frame.proofs.OutsideFacts.{AreOutside, outside-append}

-- what is in a part
pub around-outside : (name : Name) (p q : Point) (inside : List Event) → is_own name ≡ false → AreOutside inside →
    AreOutside (around name p q inside)
around-outside name p q inside other h = (other, outside-append inside (exit name q ∷ []) h (refl, tt))
