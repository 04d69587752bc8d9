-- What plain events show of themselves.
use Rattle.md_outline.specs.Roles.{is_recorded}
use Rattle.std.proofs.Common.{◌≡◌, ℕ, Bool, true, false, ◌||◌, not, List, [], ◌∷◌, refl}
use Rattle.std.specs.List.{list_all}
use Rattle.std.proofs.lemmas.Bool.{and_from, and_parts}
use Rattle.md_engine.specs.declared.event.Event.{Event}
use Rattle.md_engine.specs.declared.event.Point.{Point}
use Rattle.md_events.specs.Events.Spelled.{byte_at, role}
use Rattle.md_outline.specs.Between.{is_between}
use Rattle.md_outline.specs.Outlined.{text_begins_between}
use Rattle.proof_frame.proofs.PlainFacts.{is_clear}
use Rattle.proof_frame.proofs.PartedFacts.{clear, clear-between}

-- a text that begins and ends clear, and between characters, does so also after a tab that is cut
records-clear : (bytes : List ℕ) (recorded : Bool) (p : Point) → (not recorded || clear bytes p) ≡ true →
    is_between bytes p.index ≡ true → (not recorded || is_between bytes (byte_at p)) ≡ true
records-clear bytes false p h k = refl
records-clear bytes true p h k = clear-between bytes p h k

pub all-write_message : (bytes : List ℕ) (events : List Event) → list_all (is_clear bytes) events ≡ true →
    list_all (λ (e : Event). is_between bytes e.point.index) events ≡ true →
    list_all (text_begins_between bytes) events ≡ true
all-write_message bytes [] h k = refl
all-write_message bytes (e ∷ events) h k =
    let clears = and_parts (is_clear bytes e) (list_all (is_clear bytes) events) h in
    let betweens = and_parts (is_between bytes e.point.index)
    (list_all (λ (e : Event). is_between bytes e.point.index) events) k in
    and_from (text_begins_between bytes e) (list_all (text_begins_between bytes) events)
    (records-clear bytes (is_recorded (role e.name)) e.point clears.0 betweens.0)
    (all-write_message bytes events clears.1 betweens.1)
