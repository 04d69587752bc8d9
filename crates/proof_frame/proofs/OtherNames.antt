-- Names that no walk over endings reads.
use Rattle.std.proofs.Common.{◌≡◌, true, List, [], ◌∷◌, ◌++◌, refl}
use Rattle.std.specs.List.{list_all}
use Rattle.std.proofs.lemmas.Bool.{and_from}
use Rattle.md_engine.specs.declared.event.Event.{Event}
use Rattle.md_engine.specs.declared.event.Name.{Name}
use Rattle.md_engine.specs.declared.event.Point.{Point}
use Rattle.md_events.specs.Events.Endings.{on_line}
use Rattle.md_events.specs.Events.Nested.{around, enter, exit}
use Rattle.md_events.proofs.EndingsLemmas.{AreOthers, is_other, others-append}

abbrev pub Other : Name → Type 0
Other name = is_other (on_line name) ≡ true

others-more : (e : Event) (es : List Event) → Other e.name → AreOthers es → AreOthers (e ∷ es)
others-more e es h k = and_from (is_other (on_line e.name)) (list_all (λ (f : Event). is_other (on_line f.name)) es) h k

pub others-around : (name : Name) (p q : Point) (es : List Event) → Other name → AreOthers es →
    AreOthers (around name p q es)
others-around name p q es h k =
    others-more (enter name p) (es ++ exit name q ∷ []) h
    (others-append es (exit name q ∷ []) k (others-more (exit name q) [] h refl))
