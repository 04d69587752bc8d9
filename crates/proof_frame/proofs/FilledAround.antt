-- Text parts that are filled, with a name around them.
use Rattle.std.proofs.Common.{true, List, [], ◌∷◌, ◌++◌, refl}
use Rattle.md_engine.specs.declared.event.Event.{Event}
use Rattle.md_engine.specs.declared.event.Name.{Name}
use Rattle.md_engine.specs.declared.event.Point.{Point}
use Rattle.md_events.specs.Events.Nested.{around, enter, exit}
use Rattle.md_events.proofs.EndingsLemmas.{AreOthers, Filling, filling-append, in_leaf, leads-append, others-lead}
use Rattle.md_events.proofs.EndingsLemmas.{stays-others}

-- with others after them,
pub filling-then : (xs ys : List Event) → Filling xs → AreOthers ys → Filling (xs ++ ys)
filling-then xs ys h others =
    λ from. leads-append (in_leaf from) (in_leaf true) (in_leaf true) xs ys (h from)
    (others-lead (in_leaf true) ys refl others)

-- and a part around them
pub around-fills : (name : Name) (p q : Point) (es : List Event) → AreOthers (enter name p ∷ []) →
    AreOthers (exit name q ∷ []) → Filling es → Filling (around name p q es)
around-fills name p q es enters exits h =
    filling-append (enter name p ∷ []) (es ++ exit name q ∷ []) (stays-others (enter name p ∷ []) enters)
    (filling-then es (exit name q ∷ []) h exits)
