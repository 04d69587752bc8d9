-- What is around the leaves of a text is outside of what resolvers rewrite.
use Rattle.std.proofs.Common.{◌≡◌, List, ◌++◌, refl, ap, sym, ◌∙◌, append_assoc}
use Rattle.std.proofs.lemmas.Bool.{and_right}
use Rattle.md_engine.specs.declared.event.Event.{Event}
use Rattle.md_events.specs.Events.Nested.{is_enter}
use Rattle.proof_frame.proofs.EachEvent.{each-as}
use Rattle.md_registry.specs.Resolving.{resolved}
use Rattle.proof_frame.proofs.EventNames.{is_own}
use Rattle.proof_frame.proofs.OutsideFacts.{AreOutside, outside-append, IsOutside}
use Rattle.md_registry.proofs.Registry.{front-own, outside-passes}
use Rattle.proof_rows.proofs.RowHolds.{OfRows}
use Rattle.proof_frame.proofs.PrefixNames.{AreFront, IsFrontEvent}

-- what is before a line
pub front-outside : (es : List Event) → AreFront es → AreOutside es
front-outside es h =
    each-as IsFrontEvent IsOutside
    (λ e is. and_right (is_enter e.kind) (is_own e.name) (front-own e.name is.0)) es h

-- and after it
pub outside-rows : OfRows AreOutside
outside-rows = record {
  append = outside-append;
  fronts = front-outside;
  ending = λ p q. (refl, (refl, tt));
  blank_ending = λ p q. (refl, (refl, tt));
  white = λ p q. (refl, (refl, tt));
}

-- what is between the front of a line and its tail is set, and all else stays
pub leaf-set : (front leaf set tail es : List Event) → AreOutside front → AreOutside tail →
    ((es : List Event) → resolved (leaf ++ es) ≡ set ++ resolved es) →
    resolved (((front ++ leaf) ++ tail) ++ es) ≡ ((front ++ set) ++ tail) ++ resolved es
leaf-set front leaf set tail es h k sets =
    ap resolved (append_assoc (front ++ leaf) tail es ∙ append_assoc front leaf (tail ++ es))
    ∙ outside-passes front (leaf ++ (tail ++ es)) h
    ∙ ap (λ (l : List Event). front ++ l)
    (sets (tail ++ es) ∙ ap (λ (l : List Event). set ++ l) (outside-passes tail es k))
    ∙ sym (append_assoc front set (tail ++ resolved es))
    ∙ sym (append_assoc (front ++ set) tail (resolved es))
