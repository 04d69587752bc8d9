-- No list begins before the lines of a text: its front stays as it is.
use Rattle.std.proofs.Common.{◌≡◌, ℕ, false, List, [], ◌∷◌, ◌++◌, refl, ap, ◌∙◌}
use Rattle.md_engine.specs.declared.event.Event.{Event}
use Rattle.md_engine.specs.declared.event.Name.{Name}
use Rattle.md_engine.specs.declared.event.Name.TheVariants as n
use Rattle.md_containers.specs.Listed.{Place, is_item, listed, listed_from, outside}
use Rattle.md_containers.specs.Unlisted.{in_place}
use Rattle.md_containers.proofs.ListedLemmas.{passes-given}
use Rattle.md_containers.proofs.UnlistedLemmas.{NoListing}
use Rattle.md_events.specs.Events.Spelled.{role}

-- no item begins or ends there
no-item : (name : Name) → in_place name ≡ name → is_item (role name) ≡ false
no-item n.ListItem h = absurd (cc)
no-item name h = refl

listed-past : (bytes : List ℕ) (place : Place) (front es : List Event) → NoListing front →
    listed_from bytes place (front ++ es) ≡ front ++ listed_from bytes place es
listed-past bytes place [] es h = refl
listed-past bytes place (e ∷ front) es h =
    passes-given bytes place e (front ++ es) (no-item e.name h.0)
    ∙ ap (λ (l : List Event). e ∷ l) (listed-past bytes place front es h.1)

pub listed-front : (bytes : List ℕ) (front es : List Event) → NoListing front →
    listed bytes (front ++ es) ≡ front ++ listed bytes es
listed-front bytes front es h = listed-past bytes outside front es h
