-- A text part whose place is known is a text part.
use Rattle.std.proofs.Common.{◌≡◌, List, [], ◌∷◌, ◌++◌, ap, sym, ◌∙◌, append_assoc}
use Rattle.md_engine.specs.declared.event.Event.{Event}
use Rattle.md_events.specs.declared.inline.PartPlace.{PartPlace}
use Rattle.md_events.specs.Events.Inline.{Part}
use Rattle.md_events.specs.Events.Tiles.{part_at, part_kind, parts}
use Rattle.md_events.specs.TextPart.{Document, IsTextPart, IsTextPartAt}

-- what begins with an event is among the parts
parts-among : (before : List Event) (begin : Event) (following : List Event) (part : Part) →
    part_at begin.kind (part_kind begin.name) following ≡ part ∷ [] →
    (front rest : List Part) × (parts (before ++ begin ∷ following) ≡ front ++ part ∷ rest)
parts-among [] begin following part is = ([], parts following, ap (λ (l : List Part). l ++ parts following) is)
parts-among (e ∷ before) begin following part is =
    let first : List Part = part_at e.kind (part_kind e.name) (before ++ begin ∷ following) in
    let further : (front rest : List Part) ×
    (parts (before ++ begin ∷ following) ≡ front ++ part ∷ rest) = parts-among before begin following part is in (
      first ++ further.0,
      further.1,
      ap (λ (l : List Part). first ++ l) further.2 ∙ sym (append_assoc first further.0 (part ∷ further.1)),
    )

pub placed-part : (document : Document) (part : Part) (place : PartPlace) → IsTextPartAt document part place →
    IsTextPart document part
placed-part document part place is =
    let among : (front rest : List Part) ×
    (parts (is.before ++ is.begin ∷ is.following) ≡ front ++ part ∷ rest) = parts-among is.before is.begin is.following
    part is.begins in
    record {
      blocks = is.blocks;
      are = is.are;
      before = among.0;
      following = among.1;
      among = ap parts is.among ∙ among.2;
    }
