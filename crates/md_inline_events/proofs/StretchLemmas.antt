-- The chunks of a text part are pieces of the text, with room to count on.
use Rattle.std.proofs.Common.{◌≡◌, ℕ, ◌≤◌, true, ◌&&◌, List, [], ◌∷◌, arith}
use Rattle.std.specs.Prelude.{IsTrue}
use Rattle.std.specs.List.{All}
use Rattle.std.proofs.lemmas.Bool.{and_parts}
use Rattle.std.proofs.lemmas.Bool.Decides.{nat_tests}
use Rattle.std.proofs.lemmas.List.Elements.{All-cons, All-head, All-nil, All-tail}
use Rattle.md_engine.specs.Place.{IsPlaced}
use Rattle.md_engine.specs.declared.event.Point.{Point}
use Rattle.md_events.specs.declared.inline.Chunk.{Chunk}
use Rattle.md_events.specs.Events.Inline.{Part, in_order}
use Rattle.md_events.specs.Events.Places.{at_or_before, first_point}
use Rattle.md_events.specs.Parts.{IsChunk}
use Rattle.md_events.specs.TextPart.{Document, IsTextPart}
use Rattle.md_events.proofs.TextParts.{text-part, text-part-chunks}
use Rattle.md_inline_events.specs.Room.{IsStretch}

pub index-before : (p q : Point) → IsTrue (at_or_before p q) → p.index ≤ q.index
index-before p q h = grind (arith, nat_tests)

stretches : (bytes : List ℕ) (p : Point) (chunks : List Chunk) → in_order p chunks ≡ true →
    All (IsChunk bytes) chunks → All (IsStretch bytes) chunks
stretches bytes p [] order each = All-nil (IsStretch bytes)
stretches bytes p (chunk ∷ chunks) order each =
    let here : IsChunk bytes chunk = All-head (IsChunk bytes) chunk chunks each in
    let outer : (at_or_before p chunk.first && at_or_before chunk.first chunk.after ≡ true) ×
    (in_order chunk.after chunks ≡ true) = and_parts
    (at_or_before p chunk.first && at_or_before chunk.first chunk.after) (in_order chunk.after chunks) order in
    let inner : (at_or_before p chunk.first ≡ true) ×
    (at_or_before chunk.first chunk.after ≡ true) = and_parts (at_or_before p chunk.first)
    (at_or_before chunk.first chunk.after) outer.0 in
    let first : IsPlaced bytes chunk.first = here.first in
    let after : IsPlaced bytes chunk.after = here.after in
    All-cons (IsStretch bytes) chunk chunks
    (record {
      sized = first.sized;
      column = omega (arith, first.column, first.vs);
      forward = index-before chunk.first chunk.after inner.1;
      within = after.index;
    })
    (stretches bytes chunk.after chunks outer.1 (All-tail (IsChunk bytes) chunk chunks each))

pub part-stretches : (document : Document) (part : Part) → IsTextPart document part →
    All (IsStretch document.bytes) part.chunks
part-stretches document part is =
    stretches document.bytes first_point part.chunks (text-part document part is).order
    (text-part-chunks document part is).each
