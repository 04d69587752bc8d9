-- A text part of a document may be read.
use Rattle.std.proofs.Common.{◌≡◌, ℕ, ◌^◌, ◌<◌, true, List, [], ◌∷◌, ◌++◌, append-nil, length, refl, subst}
use Rattle.std.specs.List.{All, list_all}
use Rattle.std.proofs.lemmas.Bool.{and_from, and_parts}
use Rattle.std.proofs.lemmas.List.Elements.{All-cons, All-nil}
use Rattle.md_engine.specs.declared.event.Event.{Event}
use Rattle.md_engine.specs.Place.{IsPlaced}
use Rattle.md_events.specs.Events.Inline.{IsPart, Part, chunk_placed, ends_whole, is_line, plain_chunk}
use Rattle.md_events.specs.Events.Places.{are_placed, first_point, is_placed}
use Rattle.md_events.specs.Lined.{AreLines, IsLine}
use Rattle.md_events.specs.Parts.{AreChunks, ArePlaced, IsChunk}
use Rattle.md_events.specs.TextPart.{Document, IsTextPart}
use Rattle.md_events.specs.declared.inline.Chunk.{Chunk}
use Rattle.md_events.proofs.InlineLemmas.{plain-placed}
use Rattle.md_events.proofs.PlainSteps.{lines-each}
use Rattle.md_events.proofs.PartsLemmas.{EachPart, parts-are}
use Rattle.md_events.proofs.WalkedLemmas.{placed-point}

-- what holds of each part holds of one among them
pub each-part : (P : Part → Type 0) (before following : List Part) (part : Part) →
    EachPart P (before ++ part ∷ following) →
    P part
each-part P [] following part each = each.0
each-part P (other ∷ before) following part each = each-part P before following part each.1

-- it may be read
pub text-part : (document : Document) (part : Part) → IsTextPart document part → IsPart document.bytes part
text-part document part is =
    each-part (IsPart document.bytes) is.before is.following part
    (subst (EachPart (IsPart document.bytes)) is.among (parts-are document.bytes is.blocks is.are.list))

chunk-of : (bytes : List ℕ) → length bytes < 2 ^ 61 → (chunk : Chunk) → chunk_placed bytes chunk ≡ true →
    IsChunk bytes chunk
chunk-of bytes sized chunk placed =
    let ends : (is_placed bytes chunk.first ≡ true) ×
    (is_placed bytes chunk.after ≡ true) = and_parts (is_placed bytes chunk.first) (is_placed bytes chunk.after)
    placed in
    record {
      first = placed-point bytes sized chunk.first ends.0;
      after = placed-point bytes sized chunk.after ends.1;
    }

chunks-placed : (bytes : List ℕ) (chunks : List Chunk) → length bytes < 2 ^ 61 →
    list_all (chunk_placed bytes) chunks ≡ true → All (IsChunk bytes) chunks
chunks-placed bytes [] sized placed = All-nil (IsChunk bytes)
chunks-placed bytes (chunk ∷ chunks) sized placed =
    let both : (chunk_placed bytes chunk ≡ true) ×
    (list_all (chunk_placed bytes) chunks ≡ true) = and_parts (chunk_placed bytes chunk)
    (list_all (chunk_placed bytes) chunks) placed in
    All-cons (IsChunk bytes) chunk chunks (chunk-of bytes sized chunk both.0)
    (chunks-placed bytes chunks sized both.1)

-- and a tokenizer may go to its chunks
pub text-part-chunks : (document : Document) (part : Part) → IsTextPart document part →
    AreChunks document.bytes part.chunks
text-part-chunks document part is =
    let may : IsPart document.bytes part = text-part document part is in
    record { some = may.some; each = chunks-placed document.bytes part.chunks is.are.sized may.placed }

-- events at points of the text are placed in it
pub placed-events : (bytes : List ℕ) → length bytes < 2 ^ 61 → (events : List Event) →
    are_placed bytes events ≡ true → ArePlaced bytes events
placed-events bytes sized [] placed = All-nil (λ (e : Event). IsPlaced bytes e.point)
placed-events bytes sized (e ∷ events) placed =
    let both : (is_placed bytes e.point ≡ true) × (are_placed bytes events ≡ true) =
    and_parts (is_placed bytes e.point) (are_placed bytes events) placed in
    All-cons (λ (e : Event). IsPlaced bytes e.point) e events (placed-point bytes sized e.point both.0)
    (placed-events bytes sized events both.1)

lines-of : (bytes : List ℕ) → length bytes < 2 ^ 61 → (chunks : List Chunk) →
    list_all (chunk_placed bytes) chunks ≡ true → list_all (is_line bytes) chunks ≡ true →
    list_all ends_whole chunks ≡ true → All (IsLine bytes) chunks
lines-of bytes sized [] placed lines whole = All-nil (IsLine bytes)
lines-of bytes sized (chunk ∷ chunks) placed lines whole =
    let at : (chunk_placed bytes chunk ≡ true) ×
    (list_all (chunk_placed bytes) chunks ≡ true) = and_parts (chunk_placed bytes chunk)
    (list_all (chunk_placed bytes) chunks) placed in
    let line : (is_line bytes chunk ≡ true) ×
    (list_all (is_line bytes) chunks ≡ true) = and_parts (is_line bytes chunk)
    (list_all (is_line bytes) chunks) lines in
    let ends : (ends_whole chunk ≡ true) ×
    (list_all ends_whole chunks ≡ true) = and_parts (ends_whole chunk) (list_all ends_whole chunks) whole in
    All-cons (IsLine bytes) chunk chunks
    (record {
      is = chunk-of bytes sized chunk at.0;
      line = line.0;
      whole = ends.0;
      placed =
          placed-events bytes sized (plain_chunk bytes chunk)
          (subst (λ (l : List Event). are_placed bytes l ≡ true) (append-nil (plain_chunk bytes chunk))
          (plain-placed bytes (chunk ∷ []) (and_from (chunk_placed bytes chunk) true at.0 refl)));
    })
    (lines-of bytes sized chunks at.1 line.1 ends.1)

-- its chunks are lines
pub text-lines : (document : Document) (part : Part) → IsTextPart document part → AreLines document.bytes part.chunks
text-lines document part is =
    let may : IsPart document.bytes part = text-part document part is in
    record {
      each =
          lines-of document.bytes is.are.sized part.chunks may.placed
          (lines-each document.bytes may.end part.chunks may.lines) may.whole;
      from = first_point;
      order = may.order;
    }
