-- Events whose text parts are read as others.
use Rattle.std.proofs.Common.{◌≡◌, ℕ, true, false, ◌&&◌, List, [], ◌∷◌, ◌++◌, refl}
use Rattle.std.specs.Prelude.{Some}
use Rattle.std.proofs.lemmas.Bool.{and_from}
use Rattle.md_engine.specs.declared.event.Content.TheVariants as content
use Rattle.md_engine.specs.declared.event.Event.{Event}
use Rattle.md_engine.specs.declared.event.Link.{Link}
use Rattle.md_engine.specs.declared.event.Name.{Name}
use Rattle.md_engine.specs.declared.event.Name.TheVariants as n
use Rattle.md_engine.specs.declared.event.Point.{Point}
use Rattle.md_events.specs.declared.inline.Chunk.{Chunk}
use Rattle.md_events.specs.declared.inline.PartKind.TheVariants.{String}
use Rattle.md_events.specs.Events.Inline.{are_lines, in_order, plain_chunks, together}
use Rattle.md_events.specs.Events.Nested.{around}
use Rattle.md_events.specs.Events.Places.{at_or_before}
use Rattle.md_events.specs.Events.Tiles.{part_kind}
use Rattle.md_events.proofs.InlineLemmas.{plain-fills, same-refl}
use Rattle.md_events.proofs.NestedLemmas.{at_or_before-refl}
use Rattle.proof_frame.specs.Linked.{linked}
use Rattle.proof_frame.proofs.FillFacts.{PartsRead, fill-append, fill-part, fill-same, linked-filled}
use Rattle.proof_frame.proofs.PartFacts.{NoLinks, NoParts}
use Rattle.proof_frame.proofs.PartsValid.{PartsWhole, inside-linked, valid-append, valid-outside, valid-part}

-- A string of one line, as a part of this name.

abbrev pub one_chunk : Point → Point → List Chunk
one_chunk p q = (record { first = p; after = q }) ∷ []

-- how it is linked, before it is read
abbrev pub string_link : Link
string_link = record { previous = false; next = false; content = content.String }

abbrev pub string_part : Name → Point → Point → List Event
string_part name p q = around name p q (linked n.Data string_link (one_chunk p q))

-- once it is read
abbrev pub string_read : List ℕ → Name → Point → Point → List Event
string_read bytes name p q = around name p q (together (plain_chunks bytes (one_chunk p q)))

pub record IsString (bytes : List ℕ) (name : Name) (p q : Point) : Type 0 where
  pub kind : part_kind name ≡ Some String
  pub line : are_lines bytes q (one_chunk p q) ≡ true
  pub onward : at_or_before p q ≡ true

-- Events with such parts alone, and those once they are read.
pub data ReadAs (bytes : List ℕ) : List Event → List Event → Type 0 where
  Same : (es : List Event) → NoLinks es → NoParts es → ReadAs bytes es es
  Part : (name : Name) (p q : Point) → IsString bytes name p q →
      ReadAs bytes (string_part name p q) (string_read bytes name p q)
  Both : (xs zs more done : List Event) → ReadAs bytes xs zs → ReadAs bytes more done →
      ReadAs bytes (xs ++ more) (zs ++ done)

-- their parts are as chunks,
pub read_as-valid : (bytes : List ℕ) (es done : List Event) → ReadAs bytes es done → PartsWhole bytes es
read_as-valid bytes _ _ (Same es unlinked no_parts) = valid-outside bytes es no_parts unlinked
read_as-valid bytes _ _ (Part name p q is) =
    valid-part bytes name String p q (one_chunk p q) (linked n.Data string_link (one_chunk p q)) is.kind
    (inside-linked bytes String string_link (one_chunk p q) refl) (same-refl p) is.line
read_as-valid bytes _ _ (Both xs zs more done h k) =
    valid-append bytes xs more (read_as-valid bytes xs zs h) (read_as-valid bytes more done k)

-- and are read so by the plain layer
pub read_as-fill : (bytes : List ℕ) (es done : List Event) → ReadAs bytes es done → PartsRead bytes es done
read_as-fill bytes _ _ (Same es unlinked no_parts) = fill-same bytes es unlinked no_parts
read_as-fill bytes _ _ (Part name p q is) =
    let order : in_order p (one_chunk p q) ≡ true = and_from (at_or_before p p && at_or_before p q) true
    (and_from (at_or_before p p) (at_or_before p q) (at_or_before-refl p) is.onward) refl in
    fill-part bytes name String p q (one_chunk p q) (linked n.Data string_link (one_chunk p q))
    (together (plain_chunks bytes (one_chunk p q))) is.kind
    (inside-linked bytes String string_link (one_chunk p q) refl)
    (plain-fills bytes p (one_chunk p q) order) (linked-filled bytes string_link (one_chunk p q))
read_as-fill bytes _ _ (Both xs zs more done h k) =
    fill-append bytes xs zs more done (read_as-fill bytes xs zs h) (read_as-fill bytes more done k)
