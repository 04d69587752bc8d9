-- A text part on one line: its chunk, before it is read, and one piece of data, once it is.
use Rattle.std.proofs.Common.{◌≡◌, ℕ, Bool, true, ◌&&◌, cond, List, [], ◌∷◌, ◌++◌, refl, sym, ap, ap₂, ◌∙◌, subst}
use Rattle.std.proofs.Common.{append-nil, arith}
use Rattle.std.specs.Prelude.{IsTrue, Some}
use Rattle.std.proofs.lemmas.Bool.{and_from}
use Rattle.md_engine.specs.declared.event.Event.{Event}
use Rattle.md_engine.specs.declared.event.Link.{Link}
use Rattle.md_engine.specs.declared.event.Name.{Name}
use Rattle.md_engine.specs.declared.event.Name.TheVariants as n
use Rattle.md_engine.specs.declared.event.Point.{Point}
use Rattle.md_meaning.specs.Lines.{without_ending}
use Rattle.md_events.specs.declared.inline.Chunk.{Chunk}
use Rattle.md_events.specs.declared.inline.PartKind.{PartKind}
use Rattle.md_events.specs.Events.Inline.{in_order, pair_unless_empty, plain_chunk, plain_chunks, together}
use Rattle.md_events.specs.Events.Nested.{around, enter_link, exit, pair}
use Rattle.md_events.specs.Events.Pieces.{is_valid_piece}
use Rattle.md_events.specs.Events.Places.{at_or_before, past_text}
use Rattle.md_events.specs.Events.Spelled.{IsQuiet, Role, role}
use Rattle.md_events.specs.Events.Tiles.{of_kind, part_kind}
use Rattle.md_events.proofs.InlineLemmas.{before-text, plain-fills, same-refl}
use Rattle.md_events.proofs.NestedLemmas.{at_or_before-refl}
use Rattle.md_events.proofs.PlacesLemmas.{apart-later}
use Rattle.md_events.proofs.SpelledLemmas.{Roles}
use Rattle.proof_frame.specs.Linked.{linked}
use Rattle.proof_frame.proofs.BetweenFacts.{AreBetween, around-between, between-pair}
use Rattle.proof_frame.proofs.ChunkFacts.{Chunked}
use Rattle.proof_frame.proofs.FillFacts.{fill-part, linked-filled}
use Rattle.proof_frame.proofs.LineTexts.{without-none}
use Rattle.proof_frame.proofs.LineWalk.{At}
use Rattle.proof_frame.proofs.OneChunk.{text-chunked}
use Rattle.proof_frame.proofs.OneLine.{one-line}
use Rattle.proof_frame.proofs.PartedFacts.{PrefixesAtLineStart}
use Rattle.proof_frame.proofs.PartsValid.{inside-linked, valid-part}
use Rattle.proof_frame.proofs.PieceFacts.{Over, PiecesValid, chunk_span, over-front, starts-append, is_valid-around}
use Rattle.proof_frame.proofs.PiecesLemmas.{tiled-around, tiled-two}
use Rattle.proof_frame.proofs.SpanLemmas.{Nested_in, around-nested, linked-nested}
use Rattle.proof_frame.proofs.Stretch.{Stretch, pair-nested}

-- what the plain layer gives for it is one piece
pub chunk-is : (bytes : List ℕ) (b : ℕ) (bs rest : List ℕ) (p : Point) → At bytes (b ∷ bs) p rest →
    plain_chunk bytes (record { first = p; after = past_text (b ∷ bs) p }) ≡ pair n.Data p (past_text (b ∷ bs) p)
chunk-is bytes b bs rest p at =
    ap (λ (t : List ℕ). said (past_text (without_ending t) p)) over.slice
    ∙ ap (λ (t : List ℕ). said (past_text t p)) (without-none (b ∷ bs) at.none)
    ∙ ap₂ (λ (x y : Bool). cond x [] (pair n.Data p q) ++ cond y [] (pair n.LineEnding q q))
    (apart-later p q over.some) (same-refl q)
  where
    q : Point
    q = past_text (b ∷ bs) p

    said : Point → List Event
    said end = pair_unless_empty n.Data p end ++ pair_unless_empty n.LineEnding end q

    over : Over bytes p (past_text (b ∷ bs) p) (b ∷ bs)
    over = over-front bytes p (past_text (b ∷ bs) p) (b ∷ bs) rest at.valid (omega arith) refl

-- What is asked of the name of such a part.
pub record IsOneText (R : Role → Type 0) (bytes : List ℕ) (name : Name) (kind : PartKind) : Type 0 where
  pub role_is : R (role name)
  pub piece : R IsQuiet
  pub kind_is : part_kind name ≡ Some kind
  pub parted : (p q : Point) → PrefixesAtLineStart bytes (around name p q (pair n.Data p q))

-- The part is a stretch.
pub stretch-text : (R : Role → Type 0) (bytes : List ℕ) (name : Name) (kind : PartKind) (link : Link) (b : ℕ)
    (bs rest : List ℕ) (p : Point) →
    IsOneText R bytes name kind → of_kind kind link.content ≡ true → At bytes (b ∷ bs) p rest →
    let q = past_text (b ∷ bs) p in
    Stretch R bytes p q (around name p q (linked n.Data link ((record { first = p; after = q }) ∷ [])))
    (around name p q (together (plain_chunks bytes ((record { first = p; after = q }) ∷ []))))
stretch-text R bytes name kind link b bs rest p is of at = record {
  unread_roles = (is.role_is, (is.piece, (is.piece, (is.role_is, tt))));
  roles = by_piece (λ (xs : List Event). Roles R xs) (is.role_is, (is.piece, (is.piece, (is.role_is, tt))));
  unread_nested = around-nested name p q us (linked-nested link p q order);
  nested = by_piece (Nested_in p q) (around-nested name p q (pair n.Data p q) (pair-nested n.Data p q order));
  tiled = tiled-around name p q us (tiled-two (enter_link n.Data p link) (exit n.Data q) refl refl);
  unread_valid =
      is_valid-around bytes name p q us refl
      (record {
        ends = refl;
        are_valid = and_from (is_valid_piece bytes (chunk_span n.Data p q)) true
            one.linked refl;
      });
  is_valid =
      is_valid-around bytes name p q es (starts-append (plain_chunk bytes chunk) [] one.starts)
      (subst (PiecesValid bytes) (sym (append-nil (plain_chunk bytes chunk))) one.read);
  parts =
      valid-part bytes name kind p q (chunk ∷ []) us is.kind_is (inside-linked bytes kind link (chunk ∷ []) of)
      (same-refl p) (one-line bytes b bs rest p at);
  filled =
      fill-part bytes name kind p q (chunk ∷ []) us es is.kind_is (inside-linked bytes kind link (chunk ∷ []) of)
      (plain-fills bytes p (chunk ∷ []) in_place) (linked-filled bytes link (chunk ∷ []));
  between = λ first last.
      by_piece (AreBetween bytes)
      (around-between bytes name p q (pair n.Data p q) first last (between-pair bytes n.Data p q first last));
  parted = by_piece (PrefixesAtLineStart bytes) (is.parted p q);
}
  where
    q : Point
    q = past_text (b ∷ bs) p

    chunk : Chunk
    chunk = record { first = p; after = past_text (b ∷ bs) p }

    us : List Event
    us = linked n.Data link ((record { first = p; after = past_text (b ∷ bs) p }) ∷ [])

    es : List Event
    es = together (plain_chunks bytes ((record { first = p; after = past_text (b ∷ bs) p }) ∷ []))

    order : IsTrue (at_or_before p (past_text (b ∷ bs) p))
    order = before-text (b ∷ bs) p

    one : Chunked bytes p (past_text (b ∷ bs) p)
    one = text-chunked bytes b bs rest p at

    by_piece : (P : List Event → Type 0) → P (around name p q (pair n.Data p q)) → P (around name p q es)
    by_piece P h =
        subst (λ (xs : List Event). P (around name p q (xs ++ []))) (sym (chunk-is bytes b bs rest p at)) h

    in_place : in_order p (chunk ∷ []) ≡ true
    in_place =
        and_from (at_or_before p p && at_or_before p q) true
        (and_from (at_or_before p p) (at_or_before p q) (at_or_before-refl p) order) refl
