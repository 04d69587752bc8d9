-- What is in a text part: chunks, one for each line, before they are read, and what the plain layer gives for them,
-- once they are, with prefixes of containers before further lines.
use Rattle.std.proofs.Common.{◌≡◌, ℕ, true, false, List, [], ◌∷◌, ◌++◌, refl, sym, ap, ◌∙◌, append_assoc}
use Rattle.std.specs.Prelude.{IsTrue, Some}
use Rattle.std.proofs.lemmas.Bool.{and_from}
use Rattle.md_engine.specs.declared.event.Event.{Event}
use Rattle.md_engine.specs.declared.event.Link.{Link}
use Rattle.md_engine.specs.declared.event.Name.{Name}
use Rattle.md_engine.specs.declared.event.Name.TheVariants as n
use Rattle.md_engine.specs.declared.event.Point.{Point}
use Rattle.md_outline.specs.Between.{is_between}
use Rattle.md_events.specs.declared.inline.Chunk.{Chunk}
use Rattle.md_events.specs.declared.inline.PartKind.{PartKind}
use Rattle.md_events.specs.Events.Inline.{are_lines, in_order, line_end, plain_chunk, plain_chunks}
use Rattle.md_events.specs.Events.Nested.{around, enter_link, exit}
use Rattle.md_events.specs.Events.Pieces.{is_valid_piece}
use Rattle.md_events.specs.Events.Places.{at_or_before}
use Rattle.md_events.specs.Events.Spelled.{Role, role}
use Rattle.md_events.specs.Events.Tiles.{begins_at, filled_from, of_kind, part_kind}
use Rattle.md_events.proofs.InlineLemmas.{plain-fills, same-refl}
use Rattle.md_events.proofs.NestedLemmas.{at_or_before-refl, balanced-none}
use Rattle.md_events.proofs.SpelledLemmas.{Between, Roles, roles-append}
use Rattle.proof_frame.proofs.BetweenFacts.{AreBetween, around-between, between-append, chunk-between}
use Rattle.proof_frame.proofs.ChunkFacts.{Chunked}
use Rattle.proof_frame.proofs.FillFacts.{Filled, fill-part, passes-filled}
use Rattle.proof_frame.proofs.FrontFacts.{LinePrefix}
use Rattle.proof_frame.proofs.FrontNames.{fronts-unlinked}
use Rattle.proof_frame.proofs.FrontValid.{fronts-between, fronts-inside, plain-front, stretch-front}
use Rattle.proof_frame.proofs.PartedFacts.{PrefixesAtLineStart}
use Rattle.proof_frame.proofs.PartsValid.{Inside, inside-append, inside-linked, valid-part}
use Rattle.proof_frame.proofs.PieceFacts.{PiecesValid, Starts, chunk_span, is_valid-append, is_valid-around}
use Rattle.proof_frame.proofs.PieceFacts.{is_valid-none}
use Rattle.proof_frame.proofs.PiecesLemmas.{Covered, tiled-append, tiled-around, tiled-none, tiled-two}
use Rattle.proof_frame.proofs.PlainFacts.{ArePlain, chunk-plain, plain-append, plain-nil}
use Rattle.proof_frame.proofs.PlainRoles.{chunk-roles}
use Rattle.proof_frame.proofs.SpanLemmas.{Nested_in, around-nested, chunk-nested, linked-nested, nested_in-append}
use Rattle.proof_frame.proofs.Stretch.{IsMiddle, Stretch, roles-as}

-- These events are in a text part of a kind from a point to a point, before it is read, with these chunks, and those
-- once it is.
pub record TextInside (bytes : List ℕ) (kind : PartKind) (p q : Point) (chunks : List Chunk)
    (unread done : List Event) : Type 0 where
  -- the tree shows none of them
  pub unread_roles : Roles Between unread
  pub roles : Roles Between done
  pub unread_nested : Nested_in p q unread
  pub nested : Nested_in p q done
  pub tiled : Covered p q unread
  pub unread_valid : PiecesValid bytes unread
  pub is_valid : PiecesValid bytes done
  -- they may be in such a part, and are read in the places of the chunks
  pub inside : Inside bytes kind chunks unread
  pub filled : Filled bytes chunks unread done
  -- they are between characters, and an outline shows nothing of them
  pub between : is_between bytes p.index ≡ true → is_between bytes q.index ≡ true → AreBetween bytes done
  pub plain : ArePlain bytes done

-- none
pub text-none : (bytes : List ℕ) (kind : PartKind) (link : Link) (p : Point) → of_kind kind link.content ≡ true →
    TextInside bytes kind p p [] [] []
text-none bytes kind link p of = record {
  unread_roles = tt;
  roles = tt;
  unread_nested = (balanced-none, (tt, at_or_before-refl p));
  nested = (balanced-none, (tt, at_or_before-refl p));
  tiled = tiled-none p p (same-refl p);
  unread_valid = is_valid-none bytes;
  is_valid = is_valid-none bytes;
  inside = inside-linked bytes kind link [] of;
  filled = λ ys more. refl;
  between = λ first last. refl;
  plain = plain-nil bytes;
}

-- a line, which ends here without its ending
pub text-line : (bytes : List ℕ) (kind : PartKind) (link : Link) (p e q : Point) → of_kind kind link.content ≡ true →
    Chunked bytes p q → IsTrue (at_or_before p q) → line_end bytes (record { first = p; after = q }) ≡ e →
    IsMiddle bytes p e q →
    TextInside bytes kind p q ((record { first = p; after = q }) ∷ []) (enter_link n.Data p link ∷ exit n.Data q ∷ [])
    (plain_chunk bytes (record { first = p; after = q }))
text-line bytes kind link p e q of chunked order end middle = record {
  unread_roles = (tt, (tt, tt));
  roles = chunk-roles Between bytes (record { first = p; after = q }) tt tt;
  unread_nested = linked-nested link p q order;
  nested = chunk-nested bytes (record { first = p; after = q }) order;
  tiled = tiled-two (enter_link n.Data p link) (exit n.Data q) refl refl;
  unread_valid = record {
    ends = refl;
    are_valid = and_from (is_valid_piece bytes (chunk_span n.Data p q)) true chunked.linked refl;
  };
  is_valid = chunked.read;
  inside = inside-linked bytes kind link ((record { first = p; after = q }) ∷ []) of;
  filled = λ ys more. refl;
  between = λ first last. chunk-between bytes p e q end first (middle first last) last;
  plain = chunk-plain bytes (record { first = p; after = q });
}

-- a line with others after it, before which prefixes are
pub text-more : {bytes : List ℕ} {kind : PartKind} {link : Link} {p b r q : Point} {front : List Event}
    {cs : List Chunk} {us es : List Event} →
    TextInside bytes kind p b ((record { first = p; after = b }) ∷ []) (enter_link n.Data p link ∷ exit n.Data b ∷ [])
    (plain_chunk bytes (record { first = p; after = b })) →
    LinePrefix bytes [] b r front → is_between bytes b.index ≡ true → TextInside bytes kind r q cs us es →
    TextInside bytes kind p q ((record { first = p; after = b }) ∷ cs)
    ((enter_link n.Data p link ∷ exit n.Data b ∷ []) ++ (front ++ us))
    ((plain_chunk bytes (record { first = p; after = b }) ++ front) ++ es)
text-more {bytes = bytes} {kind = kind} {link = link} {p = p} {b = b} {r = r} {q = q} {front = front} {cs = cs}
    {us = us} {es = es} h is following k = record {
      unread_roles =
          roles-append Between linked (front ++ us) h.unread_roles
          (roles-append Between front us f.unread_roles k.unread_roles);
      roles = roles-append Between (chunk ++ front) es (roles-append Between chunk front h.roles f.roles) k.roles;
      unread_nested =
          nested_in-append p b q linked (front ++ us) h.unread_nested
          (nested_in-append b r q front us f.nested k.unread_nested);
      nested =
          nested_in-append p r q (chunk ++ front) es (nested_in-append p b r chunk front h.nested f.nested) k.nested;
      tiled = tiled-append p b q linked (front ++ us) h.tiled (tiled-append b r q front us f.tiled k.tiled);
      unread_valid =
          is_valid-append bytes linked (front ++ us) h.unread_valid
          (is_valid-append bytes front us f.is_valid k.unread_valid);
      is_valid = is_valid-append bytes (chunk ++ front) es
          (is_valid-append bytes chunk front h.is_valid f.is_valid) k.is_valid;
      inside =
          inside-append bytes kind ((record { first = p; after = b }) ∷ []) cs linked (front ++ us) h.inside
          (inside-append bytes kind [] cs front us (fronts-inside bytes kind [] b r front refl is) k.inside);
      filled = λ ys more.
          let lists : List (List Event) = plain_chunks bytes cs ++ more in
          ap (λ (l : List Event). chunk ++ filled_from false l lists) (append_assoc front us ys)
          ∙ ap (λ (l : List Event). chunk ++ l)
          (passes-filled front (us ++ ys) lists (fronts-unlinked bytes b r front is))
          ∙ ap (λ (l : List Event). chunk ++ (front ++ l)) (k.filled ys more)
          ∙ sym (append_assoc chunk front (es ++ filled_from false ys more))
          ∙ sym (append_assoc (chunk ++ front) es (filled_from false ys more));
      between = λ first last.
          let fronts = fronts-between bytes [] b r front following is in
          between-append bytes (chunk ++ front) es
          (between-append bytes chunk front (h.between first following) fronts.0)
          (k.between fronts.1 last);
      plain =
          plain-append bytes (chunk ++ front) es
          (plain-append bytes chunk front h.plain (plain-front bytes [] b r front is))
          k.plain;
    }
  where
    linked : List Event
    linked = enter_link n.Data p link ∷ exit n.Data b ∷ []

    chunk : List Event
    chunk = plain_chunk bytes (record { first = p; after = b })

    f : Stretch Between bytes b r front front
    f = stretch-front Between bytes b r front tt tt tt is

-- The part: a stretch, where it parts no text.
pub stretch-part : {bytes : List ℕ} {kind : PartKind} {p q : Point} {cs : List Chunk} {us es : List Event}
    (R : Role → Type 0) (name : Name) →
    R (role name) → ((x : Role) → Between x → R x) → part_kind name ≡ Some kind → Starts us → Starts es →
    begins_at p cs ≡ true → are_lines bytes q cs ≡ true → in_order p cs ≡ true →
    PrefixesAtLineStart bytes (around name p q es) → TextInside bytes kind p q cs us es →
    Stretch R bytes p q (around name p q us) (around name p q es)
stretch-part {bytes = bytes} {kind = kind} {p = p} {q = q} {cs = cs} {us = us} {es = es} R name named apart of us_start
    start begins lines order parted h = record {
      unread_roles = roles us h.unread_roles;
      roles = roles es h.roles;
      unread_nested = around-nested name p q us h.unread_nested;
      nested = around-nested name p q es h.nested;
      tiled = tiled-around name p q us h.tiled;
      unread_valid = is_valid-around bytes name p q us us_start h.unread_valid;
      is_valid = is_valid-around bytes name p q es start h.is_valid;
      parts = valid-part bytes name kind p q cs us of h.inside begins lines;
      filled = fill-part bytes name kind p q cs us es of h.inside (plain-fills bytes p cs order) h.filled;
      between = λ first last. around-between bytes name p q es first last (h.between first last);
      parted = parted;
    }
  where
    roles : (xs : List Event) → Roles Between xs → Roles R (around name p q xs)
    roles xs h = (named, roles-append R xs (exit name q ∷ []) (roles-as apart xs h) (named, tt))
