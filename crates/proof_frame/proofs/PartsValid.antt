-- Events whose text parts are whole, each of its chunks a line, and in which no chunk is elsewhere.
use Rattle.std.proofs.Common.{◌≡◌, ℕ, Bool, true, false, cond, not, ◌&&◌, List, [], ◌∷◌, ◌++◌, refl, ap, ◌∙◌}
use Rattle.std.proofs.Common.{append_assoc}
use Rattle.std.specs.Prelude.{Option, Some, None}
use Rattle.std.specs.List.{list_all}
use Rattle.std.proofs.lemmas.Bool.{and_from, and_parts}
use Rattle.md_engine.specs.declared.event.Event.{Event}
use Rattle.md_engine.specs.declared.event.Kind.{Kind}
use Rattle.md_engine.specs.declared.event.Kind.TheVariants.{Enter, Exit}
use Rattle.md_engine.specs.declared.event.Link.{Link}
use Rattle.md_engine.specs.declared.event.Name.{Name}
use Rattle.md_engine.specs.declared.event.Name.TheVariants as n
use Rattle.md_engine.specs.declared.event.Point.{Point}
use Rattle.md_events.specs.declared.inline.Chunk.{Chunk}
use Rattle.md_events.specs.declared.inline.PartKind.{PartKind}
use Rattle.md_events.specs.Events.Inline.{Piece, are_lines, pieces}
use Rattle.md_events.specs.Events.Nested.{around, enter, exit, is_exit}
use Rattle.md_events.specs.Events.Tiles.{begins_at, chunks, chunks_in_parts, inside_part, is_part, is_white_piece}
use Rattle.md_events.specs.Events.Tiles.{part_end, links_kind, of_kind, part_kind, is_whole_part, are_whole_parts}
use Rattle.md_events.specs.Events.Tiles.{may_be_in_part}
use Rattle.md_events.proofs.PlacesLemmas.{all-append}
use Rattle.proof_frame.proofs.EachEvent.{each-append}
use Rattle.proof_frame.specs.Linked.{linked}
use Rattle.proof_frame.proofs.PartFacts.{NoLinks, NoParts, end-proceeds, linked-chunks, linked-no_parts, part-inside}
use Rattle.proof_frame.proofs.PartFacts.{pieces-following, IsNoPart}
use Rattle.proof_frame.proofs.PiecesLemmas.{Ends, ends-append, pieces-ended}

pub outside-valid : (bytes : List ℕ) (kind : Kind) (part : Option PartKind) (p : Point) (es : List Event) →
    part ≡ None → is_whole_part bytes kind part p es ≡ true
outside-valid bytes Enter part p es h = ap (λ (x : Option PartKind). is_whole_part bytes Enter x p es) h
outside-valid bytes Exit part p es h = refl

pub outside-parts : (bytes : List ℕ) (xs ys : List Event) → NoParts xs →
    are_whole_parts bytes (xs ++ ys) ≡ are_whole_parts bytes ys
outside-parts bytes [] ys h = refl
outside-parts bytes (e ∷ xs) ys h =
    ap (λ (x : Bool). x && are_whole_parts bytes (xs ++ ys))
    (outside-valid bytes e.kind (part_kind e.name) e.point (xs ++ ys) h.0)
    ∙ outside-parts bytes xs ys h.1

pub outside-chunks : (xs ys : List Event) → NoParts xs → NoLinks xs → chunks_in_parts 0 (xs ++ ys) ≡
    chunks_in_parts 0 ys
outside-chunks [] ys h k = refl
outside-chunks (e ∷ xs) ys h k =
    ap
    (λ (x : Option Link).
    not (elim x [ None ↦ false | Some link ↦ true ])
    && chunks_in_parts (cond (is_part e.name && not (is_exit e.kind)) 1 0) (xs ++ ys)) k.0
    ∙ ap
    (λ (x : Option PartKind).
    chunks_in_parts (cond ((elim x [ None ↦ false | Some kind ↦ true ]) && not (is_exit e.kind)) 1 0) (xs ++ ys)) h.0
    ∙ outside-chunks xs ys h.1 k.1

pub linked-white : (bytes : List ℕ) (link : Link) (cs : List Chunk) →
    list_all (is_white_piece bytes) (pieces (linked n.Data link cs)) ≡ true
linked-white bytes link [] = refl
linked-white bytes link (c ∷ cs) =
    ap (λ (l : List Piece). list_all (is_white_piece bytes) l) (pieces-following c.after link cs)
    ∙ linked-white bytes link cs

pub linked-are_valid : (link : Link) (cs : List Chunk) (ys : List Event) →
    chunks_in_parts 1 (linked n.Data link cs ++ ys) ≡ chunks_in_parts 1 ys
linked-are_valid link [] ys = refl
linked-are_valid link (c ∷ cs) ys = linked-are_valid link cs ys

pub linked-ends : (link : Link) (cs : List Chunk) → Ends Exit (linked n.Data link cs)
linked-ends link [] = refl
linked-ends link (c ∷ cs) = linked-ends link cs

pub linked-kinds : (kind : PartKind) (link : Link) (cs : List Chunk) → of_kind kind link.content ≡ true →
    list_all (links_kind kind) (linked n.Data link cs) ≡ true
linked-kinds kind link [] h = refl
linked-kinds kind link (c ∷ cs) h =
    and_from (of_kind kind link.content) (list_all (links_kind kind) (linked n.Data link cs)) h
    (linked-kinds kind link cs h)

-- Events that may be in a text part of this kind, with these chunks.
pub record Inside (bytes : List ℕ) (kind : PartKind) (cs : List Chunk) (es : List Event) : Type 0 where
  pub outside : NoParts es
  pub ends : Ends Exit es
  pub white : list_all (is_white_piece bytes) (pieces es) ≡ true
  pub has : chunks (pieces es) ≡ cs
  pub kinds : list_all (links_kind kind) es ≡ true
  pub are_valid : (ys : List Event) → chunks_in_parts 1 (es ++ ys) ≡ chunks_in_parts 1 ys

pub inside-linked : (bytes : List ℕ) (kind : PartKind) (link : Link) (cs : List Chunk) →
    of_kind kind link.content ≡ true → Inside bytes kind cs (linked n.Data link cs)
inside-linked bytes kind link cs h = record {
  outside = linked-no_parts link cs;
  ends = linked-ends link cs;
  white = linked-white bytes link cs;
  has = linked-chunks link cs;
  kinds = linked-kinds kind link cs h;
  are_valid = linked-are_valid link cs;
}

pub white-append : (bytes : List ℕ) (xs ys : List Piece) → list_all (is_white_piece bytes) xs ≡ true →
    list_all (is_white_piece bytes) ys ≡ true → list_all (is_white_piece bytes) (xs ++ ys) ≡ true
white-append bytes [] ys h k = k
white-append bytes (x ∷ xs) ys h k =
    let both : (is_white_piece bytes x ≡ true) ×
    (list_all (is_white_piece bytes) xs ≡ true) = and_parts (is_white_piece bytes x)
    (list_all (is_white_piece bytes) xs) h in
    and_from (is_white_piece bytes x) (list_all (is_white_piece bytes) (xs ++ ys)) both.0
    (white-append bytes xs ys both.1 k)

pub chunks-append : (xs ys : List Piece) → chunks (xs ++ ys) ≡ chunks xs ++ chunks ys
chunks-append [] ys = refl
chunks-append (x ∷ xs) ys = go x.linked (chunks-append xs ys)
  where
    chunk : Chunk
    chunk = record { first = x.first; after = x.after }

    go : (linked : Bool) → chunks (xs ++ ys) ≡ chunks xs ++ chunks ys →
        cond linked (chunk ∷ chunks (xs ++ ys)) (chunks (xs ++ ys)) ≡
        cond linked (chunk ∷ chunks xs) (chunks xs) ++ chunks ys
    go true same = ap (λ (l : List Chunk). chunk ∷ l) same
    go false same = same

pub inside-append : (bytes : List ℕ) (kind : PartKind) (cs ds : List Chunk) (xs ys : List Event) →
    Inside bytes kind cs xs → Inside bytes kind ds ys → Inside bytes kind (cs ++ ds) (xs ++ ys)
inside-append bytes kind cs ds xs ys h k = record {
  outside = each-append IsNoPart xs ys h.outside k.outside;
  ends = ends-append Exit xs ys h.ends k.ends;
  white =
      ap (λ (l : List Piece). list_all (is_white_piece bytes) l) (pieces-ended xs ys h.ends)
      ∙ white-append bytes (pieces xs) (pieces ys) h.white k.white;
  has =
      ap (λ (l : List Piece). chunks l) (pieces-ended xs ys h.ends) ∙ chunks-append (pieces xs) (pieces ys)
      ∙ ap (λ (l : List Chunk). l ++ chunks (pieces ys)) h.has ∙ ap (λ (l : List Chunk). cs ++ l) k.has;
  kinds = all-append (links_kind kind) xs ys h.kinds k.kinds;
  are_valid = λ zs. ap (chunks_in_parts 1) (append_assoc xs ys zs) ∙ h.are_valid (ys ++ zs) ∙ k.are_valid zs;
}

-- Their text parts are whole, each of its chunks a line, and no chunk is elsewhere.
pub record PartsWhole (bytes : List ℕ) (xs : List Event) : Type 0 where
  pub parts : (ys : List Event) → are_whole_parts bytes (xs ++ ys) ≡ are_whole_parts bytes ys
  pub chunks : (ys : List Event) → chunks_in_parts 0 (xs ++ ys) ≡ chunks_in_parts 0 ys

pub valid-outside : (bytes : List ℕ) (xs : List Event) → NoParts xs → NoLinks xs → PartsWhole bytes xs
valid-outside bytes xs h k = record {
  parts = λ ys. outside-parts bytes xs ys h;
  chunks = λ ys. outside-chunks xs ys h k;
}

pub valid-append : (bytes : List ℕ) (xs ys : List Event) → PartsWhole bytes xs → PartsWhole bytes ys →
    PartsWhole bytes (xs ++ ys)
valid-append bytes xs ys h k = record {
  parts = λ zs. ap (are_whole_parts bytes) (append_assoc xs ys zs) ∙ h.parts (ys ++ zs) ∙ k.parts zs;
  chunks = λ zs. ap (chunks_in_parts 0) (append_assoc xs ys zs) ∙ h.chunks (ys ++ zs) ∙ k.chunks zs;
}

pub valid-around : (bytes : List ℕ) (name : Name) (p q : Point) (inside : List Event) → part_kind name ≡ None →
    PartsWhole bytes inside → PartsWhole bytes (around name p q inside)
valid-around bytes name p q inside other h =
    valid-append bytes (enter name p ∷ []) (inside ++ exit name q ∷ [])
    (valid-outside bytes (enter name p ∷ []) (other, tt) (refl, tt))
    (valid-append bytes inside (exit name q ∷ []) h (valid-outside bytes (exit name q ∷ []) (other, tt) (refl, tt)))

-- A text part of chunks that are lines, which begins with the first of them.
pub valid-part : (bytes : List ℕ) (name : Name) (kind : PartKind) (p q : Point) (cs : List Chunk)
    (inside : List Event) →
    part_kind name ≡ Some kind → Inside bytes kind cs inside → begins_at p cs ≡ true → are_lines bytes q cs ≡ true →
    PartsWhole bytes (around name p q inside)
valid-part bytes name kind p q cs inside named h begins lines = record {
  parts = λ ys.
      let rest : List Event = inside ++ exit name q ∷ ys in
      ap (λ (l : List Event). are_whole_parts bytes (enter name p ∷ l)) (append_assoc inside (exit name q ∷ []) ys)
      ∙ ap (λ (x : Bool). x && are_whole_parts bytes rest) (valid ys)
      ∙ outside-parts bytes inside (exit name q ∷ ys) h.outside;
  chunks = λ ys.
      let rest : List Event = inside ++ exit name q ∷ ys in
      ap (λ (l : List Event). chunks_in_parts 0 (enter name p ∷ l)) (append_assoc inside (exit name q ∷ []) ys)
      ∙ ap
      (λ (x : Option PartKind).
      chunks_in_parts (cond ((elim x [ None ↦ false | Some kind ↦ true ]) && true) 1 0) rest) named
      ∙ h.are_valid (exit name q ∷ ys)
      ∙ ap
      (λ (x : Option PartKind).
      cond (elim x [ None ↦ false | Some kind ↦ true ]) (chunks_in_parts 0 ys)
      (may_be_in_part Exit name && chunks_in_parts 0 ys)) named;
}
  where
    end : (ys : List Event) → part_end (inside ++ exit name q ∷ ys) ≡ q
    end ys =
        end-proceeds inside (exit name q ∷ ys) h.outside
        ∙ ap
        (λ (x : Option PartKind). cond ((elim x [ None ↦ false | Some kind ↦ true ]) && true) q (part_end ys)) named

    held : (ys : List Event) → chunks (pieces (inside_part (inside ++ exit name q ∷ ys))) ≡ cs
    held ys = ap (λ (l : List Event). chunks (pieces l)) (part-inside name kind q inside ys named h.outside) ∙ h.has

    valid : (ys : List Event) → is_whole_part bytes Enter (part_kind name) p (inside ++ exit name q ∷ ys) ≡ true
    valid ys =
        let rest : List Event = inside ++ exit name q ∷ ys in
        let list : List Chunk = chunks (pieces (inside_part rest)) in
        let white : Bool = list_all (is_white_piece bytes) (pieces (inside_part rest)) in
        ap (λ (x : Option PartKind). is_whole_part bytes Enter x p rest) named
        ∙ and_from (begins_at p list && white && are_lines bytes (part_end rest) list)
        (list_all (links_kind kind) (inside_part rest))
        (and_from (begins_at p list && white) (are_lines bytes (part_end rest) list)
        (and_from (begins_at p list) white (ap (begins_at p) (held ys) ∙ begins)
        (ap (λ (l : List Event). list_all (is_white_piece bytes) (pieces l))
        (part-inside name kind q inside ys named h.outside)
        ∙ h.white))
        (ap (λ (r : Point). are_lines bytes r list) (end ys) ∙ ap (are_lines bytes q) (held ys) ∙ lines))
        (ap (list_all (links_kind kind)) (part-inside name kind q inside ys named h.outside) ∙ h.kinds)
