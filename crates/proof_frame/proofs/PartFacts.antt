-- Events outside of text parts, the chunks of a text part, and lines of which nothing is read later.
use Rattle.std.proofs.Common.{◌≡◌, Bool, true, false, cond, ◌&&◌, List, [], ◌∷◌, ◌++◌, refl, ap, ◌∙◌, append-nil, sym}
use Rattle.std.specs.Prelude.{Option, Some, None}
use Rattle.md_engine.specs.declared.event.Event.{Event}
use Rattle.md_engine.specs.declared.event.Link.{Link}
use Rattle.md_engine.specs.declared.event.Name.{Name}
use Rattle.md_engine.specs.declared.event.Name.TheVariants as n
use Rattle.md_engine.specs.declared.event.Point.{Point}
use Rattle.md_events.specs.declared.inline.Chunk.{Chunk}
use Rattle.md_events.specs.declared.inline.PartKind.{PartKind}
use Rattle.md_events.specs.Events.Inline.{Piece, pieces, pieces_from}
use Rattle.md_events.specs.Events.Nested.{exit, is_exit}
use Rattle.md_events.specs.Events.Spelled.{role, IsQuiet, Role}
use Rattle.md_events.specs.Events.Tiles.{chunks, inside_part, is_part, part_end, part_kind}
use Rattle.md_events.proofs.SpelledLemmas.{Quiet, Roles}
use Rattle.proof_frame.specs.Linked.{linked}
use Rattle.proof_frame.proofs.EachEvent.{Each}

-- events without links
abbrev pub IsUnlinked : Event → Type 0
IsUnlinked e = e.link ≡ None

abbrev pub NoLinks : List Event → Type 0
NoLinks es = Each IsUnlinked es

-- Events outside of text parts.

-- events none of which begins or ends a text part
abbrev pub IsNoPart : Event → Type 0
IsNoPart e = part_kind e.name ≡ None

abbrev pub NoParts : List Event → Type 0
NoParts es = Each IsNoPart es

pub kind-no_part : (name : Name) → part_kind name ≡ None → is_part name ≡ false
kind-no_part name h = ap (λ (x : Option PartKind). elim x [ None ↦ false | Some kind ↦ true ]) h

-- whether the tree shows nothing of a role
abbrev is_quiet : Role → Bool
is_quiet IsQuiet = true
is_quiet _ = false

-- it is so where it is quiet
quiet-is : (x : Role) → Quiet x → is_quiet x ≡ true
quiet-is IsQuiet h = refl
quiet-is _ h = absurd h

-- the tree shows each text part: each name is tested
quiet-part : (name : Name) → (is_quiet (role name) && is_part name) ≡ false
quiet-part n.Data = refl
quiet-part _ = refl

-- so what it does not show is no text part
quiet-name : (name : Name) → Quiet (role name) → part_kind name ≡ None
quiet-name name h =
    go (part_kind name) (ap (λ (x : Bool). x && is_part name) (sym (quiet-is (role name) h)) ∙ quiet-part name)
  where
    go : (x : Option PartKind) → elim x [ None ↦ false | Some kind ↦ true ] ≡ false → x ≡ None
    go None e = refl
    go (Some kind) e = cc

pub quiet-no_parts : (es : List Event) → Roles Quiet es → NoParts es
quiet-no_parts [] h = tt
quiet-no_parts (e ∷ es) h = (quiet-name e.name h.0, quiet-no_parts es h.1)

-- The chunks of a text part.

pub linked-no_parts : (link : Link) (cs : List Chunk) → NoParts (linked n.Data link cs)
linked-no_parts link [] = tt
linked-no_parts link (c ∷ cs) = (refl, (refl, linked-no_parts link cs))

-- a part ends with its exit
inside-proceeds : (es ys : List Event) → NoParts es → inside_part (es ++ ys) ≡ es ++ inside_part ys
inside-proceeds [] ys h = refl
inside-proceeds (e ∷ es) ys h =
    ap (λ (x : Bool). cond (x && is_exit e.kind) [] (e ∷ inside_part (es ++ ys))) (kind-no_part e.name h.0)
    ∙ ap (λ (l : List Event). e ∷ l) (inside-proceeds es ys h.1)

pub part-inside : (name : Name) (kind : PartKind) (q : Point) (es ys : List Event) → part_kind name ≡ Some kind →
    NoParts es → inside_part (es ++ exit name q ∷ ys) ≡ es
part-inside name kind q es ys named h =
    inside-proceeds es (exit name q ∷ ys) h
    ∙ ap
    (λ (x : Option PartKind).
    es ++ cond ((elim x [ None ↦ false | Some kind ↦ true ]) && true) [] (exit name q ∷ inside_part ys)) named
    ∙ append-nil es

pub end-proceeds : (es ys : List Event) → NoParts es → part_end (es ++ ys) ≡ part_end ys
end-proceeds [] ys h = refl
end-proceeds (e ∷ es) ys h =
    ap (λ (x : Bool). cond (x && is_exit e.kind) e.point (part_end (es ++ ys))) (kind-no_part e.name h.0)
    ∙ end-proceeds es ys h.1

pub pieces-following : (p : Point) (link : Link) (cs : List Chunk) →
    pieces_from (exit n.Data p) (linked n.Data link cs) ≡ pieces (linked n.Data link cs)
pieces-following p link [] = refl
pieces-following p link (c ∷ cs) = refl

pub linked-chunks : (link : Link) (cs : List Chunk) → chunks (pieces (linked n.Data link cs)) ≡ cs
linked-chunks link [] = refl
linked-chunks link (c ∷ cs) =
    ap (λ (l : List Piece). c ∷ chunks l) (pieces-following c.after link cs)
    ∙ ap (λ (l : List Chunk). c ∷ l) (linked-chunks link cs)
