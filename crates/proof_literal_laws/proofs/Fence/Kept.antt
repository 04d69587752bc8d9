-- What is in a fence is a part of its block.
use Rattle.std.proofs.Common.{◌≡◌, ℕ, Bool, true, false, cond, List, [], ◌∷◌, refl, ap, ◌∙◌, arith}
use Rattle.md_engine.specs.declared.event.Event.{Event}
use Rattle.md_engine.specs.declared.event.Name.{Name}
use Rattle.md_engine.specs.declared.event.Name.TheVariants as n
use Rattle.md_engine.specs.declared.event.Point.{Point}
use Rattle.md_containers.specs.ItemsAllowed.{IsPart}
use Rattle.md_meaning.specs.Lines.{without_ending}
use Rattle.md_meaning.specs.Rest.{is_white}
use Rattle.md_literal.specs.Fence.{fence_name}
use Rattle.md_events.specs.Events.Inline.{line_end}
use Rattle.md_events.specs.Events.Nested.{around, exit, pair}
use Rattle.md_events.specs.Events.Places.{past_text}
use Rattle.md_events.specs.Events.Spelled.{IsQuiet, Role, role}
use Rattle.md_events.proofs.SpelledLemmas.{Roles, roles-append}
use Rattle.proof_literal_laws.specs.Leaf.Fence.{Inner, fence_parts, linked, past_white, white_part}
use Rattle.proof_frame.proofs.EachEvent.{Each}
use Rattle.proof_literal_laws.proofs.Fence.Each.{fence-named, is_fence_name, parts-each}
use Rattle.proof_frame.proofs.LineWalk.{At}
use Rattle.proof_frame.proofs.LineTexts.{without-none}
use Rattle.proof_frame.proofs.PieceFacts.{over-front}

-- Roles.

roles-each : (P : Role → Type 0) (es : List Event) → Each (λ e. P (role e.name)) es → Roles P es
roles-each P [] h = tt
roles-each P (e ∷ es) h = (h.0, roles-each P es h.1)

each-roles : (P : Role → Type 0) (es : List Event) → Roles P es → Each (λ e. P (role e.name)) es
each-roles P [] h = tt
each-roles P (e ∷ es) h = (h.0, each-roles P es h.1)

-- what is in a block is a part of it
name-part : (name : Name) → is_fence_name name ≡ true → IsPart (role name)
name-part n.SpaceOrTab e = tt
name-part n.CodeFencedFence e = tt
name-part n.CodeFencedFenceSequence e = tt
name-part n.CodeFencedFenceInfo e = tt
name-part n.CodeFencedFenceMeta e = tt
name-part n.MathFlowFence e = tt
name-part n.MathFlowFenceSequence e = tt
name-part n.MathFlowFenceMeta e = tt
name-part _ e = cc

pub parts-roles : (inner : Inner) → ((p q : Point) → Roles IsPart (inner p q)) → (m : ℕ) (text : List ℕ) (p : Point) →
    Roles IsPart (fence_parts inner m text p)
parts-roles inner h m text p =
    roles-each IsPart (fence_parts inner m text p)
    (parts-each (λ e. IsPart (role e.name)) (λ name is r. (name-part name is, name-part name is)) inner
    (λ x y. each-roles IsPart (inner x y) (h x y)) m text p)

-- with its name around them
pub inside-parts : (inner : Inner) → ((p q : Point) → Roles IsPart (inner p q)) →
    (m : ℕ) (text : List ℕ) (p q : Point) → Roles IsPart (around (fence_name m) p q (fence_parts inner m text p))
inside-parts inner h m text p q =
    let part = name-part (fence_name m) (fence-named m) in (
      part,
      roles-append IsPart (fence_parts inner m text p) (exit (fence_name m) q ∷ []) (parts-roles inner h m text p)
          (part, tt),
    )

pub linked-parts : (p q : Point) → Roles IsPart (linked p q)
linked-parts p q = (tt, (tt, tt))

-- the whitespace in front the tree does not show
pub white-roles : (P : Role → Type 0) → P IsQuiet → (line : List ℕ) (p : Point) → Roles P (white_part line p)
white-roles P quiet [] p = tt
white-roles P quiet (b ∷ bs) p = go (is_white b)
  where
    go : (x : Bool) → Roles P (cond x (pair n.SpaceOrTab p (past_white (b ∷ bs) p)) [])
    go true = (quiet, (quiet, tt))
    go false = tt

-- what is read of bytes without an ending has none
pub text-end : (bytes : List ℕ) (b : ℕ) (bs rest : List ℕ) (p : Point) → At bytes (b ∷ bs) p rest →
    line_end bytes (record { first = p; after = past_text (b ∷ bs) p }) ≡ past_text (b ∷ bs) p
text-end bytes b bs rest p at =
    let q = past_text (b ∷ bs) p in
    let over = over-front bytes p q (b ∷ bs) rest at.valid (omega arith) refl in
    ap (λ (l : List ℕ). past_text (without_ending l) p) over.slice
    ∙ ap (λ (l : List ℕ). past_text l p) (without-none (b ∷ bs) at.none)
