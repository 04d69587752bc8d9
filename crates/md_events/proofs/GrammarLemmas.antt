-- The fold that checks the grammar of events, piece by piece.
use Rattle.std.proofs.Common.{◌≡◌, Bool, true, false, cond, List, [], ◌∷◌, ◌++◌, refl, ap, ◌∙◌}
use Rattle.md_engine.specs.declared.event.Event.{Event}
use Rattle.md_engine.specs.declared.event.Name.{Name}
use Rattle.md_engine.specs.declared.event.Point.{Point}
use Rattle.md_events.specs.Events.Grammar.{Expression, following, inside, left_after, left_of, may_end}
use Rattle.md_events.specs.Events.Inline.{pair_unless_empty}
use Rattle.md_events.specs.Events.Nested.{around, exit, pair}
use Rattle.md_events.specs.Events.Places.{same_place}

-- Pieces.

-- events one after the other
pub left_of-append : (text : Expression) (stack : List Expression) (xs ys : List Event) →
    left_of text stack (xs ++ ys) ≡ left_of text (left_of text stack xs) ys
left_of-append text stack [] ys = refl
left_of-append text stack (e ∷ xs) ys = left_of-append text (left_after text stack e.kind e.name) xs ys

-- events after which that is left of this, whatever is around it
abbrev pub Leads : Expression → List Expression → List Expression → List Event → Type 0
Leads text from to es = (outer : List Expression) → left_of text (from ++ outer) es ≡ to ++ outer

-- what is left after them
pub leads-rest : (text : Expression) (a b outer : List Expression) (xs ys : List Event) → Leads text a b xs →
    left_of text (a ++ outer) (xs ++ ys) ≡ left_of text (b ++ outer) ys
leads-rest text a b outer xs ys h =
    left_of-append text (a ++ outer) xs ys ∙ ap (λ (l : List Expression). left_of text l ys) (h outer)

-- one after the other
pub leads-append : (text : Expression) (a b c : List Expression) (xs ys : List Event) → Leads text a b xs →
    Leads text b c ys →
    Leads text a c (xs ++ ys)
leads-append text a b c xs ys h k outer = leads-rest text a b outer xs ys h ∙ k outer

-- events that are a word of what is open
pub record IsWord (text : Expression) (from : List Expression) (es : List Event) : Type 0 where
  pub left : Expression
  pub leads : Leads text from (left ∷ []) es
  pub ends : may_end left ≡ true

-- a word after such events
pub word-following : (text : Expression) (a b : List Expression) (xs ys : List Event) → Leads text a b xs →
    IsWord text b ys → IsWord text a (xs ++ ys)
word-following text a b xs ys h w = record {
  left = w.left;
  leads = leads-append text a b (w.left ∷ []) xs ys h w.leads;
  ends = w.ends;
}

-- the exit of a part that may end
leads-exit : (text left x : Expression) (name : Name) (p : Point) → may_end left ≡ true →
    Leads text (left ∷ x ∷ []) (x ∷ []) (exit name p ∷ [])
leads-exit text left x name p e outer = ap (λ (b : Bool). cond b (x ∷ outer) []) e

-- a part around such a word
pub leads-around : (text x : Expression) (name : Name) (p q : Point) (es : List Event) →
    IsWord text (inside text name ∷ []) es →
    Leads text (x ∷ []) (following name x ∷ []) (around name p q es)
leads-around text x name p q es w outer =
    left_of-append text (inside text name ∷ following name x ∷ outer) es (exit name q ∷ [])
    ∙ ap (λ (l : List Expression). left_of text l (exit name q ∷ [])) (w.leads (following name x ∷ outer))
    ∙ leads-exit text w.left (following name x) name q w.ends outer

-- What is left after a part that may be there or not.
abbrev pub maybe : Bool → Name → Expression → Expression
maybe some name x = cond some (following name x) x

-- a part with nothing inside, and one if it is not empty
pub leads-pair : (text x : Expression) (name : Name) (p q : Point) → may_end (inside text name) ≡ true →
    Leads text (x ∷ []) (following name x ∷ []) (pair name p q)
leads-pair text x name p q e outer = leads-exit text (inside text name) (following name x) name q e outer

-- and one that may be empty
pub leads-unless : (text x : Expression) (name : Name) (p q : Point) → may_end (inside text name) ≡ true →
    (some : Bool) × Leads text (x ∷ []) (maybe some name x ∷ []) (pair_unless_empty name p q)
leads-unless text x name p q e = go (same_place p q)
  where
    go : (empty : Bool) → (some : Bool) × Leads text (x ∷ []) (maybe some name x ∷ []) (cond empty [] (pair name p q))
    go true = (false, λ outer. refl)
    go false = (true, leads-pair text x name p q e)

-- A whole text.
