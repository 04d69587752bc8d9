-- Events that nest between two points, one after the other.
use Rattle.std.proofs.Common.{ℕ, Bool, true, false, cond, List, [], ◌∷◌, ◌++◌, refl, sym, subst, ◌≡◌, ◌≤◌, arith}
use Rattle.std.specs.Prelude.{IsTrue}
use Rattle.std.proofs.lemmas.Bool.Decides.{nat_tests}
use Rattle.md_engine.specs.declared.event.Event.{Event}
use Rattle.md_engine.specs.declared.event.Link.{Link}
use Rattle.md_engine.specs.declared.event.Name.{Name}
use Rattle.md_engine.specs.declared.event.Name.TheVariants as n
use Rattle.md_engine.specs.declared.event.Point.{Point}
use Rattle.md_events.specs.declared.inline.Chunk.{Chunk}
use Rattle.md_events.specs.Events.Inline.{line_end, pair_unless_empty, plain_chunk}
use Rattle.md_events.specs.Events.Nested.{Balanced, Forward, around, enter, enter_link, exit, last_point, pair}
use Rattle.md_events.specs.Events.Places.{at_or_before, same_place}
use Rattle.md_events.specs.Events.Spelled.{byte_at}
use Rattle.md_events.proofs.InlineLemmas.{balanced-pair, end-before, end-following}
use Rattle.md_events.proofs.NestedLemmas.{at_or_before-refl, at_or_before-trans, balanced-append, balanced-around}
use Rattle.md_events.proofs.NestedLemmas.{forward-append, last_point-append}

-- from a point on, and up to a point
abbrev pub Spans : Point → Point → List Event → Type 0
Spans p r es = Forward p es × IsTrue (at_or_before (last_point p es) r)

pub spans-from : (p q r : Point) (es : List Event) → IsTrue (at_or_before p q) → Spans q r es → Spans p r es
spans-from p q r [] h k = (tt, at_or_before-trans p q r h k.1)
spans-from p q r (e ∷ es) h k = ((at_or_before-trans p q e.point h k.0.0, k.0.1), k.1)

pub spans-append : (p q r : Point) (xs ys : List Event) → Spans p q xs → Spans q r ys → Spans p r (xs ++ ys)
spans-append p q r xs ys h k =
    let more : Spans (last_point p xs) r ys = spans-from (last_point p xs) q r ys h.1 k in (
      forward-append p xs ys h.0 more.0,
      subst (λ (s : Point). IsTrue (at_or_before s r)) (sym (last_point-append p xs ys)) more.1,
    )

-- what holds of both holds of the one that is taken
pub either : (P : List Event → Type 0) (t : Bool) (xs ys : List Event) → P xs → P ys → P (cond t xs ys)
either P true xs ys h k = h
either P false xs ys h k = k

pub chunk-balanced : (bytes : List ℕ) (chunk : Chunk) → Balanced (plain_chunk bytes chunk)
chunk-balanced bytes chunk =
    let end : Point = line_end bytes chunk in
    balanced-append (pair_unless_empty n.Data chunk.first end) (pair_unless_empty n.LineEnding end chunk.after)
    (balanced-pair n.Data chunk.first end) (balanced-pair n.LineEnding end chunk.after)

-- the events of a chunk go from its first point forward, and no further than to its end
pub chunk-forward : (bytes : List ℕ) (chunk : Chunk) → IsTrue (at_or_before chunk.first chunk.after) →
    Forward chunk.first (plain_chunk bytes chunk) ×
    IsTrue (at_or_before (last_point chunk.first (plain_chunk bytes chunk)) chunk.after)
chunk-forward bytes chunk h =
    go chunk.first (line_end bytes chunk) chunk.after (end-following bytes chunk) (end-before bytes chunk h)
    (same_place chunk.first (line_end bytes chunk)) (same_place (line_end bytes chunk) chunk.after)
  where
    go : (p q r : Point) → IsTrue (at_or_before p q) → IsTrue (at_or_before q r) → (x y : Bool) →
        Forward p (cond x [] (pair n.Data p q) ++ cond y [] (pair n.LineEnding q r)) ×
        IsTrue (at_or_before (last_point p (cond x [] (pair n.Data p q) ++ cond y [] (pair n.LineEnding q r))) r)
    go p q r h k true true = (tt, at_or_before-trans p q r h k)
    go p q r h k true false = ((h, (k, tt)), at_or_before-refl r)
    go p q r h k false true = ((at_or_before-refl p, (h, tt)), k)
    go p q r h k false false = ((at_or_before-refl p, (h, (at_or_before-refl q, (k, tt)))), at_or_before-refl r)

-- events that nest between two points
abbrev pub Nested_in : Point → Point → List Event → Type 0
Nested_in p q es = Balanced es × Spans p q es

pub nested_in-append : (p q r : Point) (xs ys : List Event) → Nested_in p q xs → Nested_in q r ys →
    Nested_in p r (xs ++ ys)
nested_in-append p q r xs ys h k = (balanced-append xs ys h.0 k.0, spans-append p q r xs ys h.1 k.1)

-- the events of a chunk
pub chunk-nested : (bytes : List ℕ) (chunk : Chunk) → IsTrue (at_or_before chunk.first chunk.after) →
    Nested_in chunk.first chunk.after (plain_chunk bytes chunk)
chunk-nested bytes chunk h = (chunk-balanced bytes chunk, chunk-forward bytes chunk h)

pub around-nested : (name : Name) (p q : Point) (inside : List Event) → Nested_in p q inside →
    Nested_in p q (around name p q inside)
around-nested name p q inside h =
    let ended : Spans p q (inside ++ exit name q ∷ []) = spans-append p q q inside (exit name q ∷ []) h.1
    ((at_or_before-refl q, tt), at_or_before-refl q) in
    (balanced-around (enter name p) (exit name q) inside refl refl refl h.0, ((at_or_before-refl p, ended.0), ended.1))

-- a chunk that is read later
pub linked-nested : (link : Link) (p q : Point) → IsTrue (at_or_before p q) →
    Nested_in p q (enter_link n.Data p link ∷ exit n.Data q ∷ [])
linked-nested link p q h =
    (record { matches = (tt, (refl, tt)); closed = refl }, ((at_or_before-refl p, (h, tt)), at_or_before-refl q))

-- a later point has no fewer bytes before it
pub order-grows : (p q : Point) → IsTrue (at_or_before p q) → p.index ≤ q.index
order-grows p q h = grind (arith, nat_tests)

-- and if it is in no tab, it is after the byte of the earlier one
pub byte-order : (p q : Point) → IsTrue (at_or_before p q) → q.vs ≡ 0 → byte_at p ≤ q.index
byte-order p q h w = grind (arith, nat_tests)
