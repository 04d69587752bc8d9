-- How many parts are open after the first events, by how many parts have begun.
use Rattle.std.proofs.Common.{◌≡◌, ℕ, zero, suc, ◌+◌, ◌<◌, ◌≤◌, List, [], ◌∷◌, length, take, get_or, sym}
use Rattle.std.proofs.Common.{Bool, false, nat_lt, not, refl, true}
use Rattle.std.specs.Prelude.{◌==◌}
use Rattle.std.proofs.lemmas.Bool.Decides.{nat_tests}
use Rattle.std.proofs.Common.{◌∙◌, ◌-◌, ap, drop, length-drop, subst, arith}
use Rattle.std.proofs.lemmas.List.{drop-drop, get_or-drop, length-take-le, take-take, take_all, take_more}
use Rattle.md_engine.specs.declared.event.Event.{Event}
use Rattle.md_engine.specs.declared.event.Kind.{Kind}
use Rattle.md_engine.specs.declared.event.Kind.TheVariants.{Enter, Exit}
use Rattle.md_engine.specs.declared.event.Name.{Name}
use Rattle.md_outline.specs.CountOpen.{begun}
use Rattle.md_outline.specs.OutlinePart.{IsFewest, least_events}
use Rattle.md_events.specs.Events.Nested.{Fits, Matches, open_after, open_following}
use Rattle.md_events.proofs.NestedLemmas.{open_after-append}

-- So many parts have begun in the first events: the others of these have ended a part.
pub record Counts (events : List Event) (count enters : ℕ) : Type 0 where
  pub within : enters ≤ count
  pub matched : Matches [] events → enters + enters ≡ count + length (open_after [] (take count events))

begun-within : (kind : Kind) (count enters : ℕ) → enters ≤ count → begun kind enters ≤ count + 1
begun-within Enter count enters h = omega (arith, h)
begun-within Exit count enters h = omega (arith, h)

begun-open : (kind : Kind) (name : Name) (names : List Name) (count enters : ℕ) → Fits names kind name →
    enters + enters ≡ count + length names →
    begun kind enters + begun kind enters ≡ (count + 1) + length (open_following names kind name)
begun-open Enter name names count enters fits h = omega (arith, h)
begun-open Exit name [] count enters fits h = absurd fits
begun-open Exit name (innermost ∷ names) count enters fits h = omega (arith, h)

fits-at : (names : List Name) (events : List Event) (i : ℕ) (d : Event) → i < length events → Matches names events →
    Fits (open_after names (take i events)) (get_or events i d).kind (get_or events i d).name
fits-at names [] i d lt m = let no : ⊥ = omega (arith, lt) in absurd no
fits-at names (e ∷ events) zero d lt m = m.0
fits-at names (e ∷ events) (suc i) d lt m =
    fits-at (open_following names e.kind e.name) events i d (omega (arith, lt)) m.1

pub counts-next : (events : List Event) (i : ℕ) (d : Event) (enters : ℕ) → i < length events → Counts events i enters →
    Counts events (i + 1) (begun (get_or events i d).kind enters)
counts-next events i d enters lt is =
    let e : Event = get_or events i d in
    let before : List Name = open_after [] (take i events) in
    let following : open_after [] (take (i + 1) events) ≡ open_following before e.kind e.name =
    ap (open_after []) (take_more events i d lt) ∙ open_after-append [] (take i events) (e ∷ []) in
    record {
      within = begun-within e.kind i enters is.within;
      matched = λ m.
          begun-open e.kind e.name before i enters (fits-at [] events i d lt m) (is.matched m)
          ∙ ap (λ (names : List Name). (i + 1) + length names) (sym following);
    }

begun-sum : (kind : Kind) (enters : ℕ) → begun kind enters ≡ enters + begun kind 0
begun-sum Enter enters = omega arith
begun-sum Exit enters = omega arith

-- by how many begin by an event
pub counts-one : (events : List Event) (i : ℕ) (d : Event) (enters one : ℕ) → i < length events →
    one ≡ begun (get_or events i d).kind 0 → Counts events i enters → Counts events (i + 1) (enters + one)
counts-one events i d enters one lt is h =
    subst (Counts events (i + 1)) (begun-sum (get_or events i d).kind enters ∙ ap (λ (n : ℕ). enters + n) (sym is))
    (counts-next events i d enters lt h)

-- and by how many begin by four
pub counts-four : (events : List Event) (i : ℕ) (d : Event) (enters a b c e : ℕ) → i + 3 < length events →
    a ≡ begun (get_or events i d).kind 0 → b ≡ begun (get_or events (i + 1) d).kind 0 →
    c ≡ begun (get_or events (i + 2) d).kind 0 → e ≡ begun (get_or events (i + 3) d).kind 0 → Counts events i enters →
    Counts events (i + 4) (enters + (a + b + c + e))
counts-four events i d enters a b c e lt is_a is_b is_c is_e h =
    let at_two : i + 1 + 1 ≡ i + 2 = omega arith in
    let at_three : i + 2 + 1 ≡ i + 3 = omega arith in
    let at_four : i + 3 + 1 ≡ i + 4 = omega arith in
    let sum : enters + a + b + c + e ≡ enters + (a + b + c + e) = omega arith in
    let one : Counts events (i + 1) (enters + a) = counts-one events i d enters a (omega (arith, lt)) is_a h in
    let two : Counts events (i + 2) (enters + a + b) =
    subst (λ (n : ℕ). Counts events n (enters + a + b)) at_two
    (counts-one events (i + 1) d (enters + a) b (omega (arith, lt)) is_b one) in
    let three : Counts events (i + 3) (enters + a + b + c) =
    subst (λ (n : ℕ). Counts events n (enters + a + b + c)) at_three
    (counts-one events (i + 2) d (enters + a + b) c (omega (arith, lt)) is_c two) in
    subst (Counts events (i + 4)) sum
    (subst (λ (n : ℕ). Counts events n (enters + a + b + c + e)) at_four
    (counts-one events (i + 3) d (enters + a + b + c) e lt is_e three))

-- Of a list that is left after its first events, as many were counted as are before it.
pub record Left (events rest : List Event) (enters : ℕ) : Type 0 where
  pub count : ℕ
  pub within : count ≤ length events
  pub is : rest ≡ drop count events
  pub counts : Counts events count enters

left-at : (events rest : List Event) (enters : ℕ) (h : Left events rest enters) (k : ℕ) (d : Event) →
    get_or rest k d ≡ get_or events (h.count + k) d
left-at events rest enters h k d =
    ap (λ (l : List Event). get_or l k d) h.is ∙ get_or-drop h.count events k d

left-long : (events rest : List Event) (enters : ℕ) (h : Left events rest enters) →
    h.count + length rest ≡ length events
left-long events rest enters h =
    let long : length rest ≡ length events - h.count = ap length h.is ∙ length-drop h.count events in
    omega (arith, long, h.within)

pub left-four : (events rest : List Event) (d : Event) (enters a b c e : ℕ) → 4 ≤ length rest →
    a ≡ begun (get_or rest 0 d).kind 0 → b ≡ begun (get_or rest 1 d).kind 0 → c ≡ begun (get_or rest 2 d).kind 0 →
    e ≡ begun (get_or rest 3 d).kind 0 → Left events rest enters →
    Left events (take (length rest - 4) (drop 4 rest)) (enters + (a + b + c + e))
left-four events rest d enters a b c e some is_a is_b is_c is_e h =
    let n : ℕ = h.count in
    let long : n + length rest ≡ length events = left-long events rest enters h in
    let at = λ (k : ℕ). ap (λ (x : Event). begun x.kind 0) (left-at events rest enters h k d) in
    let first : n + 0 ≡ n = omega arith in
    let all : take (length rest - 4) (drop 4 rest) ≡ drop 4 rest =
    take_all (length rest - 4) (drop 4 rest) (omega (arith, length-drop 4 rest)) in
    record {
      count = n + 4;
      within = omega (arith, long, some);
      is = all ∙ ap (drop 4) h.is ∙ drop-drop 4 n events;
      counts =
          counts-four events n d enters a b c e (omega (arith, long, some))
          (is_a ∙ at 0 ∙ ap (λ (i : ℕ). begun (get_or events i d).kind 0) first) (is_b ∙ at 1) (is_c ∙ at 2)
          (is_e ∙ at 3) h.counts;
    }

-- What was counted of the first events alone was counted of all.
matches-first : (names : List Name) (events : List Event) (count : ℕ) → Matches names events →
    Matches names (take count events)
matches-first names events zero m = tt
matches-first names [] (suc count) m = tt
matches-first names (e ∷ events) (suc count) m =
    (m.0, matches-first (open_following names e.kind e.name) events count m.1)

pub left-counts : (events rest : List Event) (most enters : ℕ) → most ≤ length events →
    Left (take most events) rest enters → Counts events (most - length rest) enters
left-counts events rest most enters le h =
    let first : List Event = take most events in
    let size : length first ≡ most = length-take-le most events le in
    let long : h.count + length rest ≡ length first = left-long first rest enters h in
    let at : h.count ≡ most - length rest = omega (arith, size, long) in
    let within : h.count ≤ most = omega (arith, size, long) in
    subst (λ (n : ℕ). Counts events n enters) at
    (record {
      within = h.counts.within;
      matched = λ m.
          h.counts.matched (matches-first [] events most m)
          ∙ ap (λ (l : List Event). h.count + length (open_after [] l)) (take-take h.count most events within);
    })

-- Where some part is open after so many events, or these are too few, one more is needed.
pub fewest-one : (events : List Event) (end enters : ℕ) → Counts events end enters →
    (least_events ≤ end → not ((end - enters) == enters) ≡ true) → IsFewest events end → IsFewest events (end + 1)
fewest-one events end enters counts more fewest balanced k least lt closed = go (nat_lt k end) refl
  where
    go : (x : Bool) → nat_lt k end ≡ x → ⊥
    go true e = let before : k < end = grind (arith, nat_tests) in fewest balanced k least before closed
    go false e =
        let same : k ≡ end = grind (arith, nat_tests) in
        let all : enters + enters ≡ end + length (open_after [] (take end events)) =
        counts.matched balanced.matches in
        let none : length (open_after [] (take end events)) ≡ 0 =
        ap length (subst (λ (n : ℕ). open_after [] (take n events) ≡ []) same closed) in
        let some : not ((end - enters) == enters) ≡ true = more (omega (arith, least, same)) in
        let is : ((end - enters) == enters) ≡ true = grind (arith, nat_tests) in
        let bad : false ≡ true = ap not (sym is) ∙ some in
        cc
