-- Each point of a text is one that one reaches from its first, step by step.
use Rattle.std.proofs.Common.{◌≡◌, ℕ, zero, suc, ◌+◌, ◌-◌, ◌*◌, ◌%◌, ◌^◌, ◌<◌, ◌≤◌, ◌⊎◌, inl, inr, Bool, true, false}
use Rattle.std.proofs.Common.{cond, not, ◌&&◌, ◌||◌, List, [], ◌∷◌, length, take, drop, refl, ap, sym, ◌∙◌, subst}
use Rattle.std.proofs.Common.{arith}
use Rattle.std.specs.Prelude.{◌==◌, nat_lt, slice_index}
use Rattle.std.proofs.lemmas.Bool.{and_parts, cases_lt, eqb-true, true≢false}
use Rattle.std.proofs.lemmas.Bool.Decides.{nat_tests}
use Rattle.md_engine.specs.declared.event.Point.{Point}
use Rattle.md_engine.specs.Place.{IsPlaced, IsReached, is_ending, is_pair, next_point, stepped, walked}
use Rattle.md_engine.proofs.Sound as Sound
use Rattle.md_meaning.specs.Texts.{first_byte, split_lines}
use Rattle.md_events.specs.Events.Places.{columns_before, is_placed}
use Rattle.md_events.proofs.PlacesLemmas.{Placed, at-next, placed-facts}
use Rattle.md_events.proofs.ReachedLemmas.{index-following, placed-next, placed-walked, step-inside}

-- the byte and the virtual spaces show a point of a text
pub one-point : (bytes : List ℕ) (p q : Point) → Placed bytes p → Placed bytes q → p.index ≡ q.index →
    p.vs ≡ q.vs → p ≡ q
one-point bytes p q h k i v =
    let line : p.line ≡ q.line = h.line ∙ ap (λ (n : ℕ). length (split_lines (take n bytes))) i ∙ sym k.line in
    let columns : columns_before bytes p.index ≡ columns_before bytes q.index = ap (columns_before bytes) i in
    let column : p.column ≡ q.column = omega (arith, h.column, k.column, columns, v) in
    same p.line q.line p.column q.column p.index q.index p.vs q.vs line column i v
  where
    same : (l m c d i j v w : ℕ) → l ≡ m → c ≡ d → i ≡ j → v ≡ w →
        ◌≡◌ {A = Point} (record { line = l; column = c; index = i; vs = v })
        (record { line = m; column = d; index = j; vs = w })
    same l m c d i j v w el ec ei ev = rw (el, ec, ei, ev) refl

-- a point comes before another
abbrev Before : Point → Point → Type 0
Before p q = (p.index < q.index) ⊎ ((p.index ≡ q.index) × (p.vs < q.vs))

before-next : (bytes : List ℕ) (p : Point) → Before p (next_point bytes p)
before-next bytes p =
    go (is_ending (slice_index bytes p.index)) (is_pair bytes p.index)
    ((slice_index bytes p.index == 9) && not (p.column % 4 == 0))
  where
    go : (x y z : Bool) →
        Before p (cond x (record { line = p.line + 1; column = 1; index = cond y (p.index + 2) (p.index + 1); vs = 0 })
        (cond z (record p { column = p.column + 1; vs = p.vs + 1 })
        (record p { column = p.column + 1; index = p.index + 1; vs = 0 })))
    go true true z = inl (omega arith)
    go true false z = inl (omega arith)
    go false y true = inr (refl, omega arith)
    go false y false = inl (omega arith)

-- a point comes before another, or at its place
abbrev Upto : Point → Point → Type 0
Upto p q = (p.index < q.index) ⊎ ((p.index ≡ q.index) × (p.vs ≤ q.vs))

-- where a point is among all: a byte has four columns at most
abbrev rank : Point → ℕ
rank p = 4 * p.index + p.vs

-- virtual spaces are three at most
few-spaces : (bytes : List ℕ) (p : Point) → Placed bytes p → p.vs ≤ 3
few-spaces bytes p h = go (p.vs == 0) (first_byte (drop p.index bytes) == 9) refl h.within
  where
    go : (x y : Bool) → (p.vs == 0) ≡ x → (x || (y && nat_lt p.vs (4 - columns_before bytes p.index % 4))) ≡ true →
        p.vs ≤ 3
    go true y e k = let none : p.vs ≡ 0 = eqb-true p.vs 0 e in omega (arith, none)
    go false true e k =
        let small : p.vs < 4 - columns_before bytes p.index % 4 = grind (arith, nat_tests) in omega (arith, small)
    go false false e k = absurd (true≢false (sym k))

-- where virtual spaces are, there is a tab with so many columns
in-tab : (bytes : List ℕ) (p : Point) → Placed bytes p → 0 < p.vs →
    (slice_index bytes p.index ≡ 9) × (p.vs < 4 - columns_before bytes p.index % 4)
in-tab bytes p h some =
    let none : (p.vs == 0) ≡ false = grind (arith, nat_tests) in
    let both : (first_byte (drop p.index bytes) == 9 ≡ true) ×
    (nat_lt p.vs (4 - columns_before bytes p.index % 4) ≡ true) = and_parts (first_byte (drop p.index bytes) == 9)
    (nat_lt p.vs (4 - columns_before bytes p.index % 4))
    (subst
    (λ (x : Bool).
    (x || ((first_byte (drop p.index bytes) == 9) && nat_lt p.vs (4 - columns_before bytes p.index % 4))) ≡ true) none
    h.within) in (
      byte (drop p.index bytes) refl (eqb-true (first_byte (drop p.index bytes)) 9 both.0),
      less both.1,
    )
  where
    byte : (l : List ℕ) → drop p.index bytes ≡ l → first_byte l ≡ 9 → slice_index bytes p.index ≡ 9
    byte [] e k = cc
    byte (b ∷ bs) e k = at-next p.index bytes b bs e ∙ k

    less : nat_lt p.vs (4 - columns_before bytes p.index % 4) ≡ true → p.vs < 4 - columns_before bytes p.index % 4
    less k = grind (arith, nat_tests)

-- a step from a point goes no further than to any point after it
step-upto : (bytes : List ℕ) (p q : Point) → Placed bytes p → Placed bytes q → Before p q → Upto (next_point bytes p) q
step-upto bytes p q h k (inr same) =
    let tab : (slice_index bytes q.index ≡ 9) × (q.vs < 4 - columns_before bytes q.index % 4) = in-tab bytes q k
    (omega (arith, same)) in
    let byte : slice_index bytes p.index ≡ 9 = ap (slice_index bytes) same.0 ∙ tab.0 in
    let columns : columns_before bytes p.index ≡ columns_before bytes q.index = ap (columns_before bytes) same.0 in
    let inside : (p.column % 4 == 0) ≡ false = stop (columns_before bytes p.index) p.vs p.column h.column
    (omega (arith, same, tab.1, columns)) in
    subst (λ (b : ℕ). Upto (stepped b (is_pair bytes p.index) p) q) (sym byte)
    (subst
    (λ (x : Bool).
    Upto
    (cond (not x) (record p { column = p.column + 1; vs = p.vs + 1 })
    (record p { column = p.column + 1; index = p.index + 1; vs = 0 })) q)
    (sym inside) (inr (same.0, omega (arith, same))))
  where
    stop : (before vs column : ℕ) → column ≡ before + vs + 1 → vs + 1 < 4 - before % 4 → (column % 4 == 0) ≡ false
    stop before vs column e small =
        let apart : 0 < column % 4 = omega arith in test (column % 4) apart
      where
        test : (n : ℕ) → 0 < n → (n == 0) ≡ false
        test n some = grind (arith, nat_tests)
step-upto bytes p q h k (inl less) =
    go (is_ending (slice_index bytes p.index)) (is_pair bytes p.index)
    ((slice_index bytes p.index == 9) && not (p.column % 4 == 0)) refl
  where
    -- a point is not between a CR and its LF
    apart : is_pair bytes p.index ≡ true → p.index + 1 ≡ q.index → ⊥
    apart pair e =
        let following : q.index - 1 ≡ p.index = omega (arith, e) in
        let some : nat_lt 0 q.index ≡ true = grind (arith, nat_tests) in
        true≢false
        (sym (ap (λ (i : ℕ). is_pair bytes i) following ∙ pair)
        ∙ ap (λ (x : Bool). x && is_pair bytes (q.index - 1)) (sym some) ∙ k.apart)

    one : (p.index + 1 < q.index) ⊎ (q.index ≤ p.index + 1) → (line column : ℕ) →
        Upto (record { line = line; column = column; index = p.index + 1; vs = 0 }) q
    one (inl lt) line column = inl (omega (arith, lt))
    one (inr le) line column = inr (omega (arith, le, less), omega arith)

    two : (p.index + 2 < q.index) ⊎ (q.index ≤ p.index + 2) → is_pair bytes p.index ≡ true → (line column : ℕ) →
        Upto (record { line = line; column = column; index = p.index + 2; vs = 0 }) q
    two (inl lt) pair line column = inl (omega (arith, lt))
    two (inr le) pair line column = elim (cases_lt (p.index + 1) q.index) [
      | inl lt ↦ inr (omega (arith, le, lt), omega arith)
      | inr none ↦ absurd (apart pair (omega (arith, none, less)))
    ]

    go : (x y z : Bool) → is_pair bytes p.index ≡ y →
        Upto
        (cond x (record { line = p.line + 1; column = 1; index = cond y (p.index + 2) (p.index + 1); vs = 0 })
        (cond z (record p { column = p.column + 1; vs = p.vs + 1 })
        (record p { column = p.column + 1; index = p.index + 1; vs = 0 }))) q
    go true true z e = two (cases_lt (p.index + 2) q.index) e (p.line + 1) 1
    go true false z e = one (cases_lt (p.index + 1) q.index) (p.line + 1) 1
    go false y true e = inl (omega (arith, less))
    go false y false e = one (cases_lt (p.index + 1) q.index) p.line (p.column + 1)

-- a point before another is earlier among all
before-rank : (bytes : List ℕ) (p q : Point) → Placed bytes p → Before p q → rank p < rank q
before-rank bytes p q h before = go (few-spaces bytes p h) before
  where
    go : p.vs ≤ 3 → Before p q → rank p < rank q
    go few (inl lt) = omega (arith, lt, few)
    go few (inr same) = omega (arith, same)

upto-index : (p q : Point) → Upto p q → p.index ≤ q.index
upto-index p q (inl lt) = omega (arith, lt)
upto-index p q (inr same) = omega (arith, same)

-- one reaches a point, or is before it
meets : (bytes : List ℕ) (p q : Point) → Placed bytes p → Placed bytes q → Upto p q → Before p q ⊎ (q ≡ p)
meets bytes p q h k (inl less) = inl (inl less)
meets bytes p q h k (inr same) = elim (cases_lt p.vs q.vs) [
  | inl lt ↦ inl (inr (same.0, lt))
  | inr le ↦ inr (one-point bytes q p k h (sym same.0) (omega (arith, le, same)))
]

-- so a walk becomes each point that it is not past
walk : (bytes : List ℕ) (q : Point) → Placed bytes q → (fuel n : ℕ) → Placed bytes (walked bytes n) →
    Upto (walked bytes n) q → rank q ≤ rank (walked bytes n) + fuel → IsReached bytes q
unfolding walked
walk bytes q k zero n h upto far = elim (meets bytes (walked bytes n) q h k upto) [
  | inl before ↦ absurd (omega (arith, far, before-rank bytes (walked bytes n) q h before))
  | inr e ↦ (n, e)
]
walk bytes q k (suc fuel) n h upto far = elim (meets bytes (walked bytes n) q h k upto) [
  | inl before ↦
      let next : Upto (next_point bytes (walked bytes n)) q = step-upto bytes (walked bytes n) q h k before in
      let valid : Placed bytes (next_point bytes (walked bytes n)) = placed-next bytes (walked bytes n) h
      (omega (arith, upto-index (next_point bytes (walked bytes n)) q next, k.index)) in
      walk bytes q k fuel (suc n) valid next
      (omega (
        arith,
        far,
        before-rank bytes (walked bytes n) (next_point bytes (walked bytes n)) h (before-next bytes (walked bytes n)),
      ))
  | inr e ↦ (n, e)
]

reached : (bytes : List ℕ) (q : Point) → Placed bytes q → IsReached bytes q
unfolding walked
reached bytes q k =
    walk bytes q k (rank q) 0 (placed-walked bytes 0 (omega arith)) (first (cases_lt 0 q.index)) (omega arith)
  where
    first : (0 < q.index) ⊎ (q.index ≤ 0) → Upto (walked bytes 0) q
    first (inl lt) = inl lt
    first (inr le) = inr (omega (arith, le), omega arith)

walked-placed : (bytes : List ℕ) → length bytes < 2 ^ 61 → (n : ℕ) → (walked bytes n).index ≤ length bytes →
    IsPlaced bytes (walked bytes n)
unfolding walked
walked-placed bytes sized zero le = record {
  sized = sized;
  index = le;
  line = omega arith;
  column = omega arith;
  vs = omega arith;
  reached = ∣ (0, refl) ∣₁;
}
walked-placed bytes sized (suc n) le =
    Sound.placed-next bytes (walked bytes n)
    (walked-placed bytes sized n (omega (arith, le, index-following bytes (walked bytes n))))
    (step-inside bytes (walked bytes n) le)

-- One reaches each point of a text that points have room for.
pub placed-point : (bytes : List ℕ) → length bytes < 2 ^ 61 → (p : Point) → is_placed bytes p ≡ true →
    IsPlaced bytes p
placed-point bytes sized p h = go (reached bytes p (placed-facts bytes p h)) (placed-facts bytes p h).index
  where
    go : IsReached bytes p → p.index ≤ length bytes → IsPlaced bytes p
    go (n, e) le =
        subst (IsPlaced bytes) (sym e)
        (walked-placed bytes sized n (subst (λ (q : Point). q.index ≤ length bytes) e le))
