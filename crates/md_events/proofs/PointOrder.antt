-- The order of the points of a text: each one but the first is a step after another one.
use Rattle.std.proofs.Common.{◌≡◌, ℕ, zero, suc, ◌+◌, ◌%◌, ◌<◌, ◌≤◌, ◌⊎◌, inl, inr, Bool, true, false, cond, ◌&&◌}
use Rattle.std.proofs.Common.{List, refl, ap, sym, ◌∙◌, subst, arith}
use Rattle.std.specs.Prelude.{◌==◌, not, slice_index}
use Rattle.std.proofs.Math.Logic.{∥∥₁_elim}
use Rattle.std.proofs.Props.{props}
use Rattle.std.proofs.lemmas.Bool.{cases_lt}
use Rattle.md_engine.specs.declared.event.Point.{Point}
use Rattle.md_engine.specs.Place.{IsPlaced, IsReached, is_ending, is_pair, next_point, walked}

-- a point comes before another
abbrev pub Before : Point → Point → Type 0
Before p q = (p.index < q.index) ⊎ ((p.index ≡ q.index) × (p.vs < q.vs))

before-trans : (p q r : Point) → Before p q → Before q r → Before p r
before-trans p q r (inl h) (inl k) = inl (omega arith)
before-trans p q r (inl h) (inr k) = inl (omega arith)
before-trans p q r (inr h) (inl k) = inl (omega arith)
before-trans p q r (inr h) (inr k) = inr (omega arith, omega arith)

before-next : (bytes : List ℕ) (p : Point) → Before p (next_point bytes p)
before-next bytes p =
    go (is_ending (slice_index bytes p.index)) (is_pair bytes p.index)
    ((slice_index bytes p.index == 9) && not (p.column % 4 == 0))
  where
    go : (x y z : Bool) →
        Before p (cond x (record { line = p.line + 1; column = 1; index = cond y (p.index + 2) (p.index + 1); vs = 0 })
        (cond z (record p { column = p.column + 1; vs = p.vs + 1 })
        (record p { column = p.column + 1; index = p.index + 1; vs = 0 })))
    go true true z = inl (omega arith)
    go true false z = inl (omega arith)
    go false y true = inr (refl, omega arith)
    go false y false = inl (omega arith)

pub walk-before : (bytes : List ℕ) (n m : ℕ) → n < m → Before (walked bytes n) (walked bytes m)
unfolding walked
walk-before bytes n zero h = absurd (omega arith)
walk-before bytes n (suc m) h = elim (cases_lt n m) [
  | inl lt ↦ before-trans (walked bytes n) (walked bytes m) (next_point bytes (walked bytes m))
      (walk-before bytes n m lt) (before-next bytes (walked bytes m))
  | inr le ↦ let e : n ≡ m =
      omega arith in
      subst (λ (k : ℕ). Before (walked bytes k) (next_point bytes (walked bytes m))) (sym e)
      (before-next bytes (walked bytes m))
]

never-same : (p q : Point) → p.index ≡ q.index → p.vs ≡ q.vs → Before p q → ⊥
never-same p q i v (inl h) = omega arith
never-same p q i v (inr h) = omega arith

reached-same : (bytes : List ℕ) (p q : Point) → IsReached bytes p → IsReached bytes q → p.index ≡ q.index →
    p.vs ≡ q.vs → p ≡ q
reached-same bytes p q (n, e) (m, f) i v = elim (cases_lt n m) [
  | inl lt ↦ absurd
      (never-same p q i v
      (subst (λ (r : Point). Before r q) (sym e) (subst (Before (walked bytes n)) (sym f) (walk-before bytes n m lt))))
  | inr le ↦ elim (cases_lt m n) [
    | inl lt ↦ absurd
        (never-same q p (sym i) (sym v)
        (subst (λ (r : Point). Before r p) (sym f)
        (subst (Before (walked bytes m)) (sym e) (walk-before bytes m n lt))))
    | inr same ↦ let k : n ≡ m = omega arith in e ∙ ap (walked bytes) k ∙ sym f
  ]
]

-- the byte and the virtual spaces show a point of a text
pub placed-same : (bytes : List ℕ) (p q : Point) → IsPlaced bytes p → IsPlaced bytes q → p.index ≡ q.index →
    p.vs ≡ q.vs → p ≡ q
placed-same bytes p q h k i v =
    ∥∥₁_elim h.reached (hlevel props) (λ r. ∥∥₁_elim k.reached (hlevel props) (λ s. reached-same bytes p q r s i v))

reached-next_within : (bytes : List ℕ) (p q : Point) → IsReached bytes p → IsReached bytes q → p.index < q.index →
    (next_point bytes p).index ≤ q.index
unfolding walked
reached-next_within bytes p q (n, e) (m, f) h = elim (cases_lt n m) [
  | inl lt ↦ rw (e, f) (next lt (cases_lt (suc n) m))
  | inr le ↦ elim (cases_lt m n) [
    | inl lt ↦ let k : Before q p = rw (e, f) (walk-before bytes m n lt) in absurd (back k)
    | inr same ↦ let k : p ≡ q =
        let k : n ≡ m = omega arith in e ∙ ap (walked bytes) k ∙ sym f in
        let i : p.index ≡ q.index = ap (λ (r : Point). r.index) k in omega arith
  ]
]
  where
    back : Before q p → ⊥
    back (inl k) = omega arith
    back (inr k) = omega arith

    index : (p q : Point) → Before p q → p.index ≤ q.index
    index p q (inl k) = omega arith
    index p q (inr k) = omega arith

    next : n < m → (suc n < m) ⊎ (m ≤ suc n) → (next_point bytes (walked bytes n)).index ≤ (walked bytes m).index
    next lt (inl less) = index (next_point bytes (walked bytes n)) (walked bytes m) (walk-before bytes (suc n) m less)
    next lt (inr le) =
        let k : suc n ≡ m = omega arith in
        subst (λ (j : ℕ). (next_point bytes (walked bytes n)).index ≤ (walked bytes j).index) k (omega arith)

-- a line ending is not cut by a point of the text
pub next-within : (bytes : List ℕ) (p q : Point) → IsPlaced bytes p → IsPlaced bytes q → p.index < q.index →
    (next_point bytes p).index ≤ q.index
next-within bytes p q h k lt =
    ∥∥₁_elim h.reached (hlevel props)
    (λ r. ∥∥₁_elim k.reached (hlevel props) (λ s. reached-next_within bytes p q r s lt))

pub reached-column : (bytes : List ℕ) (p : Point) → IsReached bytes p → 1 ≤ p.column
unfolding walked
reached-column bytes p (zero, e) = rw e (omega arith)
reached-column bytes p (suc n, e) = rw e (go (walked bytes n))
  where
    go : (q : Point) → 1 ≤ (next_point bytes q).column
    go q = step (is_ending (slice_index bytes q.index)) ((slice_index bytes q.index == 9) && not (q.column % 4 == 0))
      where
        step : (x z : Bool) →
            1 ≤ (cond x (record {
              line = q.line + 1;
              column = 1;
              index = cond (is_pair bytes q.index) (q.index + 2)
                  (q.index + 1);
              vs = 0;
            })
            (cond z (record q { column = q.column + 1; vs = q.vs + 1 })
            (record q { column = q.column + 1; index = q.index + 1; vs = 0 }))).column
        step true z = omega arith
        step false true = omega arith
        step false false = omega arith
