-- How numbers of levels compare: a number at a lower level weighs less than one more at a higher.
use Rattle.std.proofs.Common.{◌≡◌, ℕ, zero, suc, ◌+◌, ◌-◌, ◌*◌, ◌<◌, ◌≤◌, refl, arith}
use Rattle.std.proofs.Math.Nat.{mul-le-mul_left, mul-le-mul_right}
use Rattle.std.proofs.lemmas.Nat.{mul-le}
use Rattle.md_engine.specs.Scheme.{base, raised}

raised-pos : (limit l : ℕ) → 1 ≤ raised (base limit) l
unfolding raised
raised-pos limit zero = omega arith
raised-pos limit (suc l) =
    omega (arith, mul-le 1 1 (base limit) (raised (base limit) l) (omega arith) (raised-pos limit l))

raised-suc : (limit l : ℕ) → raised (base limit) (suc l) ≡ base limit * raised (base limit) l
unfolding raised
raised-suc limit l = refl

raised-plus : (limit k l : ℕ) → raised (base limit) l ≤ raised (base limit) (k + l)
raised-plus limit zero l = let e : 0 + l ≡ l = omega arith in rw e (omega arith)
raised-plus limit (suc k) l =
    let a = raised-plus limit k l in
    let up : raised (base limit) (k + l) ≤
    base limit * raised (base limit)
    (k + l) = omega (
      arith,
      mul-le-mul_right (raised (base limit) (k + l)) (let one : 1 ≤ base limit = omega arith in one),
    ) in
    let e : suc k + l ≡ suc (k + l) = omega arith in
    rw (e, raised-suc limit (k + l)) (omega (arith, a, up))

raised-le : (limit k l : ℕ) → k ≤ l → raised (base limit) k ≤ raised (base limit) l
raised-le limit k l h =
    let e : (l - k) + k ≡ l = omega arith in
    rw e at (raised-plus limit (l - k) k)

lower : (limit n k l : ℕ) → n < base limit → k < l → n * raised (base limit) k < raised (base limit) l
lower limit n k l h lt =
    let up = raised-le limit (suc k) l (omega arith) in
    let one = raised-pos limit k in
    let all : (n + 1) * raised (base limit) k ≤
    base limit * raised (base limit) k = mul-le-mul_right (raised (base limit) k) (omega arith) in
    let e = raised-suc limit k in
    omega (arith, up, one, all, e)

-- a smaller number at the same level, or below
pub weighs : (limit n m k l : ℕ) → n < m → k ≤ l → n * raised (base limit) k < m * raised (base limit) l
weighs limit n m k l h le =
    let one = raised-pos limit l in
    let same : n * raised (base limit) k ≤ n * raised (base limit) l = mul-le-mul_left n (raised-le limit k l le) in
    let all : (n + 1) * raised (base limit) l ≤
    m * raised (base limit) l = mul-le-mul_right (raised (base limit) l) (omega arith) in
    omega (arith, one, same, all)

-- the same beside a number at a lower level
pub weighs_with : (limit n f m k j l : ℕ) → f < m → j ≤ l → n < base limit → k < l →
    n * raised (base limit) k + f * raised (base limit) j < m * raised (base limit) l
weighs_with limit n f m k j l h le small lt =
    let one = raised-pos limit l in
    let low = lower limit n k l small lt in
    let same : f * raised (base limit) j ≤ f * raised (base limit) l = mul-le-mul_left f (raised-le limit j l le) in
    let all : (f + 1) * raised (base limit) l ≤
    m * raised (base limit) l = mul-le-mul_right (raised (base limit) l) (omega arith) in
    omega (arith, one, same, all, low)
