-- Bytes greater than CR: many that are compared at once are counted as one by one.
use Rattle.std.proofs.Common.{◌≡◌, ◌+◌, ◌-◌, ◌<◌, ◌≤◌, ◌%◌, ◌^◌, ℕ, zero, suc}
use Rattle.std.proofs.Common.{Bool, true, false, not, cond, eqb, nat_lt}
use Rattle.std.proofs.Common.{List, [], ◌∷◌, length, take, drop, map, replicate, refl, ap, ◌∙◌, arith, w8}
use Rattle.std.specs.List.{prefix_len}
use Rattle.std.proofs.lemmas.Bool.Decides.{nat_tests}
use Rattle.std.proofs.lemmas.List.{length-drop, take_all}
use Rattle.std.proofs.lemmas.Simd.{bitmask_splat, first_set_mask_l}
use lib.Count.{count_trailing_zeros}
use lib.Lanes.{mask_l, top, zip2}

-- a byte is at most CR, or greater
not-low : (b : ℕ) → not (nat_lt b 14) ≡ nat_lt 13 b
not-low b = go (nat_lt b 14) (nat_lt 13 b) refl refl
  where
    go : (x y : Bool) → nat_lt b 14 ≡ x → nat_lt 13 b ≡ y → not x ≡ y
    go true true e f = let no : ⊥ = grind (arith, nat_tests) in absurd no
    go true false e f = refl
    go false true e f = refl
    go false false e f = let no : ⊥ = grind (arith, nat_tests) in absurd no

count-not-low : (bytes : List ℕ) → prefix_len (λ b. not (nat_lt b 14)) bytes ≡ prefix_len (nat_lt 13) bytes
count-not-low [] = refl
count-not-low (b ∷ bytes) =
    λ i. cond (not-low b i) (1 + count-not-low bytes i) 0

-- the lowest bit of the mask of bytes that are at most CR
pub lowest-low : (bytes : List ℕ) (n r : ℕ) → length bytes ≡ n → n ≤ 64 →
    let mask = mask_l (map (top 7) (zip2 (λ a b. cond (nat_lt a b) 255 0) bytes (replicate n 14))) % 2 ^ 64 in
    r ≡ cond (eqb mask 0) n (count_trailing_zeros 64 mask) → r ≡ prefix_len (nat_lt 13) bytes
lowest-low bytes n r long few is =
    is
    ∙ ap (λ (m : ℕ). cond (eqb m 0) n (count_trailing_zeros 64 m)) (bitmask_splat w8 nat_lt bytes n 14 long few)
    ∙ first_set_mask_l (λ b. nat_lt b 14) bytes n long few
    ∙ count-not-low bytes

-- after some of the bytes that are counted, the others are
pub counted-following : (bytes : List ℕ) (at : ℕ) → at ≤ prefix_len (nat_lt 13) bytes →
    at + prefix_len (nat_lt 13) (drop at bytes) ≡ prefix_len (nat_lt 13) bytes
counted-following bytes zero le = omega arith
counted-following [] (suc at) le = absurd (omega arith)
counted-following (b ∷ bytes) (suc at) le = go (nat_lt 13 b) (counted-following bytes at) le
  where
    go : (x : Bool) →
        (at ≤ prefix_len (nat_lt 13) bytes →
        at + prefix_len (nat_lt 13) (drop at bytes) ≡ prefix_len (nat_lt 13) bytes) →
        suc at ≤ cond x (1 + prefix_len (nat_lt 13) bytes) 0 →
        suc at + prefix_len (nat_lt 13) (drop at bytes) ≡ cond x (1 + prefix_len (nat_lt 13) bytes) 0
    go true more le = let rest = more (omega arith) in omega (arith, rest)
    go false more le = absurd (omega arith)

-- of so many bytes in front those are counted that are counted of all, as far as they reach
pub counted-front : (bytes : List ℕ) (n : ℕ) →
    let front = prefix_len (nat_lt 13) (take n bytes) in
    (front ≤ n) × (front < n → front ≡ prefix_len (nat_lt 13) bytes) × (n ≤ front → n ≤ prefix_len (nat_lt 13) bytes)
counted-front bytes zero = (omega arith, λ lt. absurd (omega arith), λ le. omega arith)
counted-front [] (suc n) = (omega arith, λ lt. refl, λ le. absurd (omega arith))
counted-front (b ∷ bytes) (suc n) = go (nat_lt 13 b) (counted-front bytes n)
  where
    go : (x : Bool) →
        let front = prefix_len (nat_lt 13) (take n bytes) in
        (front ≤ n) × (front < n → front ≡ prefix_len (nat_lt 13) bytes)
        × (n ≤ front → n ≤ prefix_len (nat_lt 13) bytes) →
        let all = cond x (1 + front) 0 in
        (all ≤ suc n) × (all < suc n → all ≡ cond x (1 + prefix_len (nat_lt 13) bytes) 0)
        × (suc n ≤ all → suc n ≤ cond x (1 + prefix_len (nat_lt 13) bytes) 0)
    go true more = (
      omega (arith, more.0),
      λ lt. let same = more.1 (omega arith) in omega (arith, same),
      λ le. let rest = more.2 (omega arith) in omega (arith, rest),
    )
    go false more = (omega arith, λ lt. refl, λ le. absurd (omega arith))

-- what lies after so many bytes, as slicing gives it
following-whole : (bytes : List ℕ) (at : ℕ) → take (length bytes - at) (drop at bytes) ≡ drop at bytes
following-whole bytes at =
    take_all (length bytes - at) (drop at bytes) (let size = length-drop at bytes in omega (arith, size))

-- the next bytes are counted after those that were counted: all of them, or up to one that is at most CR
pub counted-next : (bytes : List ℕ) (at n r : ℕ) → at ≤ prefix_len (nat_lt 13) bytes →
    r ≡ prefix_len (nat_lt 13) (take n (take (length bytes - at) (drop at bytes))) →
    (r < n → at + r ≡ prefix_len (nat_lt 13) bytes) × (n ≤ r → at + n ≤ prefix_len (nat_lt 13) bytes)
counted-next bytes at n r le is =
    let same = is ∙ ap (λ (rest : List ℕ). prefix_len (nat_lt 13) (take n rest)) (following-whole bytes at) in
    let front = counted-front (drop at bytes) n in
    let all = counted-following bytes at le in (
      λ lt. let some = front.1 (omega (arith, same, lt)) in omega (arith, same, all, some),
      λ ge. let more = front.2 (omega (arith, same, ge)) in omega (arith, all, more),
    )

-- the last bytes are counted after those that were counted
pub counted-last : (bytes : List ℕ) (at n r : ℕ) → at ≤ prefix_len (nat_lt 13) bytes → length bytes - at ≤ n →
    r ≡ prefix_len (nat_lt 13) (take n (take (length bytes - at) (drop at bytes))) →
    at + r ≡ prefix_len (nat_lt 13) bytes
counted-last bytes at n r le few is =
    let size = length-drop at bytes in
    let whole = take_all n (drop at bytes) (omega (arith, size, few)) in
    let same =
    is ∙ ap (λ (rest : List ℕ). prefix_len (nat_lt 13) (take n rest)) (following-whole bytes at)
    ∙ ap (prefix_len (nat_lt 13)) whole in
    omega (arith, same, counted-following bytes at le)
