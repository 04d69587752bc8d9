-- Bytes that are compared at once are counted as one by one.
use Rattle.std.proofs.Common.{◌≡◌, ℕ, zero, suc, ◌+◌, ◌-◌, ◌%◌, ◌^◌, ◌<◌, ◌≤◌, Bool, true, false, not, cond, eqb}
use Rattle.std.proofs.Common.{nat_lt, ◌&&◌, List, [], ◌∷◌, map, length, take, drop, refl, ap, ◌∙◌, arith, w8}
use Rattle.std.proofs.Common.{Fits, ap₂, bit_and, bit_or, replicate, subst, sym}
use Rattle.std.specs.List.{prefix_len}
use Rattle.std.proofs.lemmas.Bool.{and_parts, eqb-true}
use Rattle.std.proofs.lemmas.Bool.Decides.{nat_tests}
use Rattle.std.proofs.lemmas.List.{length-drop, length-map, take_all}
use Rattle.std.proofs.lemmas.Simd.{first_set_mask_l, map-map, mask_l-mod, zip2_of_maps, zip2_splat}
use lib.Count.{count_trailing_zeros}
use lib.Lanes.{Each1, mask_l, top, zip2}

-- all bits of a lane, where two numbers are one
abbrev pub hit : ℕ → ℕ → ℕ
hit a b = cond (eqb a b) 255 0

-- what is computed lane by lane
pub either : {V : Type 0} (f g : V → ℕ) (v : List V) {a b : List ℕ} → a ≡ map f v → b ≡ map g v →
    zip2 bit_or a b ≡ map (λ x. bit_or (f x) (g x)) v
either f g v p q = zip2_of_maps bit_or f g v p q

pub each : {V : Type 0} (f g : V → ℕ) (v : List V) {a b : List ℕ} → a ≡ map f v → b ≡ map g v →
    zip2 bit_and a b ≡ map (λ x. bit_and (f x) (g x)) v
each f g v p q = zip2_of_maps bit_and f g v p q

-- a test of each number below one
abbrev pub every : (ℕ → Bool) → ℕ → Bool
every p zero = true
every p (suc n) = p n && every p n

every-passes : (p : ℕ → Bool) (n x : ℕ) → every p n ≡ true → x < n → p x ≡ true
every-passes p zero x h lt = absurd (omega (arith, lt))
every-passes p (suc n) x h lt = go (nat_lt x n) refl (λ below. every-passes p n x parts.1 below)
  where
    parts : (p n ≡ true) × (every p n ≡ true)
    parts = and_parts (p n) (every p n) h

    go : (t : Bool) → nat_lt x n ≡ t → (x < n → p x ≡ true) → p x ≡ true
    go true e below = below (grind (arith, nat_tests))
    go false e below =
        let last : x ≡ n = grind (arith, nat_tests) in
        ap p last ∙ parts.0

abbrev pub same : Bool → Bool → Bool
same true b = b
same false b = not b

same-is : (a b : Bool) → same a b ≡ true → a ≡ b
same-is true true h = refl
same-is true false h = cc
same-is false true h = cc
same-is false false h = refl

each-byte : (f : ℕ → ℕ) (p : ℕ → Bool) → every (λ x. same (top 7 (f x)) (p x)) 256 ≡ true → (v : List ℕ) →
    Each1 (Fits w8) v → map (λ x. top 7 (f x)) v ≡ map p v
each-byte f p all [] fits = refl
each-byte f p all (x ∷ v) fits =
    ap (λ (b : Bool). b ∷ map (λ y. top 7 (f y)) v)
    (same-is (top 7 (f x)) (p x)
    (every-passes (λ y. same (top 7 (f y)) (p y)) 256 x all (let fit = fits.0.fits in omega (arith, fit))))
    ∙ ap (λ (l : List Bool). p x ∷ l) (each-byte f p all v fits.1)

-- the mask of bytes that are computed lane by lane is that of a test, which is tried at each byte
pub masked : (f : ℕ → ℕ) (p : ℕ → Bool) (v z : List ℕ) → length v ≤ 64 → Each1 (Fits w8) v → z ≡ map f v →
    every (λ x. same (top 7 (f x)) (p x)) 256 ≡ true → mask_l (map (top 7) z) % 2 ^ 64 ≡ mask_l (map p v)
masked f p v z short fits e all =
    ap (λ (l : List Bool). mask_l l % 2 ^ 64) (ap (map (top 7)) e ∙ map-map (top 7) f v ∙ each-byte f p all v fits)
    ∙ mask_l-mod (map p v) 64 (omega (arith, length-map v p, short))

twice-not : {V : Type 0} (p : V → Bool) (v : List V) → prefix_len (λ b. not (not (p b))) v ≡ prefix_len p v
twice-not p [] = refl
twice-not p (b ∷ v) = go (p b) (twice-not p v)
  where
    go : (t : Bool) → prefix_len (λ c. not (not (p c))) v ≡ prefix_len p v →
        cond (not (not t)) (1 + prefix_len (λ c. not (not (p c))) v) 0 ≡ cond t (1 + prefix_len p v) 0
    go true rest = ap (λ (n : ℕ). 1 + n) rest
    go false rest = refl

-- the lowest bit of the mask of bytes that fail
pub lowest-fails : {V : Type 0} (p : V → Bool) (v : List V) (n mask r : ℕ) → length v ≡ n → n ≤ 64 →
    mask ≡ mask_l (map (λ b. not (p b)) v) → r ≡ cond (eqb mask 0) n (count_trailing_zeros 64 mask) →
    r ≡ prefix_len p v
lowest-fails p v n mask r long few e is =
    is
    ∙ ap (λ (m : ℕ). cond (eqb m 0) n (count_trailing_zeros 64 m)) e
    ∙ first_set_mask_l (λ b. not (p b)) v n long few
    ∙ twice-not p v

-- Pairs of lanes.

abbrev pub pairs : List ℕ → List ℕ → List (ℕ × ℕ)
pairs v w = zip2 (λ x y. (x, y)) v w

pub firsts : (v w : List ℕ) → length v ≡ length w → map (λ (q : ℕ × ℕ). q.0) (pairs v w) ≡ v
firsts [] w e = refl
firsts (x ∷ v) [] e = absurd (omega (arith, e))
firsts (x ∷ v) (y ∷ w) e = ap (λ (l : List ℕ). x ∷ l) (firsts v w (omega (arith, e)))

pub seconds : (v w : List ℕ) → length v ≡ length w → map (λ (q : ℕ × ℕ). q.1) (pairs v w) ≡ w
seconds [] [] e = refl
seconds [] (y ∷ w) e = absurd (omega (arith, e))
seconds (x ∷ v) [] e = absurd (omega (arith, e))
seconds (x ∷ v) (y ∷ w) e = ap (λ (l : List ℕ). y ∷ l) (seconds v w (omega (arith, e)))

pub of-pairs : (p : ℕ → ℕ → Bool) (v w : List ℕ) → zip2 p v w ≡ map (λ (q : ℕ × ℕ). p q.0 q.1) (pairs v w)
of-pairs p [] w = refl
of-pairs p (x ∷ v) [] = refl
of-pairs p (x ∷ v) (y ∷ w) = ap (λ (l : List Bool). p x y ∷ l) (of-pairs p v w)

-- where the first, or the second, is a number
pub hits-first : (v w : List ℕ) (n y : ℕ) → length v ≡ n → length w ≡ n →
    zip2 hit v (replicate n y) ≡ map (λ (q : ℕ × ℕ). hit q.0 y) (pairs v w)
hits-first v w n y long wide =
    zip2_splat hit v n y long
    ∙ ap (map (λ (x : ℕ). hit x y)) (sym (firsts v w (long ∙ sym wide)))
    ∙ map-map (λ (x : ℕ). hit x y) (λ (q : ℕ × ℕ). q.0) (pairs v w)

pub hits-second : (v w : List ℕ) (n y : ℕ) → length v ≡ n → length w ≡ n →
    zip2 hit w (replicate n y) ≡ map (λ (q : ℕ × ℕ). hit q.1 y) (pairs v w)
hits-second v w n y long wide =
    zip2_splat hit w n y wide
    ∙ ap (map (λ (x : ℕ). hit x y)) (sym (seconds v w (long ∙ sym wide)))
    ∙ map-map (λ (x : ℕ). hit x y) (λ (q : ℕ × ℕ). q.1) (pairs v w)

-- a test of the first
pub by-first : (p : ℕ → Bool) (v w : List ℕ) → length v ≡ length w → map p v ≡ zip2 (λ x y. p x) v w
by-first p v w even =
    ap (map p) (sym (firsts v w even)) ∙ map-map p (λ (q : ℕ × ℕ). q.0) (pairs v w)
    ∙ sym (of-pairs (λ x y. p x) v w)

-- all bits of a lane, or none
abbrev pub lane : Bool → ℕ
lane b = cond b 255 0

-- a test of a byte, and two of the byte after it
pub each-pair : (f : ℕ → ℕ → ℕ → ℕ) (g h : ℕ → ℕ) (p : ℕ → Bool → Bool → Bool) (t u : ℕ → Bool) →
    every (λ y. eqb (g y) (lane (t y))) 256 ≡ true → every (λ y. eqb (h y) (lane (u y))) 256 ≡ true →
    ((a b : Bool) → every (λ x. same (top 7 (f x (lane a) (lane b))) (p x a b)) 256 ≡ true) → (qs : List (ℕ × ℕ)) →
    Each1 (Fits w8) (map (λ (q : ℕ × ℕ). q.0) qs) → Each1 (Fits w8) (map (λ (q : ℕ × ℕ). q.1) qs) →
    map (λ (q : ℕ × ℕ). top 7 (f q.0 (g q.1) (h q.1))) qs ≡ map (λ (q : ℕ × ℕ). p q.0 (t q.1) (u q.1)) qs
each-pair f g h p t u on_g on_h all [] first second = refl
each-pair f g h p t u on_g on_h all (q ∷ qs) first second =
    ap (λ (b : Bool). b ∷ map (λ (r : ℕ × ℕ). top 7 (f r.0 (g r.1) (h r.1))) qs) here
    ∙ ap (λ (l : List Bool). p q.0 (t q.1) (u q.1) ∷ l)
    (each-pair f g h p t u on_g on_h all qs first.1 second.1)
  where
    small : q.0 < 256
    small = let fit = first.0.fits in omega (arith, fit)

    next : q.1 < 256
    next = let fit = second.0.fits in omega (arith, fit)

    of_g : g q.1 ≡ lane (t q.1)
    of_g = eqb-true (g q.1) (lane (t q.1)) (every-passes (λ y. eqb (g y) (lane (t y))) 256 q.1 on_g next)

    of_h : h q.1 ≡ lane (u q.1)
    of_h = eqb-true (h q.1) (lane (u q.1)) (every-passes (λ y. eqb (h y) (lane (u y))) 256 q.1 on_h next)

    here : top 7 (f q.0 (g q.1) (h q.1)) ≡ p q.0 (t q.1) (u q.1)
    here =
        ap₂ (λ (m n : ℕ). top 7 (f q.0 m n)) of_g of_h
        ∙ same-is (top 7 (f q.0 (lane (t q.1)) (lane (u q.1)))) (p q.0 (t q.1) (u q.1))
        (every-passes (λ x. same (top 7 (f x (lane (t q.1)) (lane (u q.1)))) (p x (t q.1) (u q.1))) 256 q.0
        (all (t q.1) (u q.1)) small)

-- the mask of what is computed so
pub masked-pairs : (f : ℕ → ℕ → ℕ → ℕ) (g h : ℕ → ℕ) (p : ℕ → Bool → Bool → Bool) (t u : ℕ → Bool) →
    every (λ y. eqb (g y) (lane (t y))) 256 ≡ true → every (λ y. eqb (h y) (lane (u y))) 256 ≡ true →
    ((a b : Bool) → every (λ x. same (top 7 (f x (lane a) (lane b))) (p x a b)) 256 ≡ true) → (v w z : List ℕ) →
    length v ≡ 16 → length w ≡ 16 → Each1 (Fits w8) v → Each1 (Fits w8) w →
    z ≡ map (λ (q : ℕ × ℕ). f q.0 (g q.1) (h q.1)) (pairs v w) →
    mask_l (map (top 7) z) % 2 ^ 64 ≡ mask_l (zip2 (λ x y. p x (t y) (u y)) v w)
masked-pairs f g h p t u on_g on_h all v w z long wide fit_v fit_w e =
    ap (λ (l : List Bool). mask_l l % 2 ^ 64)
    (ap (map (top 7)) e ∙ map-map (top 7) (λ (q : ℕ × ℕ). f q.0 (g q.1) (h q.1)) (pairs v w)
    ∙ each-pair f g h p t u on_g on_h all (pairs v w) (subst (Each1 (Fits w8)) (sym (firsts v w even)) fit_v)
    (subst (Each1 (Fits w8)) (sym (seconds v w even)) fit_w))
    ∙ mask_l-mod (map (λ (q : ℕ × ℕ). p q.0 (t q.1) (u q.1)) (pairs v w)) 64 (omega (arith, many))
    ∙ ap mask_l (sym (of-pairs (λ x y. p x (t y) (u y)) v w))
  where
    even : length v ≡ length w
    even = long ∙ sym wide

    many : length (map (λ (q : ℕ × ℕ). p q.0 (t q.1) (u q.1)) (pairs v w)) ≡ 16
    many =
        length-map (pairs v w) (λ (q : ℕ × ℕ). p q.0 (t q.1) (u q.1))
        ∙ sym (length-map (pairs v w) (λ (q : ℕ × ℕ). q.0)) ∙ ap length (firsts v w even) ∙ long

-- what is after so many bytes, as a slice
pub slice-after : (bytes : List ℕ) (at : ℕ) → take (length bytes - at) (drop at bytes) ≡ drop at bytes
slice-after bytes at =
    take_all (length bytes - at) (drop at bytes) (let size = length-drop at bytes in omega (arith, size))
