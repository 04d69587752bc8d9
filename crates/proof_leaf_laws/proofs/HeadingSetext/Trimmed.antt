-- A line without the whitespace at its end, byte by byte.
use Rattle.std.proofs.Common.{◌≡◌, ℕ, suc, ◌+◌, ◌-◌, ◌≤◌, Bool, true, false, cond, ◌&&◌, List, [], ◌∷◌, length, take}
use Rattle.std.proofs.Common.{reverse, refl, ap, ap₂, sym, ◌∙◌, arith}
use Rattle.std.specs.Prelude.{◌==◌}
use Rattle.std.specs.List.{list_all, prefix_len, suffix_len}
use Rattle.std.proofs.lemmas.Bool.{and_right, eq-eqb, eqb-true}
use Rattle.std.proofs.lemmas.Bool.Decides.{nat_tests}
use Rattle.std.proofs.lemmas.List.{length-reverse, reverse-append}
use Rattle.std.proofs.lemmas.List.Folds.{prefix_len-append}
use Rattle.std.proofs.lemmas.List.Sums.{suffix_len-le-length}
use Rattle.md_meaning.specs.Rest.{is_blank, is_white, trim_end}

-- how many bytes at the end pass a test, with one more in front
suffix-more : (f : ℕ → Bool) (b : ℕ) (bs : List ℕ) →
    suffix_len f (b ∷ bs) ≡ cond (suffix_len f bs == length bs) (length bs + cond (f b) (1 + 0) 0) (suffix_len f bs)
suffix-more f b bs =
    ap (prefix_len f) (reverse-append (b ∷ []) bs)
    ∙ prefix_len-append f (reverse bs) (b ∷ [])
    ∙ ap (λ (n : ℕ). cond (suffix_len f bs == n) (n + cond (f b) (1 + 0) 0) (suffix_len f bs)) (length-reverse bs)

-- numbers of which one is no greater than another
more-other : (s n t : ℕ) → s ≤ n → t ≡ s → (t == suc n) ≡ false
more-other s n t le e = grind (arith, nat_tests)

-- what is left of one more
left-more : (s n t : ℕ) → s ≤ n → t ≡ s → suc n - t ≡ suc (n - s)
left-more s n t le e = omega arith

-- of one more than all
left-one : (s n t : ℕ) → s ≡ n → t ≡ n → suc n - t ≡ suc (n - s)
left-one s n t e k = omega arith

-- and of none more
left-none : (n t : ℕ) → t ≡ suc n → suc n - t ≡ 0
left-none n t e = omega arith

-- by whether all the others pass, and whether the first does
suffix-all : (f : ℕ → Bool) (b : ℕ) (bs : List ℕ) → (suffix_len f bs == length bs) ≡ true → f b ≡ true →
    suffix_len f (b ∷ bs) ≡ suc (length bs)
suffix-all f b bs e k = suffix-more f b bs ∙ rw (e, k) (omega arith)

-- if the first does not
suffix-others : (f : ℕ → Bool) (b : ℕ) (bs : List ℕ) → (suffix_len f bs == length bs) ≡ true → f b ≡ false →
    suffix_len f (b ∷ bs) ≡ length bs
suffix-others f b bs e k = suffix-more f b bs ∙ rw (e, k) (omega arith)

-- and if not all the others do
suffix-same : (f : ℕ → Bool) (b : ℕ) (bs : List ℕ) → (suffix_len f bs == length bs) ≡ false →
    suffix_len f (b ∷ bs) ≡ suffix_len f bs
suffix-same f b bs e = suffix-more f b bs ∙ rw e refl

-- all pass, if so many do as there are
all-suffix : (f : ℕ → Bool) (bs : List ℕ) → list_all f bs ≡ (suffix_len f bs == length bs)
all-suffix f [] = refl
all-suffix f (b ∷ bs) = go (suffix_len f bs == length bs) refl (f b) refl (all-suffix f bs)
  where
    go : (x : Bool) → (suffix_len f bs == length bs) ≡ x → (y : Bool) → f b ≡ y →
        list_all f bs ≡ (suffix_len f bs == length bs) →
        (f b && list_all f bs) ≡ (suffix_len f (b ∷ bs) == suc (length bs))
    go true e true k h =
        ap₂ (λ (x y : Bool). x && y) k (h ∙ e)
        ∙ sym (eq-eqb (suffix_len f (b ∷ bs)) (suc (length bs)) (suffix-all f b bs e k))
    go true e false k h =
        ap (λ (x : Bool). x && list_all f bs) k
        ∙ sym (more-other (length bs) (length bs) (suffix_len f (b ∷ bs)) (omega arith) (suffix-others f b bs e k))
    go false e y k h =
        and_right (f b) (list_all f bs) (h ∙ e)
        ∙ sym
        (more-other (suffix_len f bs) (length bs) (suffix_len f (b ∷ bs)) (suffix_len-le-length f bs)
        (suffix-same f b bs e))

-- With one byte more in front: nothing is left of whitespace, and else that byte stays.
pub trim-more : (b : ℕ) (bs : List ℕ) → trim_end (b ∷ bs) ≡ cond (is_blank (b ∷ bs)) [] (b ∷ trim_end bs)
trim-more b bs = go (suffix_len is_white bs == length bs) refl (is_white b) refl
  where
    s : ℕ
    s = suffix_len is_white bs

    t : ℕ
    t = suffix_len is_white (b ∷ bs)

    blank : is_blank bs ≡ (suffix_len is_white bs == length bs)
    blank = all-suffix is_white bs

    left : List ℕ
    left = b ∷ trim_end bs

    go : (x : Bool) → (suffix_len is_white bs == length bs) ≡ x → (y : Bool) → is_white b ≡ y →
        trim_end (b ∷ bs) ≡ cond (is_white b && is_blank bs) [] (b ∷ trim_end bs)
    go true e true k =
        ap (λ (n : ℕ). take n (b ∷ bs)) (left-none (length bs) t (suffix-all is_white b bs e k))
        ∙ sym (ap₂ (λ (x y : Bool). cond (x && y) [] left) k (blank ∙ e))
    go true e false k =
        ap (λ (n : ℕ). take n (b ∷ bs))
        (left-one s (length bs) t (eqb-true s (length bs) e) (suffix-others is_white b bs e k))
        ∙ sym (ap (λ (x : Bool). cond (x && is_blank bs) [] left) k)
    go false e y k =
        ap (λ (n : ℕ). take n (b ∷ bs))
        (left-more s (length bs) t (suffix_len-le-length is_white bs) (suffix-same is_white b bs e))
        ∙ sym
        (ap (λ (x : Bool). cond x [] left) (and_right (is_white b) (is_blank bs) (blank ∙ e)))
