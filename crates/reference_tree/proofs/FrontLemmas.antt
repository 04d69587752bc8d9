-- The closing fence of frontmatter, and the lines after it.
use Rattle.std.proofs.Common.{◌≡◌, ℕ, zero, suc, ◌+◌, ◌<◌, ◌≤◌, Bool, true, false, cond, not, ◌||◌, List, [], ◌∷◌, map}
use Rattle.std.proofs.Common.{length, take, drop, Some, None, refl, sym, ◌∙◌, ap, subst, arith}
use Rattle.std.proofs.lemmas.List.{drop-map, take-map, length-map}
use Rattle.std.specs.List.{list_any, prefix_len}
use Rattle.md_meaning.specs.Tree as t
use Rattle.md_meaning.specs.Rest as r
use Rattle.md_meaning.specs.Preamble as p
use Rattle.reference_tree.specs.declared.rest.Rest.{Rest}
use Rattle.reference_tree.specs.Fronts.{lines_in, IsEnd}
use Rattle.reference_tree.specs.Rests.{rest_meaning, rest_meanings}
use Rattle.md_meaning.proofs.LinesLemmas.{rests_at-zero}

-- one passes where those that do not are fewer than all
any-some : {A : Type 0} (f : A → Bool) (xs : List A) → prefix_len (λ x. not (f x)) xs < length xs → list_any f xs ≡ true
any-some f [] below = absurd (omega (arith, below))
any-some f (x ∷ xs) below = by (f x) (any-some f xs) below
  where
    by : (v : Bool) → (prefix_len (λ y. not (f y)) xs < length xs → list_any f xs ≡ true) →
        cond (not v) (1 + prefix_len (λ y. not (f y)) xs) 0 < length (x ∷ xs) → (v || list_any f xs) ≡ true
    by true h h' = refl
    by false h h' = h (omega (arith, h'))

any-none : {A : Type 0} (f : A → Bool) (xs : List A) → length xs ≤ prefix_len (λ x. not (f x)) xs →
    list_any f xs ≡ false
any-none f [] all = refl
any-none f (x ∷ xs) all = by (f x) (any-none f xs) all
  where
    by : (v : Bool) → (length xs ≤ prefix_len (λ y. not (f y)) xs → list_any f xs ≡ false) →
        length (x ∷ xs) ≤ cond (not v) (1 + prefix_len (λ y. not (f y)) xs) 0 → (v || list_any f xs) ≡ false
    by true h h' = absurd (omega (arith, h'))
    by false h h' = h (omega (arith, h'))

-- so many lines are before the first fence
abbrev pub fence_at : ℕ → List (List ℕ) → ℕ
fence_at m ls = prefix_len (λ l. not (p.is_front_fence m l)) ls

fence_at-lines : (m : ℕ) (rests : List Rest) →
    prefix_len (λ (x : Rest). not (p.is_front_fence m x.bytes.now)) rests ≡ fence_at m (lines_in rests)
fence_at-lines m [] = refl
fence_at-lines m (x ∷ rests) = ap (λ n. cond (not (p.is_front_fence m x.bytes.now)) (1 + n) 0) (fence_at-lines m rests)

-- there is no frontmatter without a closing fence
pub front_by-none : (m n : ℕ) (rests following : List Rest) →
    n ≡ prefix_len (λ (x : Rest). not (p.is_front_fence m x.bytes.now)) rests → length rests ≤ n →
    None ≡ p.front_by (Some m) (lines_in rests)
front_by-none m n rests following count all =
    let lines : length (lines_in rests) ≡ length rests = length-map rests (λ x. x.bytes.now) in
    let at : n ≡ fence_at m (lines_in rests) = count ∙ fence_at-lines m rests in
    sym
    (ap
    (λ v.
    cond v
    (Some
    (record {
      block = t.Frontmatter m (take (fence_at m (lines_in rests)) (lines_in rests));
      after = drop (fence_at m (lines_in rests) + 1) (lines_in rests);
    })) None)
    (any-none (p.is_front_fence m) (lines_in rests) (omega (arith, all, lines, at))))

-- the frontmatter up to the closing fence
pub front_by-some : (m n : ℕ) (rests inside after : List Rest) →
    n ≡ prefix_len (λ (x : Rest). not (p.is_front_fence m x.bytes.now)) rests → n < length rests →
    inside ≡ take n rests → after ≡ drop (n + 1) rests →
    Some (record { block = t.Frontmatter m (lines_in inside); after = lines_in after }) ≡
    p.front_by (Some m) (lines_in rests)
front_by-some m n rests inside after count below einside eafter =
    let lines : length (lines_in rests) ≡ length rests = length-map rests (λ x. x.bytes.now) in
    let at : n ≡ fence_at m (lines_in rests) = count ∙ fence_at-lines m rests in
    let front : lines_in inside ≡ take (fence_at m (lines_in rests)) (lines_in rests) = ap lines_in einside
    ∙ sym (take-map (λ x. x.bytes.now) n rests) ∙ ap (λ k. take k (lines_in rests)) at in
    let back : lines_in after ≡ drop (fence_at m (lines_in rests) + 1) (lines_in rests) = ap lines_in eafter
    ∙ sym (drop-map (λ x. x.bytes.now) (n + 1) rests) ∙ ap (λ k. drop (k + 1) (lines_in rests)) at in
    ap (λ ls. Some (record { block = t.Frontmatter m ls; after = lines_in after })) front
    ∙ ap
    (λ ls.
    Some (record { block = t.Frontmatter m (take (fence_at m (lines_in rests)) (lines_in rests)); after = ls })) back
    ∙ sym
    (ap
    (λ v.
    cond v
    (Some
    (record {
      block = t.Frontmatter m (take (fence_at m (lines_in rests)) (lines_in rests));
      after = drop (fence_at m (lines_in rests) + 1) (lines_in rests);
    })) None)
    (any-some (p.is_front_fence m) (lines_in rests) (omega (arith, below, lines, at))))

-- the lines after the one at this place
pub drop-next : {A : Type 0} (n : ℕ) (xs after : List A) (x : A) → drop n xs ≡ x ∷ after → after ≡ drop (n + 1) xs
drop-next zero [] after x e = absurd (cc)
drop-next zero (y ∷ ys) after x e = sym (ap (drop 1) e)
drop-next (suc n) [] after x e = absurd (cc)
drop-next (suc n) (y ∷ ys) after x e =
    let next : suc (n + 1) ≡ suc n + 1 = omega arith in
    subst (λ k. after ≡ drop k (y ∷ ys)) next (drop-next n ys after x e)

pub drop-below : {A : Type 0} (n : ℕ) (xs after : List A) (x : A) → drop n xs ≡ x ∷ after → n < length xs
drop-below zero [] after x e = absurd (cc)
drop-below zero (y ∷ ys) after x e = omega arith
drop-below (suc n) [] after x e = absurd (cc)
drop-below (suc n) (y ∷ ys) after x e = let below = drop-below n ys after x e in omega (arith, below)

pub drop-above : {A : Type 0} (n : ℕ) (xs : List A) → length (drop n xs) ≡ 0 → length xs ≤ n
drop-above zero xs e = omega (arith, e)
drop-above (suc n) [] e = omega arith
drop-above (suc n) (y ∷ ys) e = let above = drop-above n ys e in omega (arith, above)

-- the lines after the first begin at column 0
bytes-fresh : (ls : List (List ℕ)) → map (λ (x : r.Rest). x.bytes) (map (p.rest_at 0) ls) ≡ ls
bytes-fresh [] = refl
bytes-fresh (l ∷ ls) = ap (λ ks. l ∷ ks) (bytes-fresh ls)

bytes-meanings : (rests : List Rest) → map (λ (x : r.Rest). x.bytes) (rest_meanings rests) ≡ lines_in rests
bytes-meanings [] = refl
bytes-meanings (x ∷ rests) = ap (λ ks. x.bytes.now ∷ ks) (bytes-meanings rests)

fresh : (rests : List Rest) (ls : List (List ℕ)) → rest_meanings rests ≡ map (p.rest_at 0) ls →
    rest_meanings rests ≡ map (p.rest_at 0) (lines_in rests)
fresh rests ls e =
    e
    ∙ ap (map (p.rest_at 0)) (sym (bytes-fresh ls) ∙ sym (ap (map (λ (x : r.Rest). x.bytes)) e) ∙ bytes-meanings rests)

fresh-end : (n : ℕ) (rests after : List Rest) → rest_meanings rests ≡ map (p.rest_at 0) (lines_in rests) →
    after ≡ drop n rests → rest_meanings after ≡ p.rests_at 0 (lines_in after)
fresh-end n rests after e is =
    let dropped : rest_meanings (drop n rests) ≡ map (p.rest_at 0) (lines_in (drop n rests)) =
    sym (drop-map rest_meaning n rests) ∙ ap (drop n) e ∙ drop-map (p.rest_at 0) n (lines_in rests)
    ∙ ap (map (p.rest_at 0)) (drop-map (λ x. x.bytes.now) n rests) in
    ap rest_meanings is ∙ dropped ∙ sym (rests_at-zero (lines_in (drop n rests)))
    ∙ sym (ap (λ xs. p.rests_at 0 (lines_in xs)) is)

tail-of : (x y : r.Rest) (xs ys : List r.Rest) → x ∷ xs ≡ y ∷ ys → xs ≡ ys
tail-of x y xs ys e = ap (drop 1) e

-- and so those after frontmatter
pub rests_after : (column : ℕ) (ls : List (List ℕ)) (rests after : List Rest) →
    rest_meanings rests ≡ p.rests_at column ls → IsEnd (drop 1 rests) after →
    rest_meanings after ≡ p.rests_at 0 (lines_in after)
rests_after column ls [] after e following = fresh-end following.before [] after refl following.is
rests_after column [] (x ∷ rests) after e following = absurd (cc)
rests_after column (l ∷ ls) (x ∷ rests) after e following =
    fresh-end following.before rests after (fresh rests ls (tail-of _ _ _ _ e)) following.is

-- the lines of rests that begin at this column
pub lines_in-rests : (column : ℕ) (ls : List (List ℕ)) (rests : List Rest) →
    rest_meanings rests ≡ p.rests_at column ls → lines_in rests ≡ ls
lines_in-rests column [] rests e = sym (bytes-meanings rests) ∙ ap (map (λ (x : r.Rest). x.bytes)) e
lines_in-rests column (l ∷ ls) rests e =
    sym (bytes-meanings rests) ∙ ap (map (λ (x : r.Rest). x.bytes)) e ∙ ap (λ ks. l ∷ ks) (bytes-fresh ls)
