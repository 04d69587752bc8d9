-- Blocks that are grouped one after another.
use Rattle.std.proofs.Common.{◌≡◌, ◌≢◌, ℕ, Bor, Vec, Global, Bool, true, false, cond, ◌==◌, List, [], ◌∷◌, ◌++◌, length}
use Rattle.std.proofs.Common.{refl, sym, ◌∙◌, ap, subst, arith}
use Rattle.std.proofs.lemmas.Bool.Decides.{nat_tests}
use Rattle.std.proofs.lemmas.Bool.{eqb-true}
use Rattle.md_meaning.specs.Tree as t
use Rattle.md_meaning.specs.Grouped.{with_item, with_front}
use Rattle.reference_tree.specs.declared.tree.Block.{Block}
use Rattle.reference_tree.specs.declared.tree.Block.TheVariants as b
use Rattle.reference_tree.specs.declared.tree.Block.TheOpen as layer
use Rattle.reference_tree.specs.declared.tree.Block.TheOpen.{Block-F}
use Rattle.reference_tree.specs.declared.tree.Block.TheViews.{out-Block, roll-Block, roll-out-Block}
use Rattle.reference_tree.specs.Trees.{meaning, meanings, block_step}
use Rattle.reference_tree.specs.Groups.{then_blocks, with_items}
use Rattle.reference_tree.specs.declared.tree.Block.TheFolds.{fold-roll-Block}

eqb-same : (n : ℕ) → (n == n) ≡ true
eqb-same n = grind (arith, nat_tests)

then_blocks-assoc : (xs ys zs : t.Blocks) → then_blocks (then_blocks xs ys) zs ≡ then_blocks xs (then_blocks ys zs)
then_blocks-assoc t.End ys zs = refl
then_blocks-assoc (t.More x xs) ys zs = ap (t.More x) (then_blocks-assoc xs ys zs)

pub then_blocks-end : (xs : t.Blocks) → then_blocks xs t.End ≡ xs
then_blocks-end t.End = refl
then_blocks-end (t.More x xs) = ap (t.More x) (then_blocks-end xs)

pub meanings-append : (xs ys : List Block) → meanings (xs ++ ys) ≡ then_blocks (meanings xs) (meanings ys)
meanings-append [] ys = refl
meanings-append (x ∷ xs) ys = ap (t.More (meaning x)) (meanings-append xs ys)

with_items-append : (m : ℕ) (is js bs : t.Blocks) →
    with_items m (then_blocks is js) bs ≡ with_items m is (with_items m js bs)
with_items-append m t.End js bs = refl
with_items-append m (t.More i is) js bs = ap (with_item m i) (with_items-append m is js bs)

-- an item joins onto a list with its marker
with_item-list : (m : ℕ) (i : t.Block) (is bs : t.Blocks) →
    with_item m i (t.More (t.ListOf m is) bs) ≡ t.More (t.ListOf m (t.More i is)) bs
with_item-list m i is bs =
    ap
    (λ v.
    cond v (t.More (t.ListOf m (t.More i is)) bs) (t.More (t.ListOf m (t.More i t.End)) (t.More (t.ListOf m is) bs)))
    (eqb-same m)

-- items before a list with their marker join it
pub with_items-list : (m : ℕ) (is js bs : t.Blocks) →
    with_items m is (t.More (t.ListOf m js) bs) ≡ t.More (t.ListOf m (then_blocks is js)) bs
with_items-list m t.End js bs = refl
with_items-list m (t.More i is) js bs =
    ap (with_item m i) (with_items-list m is js bs) ∙ with_item-list m i (then_blocks is js) bs

-- items with this marker do not join onto these blocks
abbrev pub Apart : ℕ → t.Blocks → Type 0
Apart m bs = (i : t.Block) → with_item m i bs ≡ t.More (t.ListOf m (t.More i t.End)) bs

-- so they are a list of their own
with_items-own : (m : ℕ) (i : t.Block) (is bs : t.Blocks) → Apart m bs →
    with_items m (t.More i is) bs ≡ t.More (t.ListOf m (t.More i is)) bs
with_items-own m i t.End bs apart = apart i
with_items-own m i (t.More j is) bs apart =
    ap (with_item m i) (with_items-own m j is bs apart) ∙ with_item-list m i (t.More j is) bs

with_items-apart : (m : ℕ) (is bs : t.Blocks) → Apart m bs → with_items m is bs ≡ then_blocks (with_items m is t.End) bs
with_items-apart m t.End bs apart = refl
with_items-apart m (t.More i is) bs apart =
    with_items-own m i is bs apart ∙ sym (ap (λ cs. then_blocks cs bs) (with_items-own m i is t.End (λ j. refl)))

apart-list : (m n : ℕ) (is bs : t.Blocks) → (m == n) ≡ false → Apart m (t.More (t.ListOf n is) bs)
apart-list m n is bs other i =
    ap
    (λ v.
    cond v (t.More (t.ListOf n (t.More i is)) bs) (t.More (t.ListOf m (t.More i t.End)) (t.More (t.ListOf n is) bs)))
    other

-- an item with another marker is in a list with that marker
apart-item : (m n : ℕ) (j : t.Block) (bs : t.Blocks) → (m == n) ≡ false → Apart m (with_item n j bs)
apart-item m n j t.End other = apart-list m n (t.More j t.End) t.End other
apart-item m n j (t.More (t.ListOf k is) bs) other = by (n == k) refl
  where
    by : (v : Bool) → (n == k) ≡ v →
        Apart m
        (cond v (t.More (t.ListOf k (t.More j is)) bs)
        (t.More (t.ListOf n (t.More j t.End)) (t.More (t.ListOf k is) bs)))
    by true e = apart-list m k (t.More j is) bs (subst (λ x. (m == x) ≡ false) (eqb-true n k e) other)
    by false e = apart-list m n (t.More j t.End) (t.More (t.ListOf k is) bs) other
apart-item m n j (t.More _ bs) other = apart-list m n (t.More j t.End) (t.More _ bs) other

-- a block that is neither a list nor an item
abbrev pub is_other : t.Block → Bool
is_other (t.ListOf m is) = false
is_other (t.Item m digits bs) = false
is_other _ = true

apart-other : (m : ℕ) (b : t.Block) (bs : t.Blocks) → is_other b ≡ true → Apart m (t.More b bs)
apart-other m (t.ListOf n is) bs e = absurd (cc)
apart-other m (t.Item x y z) bs e = absurd (cc)
apart-other m _ bs e = λ i. refl

-- so is a block of the program that is neither
pub other-block : (x : Block) → ((m : ℕ) (bs : Vec Block Global) → x ≢ b.ListOf m bs) →
    ((m : ℕ) (digits : Bor (List ℕ)) (bs : Vec Block Global) → x ≢ b.Item m digits bs) → is_other (meaning x) ≡ true
other-block x no_list no_item = by (out-Block x) refl
  where
    by : (l : Block-F Block) → out-Block x ≡ l → is_other (meaning x) ≡ true
    by (layer.ListOf m bs) e = absurd (no_list m bs (sym (roll-out-Block x) ∙ ap roll-Block e ∙ b.rolls-ListOf m bs))
    by (layer.Item m digits bs) e =
        absurd (no_item m digits bs (sym (roll-out-Block x) ∙ ap roll-Block e ∙ b.rolls-Item m digits bs))
    by _ e =
        ap is_other
        (ap meaning (sym (roll-out-Block x) ∙ ap roll-Block e) ∙ fold-roll-Block t.Block block_step _)

with_front-other : (b : t.Block) (bs : t.Blocks) → is_other b ≡ true → with_front b bs ≡ t.More b bs
with_front-other (t.Item x y z) bs e = absurd (cc)
with_front-other _ bs e = refl

-- what was flushed, and then blocks onto which its items do not join
flushed-then : (m : ℕ) (done is flushed bs : t.Blocks) → flushed ≡ then_blocks done (with_items m is t.End) →
    Apart m bs → then_blocks flushed bs ≡ then_blocks done (with_items m is bs)
flushed-then m done is flushed bs e apart =
    ap (λ cs. then_blocks cs bs) e ∙ then_blocks-assoc done (with_items m is t.End) bs
    ∙ ap (then_blocks done) (sym (with_items-apart m is bs apart))

-- items that are there become a list
pub flushed-items : (m : ℕ) (done : t.Blocks) (items : List Block) → (length items == 0) ≡ false →
    then_blocks done (t.More (t.ListOf m (meanings items)) t.End) ≡
    then_blocks done (with_items m (meanings items) t.End)
flushed-items m done [] some = absurd (cc)
flushed-items m done (i ∷ items) some =
    ap (then_blocks done) (sym (with_items-own m (meaning i) (meanings items) t.End (λ j. refl)))

pub flushed-none : (m : ℕ) (done : t.Blocks) (items : List Block) → (length items == 0) ≡ true →
    done ≡ then_blocks done (with_items m (meanings items) t.End)
flushed-none m done [] none = sym (then_blocks-end done)
flushed-none m done (i ∷ items) none = absurd (grind (arith, nat_tests, none))

-- one block after those that are done
pub then_blocks-push : (bs : t.Blocks) (old new : List Block) (b : Block) → new ≡ old ++ b ∷ [] →
    then_blocks (meanings new) bs ≡ then_blocks (meanings old) (t.More (meaning b) bs)
then_blocks-push bs old new b e =
    ap (λ cs. then_blocks (meanings cs) bs) e ∙ ap (λ cs. then_blocks cs bs) (meanings-append old (b ∷ []))
    ∙ then_blocks-assoc (meanings old) (t.More (meaning b) t.End) bs

-- one item more with the marker
pub with_items-push : (m : ℕ) (done bs : t.Blocks) (old new : List Block) (b : Block) → new ≡ old ++ b ∷ [] →
    then_blocks done (with_items m (meanings new) bs) ≡
    then_blocks done (with_items m (meanings old) (with_item m (meaning b) bs))
with_items-push m done bs old new b e =
    ap (λ cs. then_blocks done (with_items m (meanings cs) bs)) e
    ∙ ap (λ cs. then_blocks done (with_items m cs bs)) (meanings-append old (b ∷ []))
    ∙ ap (then_blocks done) (with_items-append m (meanings old) (t.More (meaning b) t.End) bs)

-- an item with another marker, after what was flushed
pub flushed-item : (m n : ℕ) (done is flushed bs : t.Blocks) (j : t.Block) →
    flushed ≡ then_blocks done (with_items m is t.End) → (m == n) ≡ false →
    then_blocks flushed (with_item n j bs) ≡ then_blocks done (with_items m is (with_item n j bs))
flushed-item m n done is flushed bs j e other =
    flushed-then m done is flushed (with_item n j bs) e (apart-item m n j bs other)

pub flushed-list : (m n : ℕ) (done is flushed js bs : t.Blocks) → flushed ≡ then_blocks done (with_items m is t.End) →
    (m == n) ≡ false →
    then_blocks flushed (t.More (t.ListOf n js) bs) ≡ then_blocks done (with_items m is (t.More (t.ListOf n js) bs))
flushed-list m n done is flushed js bs e other =
    flushed-then m done is flushed (t.More (t.ListOf n js) bs) e (apart-list m n js bs other)

pub flushed-other : (m : ℕ) (done is flushed bs : t.Blocks) (b : t.Block) →
    flushed ≡ then_blocks done (with_items m is t.End) → is_other b ≡ true →
    then_blocks flushed (t.More b bs) ≡ then_blocks done (with_items m is (with_front b bs))
flushed-other m done is flushed bs b e other =
    flushed-then m done is flushed (t.More b bs) e (apart-other m b bs other)
    ∙ ap (λ cs. then_blocks done (with_items m is cs)) (sym (with_front-other b bs other))
