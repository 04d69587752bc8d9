-- Blocks that are grouped into lists, with one more at their end.
use Rattle.std.proofs.Common.{◌≡◌, ℕ, Bool, true, false, cond, refl, ap, sym, ◌∙◌}
use Rattle.std.specs.Prelude.{◌==◌, if◌then◌else◌, List}
use Rattle.std.proofs.lemmas.Bool.{eq-eqb, eqb-true}
use Rattle.md_meaning.specs.Grouped.{grouped, grouped_block, with_front, with_item}
use Rattle.md_meaning.specs.State.{then_block}
use Rattle.md_meaning.specs.Tree.{Block, Blocks, End, Item, ListOf, More}

-- no list
abbrev pub NoList : Block → Type 0
NoList (ListOf marker items) = ⊥
NoList _ = Unit {0}

abbrev pub NoLists : Blocks → Type 0
NoLists End = Unit {0}
NoLists (More b bs) = NoList b × NoLists bs

-- neither a list nor an item, so it parts lists
abbrev pub IsOther : Block → Type 0
IsOther (ListOf marker items) = ⊥
IsOther (Item marker digits blocks) = ⊥
IsOther _ = Unit {0}

-- what is not a list of this marker
abbrev pub IsNoListOf : ℕ → Block → Type 0
IsNoListOf marker (ListOf other items) = (other == marker) ≡ false
IsNoListOf marker _ = Unit {0}

-- blocks that were grouped, with an item more: in their last list if the marker is the same, else in a list of its own
abbrev pub with_last : ℕ → List ℕ → Blocks → Blocks → Blocks
with_last m d x End = More (ListOf m (More (Item m d x) End)) End
with_last m d x (More (ListOf k items) End) =
    if k == m then More (ListOf k (then_block items (Item m d x))) End
    else More (ListOf k items) (More (ListOf m (More (Item m d x) End)) End)
with_last m d x (More b bs) = More b (with_last m d x bs)

pub no-lists-then : (bs : Blocks) (b : Block) → NoLists bs → NoList b → NoLists (then_block bs b)
no-lists-then End b h k = (k, tt)
no-lists-then (More a bs) b h k = (h.0, no-lists-then bs b h.1 k)

no-list-grouped : (b : Block) → NoList b → NoList (grouped_block b)
no-list-grouped (ListOf marker items) h = h
no-list-grouped _ h = tt

-- An item more.

-- the one item before the other
two-items : (m : ℕ) (d : List ℕ) (x : Blocks) (k : ℕ) (e : List ℕ) (y : Blocks) (t : Bool) → (k == m) ≡ t →
    cond t (More (ListOf m (More (Item k e y) (More (Item m d x) End))) End)
    (More (ListOf k (More (Item k e y) End)) (More (ListOf m (More (Item m d x) End)) End))
    ≡ cond t (More (ListOf k (More (Item k e y) (More (Item m d x) End))) End)
    (More (ListOf k (More (Item k e y) End)) (More (ListOf m (More (Item m d x) End)) End))
two-items m d x k e y true h =
    ap (λ (j : ℕ). More (ListOf j (More (Item k e y) (More (Item m d x) End))) End) (sym (eqb-true k m h))
two-items m d x k e y false h = refl

-- an item before a list that has one more
one-list : (m : ℕ) (d : List ℕ) (x : Blocks) (k : ℕ) (e : List ℕ) (y : Blocks) (j : ℕ) (items : Blocks)
    (t u : Bool) → (j == m) ≡ t → (k == j) ≡ u →
    with_item k (Item k e y)
    (cond t (More (ListOf j (then_block items (Item m d x))) End)
    (More (ListOf j items) (More (ListOf m (More (Item m d x) End)) End)))
    ≡ with_last m d x
    (cond u (More (ListOf j (More (Item k e y) items)) End)
    (More (ListOf k (More (Item k e y) End)) (More (ListOf j items) End)))
one-list m d x k e y j items true true h i = rw (h, i) refl
one-list m d x k e y j items false true h i = rw (h, i) refl
one-list m d x k e y j items _ _ h i = rw (h, i) refl

-- an item before a list with blocks after it
more-lists : (m : ℕ) (d : List ℕ) (x : Blocks) (k : ℕ) (e : List ℕ) (y : Blocks) (j : ℕ) (items : Blocks) (b : Block)
    (bs : Blocks) (u : Bool) →
    cond u (More (ListOf j (More (Item k e y) items)) (with_last m d x (More b bs)))
    (More (ListOf k (More (Item k e y) End)) (More (ListOf j items) (with_last m d x (More b bs))))
    ≡ with_last m d x
    (cond u (More (ListOf j (More (Item k e y) items)) (More b bs))
    (More (ListOf k (More (Item k e y) End)) (More (ListOf j items) (More b bs))))
more-lists m d x k e y j items b bs true = refl
more-lists m d x k e y j items b bs false = refl

item-last : (m : ℕ) (d : List ℕ) (x : Blocks) (k : ℕ) (e : List ℕ) (y gs : Blocks) →
    with_item k (Item k e y) (with_last m d x gs) ≡ with_last m d x (with_item k (Item k e y) gs)
item-last m d x k e y End = two-items m d x k e y (k == m) refl
item-last m d x k e y (More (ListOf j items) End) = one-list m d x k e y j items (j == m) (k == j) refl refl
item-last m d x k e y (More (ListOf j items) (More b bs)) = more-lists m d x k e y j items b bs (k == j)
item-last m d x k e y (More _ gs) = refl

front-last : (m : ℕ) (d : List ℕ) (x : Blocks) (c : Block) → NoList c → (gs : Blocks) →
    with_front c (with_last m d x gs) ≡ with_last m d x (with_front c gs)
front-last m d x (Item k e y) h gs = item-last m d x k e y gs
front-last m d x (ListOf k items) h gs = absurd h
front-last m d x _ h gs = refl

-- blocks without lists are grouped with an item after them as they are without it, and the item then
pub grouped-item : (m : ℕ) (d : List ℕ) (x bs : Blocks) → NoLists bs →
    grouped (then_block bs (Item m d x)) ≡ with_last m d (grouped x) (grouped bs)
grouped-item m d x End h = refl
grouped-item m d x (More c bs) h =
    ap (with_front (grouped_block c)) (grouped-item m d x bs h.1)
    ∙ front-last m d (grouped x) (grouped_block c) (no-list-grouped c h.0) (grouped bs)

-- Another block more.

item-then : (k : ℕ) (e : List ℕ) (y gs : Blocks) (b : Block) → IsOther b →
    with_item k (Item k e y) (then_block gs b) ≡ then_block (with_item k (Item k e y) gs) b
item-then k e y End (ListOf marker items) h = absurd h
item-then k e y End (Item marker digits blocks) h = absurd h
item-then k e y End _ h = refl
item-then k e y (More (ListOf j items) gs) b h = go (k == j)
  where
    go : (u : Bool) →
        cond u (More (ListOf j (More (Item k e y) items)) (then_block gs b))
        (More (ListOf k (More (Item k e y) End)) (More (ListOf j items) (then_block gs b)))
        ≡ then_block
        (cond u (More (ListOf j (More (Item k e y) items)) gs)
        (More (ListOf k (More (Item k e y) End)) (More (ListOf j items) gs))) b
    go true = refl
    go false = refl
item-then k e y (More _ gs) b h = refl

front-then : (c : Block) (gs : Blocks) (b : Block) → IsOther b →
    with_front c (then_block gs b) ≡ then_block (with_front c gs) b
front-then (Item k e y) gs b h = item-then k e y gs b h
front-then _ gs b h = refl

other-grouped : (b : Block) → IsOther b → IsOther (grouped_block b)
other-grouped (ListOf marker items) h = h
other-grouped (Item marker digits bs) h = h
other-grouped _ h = tt

front-other : (b : Block) → IsOther b → with_front b End ≡ More b End
front-other (ListOf marker items) h = refl
front-other (Item marker digits bs) h = absurd h
front-other _ h = refl

-- a block that parts lists stays after them
pub grouped-other : (bs : Blocks) (b : Block) → IsOther b →
    grouped (then_block bs b) ≡ then_block (grouped bs) (grouped_block b)
grouped-other End b h = front-other (grouped_block b) (other-grouped b h)
grouped-other (More c bs) b h =
    ap (with_front (grouped_block c)) (grouped-other bs b h)
    ∙ front-then (grouped_block c) (grouped bs) (grouped_block b) (other-grouped b h)

-- The last of some blocks.

last-more : (m : ℕ) (d : List ℕ) (x : Blocks) (a b : Block) (bs : Blocks) →
    with_last m d x (More a (More b bs)) ≡ More a (with_last m d x (More b bs))
last-more m d x (ListOf k items) b bs = refl
last-more m d x _ b bs = refl

last-following : (m : ℕ) (d : List ℕ) (x : Blocks) (a : Block) (gs : Blocks) (b : Block) →
    with_last m d x (More a (then_block gs b)) ≡ More a (with_last m d x (then_block gs b))
last-following m d x a End b = last-more m d x a b End
last-following m d x a (More g gs) b = last-more m d x a g (then_block gs b)

-- an item goes into the last list if the marker is the same
pub last-same : (m : ℕ) (d : List ℕ) (x gs items : Blocks) →
    with_last m d x (then_block gs (ListOf m items)) ≡ then_block gs (ListOf m (then_block items (Item m d x)))
last-same m d x End items =
    ap
    (λ (t : Bool). cond t (More (ListOf m (then_block items (Item m d x))) End)
    (More (ListOf m items) (More (ListOf m (More (Item m d x) End)) End))) (eq-eqb m m refl)
last-same m d x (More g gs) items =
    last-following m d x g gs (ListOf m items) ∙ ap (More g) (last-same m d x gs items)

-- and has a list of its own after all else
pub last-apart : (m : ℕ) (d : List ℕ) (x gs : Blocks) (b : Block) → IsNoListOf m b →
    with_last m d x (then_block gs b) ≡ then_block (then_block gs b) (ListOf m (More (Item m d x) End))
last-apart m d x End (ListOf k items) h = rw h refl
last-apart m d x End _ h = refl
last-apart m d x (More g gs) b h = last-following m d x g gs b ∙ ap (More g) (last-apart m d x gs b h)

pub other-no-list : (m : ℕ) (b : Block) → IsOther b → IsNoListOf m (grouped_block b)
other-no-list m (ListOf marker items) h = absurd h
other-no-list m (Item marker digits bs) h = absurd h
other-no-list m _ h = tt

pub other-is-no-list : (b : Block) → IsOther b → NoList b
other-is-no-list (ListOf marker items) h = absurd h
other-is-no-list _ h = tt
