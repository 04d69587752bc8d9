-- Emphasis is over all bytes of its items, whatever the names of what is read are.
use Rattle.std.proofs.Common.{◌≡◌, ℕ, zero, suc, ◌+◌, ◌-◌, ◌<◌, ◌≤◌, Bool, true, false, cond, List, [], ◌∷◌, ◌++◌}
use Rattle.std.proofs.Common.{refl, ◌∙◌, subst, arith}
use Rattle.std.specs.Prelude.{◌==◌, nat_lt, Option, Some, None}
use Rattle.std.proofs.lemmas.Bool.Decides.{nat_tests}
use Rattle.md_engine.specs.declared.event.Name.TheVariants as n
use Rattle.md_meaning.specs.Ascii.{tilde}
use Rattle.md_inline_events.specs.Forest.{Forest, size}
use Rattle.md_inlines.specs.declared.Run.{Run}
use Rattle.md_inlines.specs.Emphasis.{Item, Pair, delimiters, emphasis, emphasis_at_most, enclosed, first_pair}
use Rattle.md_inlines.specs.Emphasis.{level, marked, may_pair, nearest, onto, or_pair, paired, read, run, shorter, used}
use Rattle.proof_inlines.specs.Sized.{items_size}
use Rattle.proof_inlines.proofs.EmphasisLemmas.{items-append}
use Rattle.markdown_inlines.specs.declared.attention.PlacedRun.{PlacedRun}
use Rattle.markdown_inlines.specs.declared.span.Span.{Span}
use Rattle.markdown_inlines.specs.Filled.{Filled, room}
use Rattle.markdown_inlines.proofs.KeyLemmas.{Uses, uses}
use Rattle.markdown_inlines.proofs.SpanLemmas.{enclosed-size, level-size}

-- runs are not empty
abbrev pub Runs : List Item → Type 0
Runs [] = Unit {0}
Runs (read forest ∷ items) = Runs items
Runs (run r ∷ items) = (0 < r.left) × Runs items

pub filled-runs : (at place : ℕ) (items : List Item) (spans : List Span) (runs : List PlacedRun) →
    Filled at place items spans runs → Runs items
filled-runs at place [] spans runs h = tt
filled-runs at place (read forest ∷ items) spans runs h = filled-runs (at + size forest) _ items h.1 runs h.4
filled-runs at place (run r ∷ items) spans runs h =
    (h.2, filled-runs (at + r.left) (place + room r) items h.0 h.1 h.5)

runs-append : (xs ys : List Item) → Runs xs → Runs ys → Runs (xs ++ ys)
runs-append [] ys h k = k
runs-append (read forest ∷ xs) ys h k = runs-append xs ys h k
runs-append (run r ∷ xs) ys h k = (h.0, runs-append xs ys h.1 k)

onto-size : (before items : List Item) → items_size (onto before items) ≡ items_size before + items_size items
onto-size [] items = omega arith
onto-size (item ∷ before) items = omega (arith, onto-size before (item ∷ items))

onto-runs : (before items : List Item) → Runs before → Runs items → Runs (onto before items)
onto-runs [] items h k = k
onto-runs (read forest ∷ before) items h k = onto-runs before (read forest ∷ items) h k
onto-runs (run r ∷ before) items h k = onto-runs before (run r ∷ items) h.1 (h.0, k)

-- Two runs that pair: together with the rest they have so many bytes.
record Fine (single : Bool) (pair : Pair) (count : ℕ) : Type 0 where
  sized : items_size pair.before
      + (pair.opener.left + (items_size pair.between + (pair.closer.left + items_size pair.after))) ≡ count
  before : Runs pair.before
  after : Runs pair.after
  opener : 0 < pair.opener.left
  closer : 0 < pair.closer.left
  pairs : may_pair single pair.opener pair.closer ≡ true

same-fine : (single : Bool) (p q : Pair) (count : ℕ) → Some p ≡ Some q → Fine single p count → Fine single q count
same-fine single p q count h f =
    let same : p ≡ q = cc in
    subst (λ (r : Pair). Fine single r count) same f

nearest-fine : (single : Bool) (closer : Run) (before between after : List Item) (pair : Pair) (count : ℕ) →
    0 < closer.left → Runs before → Runs after →
    items_size before + (items_size between + (closer.left + items_size after)) ≡ count →
    nearest single closer before between after ≡ Some pair → Fine single pair count
nearest-fine single closer [] between after pair count some b r total h = cc
nearest-fine single closer (read forest ∷ before) between after pair count some b r total h =
    nearest-fine single closer before (read forest ∷ between) after pair count some b r (omega (arith, total)) h
nearest-fine single closer (run opener ∷ before) between after pair count some b r total h =
    go (may_pair single opener closer) refl h
    (nearest-fine single closer before (run opener ∷ between) after pair count some b.1 r (omega (arith, total)))
  where
    here : Pair
    here = record { before = before; opener = opener; between = between; closer = closer; after = after }

    go : (x : Bool) → may_pair single opener closer ≡ x → cond x (Some here)
        (nearest single closer before (run opener ∷ between) after) ≡ Some pair →
        (nearest single closer before (run opener ∷ between) after ≡ Some pair → Fine single pair count) →
        Fine single pair count
    go true p h rec =
        same-fine single here pair count h
        (record { sized = omega (arith, total); before = b.1; after = r; opener = b.0; closer = some; pairs = p })
    go false p h rec = rec h

first-fine : (single : Bool) (before items : List Item) (pair : Pair) (count : ℕ) → Runs before → Runs items →
    items_size before + items_size items ≡ count → first_pair single before items ≡ Some pair → Fine single pair count
first-fine single before [] pair count b g total h = cc
first-fine single before (read forest ∷ items) pair count b g total h =
    first-fine single (read forest ∷ before) items pair count b g (omega (arith, total)) h
first-fine single before (run closer ∷ items) pair count b g total h =
    go (nearest single closer before [] items) refl h
    (first-fine single (run closer ∷ before) items pair count (g.0, b) g.1 (omega (arith, total)))
  where
    go : (o : Option Pair) → nearest single closer before [] items ≡ o →
        or_pair o (first_pair single (run closer ∷ before) items) ≡ Some pair →
        (first_pair single (run closer ∷ before) items ≡ Some pair → Fine single pair count) → Fine single pair count
    go (Some found) is h rec =
        nearest-fine single closer before [] items pair count g.0 b g.1 (omega (arith, total)) (is ∙ h)
    go None is h rec = rec h

shorter-size : (count : ℕ) (r : Run) → count ≤ r.left → items_size (shorter count r) + count ≡ r.left
shorter-size count r h = go (nat_lt count r.left) refl
  where
    go : (x : Bool) → nat_lt count r.left ≡ x →
        items_size
        (cond x
        (run (record { mark = r.mark; size = r.size; left = r.left - count; opens = r.opens; closes = r.closes }) ∷ [])
        [])
        + count ≡
        r.left
    go true is = omega (arith, h)
    go false is = let same : r.left ≤ count = grind (arith, nat_tests) in omega (arith, h, same)

shorter-runs : (count : ℕ) (r : Run) → Runs (shorter count r)
shorter-runs count r = go (nat_lt count r.left) refl
  where
    go : (x : Bool) → nat_lt count r.left ≡ x →
        Runs
        (cond x
        (run (record { mark = r.mark; size = r.size; left = r.left - count; opens = r.opens; closes = r.closes }) ∷ [])
        [])
    go true is = let some : count < r.left = grind (arith, nat_tests) in (omega (arith, some), tt)
    go false is = tt

marked-size : (mark count : ℕ) (inside : Forest) → size (marked mark count inside) ≡ count + (size inside + count)
marked-size mark count inside = go (mark == tilde) (count == 2)
  where
    go : (x y : Bool) →
        size
        (cond x (enclosed n.GfmStrikethrough n.GfmStrikethroughSequence n.GfmStrikethroughText count inside)
        (cond y (enclosed n.Strong n.StrongSequence n.StrongText count inside)
        (enclosed n.Emphasis n.EmphasisSequence n.EmphasisText count inside))) ≡
        count + (size inside + count)
    go true y = enclosed-size n.GfmStrikethrough n.GfmStrikethroughSequence n.GfmStrikethroughText count inside
    go false true = enclosed-size n.Strong n.StrongSequence n.StrongText count inside
    go false false = enclosed-size n.Emphasis n.EmphasisSequence n.EmphasisText count inside

paired-size : (single : Bool) (pair : Pair) (count : ℕ) → Fine single pair count → items_size (paired pair) ≡ count
paired-size single pair total f =
    let count : ℕ = used pair in
    let there : Uses pair.opener pair.closer = uses single pair.opener pair.closer f.pairs f.opener f.closer in
    let inside : Forest = level pair.between in
    let after : List Item = shorter count pair.closer ++ pair.after in
    let all : List Item = read (marked pair.closer.mark count inside) ∷ after in
    omega (
      arith,
      f.sized,
      onto-size pair.before (shorter count pair.opener ++ all),
      items-append (shorter count pair.opener) all,
      items-append (shorter count pair.closer) pair.after,
      shorter-size count pair.opener there.opener,
      shorter-size count pair.closer there.closer,
      marked-size pair.closer.mark count inside,
      level-size pair.between,
    )

paired-runs : (single : Bool) (pair : Pair) (count : ℕ) → Fine single pair count → Runs (paired pair)
paired-runs single pair total f =
    let count : ℕ = used pair in
    let middle : Item = read (marked pair.closer.mark count (level pair.between)) in
    onto-runs pair.before (shorter count pair.opener ++ (middle ∷ (shorter count pair.closer ++ pair.after))) f.before
    (runs-append (shorter count pair.opener) (middle ∷ (shorter count pair.closer ++ pair.after))
    (shorter-runs count pair.opener)
    (runs-append (shorter count pair.closer) pair.after (shorter-runs count pair.closer) f.after))

at-most-size : (single : Bool) (more : ℕ) (items : List Item) → Runs items →
    size (emphasis_at_most single more items) ≡ items_size items
at-most-size single zero items g = level-size items
at-most-size single (suc more) items g =
    go (first_pair single [] items) refl (λ (pair : Pair). at-most-size single more (paired pair))
  where
    go : (o : Option Pair) → first_pair single [] items ≡ o →
        ((pair : Pair) → Runs (paired pair) → size (emphasis_at_most single more (paired pair)) ≡
        items_size (paired pair)) →
        size
        (elim o as (λ (_ : Option Pair). Forest) [
          | None ↦ level items
          | Some pair ↦ emphasis_at_most single more (paired pair)
        ]) ≡
        items_size items
    go None is rec = level-size items
    go (Some pair) is rec =
        let fine : Fine single pair (items_size items) =
        first-fine single [] items pair (items_size items) tt g (omega arith) is in
        rec pair (paired-runs single pair (items_size items) fine)
        ∙ paired-size single pair (items_size items) fine

pub emphasis-size : (single : Bool) (items : List Item) → Runs items → size (emphasis single items) ≡ items_size items
emphasis-size single items g = at-most-size single (delimiters items) items g
