-- After a pair, the search for pairs may go on at the run that closed it: one pass gives the emphasis of a level.
use Rattle.std.proofs.Common.{◌≡◌, ℕ, zero, suc, ◌-◌, ◌<◌, ◌≤◌, Bool, true, false, cond, List, [], ◌∷◌, ◌++◌, refl, ap}
use Rattle.std.proofs.Common.{◌∙◌, subst, arith}
use Rattle.std.specs.Prelude.{◌||◌, ◌==◌, nat_lt, Option, Some, None}
use Rattle.std.proofs.lemmas.Bool.Decides.{nat_tests}
use Rattle.md_inline_events.specs.Forest.{Forest}
use Rattle.md_inlines.specs.declared.Run.{Run}
use Rattle.md_meaning.specs.Ascii.{tilde}
use Rattle.md_inlines.specs.Emphasis.{Item, Pair, delimiters, emphasis, emphasis_at_most, first_pair, level, marked}
use Rattle.md_inlines.specs.Emphasis.{may_pair, nearest, onto, or_pair, paired, read, run, shorter, used}
use Rattle.markdown_inlines.proofs.KeyLemmas.{closes-left, whole-tildes, with_left}

-- what is before the place where the search goes on, the last item first, and what is after it
abbrev pub kept_before : Pair → List Item
kept_before pair = shorter (used pair) pair.opener ++ pair.before

abbrev pub kept_after : Pair → List Item
kept_after pair =
    read (marked pair.closer.mark (used pair) (level pair.between)) ∷ shorter (used pair) pair.closer ++ pair.after

abbrev pub resumed_at_most : Bool → ℕ → List Item → List Item → Forest
resumed_at_most single zero before items = level (onto before items)
resumed_at_most single (suc more) before items = elim (first_pair single before items) [
  | None ↦ level (onto before items)
  | Some pair ↦ resumed_at_most single more (kept_before pair) (kept_after pair)
]

-- whether a run may close one of these
abbrev closes_any : Bool → Run → List Item → Bool
closes_any single closer [] = false
closes_any single closer (read forest ∷ before) = closes_any single closer before
closes_any single closer (run opener ∷ before) = may_pair single opener closer || closes_any single closer before

-- no run closes one before it
abbrev Settled : Bool → List Item → Type 0
Settled single [] = Unit {0}
Settled single (read forest ∷ before) = Settled single before
Settled single (run r ∷ before) = (closes_any single r before ≡ false) × Settled single before

none-nearest : (single : Bool) (closer : Run) (before between after : List Item) →
    closes_any single closer before ≡ false → nearest single closer before between after ≡ None
none-nearest single closer [] between after h = refl
none-nearest single closer (read forest ∷ before) between after h =
    none-nearest single closer before (read forest ∷ between) after h
none-nearest single closer (run opener ∷ before) between after h =
    go (may_pair single opener closer) h (none-nearest single closer before (run opener ∷ between) after)
  where
    go : (x : Bool) → x || closes_any single closer before ≡ false →
        (closes_any single closer before ≡ false →
        nearest single closer before (run opener ∷ between) after ≡ None) →
        cond x
        (Some (record { before = before; opener = opener; between = between; closer = closer; after = after }))
        (nearest single closer before (run opener ∷ between) after) ≡
        None
    go true h rec = cc
    go false h rec = rec h

nearest-none : (single : Bool) (closer : Run) (before between after : List Item) →
    nearest single closer before between after ≡ None → closes_any single closer before ≡ false
nearest-none single closer [] between after h = refl
nearest-none single closer (read forest ∷ before) between after h =
    nearest-none single closer before (read forest ∷ between) after h
nearest-none single closer (run opener ∷ before) between after h =
    go (may_pair single opener closer) h (nearest-none single closer before (run opener ∷ between) after)
  where
    go : (x : Bool) →
        cond x
        (Some (record { before = before; opener = opener; between = between; closer = closer; after = after }))
        (nearest single closer before (run opener ∷ between) after) ≡
        None →
        (nearest single closer before (run opener ∷ between) after ≡ None →
        closes_any single closer before ≡ false) →
        x || closes_any single closer before ≡ false
    go true h rec = cc
    go false h rec = rec h

-- after settled items the search goes on as from the front
first-settled : (single : Bool) (before items : List Item) → Settled single before →
    first_pair single [] (onto before items) ≡ first_pair single before items
first-settled single [] items h = refl
first-settled single (read forest ∷ before) items h = first-settled single before (read forest ∷ items) h
first-settled single (run r ∷ before) items h =
    first-settled single before (run r ∷ items) h.1
    ∙ ap (λ (o : Option Pair). or_pair o (first_pair single (run r ∷ before) items))
    (none-nearest single r before [] items h.0)

-- What a pair leaves before it is settled, and its runs may pair.

record Settles (single : Bool) (pair : Pair) : Type 0 where
  settled : Settled single (run pair.opener ∷ pair.before)
  pairs : may_pair single pair.opener pair.closer ≡ true

same-settles : (single : Bool) (p q : Pair) → Some p ≡ Some q → Settles single p → Settles single q
same-settles single p q h s =
    let same : p ≡ q = cc in
    subst (λ (r : Pair). Settles single r) same s

nearest-settled : (single : Bool) (closer : Run) (before between after : List Item) (pair : Pair) →
    nearest single closer before between after ≡ Some pair → Settled single before → Settles single pair
nearest-settled single closer [] between after pair h s = cc
nearest-settled single closer (read forest ∷ before) between after pair h s =
    nearest-settled single closer before (read forest ∷ between) after pair h s
nearest-settled single closer (run opener ∷ before) between after pair h s =
    go (may_pair single opener closer) refl h
    (λ h. nearest-settled single closer before (run opener ∷ between) after pair h s.1)
  where
    here : Pair
    here = record { before = before; opener = opener; between = between; closer = closer; after = after }

    go : (x : Bool) → may_pair single opener closer ≡ x →
        cond x (Some here) (nearest single closer before (run opener ∷ between) after) ≡ Some pair →
        (nearest single closer before (run opener ∷ between) after ≡ Some pair → Settles single pair) →
        Settles single pair
    go true is h rec = same-settles single here pair h (record { settled = s; pairs = is })
    go false is h rec = rec h

first-found : (single : Bool) (before items : List Item) (pair : Pair) → first_pair single before items ≡ Some pair →
    Settled single before → Settles single pair
first-found single before [] pair h s = cc
first-found single before (read forest ∷ items) pair h s =
    first-found single (read forest ∷ before) items pair h s
first-found single before (run closer ∷ items) pair h s =
    go (nearest single closer before [] items) refl h (first-found single (run closer ∷ before) items pair)
  where
    go : (o : Option Pair) → nearest single closer before [] items ≡ o →
        or_pair o (first_pair single (run closer ∷ before) items) ≡ Some pair →
        (first_pair single (run closer ∷ before) items ≡ Some pair → Settled single (run closer ∷ before) →
        Settles single pair) →
        Settles single pair
    go (Some found) is h rec = nearest-settled single closer before [] items pair (is ∙ h) s
    go None is h rec = rec h (nearest-none single closer before [] items is, s)

-- what is left of a run closes what it closed before
same-closes : (single : Bool) (r : Run) (left : ℕ) (before : List Item) → (r.mark == tilde) ≡ false →
    closes_any single (with_left r left) before ≡ closes_any single r before
same-closes single r left [] t = refl
same-closes single r left (read forest ∷ before) t = same-closes single r left before t
same-closes single r left (run opener ∷ before) t =
    ap (λ (x : Bool). x || closes_any single (with_left r left) before) (closes-left single opener r left t)
    ∙ ap (λ (x : Bool). may_pair single opener r || x) (same-closes single r left before t)

kept-settled : (single : Bool) (pair : Pair) → Settles single pair → Settled single (kept_before pair)
kept-settled single pair s = go (nat_lt (used pair) pair.opener.left) refl (pair.opener.mark == tilde) refl
  where
    left : ℕ
    left = pair.opener.left - used pair

    go : (x : Bool) → nat_lt (used pair) pair.opener.left ≡ x → (t : Bool) → (pair.opener.mark == tilde) ≡ t →
        Settled single (cond x (run (with_left pair.opener left) ∷ []) [] ++ pair.before)
    go false is t e = s.settled.1
    go true is false e =
        (same-closes single pair.opener left pair.before e ∙ s.settled.0, s.settled.1)
    go true is true e =
        let whole : pair.opener.left ≤ used pair = whole-tildes single pair.opener pair.closer s.pairs e in
        let less : used pair < pair.opener.left = grind (arith, nat_tests) in absurd (omega (arith, whole, less))

paired-onto : (pair : Pair) → paired pair ≡ onto (kept_before pair) (kept_after pair)
paired-onto pair = go (nat_lt (used pair) pair.opener.left)
  where
    rest : Item
    rest = run (with_left pair.opener (pair.opener.left - used pair))

    go : (x : Bool) →
        onto pair.before (cond x (rest ∷ []) [] ++ kept_after pair) ≡
        onto (cond x (rest ∷ []) [] ++ pair.before) (kept_after pair)
    go true = refl
    go false = refl

resumed-at-most : (single : Bool) (n : ℕ) (before items : List Item) → Settled single before →
    emphasis_at_most single n (onto before items) ≡ resumed_at_most single n before items
resumed-at-most single zero before items s = refl
resumed-at-most single (suc more) before items s =
    ap (λ (o : Option Pair). elim o [
      | None ↦ level (onto before items)
      | Some pair ↦ emphasis_at_most single more (paired pair)
    ]) (first-settled single before items s)
    ∙ go (first_pair single before items) refl
    (λ (pair : Pair). resumed-at-most single more (kept_before pair) (kept_after pair))
  where
    go : (o : Option Pair) → first_pair single before items ≡ o →
        ((pair : Pair) → Settled single (kept_before pair) →
        emphasis_at_most single more (onto (kept_before pair) (kept_after pair)) ≡
        resumed_at_most single more (kept_before pair) (kept_after pair)) →
        (elim o as (λ (_ : Option Pair). Forest) [
          | None ↦ level (onto before items)
          | Some pair ↦ emphasis_at_most single more (paired pair)
        ]) ≡
        (elim o as (λ (_ : Option Pair). Forest) [
          | None ↦ level (onto before items)
          | Some pair ↦ resumed_at_most single more (kept_before pair) (kept_after pair)
        ])
    go None is rec = refl
    go (Some pair) is rec =
        ap (emphasis_at_most single more) (paired-onto pair)
        ∙ rec pair (kept-settled single pair (first-found single before items pair is s))

-- One pass gives the emphasis of a level.
pub emphasis-resumed : (single : Bool) (items : List Item) →
    emphasis single items ≡ resumed_at_most single (delimiters items) [] items
emphasis-resumed single items = resumed-at-most single (delimiters items) [] items tt
