-- Emphasis only takes its items apart and puts them together: what holds of each of them holds of the whole.
use Rattle.std.proofs.Common.{◌≡◌, ℕ, zero, suc, ◌-◌, ◌<◌, Bool, true, false, cond, ◌&&◌, List, [], ◌∷◌, ◌++◌, refl, ap}
use Rattle.std.proofs.Common.{arith}
use Rattle.std.specs.Prelude.{◌==◌, not, nat_le, nat_lt, Option, Some, None, option_map}
use Rattle.std.proofs.lemmas.Bool.Decides.{nat_tests}
use Rattle.md_engine.specs.declared.event.Name.{Name}
use Rattle.md_engine.specs.declared.event.Name.TheVariants as n
use Rattle.md_events.specs.Events.Pieces.{is_piece_name}
use Rattle.md_meaning.specs.Ascii.{tilde}
use Rattle.md_inline_events.specs.Forest.{Forest, nothing, over, part, piece}
use Rattle.md_inlines.specs.declared.Run.{Run}
use Rattle.md_inlines.specs.Atoms.{beside, is_data}
use Rattle.md_inlines.specs.Emphasis.{Item, Pair, delimiters, emphasis, emphasis_at_most, enclosed, first_pair, level}
use Rattle.md_inlines.specs.Emphasis.{marked, may_pair, nearest, onto, or_pair, paired, read, run, shorter, used}
use Rattle.markdown_inlines.proofs.ReadableLemmas.{Solid, beside-solid, over-solid, part-readable, piece-some}
use Rattle.markdown_inlines.proofs.ReadableLemmas.{solid-readable}

-- what holds of what is there
abbrev pub Holds : {A : Type 0} → (A → Type 0) → Option A → Type 0
Holds P None = Unit {0}
Holds P (Some x) = P x

pub cond-holds : {A : Type 0} (P : A → Type 0) (t : Bool) (o p : Option A) → Holds P o → Holds P p →
    Holds P (cond t o p)
cond-holds P true o p h k = h
cond-holds P false o p h k = k

pub map-holds : {A B : Type 0} (P : B → Type 0) (f : A → B) (o : Option A) → ((x : A) → P (f x)) →
    Holds P (option_map f o)
map-holds P f None h = tt
map-holds P f (Some x) h = h x

-- it holds of what is read, and runs are not empty
abbrev pub Each : (Forest → Type 0) → List Item → Type 0
Each P [] = Unit {0}
Each P (read forest ∷ items) = P forest × Each P items
Each P (run r ∷ items) = (0 < r.left) × Each P items

pub each-append : (P : Forest → Type 0) (xs ys : List Item) → Each P xs → Each P ys → Each P (xs ++ ys)
each-append P [] ys h k = k
each-append P (read forest ∷ xs) ys h k = (h.0, each-append P xs ys h.1 k)
each-append P (run r ∷ xs) ys h k = (h.0, each-append P xs ys h.1 k)

each-onto : (P : Forest → Type 0) (before items : List Item) → Each P before → Each P items →
    Each P (onto before items)
each-onto P [] items h k = k
each-onto P (read forest ∷ before) items h k = each-onto P before (read forest ∷ items) h.1 (h.0, k)
each-onto P (run r ∷ before) items h k = each-onto P before (run r ∷ items) h.1 (h.0, k)

-- Two runs that pair.
record PairIs (P : Forest → Type 0) (pair : Pair) : Type 0 where
  before : Each P pair.before
  between : Each P pair.between
  after : Each P pair.after
  opener : 0 < pair.opener.left
  closer : 0 < pair.closer.left

nearest-each : (P : Forest → Type 0) (single : Bool) (closer : Run) (before between after : List Item) →
    0 < closer.left → Each P before → Each P between → Each P after →
    Holds (PairIs P) (nearest single closer before between after)
nearest-each P single closer [] between after some b m r = tt
nearest-each P single closer (read forest ∷ before) between after some b m r =
    nearest-each P single closer before (read forest ∷ between) after some b.1 (b.0, m) r
nearest-each P single closer (run opener ∷ before) between after some b m r =
    cond-holds (PairIs P) (may_pair single opener closer)
    (Some (record { before = before; opener = opener; between = between; closer = closer; after = after }))
    (nearest single closer before (run opener ∷ between) after)
    (record { before = b.1; between = m; after = r; opener = b.0; closer = some })
    (nearest-each P single closer before (run opener ∷ between) after some b.1 (b.0, m) r)

either-pair : (P : Forest → Type 0) (o p : Option Pair) → Holds (PairIs P) o → Holds (PairIs P) p →
    Holds (PairIs P) (or_pair o p)
either-pair P None p h k = k
either-pair P (Some pair) p h k = h

first-each : (P : Forest → Type 0) (single : Bool) (before items : List Item) → Each P before → Each P items →
    Holds (PairIs P) (first_pair single before items)
first-each P single before [] b g = tt
first-each P single before (read forest ∷ items) b g =
    first-each P single (read forest ∷ before) items (g.0, b) g.1
first-each P single before (run closer ∷ items) b g =
    either-pair P (nearest single closer before [] items) (first_pair single (run closer ∷ before) items)
    (nearest-each P single closer before [] items g.0 b tt g.1)
    (first-each P single (run closer ∷ before) items (g.0, b) g.1)

used-some : (pair : Pair) → 0 < pair.closer.left → 0 < used pair
used-some pair h =
    go (pair.closer.mark == tilde) (nat_le 2 pair.opener.left && nat_le 2 pair.closer.left)
  where
    go : (x y : Bool) → 0 < cond x pair.closer.left (cond y 2 1)
    go true y = h
    go false true = omega arith
    go false false = omega arith

shorter-each : (P : Forest → Type 0) (count : ℕ) (r : Run) → Each P (shorter count r)
shorter-each P count r = go (nat_lt count r.left) refl
  where
    go : (x : Bool) → nat_lt count r.left ≡ x →
        Each P
        (cond x
        (run (record { mark = r.mark; size = r.size; left = r.left - count; opens = r.opens; closes = r.closes }) ∷ [])
        [])
    go true is = let some : count < r.left = grind (arith, nat_tests) in (omega (arith, some), tt)
    go false is = tt

-- What holds of no bytes, is kept side by side and before text, and holds of a pair around that of which it holds.
module _ (P : Forest → Type 0) (none : P nothing) (besides : (a b : Forest) → P a → P b → P (beside a b))
    (texts : (count : ℕ) (following : Forest) → P following → P (over n.Data count following))
    (marks : (mark count : ℕ) (inside : Forest) → 0 < count → P inside → P (marked mark count inside)) where
  level-holds : (items : List Item) → Each P items → P (level items)
  level-holds [] g = none
  level-holds (read forest ∷ items) g = besides forest (level items) g.0 (level-holds items g.1)
  level-holds (run r ∷ items) g = texts r.left (level items) (level-holds items g.1)

  paired-each : (pair : Pair) → PairIs P pair → Each P (paired pair)
  paired-each pair f =
      let middle : Forest = marked pair.closer.mark (used pair) (level pair.between) in
      let after : List Item = shorter (used pair) pair.closer ++ pair.after in
      each-onto P pair.before (shorter (used pair) pair.opener ++ (read middle ∷ after)) f.before
      (each-append P (shorter (used pair) pair.opener) (read middle ∷ after)
      (shorter-each P (used pair) pair.opener) (
        marks pair.closer.mark (used pair) (level pair.between) (used-some pair f.closer)
            (level-holds pair.between f.between),
        each-append P (shorter (used pair) pair.closer) pair.after (shorter-each P (used pair) pair.closer) f.after,
      ))

  at-most-holds : (single : Bool) (more : ℕ) (items : List Item) → Each P items →
      P (emphasis_at_most single more items)
  at-most-holds single zero items g = level-holds items g
  at-most-holds single (suc more) items g =
      go (first_pair single [] items) (first-each P single [] items tt g)
      (λ (pair : Pair) (is : PairIs P pair). at-most-holds single more (paired pair) (paired-each pair is))
    where
      go : (o : Option Pair) → Holds (PairIs P) o →
          ((pair : Pair) → PairIs P pair → P (emphasis_at_most single more (paired pair))) →
          P
          (elim o as (λ (_ : Option Pair). Forest) [
            | None ↦ level items
            | Some pair ↦ emphasis_at_most single more (paired pair)
          ])
      go None is rec = level-holds items g
      go (Some pair) is rec = rec pair is

  pub emphasis-holds : (single : Bool) (items : List Item) → Each P items → P (emphasis single items)
  emphasis-holds single items g = at-most-holds single (delimiters items) items g

-- Emphasis over solid items is solid.

enclosed-solid : (whole sequence text : Name) (count : ℕ) (inside : Forest) → is_piece_name whole ≡ false →
    is_piece_name sequence ≡ true → is_data sequence ≡ false → is_piece_name text ≡ false → 0 < count →
    Solid inside → Solid (enclosed whole sequence text count inside)
enclosed-solid whole sequence text zero inside w s d t some h = absurd (omega (arith, some))
enclosed-solid whole sequence text (suc more) inside w s d t some h = (
  w,
  piece-some sequence more (part text inside (piece sequence more nothing)),
  (s, part-readable text inside (piece sequence more nothing) t (ap not d) (solid-readable inside h) (s, tt)),
  tt,
)

marked-solid : (mark count : ℕ) (inside : Forest) → 0 < count → Solid inside → Solid (marked mark count inside)
marked-solid mark count inside some h = go (mark == tilde) (count == 2)
  where
    go : (x y : Bool) →
        Solid
        (cond x (enclosed n.GfmStrikethrough n.GfmStrikethroughSequence n.GfmStrikethroughText count inside)
        (cond y (enclosed n.Strong n.StrongSequence n.StrongText count inside)
        (enclosed n.Emphasis n.EmphasisSequence n.EmphasisText count inside)))
    go true y =
        enclosed-solid n.GfmStrikethrough n.GfmStrikethroughSequence n.GfmStrikethroughText count inside refl refl refl
        refl some h
    go false true = enclosed-solid n.Strong n.StrongSequence n.StrongText count inside refl refl refl refl some h
    go false false =
        enclosed-solid n.Emphasis n.EmphasisSequence n.EmphasisText count inside refl refl refl refl some h

pub emphasis-solid : (single : Bool) (items : List Item) → Each Solid items → Solid (emphasis single items)
emphasis-solid single items g =
    emphasis-holds Solid tt beside-solid (λ count following h. over-solid n.Data count following refl h) marked-solid
    single items g
