-- Emphasis is over each byte of its items once.
use Rattle.std.proofs.Common.{◌≡◌, ℕ, zero, suc, ◌+◌, ◌-◌, ◌<◌, ◌≤◌, Bool, true, false, cond, ◌&&◌, List, [], ◌∷◌, ◌++◌}
use Rattle.std.proofs.Common.{refl, ◌∙◌, subst, arith}
use Rattle.std.specs.Prelude.{◌==◌, ◌||◌, nat_le, nat_lt, Option, Some, None}
use Rattle.std.proofs.lemmas.Bool.{eqb-true}
use Rattle.std.proofs.lemmas.Bool.{and_parts}
use Rattle.std.proofs.lemmas.Bool.Decides.{nat_tests}
use Rattle.md_engine.specs.declared.event.Name.{Name}
use Rattle.md_engine.specs.declared.event.Name.TheVariants as n
use Rattle.md_meaning.specs.Ascii.{tilde}
use Rattle.md_inline_events.specs.Forest.{Forest, nothing, over, part, size}
use Rattle.md_inline_events.specs.Marks.{is_part_name}
use Rattle.md_inlines.specs.declared.Run.{Run}
use Rattle.md_inlines.specs.Emphasis.{Item, Pair, delimiters, emphasis, emphasis_at_most, enclosed, first_pair, level}
use Rattle.md_inlines.specs.Emphasis.{fit, marked, may_pair, nearest, onto, or_pair, paired, read, run, shorter, strike}
use Rattle.md_inlines.specs.Emphasis.{used}
use Rattle.proof_inlines.specs.Sized.{Good, Over, items_size}
use Rattle.proof_inlines.proofs.ContentForests.{beside-over, nothing-over, over-over, own, part-over, same-over}

pub items-append : (xs ys : List Item) → items_size (xs ++ ys) ≡ items_size xs + items_size ys
items-append [] ys = omega arith
items-append (item ∷ xs) ys = omega (arith, items-append xs ys)

pub good-append : (xs ys : List Item) → Good xs → Good ys → Good (xs ++ ys)
good-append [] ys h k = k
good-append (read forest ∷ xs) ys h k = (h.0, good-append xs ys h.1 k)
good-append (run r ∷ xs) ys h k = (h.0, good-append xs ys h.1 k)

onto-size : (before items : List Item) → items_size (onto before items) ≡ items_size before + items_size items
onto-size [] items = omega arith
onto-size (item ∷ before) items = omega (arith, onto-size before (item ∷ items))

onto-good : (before items : List Item) → Good before → Good items → Good (onto before items)
onto-good [] items h k = k
onto-good (read forest ∷ before) items h k = onto-good before (read forest ∷ items) h.1 (h.0, k)
onto-good (run r ∷ before) items h k = onto-good before (run r ∷ items) h.1 (h.0, k)

pub level-over : (items : List Item) → Good items → Over (level items) (items_size items)
level-over [] g = nothing-over
level-over (read forest ∷ items) g =
    beside-over forest (level items) (size forest) (items_size items) (own forest g.0) (level-over items g.1)
level-over (run r ∷ items) g = over-over n.Data r.left (level items) (items_size items) refl (level-over items g.1)

-- Two runs that pair: together with the rest they have so many bytes.
record Fine (single : Bool) (pair : Pair) (count : ℕ) : Type 0 where
  sized : items_size pair.before
      + (pair.opener.left + (items_size pair.between + (pair.closer.left + items_size pair.after))) ≡ count
  before : Good pair.before
  between : Good pair.between
  after : Good pair.after
  opener : 0 < pair.opener.left
  closer : 0 < pair.closer.left
  pairs : may_pair single pair.opener pair.closer ≡ true

same-fine : (single : Bool) (p q : Pair) (count : ℕ) → Some p ≡ Some q → Fine single p count → Fine single q count
same-fine single p q count h f =
    let same : p ≡ q = cc in
    subst (λ (r : Pair). Fine single r count) same f

nearest-fine : (single : Bool) (closer : Run) (before between after : List Item) (pair : Pair) (count : ℕ) →
    0 < closer.left → Good before → Good between → Good after →
    items_size before + (items_size between + (closer.left + items_size after)) ≡ count →
    nearest single closer before between after ≡ Some pair → Fine single pair count
nearest-fine single closer [] between after pair count some b m r total h = cc
nearest-fine single closer (read forest ∷ before) between after pair count some b m r total h =
    nearest-fine single closer before (read forest ∷ between) after pair count some b.1 (b.0, m) r
    (omega (arith, total))
    h
nearest-fine single closer (run opener ∷ before) between after pair count some b m r total h =
    go (may_pair single opener closer) refl h
    (nearest-fine single closer before (run opener ∷ between) after pair count some b.1 (b.0, m) r
    (omega (arith, total)))
  where
    here : Pair
    here = record { before = before; opener = opener; between = between; closer = closer; after = after }

    go : (x : Bool) → may_pair single opener closer ≡ x → cond x (Some here)
        (nearest single closer before (run opener ∷ between) after) ≡ Some pair →
        (nearest single closer before (run opener ∷ between) after ≡ Some pair → Fine single pair count) →
        Fine single pair count
    go true p h rec =
        same-fine single here pair count h
        (record {
          sized = omega (arith, total);
          before = b.1;
          between = m;
          after = r;
          opener = b.0;
          closer = some;
          pairs = p;
        })
    go false p h rec = rec h

first-fine : (single : Bool) (before items : List Item) (pair : Pair) (count : ℕ) → Good before → Good items →
    items_size before + items_size items ≡ count → first_pair single before items ≡ Some pair → Fine single pair count
first-fine single before [] pair count b g total h = cc
first-fine single before (read forest ∷ items) pair count b g total h =
    first-fine single (read forest ∷ before) items pair count (g.0, b) g.1 (omega (arith, total)) h
first-fine single before (run closer ∷ items) pair count b g total h =
    go (nearest single closer before [] items) refl h
    (first-fine single (run closer ∷ before) items pair count (g.0, b) g.1 (omega (arith, total)))
  where
    go : (o : Option Pair) → nearest single closer before [] items ≡ o →
        or_pair o (first_pair single (run closer ∷ before) items) ≡ Some pair →
        (first_pair single (run closer ∷ before) items ≡ Some pair → Fine single pair count) → Fine single pair count
    go (Some found) is h rec =
        nearest-fine single closer before [] items pair count g.0 b tt g.1 (omega (arith, total)) (is ∙ h)
    go None is h rec = rec h

two-left : (x : ℕ) → nat_le 2 x ≡ true → 2 ≤ x
two-left x h = grind (arith, nat_tests)

-- what a pair uses of its runs is there
record Room (pair : Pair) : Type 0 where
  opener : used pair ≤ pair.opener.left
  closer : used pair ≤ pair.closer.left

room : (single : Bool) (pair : Pair) → may_pair single pair.opener pair.closer ≡ true → 0 < pair.opener.left →
    0 < pair.closer.left → Room pair
room single pair h o c =
    go (pair.closer.mark == tilde)
    (and_parts
    ((pair.opener.mark == pair.closer.mark) && pair.opener.opens && pair.closer.closes)
    (cond (pair.closer.mark == tilde) (strike single pair.opener pair.closer) (fit pair.opener pair.closer)) h).1
    refl
  where
    both : (x y : Bool) → nat_le 2 pair.opener.left ≡ x → nat_le 2 pair.closer.left ≡ y →
        (cond (x && y) 2 1 ≤ pair.opener.left) × (cond (x && y) 2 1 ≤ pair.closer.left)
    both true true p q = (two-left pair.opener.left p, two-left pair.closer.left q)
    both true false p q = (omega (arith, o), omega (arith, c))
    both false y p q = (omega (arith, o), omega (arith, c))

    go : (t : Bool) → cond t (strike single pair.opener pair.closer) (fit pair.opener pair.closer) ≡ true →
        (pair.closer.mark == tilde) ≡ t → Room pair
    go true s e =
        let parts : ((pair.opener.left == pair.closer.left) ≡ true) ×
        (((pair.closer.left == 2) || ((pair.closer.left == 1) && single)) ≡ true) =
        and_parts (pair.opener.left == pair.closer.left)
        ((pair.closer.left == 2) || ((pair.closer.left == 1) && single)) s in
        let same : pair.opener.left ≡ pair.closer.left = eqb-true pair.opener.left pair.closer.left parts.0 in
        let whole : used pair ≡ pair.closer.left = rw e refl in
        record { opener = omega (arith, same, whole); closer = omega (arith, whole) }
    go false s e =
        let some : used pair ≡ cond (nat_le 2 pair.opener.left && nat_le 2 pair.closer.left) 2 1 = rw e refl in
        let enough = both (nat_le 2 pair.opener.left) (nat_le 2 pair.closer.left) refl refl in
        record { opener = omega (arith, some, enough.0); closer = omega (arith, some, enough.1) }

shorter-size : (count : ℕ) (r : Run) → count ≤ r.left → items_size (shorter count r) + count ≡ r.left
shorter-size count r h = go (nat_lt count r.left) refl
  where
    go : (x : Bool) → nat_lt count r.left ≡ x →
        items_size
        (cond x
        (run (record { mark = r.mark; size = r.size; left = r.left - count; opens = r.opens; closes = r.closes }) ∷ [])
        [])
        + count ≡
        r.left
    go true is = omega (arith, h)
    go false is = let same : r.left ≤ count = grind (arith, nat_tests) in omega (arith, h, same)

shorter-good : (count : ℕ) (r : Run) → Good (shorter count r)
shorter-good count r = go (nat_lt count r.left) refl
  where
    go : (x : Bool) → nat_lt count r.left ≡ x →
        Good
        (cond x
        (run (record { mark = r.mark; size = r.size; left = r.left - count; opens = r.opens; closes = r.closes }) ∷ [])
        [])
    go true is = let some : count < r.left = grind (arith, nat_tests) in (omega (arith, some), tt)
    go false is = tt

enclosed-over : (whole sequence text : Name) (count len : ℕ) (inside : Forest) → is_part_name whole ≡ true →
    is_part_name sequence ≡ true → is_part_name text ≡ true → Over inside len →
    Over (enclosed whole sequence text count inside) (count + (len + count))
enclosed-over whole sequence text count len inside w s t f =
    let last : Over (over sequence count nothing) (count + 0) = over-over sequence count nothing 0 s nothing-over in
    let middle : Over (part text inside (over sequence count nothing)) (len + (count + 0)) =
    part-over text inside (over sequence count nothing) len (count + 0) t f last in
    let all : Over (over sequence count (part text inside (over sequence count nothing)))
    (count + (len + (count + 0))) =
    over-over sequence count (part text inside (over sequence count nothing)) (len + (count + 0)) s middle in
    same-over (enclosed whole sequence text count inside) (count + (len + (count + 0)) + 0) (count + (len + count))
    (omega arith)
    (part-over whole (over sequence count (part text inside (over sequence count nothing))) nothing
    (count + (len + (count + 0))) 0 w all nothing-over)

marked-over : (mark count len : ℕ) (inside : Forest) → Over inside len →
    Over (marked mark count inside) (count + (len + count))
marked-over mark count len inside f = go (mark == tilde) (count == 2)
  where
    go : (x y : Bool) →
        Over
        (cond x (enclosed n.GfmStrikethrough n.GfmStrikethroughSequence n.GfmStrikethroughText count inside)
        (cond y (enclosed n.Strong n.StrongSequence n.StrongText count inside)
        (enclosed n.Emphasis n.EmphasisSequence n.EmphasisText count inside)))
        (count + (len + count))
    go true y =
        enclosed-over n.GfmStrikethrough n.GfmStrikethroughSequence n.GfmStrikethroughText count len inside refl refl
        refl f
    go false true = enclosed-over n.Strong n.StrongSequence n.StrongText count len inside refl refl refl f
    go false false = enclosed-over n.Emphasis n.EmphasisSequence n.EmphasisText count len inside refl refl refl f

paired-size : (single : Bool) (pair : Pair) (count : ℕ) → Fine single pair count → items_size (paired pair) ≡ count
paired-size single pair total f =
    let count : ℕ = used pair in
    let there : Room pair = room single pair f.pairs f.opener f.closer in
    let inner : Over (level pair.between) (items_size pair.between) = level-over pair.between f.between in
    let middle : Over (marked pair.closer.mark count (level pair.between)) (count + (items_size pair.between + count)) =
    marked-over pair.closer.mark count (items_size pair.between) (level pair.between) inner in
    let after : List Item = shorter count pair.closer ++ pair.after in
    let all : List Item = read (marked pair.closer.mark count (level pair.between)) ∷ after in
    omega (
      arith,
      f.sized,
      onto-size pair.before (shorter count pair.opener ++ all),
      items-append (shorter count pair.opener) all,
      items-append (shorter count pair.closer) pair.after,
      shorter-size count pair.opener there.opener,
      shorter-size count pair.closer there.closer,
      middle.sized,
    )

paired-good : (single : Bool) (pair : Pair) (count : ℕ) → Fine single pair count → Good (paired pair)
paired-good single pair total f =
    let count : ℕ = used pair in
    let inner : Over (level pair.between) (items_size pair.between) = level-over pair.between f.between in
    let middle : Over (marked pair.closer.mark count (level pair.between)) (count + (items_size pair.between + count)) =
    marked-over pair.closer.mark count (items_size pair.between) (level pair.between) inner in
    let after : List Item = shorter count pair.closer ++ pair.after in
    onto-good pair.before
    (shorter count pair.opener ++ (read (marked pair.closer.mark count (level pair.between)) ∷ after)) f.before
    (good-append (shorter count pair.opener) (read (marked pair.closer.mark count (level pair.between)) ∷ after)
    (shorter-good count pair.opener)
    (middle.names, good-append (shorter count pair.closer) pair.after (shorter-good count pair.closer) f.after))

pub emphasis-at-most : (single : Bool) (more : ℕ) (items : List Item) → Good items →
    Over (emphasis_at_most single more items) (items_size items)
emphasis-at-most single zero items g = level-over items g
emphasis-at-most single (suc more) items g =
    go (first_pair single [] items) refl (λ (pair : Pair). emphasis-at-most single more (paired pair))
  where
    go : (o : Option Pair) → first_pair single [] items ≡ o →
        ((pair : Pair) → Good (paired pair) → Over (emphasis_at_most single more (paired pair))
        (items_size (paired pair))) →
        Over
        (elim o as (λ (_ : Option Pair). Forest) [
          | None ↦ level items
          | Some pair ↦ emphasis_at_most single more (paired pair)
        ])
        (items_size items)
    go None is rec = level-over items g
    go (Some pair) is rec =
        let fine : Fine single pair (items_size items) =
        first-fine single [] items pair (items_size items) tt g (omega arith) is in
        same-over (emphasis_at_most single more (paired pair)) (items_size (paired pair)) (items_size items)
        (paired-size single pair (items_size items) fine)
        (rec pair (paired-good single pair (items_size items) fine))

-- emphasis is over all bytes of its items
pub emphasis-over : (single : Bool) (items : List Item) → Good items → Over (emphasis single items) (items_size items)
emphasis-over single items g = emphasis-at-most single (delimiters items) items g
