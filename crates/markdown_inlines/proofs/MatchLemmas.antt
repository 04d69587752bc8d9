-- Matching runs from left to right, filling places, gives the emphasis of a level.
use Rattle.std.proofs.Common.{◌≡◌, ℕ, zero, suc, ◌+◌, ◌-◌, ◌*◌, ◌<◌, ◌≤◌, Bool, true, false, cond, List, [], ◌∷◌, ◌++◌}
use Rattle.std.proofs.Common.{length, refl, ap, sym, ◌∙◌, subst, append_assoc, arith}
use Rattle.std.specs.Prelude.{◌==◌, nat_lt, Option, Some, None}
use Rattle.std.proofs.lemmas.Bool.Decides.{nat_tests}
use Rattle.std.proofs.lemmas.List.{append-nil, length-append}
use Rattle.md_engine.specs.declared.event.Name.TheVariants as n
use Rattle.md_meaning.specs.Ascii.{tilde}
use Rattle.md_inline_events.specs.Forest.{Forest, size}
use Rattle.md_inlines.specs.declared.Run.{Run}
use Rattle.md_inlines.specs.Atoms.{is_data}
use Rattle.md_inlines.specs.Emphasis.{Item, Pair, delimiters, emphasis, enclosed, first_pair, level, marked, may_pair}
use Rattle.md_inlines.specs.Emphasis.{nearest, onto, or_pair, read, run, shorter}
use Rattle.proof_inlines.specs.Sized.{items_size}
use Rattle.markdown_inlines.specs.declared.attention.Names.{Names}
use Rattle.markdown_inlines.specs.declared.attention.PlacedRun.{PlacedRun}
use Rattle.markdown_inlines.specs.declared.span.Span.{Span}
use Rattle.markdown_inlines.specs.Filled.{Filled, Shows, fill_pair, placed, room, shorter_run, width}
use Rattle.markdown_inlines.specs.Matching.{Near, filled_by, kept, names_of, taken}
use Rattle.markdown_inlines.specs.Spans.{holes, live, spans_forest}
use Rattle.markdown_inlines.proofs.KeyLemmas.{Uses, pairing, uses, with_left}
use Rattle.markdown_inlines.proofs.PairLemmas.{Filling, pair-core, shorter-filled}
use Rattle.markdown_inlines.proofs.ResumedLemmas.{emphasis-resumed, kept_after, kept_before, resumed_at_most}
use Rattle.markdown_inlines.proofs.SpanLemmas.{filled-append, filled-level, length-holes, moved, spans-at}

-- The matching without bounds: openers, the nearest first, and the runs ahead.

abbrev pub opener_of : Bool → Run → List PlacedRun → Option Near
opener_of single closer [] = None
opener_of single closer (entry ∷ openers) =
    cond (may_pair single entry.run closer) (Some (record { opener = entry; others = openers }))
    (opener_of single closer openers)

-- the openers and the runs ahead after a pair
abbrev pub openers_after : ℕ → Near → List PlacedRun
openers_after count near = shorter_run near.opener.run count near.opener.first near.opener.place ++ near.others

abbrev pub ahead_after : ℕ → PlacedRun → List PlacedRun → List PlacedRun
ahead_after count closer ahead =
    shorter_run closer.run count (closer.first + count) (closer.place + count * width closer.run.opens) ++ ahead

abbrev pub matched : Bool → ℕ → List PlacedRun → List PlacedRun → List Span → List Span
matched single zero openers ahead spans = spans
matched single (suc more) openers [] spans = spans
matched single (suc more) openers (closer ∷ ahead) spans = elim (opener_of single closer.run openers) [
  | None ↦ matched single more (kept closer.run.opens closer openers) ahead spans
  | Some near ↦
      let count : ℕ = taken near.opener.run closer.run in
      matched single more (openers_after count near) (ahead_after count closer ahead)
      (filled_by count near.opener closer spans)
]

-- The items that are passed, the last first, their spans after others, and those of their runs that may open.
abbrev pub Passed : ℕ → List Span → List Item → List Span → List PlacedRun → Type 0
Passed at pre [] spans openers = (spans ≡ pre) × (openers ≡ [])
Passed at pre (read forest ∷ before) spans openers =
    (front : List Span) × (own : List Span) × (spans ≡ front ++ own)
    × (live own ≡ spans_forest (at + items_size before) forest) × Passed at pre before front openers
Passed at pre (run r ∷ before) spans openers =
    (front : List Span) × (others : List PlacedRun) × (0 < r.left) × (spans ≡ front ++ holes (room r))
    × (openers ≡ kept r.opens (placed r (at + items_size before) (length front)) others)
    × Passed at pre before front others

-- Where nothing is left to match.

same-shows : (at : ℕ) (pre : List Span) (f g : Forest) (xs ys : List Span) → f ≡ g → xs ≡ ys → Shows at pre f xs →
    Shows at pre g ys
same-shows at pre f g xs ys h k d =
    subst (λ (forest : Forest). Shows at pre forest ys) h (subst (λ (l : List Span). Shows at pre f l) k d)

passed-level : (at : ℕ) (pre : List Span) (before items : List Item) (front back : List Span)
    (openers ahead : List PlacedRun) → Passed at pre before front openers →
    Filled (at + items_size before) (length front) items back ahead →
    Shows at pre (level (onto before items)) (front ++ back)
passed-level at pre [] items front back openers ahead p f =
    record {
      own = back;
      same = ap (λ (l : List Span). l ++ back) p.0;
      shown = filled-level at (length front) items back ahead
          (moved (at + 0) at (length front) (length front) items back ahead (omega arith) refl f);
    }
passed-level at pre (read forest ∷ before) items front back openers ahead p f =
    same-shows at pre _ _ (p.0 ++ (p.1 ++ back)) (front ++ back) refl
    (sym (append_assoc p.0 p.1 back) ∙ sym (ap (λ (l : List Span). l ++ back) p.2))
    (passed-level at pre before (read forest ∷ items) p.0 (p.1 ++ back) openers ahead p.4 (
      p.1,
      back,
      refl,
      p.3,
      moved (at + (size forest + items_size before)) ((at + items_size before) + size forest) (length front)
          (length p.0 + length p.1) items back ahead (omega arith)
          (ap length p.2 ∙ length-append p.0 p.1) f,
    ))
passed-level at pre (run r ∷ before) items front back openers ahead p f =
    same-shows at pre _ _ (p.0 ++ (holes (room r) ++ back)) (front ++ back) refl
    (sym (append_assoc p.0 (holes (room r)) back) ∙ sym (ap (λ (l : List Span). l ++ back) p.3))
    (passed-level at pre before (run r ∷ items) p.0 (holes (room r) ++ back) p.1
    (placed r (at + items_size before) (length p.0) ∷ ahead) p.5 (
      back,
      ahead,
      p.2,
      refl,
      refl,
      moved (at + (r.left + items_size before)) ((at + items_size before) + r.left) (length front)
          (length p.0 + room r) items back ahead (omega arith)
          (let long : length front ≡ length (p.0 ++ holes (room r)) = ap length p.3 in
          omega (arith, long, length-append p.0 (holes (room r)), length-holes (room r))) f,
    ))

-- The nearest run that may be closed.

abbrev pair_of : List Item → Run → List Item → Run → List Item → Pair
pair_of before opener between closer after =
    record { before = before; opener = opener; between = between; closer = closer; after = after }

record Found (single : Bool) (at : ℕ) (pre : List Span) (closer : Run) (before between after : List Item) (pair : Pair)
    (spans : List Span) (openers : List PlacedRun) : Type 0 where
  early : List Item
  opener : Run
  inner : List Item
  front : List Span
  mid : List Span
  others : List PlacedRun
  inside : List PlacedRun
  is : pair_of early opener inner closer after ≡ pair
  same : spans ≡ front ++ (holes (room opener) ++ mid)
  passed : Passed at pre early front others
  mids : Filled ((at + items_size early) + opener.left) (length front + room opener) inner mid inside
  some : 0 < opener.left
  pairs : may_pair single opener closer ≡ true
  found : opener_of single closer openers ≡
      Some (record { opener = placed opener (at + items_size early) (length front); others = others })
  fewer : delimiters early + opener.left ≤ delimiters before
  sized : items_size early + (opener.left + items_size inner) ≡ items_size before + items_size between

some-pair : (p q : Pair) → Some p ≡ Some q → p ≡ q
some-pair p q h = cc

-- a run that may not open is no opener
kept-opener : (single : Bool) (closer r : Run) (x : Bool) (first place : ℕ) (others : List PlacedRun) → r.opens ≡ x →
    may_pair single r closer ≡ false →
    opener_of single closer (kept x (placed r first place) others) ≡ opener_of single closer others
kept-opener single closer r false first place others is never = refl
kept-opener single closer r true first place others is never =
    ap (λ (x : Bool). cond x (Some (record { opener = placed r first place; others = others }))
    (opener_of single closer others)) never

nearest-found : (single : Bool) (at : ℕ) (pre : List Span) (closer : Run) (before between after : List Item)
    (pair : Pair) (front mid : List Span) (openers inside : List PlacedRun) → Passed at pre before front openers →
    Filled (at + items_size before) (length front) between mid inside →
    nearest single closer before between after ≡ Some pair →
    Found single at pre closer before between after pair (front ++ mid) openers
nearest-found single at pre closer [] between after pair front mid openers inside p f h = cc
nearest-found single at pre closer (read forest ∷ before) between after pair front mid openers inside p f h =
    let inner : Found single at pre closer before (read forest ∷ between) after pair (p.0 ++ (p.1 ++ mid)) openers =
    nearest-found single at pre closer before (read forest ∷ between) after pair p.0 (p.1 ++ mid) openers inside p.4 (
      p.1,
      mid,
      refl,
      p.3,
      moved (at + (size forest + items_size before)) ((at + items_size before) + size forest) (length front)
          (length p.0 + length p.1) between mid inside (omega arith) (ap length p.2 ∙ length-append p.0 p.1) f,
    ) h in
    record {
      early = inner.early;
      opener = inner.opener;
      inner = inner.inner;
      front = inner.front;
      mid = inner.mid;
      others = inner.others;
      inside = inner.inside;
      is = inner.is;
      same = ap (λ (l : List Span). l ++ mid) p.2 ∙ append_assoc p.0 p.1 mid ∙ inner.same;
      passed = inner.passed;
      mids = inner.mids;
      some = inner.some;
      pairs = inner.pairs;
      found = inner.found;
      fewer = inner.fewer;
      sized = omega (arith, inner.sized);
    }
nearest-found single at pre closer (run r ∷ before) between after pair front mid openers inside p f h =
    go (may_pair single r closer) refl h
    (nearest-found single at pre closer before (run r ∷ between) after pair p.0 (holes (room r) ++ mid) p.1
    (placed r (at + items_size before) (length p.0) ∷ inside) p.5 (mid, inside, p.2, refl, refl, moved-mid))
  where
    entry : PlacedRun
    entry = placed r (at + items_size before) (length p.0)

    moved-mid : Filled ((at + items_size before) + r.left) (length p.0 + room r) between mid inside
    moved-mid =
        moved (at + (r.left + items_size before)) ((at + items_size before) + r.left) (length front)
        (length p.0 + room r) between mid inside (omega arith)
        (let long : length front ≡ length (p.0 ++ holes (room r)) = ap length p.3 in
        omega (arith, long, length-append p.0 (holes (room r)), length-holes (room r))) f

    spans-same : front ++ mid ≡ p.0 ++ (holes (room r) ++ mid)
    spans-same = ap (λ (l : List Span). l ++ mid) p.3 ∙ append_assoc p.0 (holes (room r)) mid

    go : (x : Bool) → may_pair single r closer ≡ x →
        cond x (Some (pair_of before r between closer after)) (nearest single closer before (run r ∷ between) after) ≡
        Some pair →
        (nearest single closer before (run r ∷ between) after ≡ Some pair →
        Found single at pre closer before (run r ∷ between) after pair (p.0 ++ (holes (room r) ++ mid)) p.1) →
        Found single at pre closer (run r ∷ before) between after pair (front ++ mid) openers
    go true is h rec =
        let opens : r.opens ≡ true = (pairing single r closer is).opens in
        record {
          early = before;
          opener = r;
          inner = between;
          front = p.0;
          mid = mid;
          others = p.1;
          inside = inside;
          is = some-pair (pair_of before r between closer after) pair h;
          same = spans-same;
          passed = p.5;
          mids = moved-mid;
          some = p.2;
          pairs = is;
          found = ap (opener_of single closer) (p.4 ∙ ap (λ (x : Bool). kept x entry p.1) opens)
              ∙ ap (λ (x : Bool). cond x (Some (record { opener = entry; others = p.1 })) (opener_of single closer p.1))
              is;
          fewer = omega arith;
          sized = omega arith;
        }
    go false is h rec =
        let inner : Found single at pre closer before (run r ∷ between) after pair (p.0 ++ (holes (room r) ++ mid))
        p.1 = rec h in
        record {
          early = inner.early;
          opener = inner.opener;
          inner = inner.inner;
          front = inner.front;
          mid = inner.mid;
          others = inner.others;
          inside = inner.inside;
          is = inner.is;
          same = spans-same ∙ inner.same;
          passed = inner.passed;
          mids = inner.mids;
          some = inner.some;
          pairs = inner.pairs;
          found = ap (opener_of single closer) p.4
              ∙ kept-opener single closer r r.opens (at + items_size before) (length p.0) p.1 refl is ∙ inner.found;
          fewer = omega (arith, inner.fewer);
          sized = omega (arith, inner.sized);
        }

nearest-none : (single : Bool) (at : ℕ) (pre : List Span) (closer : Run) (before between after : List Item)
    (front : List Span) (openers : List PlacedRun) → Passed at pre before front openers →
    nearest single closer before between after ≡ None → opener_of single closer openers ≡ None
nearest-none single at pre closer [] between after front openers p h = ap (opener_of single closer) p.1
nearest-none single at pre closer (read forest ∷ before) between after front openers p h =
    nearest-none single at pre closer before (read forest ∷ between) after p.0 openers p.4 h
nearest-none single at pre closer (run r ∷ before) between after front openers p h =
    go (may_pair single r closer) refl h
    (nearest-none single at pre closer before (run r ∷ between) after p.0 p.1 p.5)
  where
    go : (x : Bool) → may_pair single r closer ≡ x →
        cond x (Some (pair_of before r between closer after)) (nearest single closer before (run r ∷ between) after) ≡
        None →
        (nearest single closer before (run r ∷ between) after ≡ None → opener_of single closer p.1 ≡ None) →
        opener_of single closer openers ≡ None
    go true is h rec = cc
    go false is h rec =
        ap (opener_of single closer) p.4
        ∙ kept-opener single closer r r.opens (at + items_size before) (length p.0) p.1 refl is ∙ rec h

-- What is left of an opener is passed.
shorter-passed : (at : ℕ) (pre : List Span) (r : Run) (count : ℕ) (before : List Item) (front : List Span)
    (others : List PlacedRun) → r.opens ≡ true → count ≤ r.left → Passed at pre before front others →
    Passed at pre (shorter count r ++ before) (front ++ holes ((r.left - count) * width r.opens))
    (shorter_run r count (at + items_size before) (length front) ++ others)
    × (items_size (shorter count r ++ before) + count ≡ r.left + items_size before)
    × (delimiters (shorter count r ++ before) + count ≡ r.left + delimiters before)
shorter-passed at pre r count before front others opens h p = go (nat_lt count r.left) refl
  where
    rest : Run
    rest = with_left r (r.left - count)

    go : (x : Bool) → nat_lt count r.left ≡ x →
        Passed at pre (cond x (run rest ∷ []) [] ++ before) (front ++ holes ((r.left - count) * width r.opens))
        (cond x (placed rest (at + items_size before) (length front) ∷ []) [] ++ others)
        × (items_size (cond x (run rest ∷ []) [] ++ before) + count ≡ r.left + items_size before)
        × (delimiters (cond x (run rest ∷ []) [] ++ before) + count ≡ r.left + delimiters before)
    go true is =
        let some : count < r.left = grind (arith, nat_tests) in (
          (
            front,
            others,
            omega (arith, some),
            refl,
            sym
                (ap (λ (x : Bool). kept x (placed rest (at + items_size before) (length front)) others) opens),
            p,
          ),
          omega (arith, some),
          omega (arith, some),
        )
    go false is =
        let same : r.left ≤ count = grind (arith, nat_tests) in
        let none : (r.left - count) * width r.opens ≡ 0 = none-left (r.left - count) r.opens (omega (arith, same)) in (
          subst (λ (l : List Span). Passed at pre before l others)
              (sym (ap (λ (n : ℕ). front ++ holes n) none ∙ append-nil front)) p,
          omega (arith, h, same),
          omega (arith, h, same),
        )
      where
        none-left : (left : ℕ) (x : Bool) → left ≡ 0 → left * width x ≡ 0
        none-left left true h = omega (arith, h)
        none-left left false h = omega (arith, h)

shorter-delimiters : (r : Run) (count : ℕ) (items : List Item) → count ≤ r.left →
    delimiters (shorter count r ++ items) + count ≡ r.left + delimiters items
shorter-delimiters r count items h = go (nat_lt count r.left) refl
  where
    go : (x : Bool) → nat_lt count r.left ≡ x →
        delimiters (cond x (run (with_left r (r.left - count)) ∷ []) [] ++ items) + count ≡ r.left + delimiters items
    go true is = let some : count < r.left = grind (arith, nat_tests) in omega (arith, some)
    go false is = let same : r.left ≤ count = grind (arith, nat_tests) in omega (arith, h, same)

-- What the definition does meanwhile.

resumed-end : (single : Bool) (m : ℕ) (before : List Item) →
    resumed_at_most single m before [] ≡ level (onto before [])
resumed-end single zero before = refl
resumed-end single (suc m) before = refl

resumed-read : (single : Bool) (m : ℕ) (before items : List Item) (forest : Forest) →
    resumed_at_most single m (read forest ∷ before) items ≡ resumed_at_most single m before (read forest ∷ items)
resumed-read single zero before items forest = refl
resumed-read single (suc m) before items forest = refl

abbrev next_of : Bool → ℕ → List Item → List Item → Option Pair → Forest
next_of single m before items o = elim o [
  | None ↦ level (onto before items)
  | Some pair ↦ resumed_at_most single m (kept_before pair) (kept_after pair)
]

resumed-none : (single : Bool) (m : ℕ) (before items : List Item) (r : Run) → nearest single r before [] items ≡ None →
    resumed_at_most single m (run r ∷ before) items ≡ resumed_at_most single m before (run r ∷ items)
resumed-none single zero before items r h = refl
resumed-none single (suc m) before items r h =
    sym
    (ap (λ (o : Option Pair). next_of single m before (run r ∷ items)
    (or_pair o (first_pair single (run r ∷ before) items))) h)

resumed-some : (single : Bool) (m : ℕ) (before items : List Item) (r : Run) (pair : Pair) →
    nearest single r before [] items ≡ Some pair →
    resumed_at_most single (suc m) before (run r ∷ items) ≡
    resumed_at_most single m (kept_before pair) (kept_after pair)
resumed-some single m before items r pair h =
    ap (λ (o : Option Pair). next_of single m before (run r ∷ items)
    (or_pair o (first_pair single (run r ∷ before) items))) h

-- what the matching does at a run
abbrev pub at_run : Bool → ℕ → List PlacedRun → PlacedRun → List PlacedRun → List Span → Option Near → List Span
at_run single more openers closer ahead spans o = elim o [
  | None ↦ matched single more (kept closer.run.opens closer openers) ahead spans
  | Some near ↦
      let count : ℕ = taken near.opener.run closer.run in
      matched single more (openers_after count near) (ahead_after count closer ahead)
      (filled_by count near.opener closer spans)
]

fill-same : (names : Names) (count start place : ℕ) (a b c d : ℕ) (xs ys : List Span) → a ≡ b → c ≡ d → xs ≡ ys →
    fill_pair names count start a place c xs ≡ fill_pair names count start b place d ys
fill-same names count start place a b c d xs ys h k l =
    ap (λ (n : ℕ). fill_pair names count start n place c xs) h
    ∙ ap (λ (n : ℕ). fill_pair names count start b place n xs) k
    ∙ ap (λ (n : List Span). fill_pair names count start b place d n) l

-- the part of a pair, by its names
by-names : (mark count : ℕ) (inside : Forest) →
    enclosed (names_of mark count).whole (names_of mark count).sequence (names_of mark count).text count inside ≡
    marked mark count inside
by-names mark count inside = go (mark == tilde) (count == 2)
  where
    all : Names → Forest
    all names = enclosed names.whole names.sequence names.text count inside

    go : (x y : Bool) →
        all
        (cond x
        (record {
          whole = n.GfmStrikethrough;
          sequence = n.GfmStrikethroughSequence;
          text = n.GfmStrikethroughText;
        })
        (cond y (record { whole = n.Strong; sequence = n.StrongSequence; text = n.StrongText })
        (record { whole = n.Emphasis; sequence = n.EmphasisSequence; text = n.EmphasisText }))) ≡
        cond x (enclosed n.GfmStrikethrough n.GfmStrikethroughSequence n.GfmStrikethroughText count inside)
        (cond y (enclosed n.Strong n.StrongSequence n.StrongText count inside)
        (enclosed n.Emphasis n.EmphasisSequence n.EmphasisText count inside))
    go true y = refl
    go false true = refl
    go false false = refl

no-data : (mark count : ℕ) → is_data (names_of mark count).sequence ≡ false
no-data mark count = go (mark == tilde) (count == 2)
  where
    unmarked : Names → Type 0
    unmarked names = is_data names.sequence ≡ false

    go : (x y : Bool) →
        unmarked
        (cond x
        (record {
          whole = n.GfmStrikethrough;
          sequence = n.GfmStrikethroughSequence;
          text = n.GfmStrikethroughText;
        })
        (cond y (record { whole = n.Strong; sequence = n.StrongSequence; text = n.StrongText })
        (record { whole = n.Emphasis; sequence = n.EmphasisSequence; text = n.EmphasisText })))
    go true y = refl
    go false true = refl
    go false false = refl

-- The matching of runs keeps the relation: what is after the spans in front is what the definition gives.
matched-same : (single : Bool) (n m at : ℕ) (pre : List Span) (before items : List Item) (front back : List Span)
    (openers ahead : List PlacedRun) → Passed at pre before front openers →
    Filled (at + items_size before) (length front) items back ahead →
    delimiters before + (delimiters items + delimiters items) < n → delimiters before + delimiters items ≤ m →
    Shows at pre (resumed_at_most single m before items) (matched single n openers ahead (front ++ back))
matched-same single zero m at pre before items front back openers ahead p f h k = absurd (omega (arith, h))
matched-same single (suc n) m at pre before [] front back openers ahead p f h k =
    same-shows at pre (level (onto before [])) (resumed_at_most single m before []) (front ++ back)
    (matched single (suc n) openers ahead (front ++ back)) (sym (resumed-end single m before))
    (sym (ap (λ (l : List PlacedRun). matched single (suc n) openers l (front ++ back)) f.1))
    (passed-level at pre before [] front back openers ahead p f)
matched-same single (suc n) m at pre before (read forest ∷ items) front back openers ahead p f h k =
    same-shows at pre _ _ (matched single (suc n) openers ahead ((front ++ f.0) ++ f.1)) _
    (resumed-read single m before items forest)
    (ap (matched single (suc n) openers ahead)
    (append_assoc front f.0 f.1 ∙ sym (ap (λ (l : List Span). front ++ l) f.2)))
    (matched-same single (suc n) m at pre (read forest ∷ before) items (front ++ f.0) f.1 openers ahead
    (front, f.0, refl, f.3, p)
    (moved ((at + items_size before) + size forest) (at + (size forest + items_size before))
    (length front + length f.0) (length (front ++ f.0)) items f.1 ahead (omega arith)
    (sym (length-append front f.0)) f.4) h k)
matched-same single (suc n) zero at pre before (run r ∷ items) front back openers ahead p f h k =
    absurd (omega (arith, k, f.2))
matched-same single (suc n) (suc m) at pre before (run r ∷ items) front back openers ahead p f h k =
    same-shows at pre _ _ (at_run single n openers entry f.1 spans (opener_of single r openers))
    (matched single (suc n) openers ahead (front ++ back)) refl
    (sym (ap (λ (l : List PlacedRun). matched single (suc n) openers l spans) f.4))
    (go (nearest single r before [] items) refl (matched-same single n))
  where
    entry : PlacedRun
    entry = placed r (at + items_size before) (length front)

    spans : List Span
    spans = front ++ back

    spans-same : spans ≡ front ++ (holes (room r) ++ f.0)
    spans-same = ap (λ (l : List Span). front ++ l) f.3

    go : (o : Option Pair) → nearest single r before [] items ≡ o →
        ((m at : ℕ) (pre : List Span) (before items : List Item) (front back : List Span)
        (openers ahead : List PlacedRun) → Passed at pre before front openers →
        Filled (at + items_size before) (length front) items back ahead →
        delimiters before + (delimiters items + delimiters items) < n → delimiters before + delimiters items ≤ m →
        Shows at pre (resumed_at_most single m before items) (matched single n openers ahead (front ++ back))) →
        Shows at pre (resumed_at_most single (suc m) before (run r ∷ items))
        (at_run single n openers entry f.1 spans (opener_of single r openers))
    go None is rec =
        same-shows at pre (resumed_at_most single (suc m) (run r ∷ before) items) _
        (matched single n (kept r.opens entry openers) f.1 ((front ++ holes (room r)) ++ f.0)) _
        (resumed-none single (suc m) before items r is)
        (ap (matched single n (kept r.opens entry openers) f.1)
        (append_assoc front (holes (room r)) f.0 ∙ sym spans-same)
        ∙ sym
        (ap (at_run single n openers entry f.1 spans)
        (nearest-none single at pre r before [] items front openers p is)))
        (rec (suc m) at pre (run r ∷ before) items (front ++ holes (room r)) f.0 (kept r.opens entry openers) f.1
        (front, openers, f.2, refl, refl, p)
        (moved ((at + items_size before) + r.left) (at + (r.left + items_size before)) (length front + room r)
        (length (front ++ holes (room r))) items f.0 f.1 (omega arith)
        (omega (arith, length-append front (holes (room r)), length-holes (room r))) f.5)
        (omega (arith, h, f.2)) (omega (arith, k)))
    go (Some pair) is rec =
        same-shows at pre
        (resumed_at_most single m (shorter c fd.opener ++ fd.early) (read marks ∷ (shorter c r ++ items))) _
        (matched single n eo ec ((fd.front ++ holes ka) ++ (core.own ++ (holes kb ++ f.0)))) _
        (ap (λ (f : Forest). resumed_at_most single m (shorter c fd.opener ++ fd.early)
        (read f ∷ (shorter c r ++ items))) (by-names r.mark c (level fd.inner))
        ∙ ap (λ (q : Pair). resumed_at_most single m (kept_before q) (kept_after q)) fd.is
        ∙ sym (resumed-some single m before items r pair is))
        (ap (matched single n eo ec)
        (append_assoc fd.front (holes ka) (core.own ++ (holes kb ++ f.0)) ∙ sym core.same
        ∙ fill-same names c (b + (fd.opener.left - c)) (length fd.front + ka)
        ((b + fd.opener.left) + items_size fd.inner) entry.first
        ((length fd.front + room fd.opener) + length fd.mid) entry.place whole spans
        (omega (arith, fd.sized)) (sym front-long) (sym whole-same))
        ∙ sym (ap (at_run single n openers entry f.1 spans) fd.found))
        (rec m at pre (shorter c fd.opener ++ fd.early) (read marks ∷ (shorter c r ++ items)) (fd.front ++ holes ka)
        (core.own ++ (holes kb ++ f.0)) eo ec sp.0 (
          core.own,
          holes kb ++ f.0,
          refl,
          core.shows ∙ spans-at marks (b + (fd.opener.left - c)) x (omega (arith, sp.1, counts.opener)),
          filled-append (x + size marks) (y + length core.own) (shorter c r) items (holes kb) f.0
              (shorter_run r c (entry.first + c) (entry.place + c * width r.opens)) f.1
              (moved (entry.first + c) (x + size marks) (entry.place + c * width r.opens) (y + length core.own)
              (shorter c r) (holes kb) (shorter_run r c (entry.first + c) (entry.place + c * width r.opens))
              (omega (arith, sp.1, fd.sized, core.sized))
              (omega (arith, front-long, core.long, length-append fd.front (holes ka), length-holes ka)) sf.0)
              (moved ((at + items_size before) + r.left) ((x + size marks) + items_size (shorter c r))
              (length front + room r) ((y + length core.own) + length (holes kb)) items f.0 f.1
              (omega (arith, sp.1, fd.sized, core.sized, sf.1))
              (omega (
                arith,
                front-long,
                core.long,
                core.room_same,
                length-append fd.front (holes ka),
                length-holes ka,
                length-holes kb,
              )) f.5),
        ) (omega (arith, h, sp.2, sd, fd.fewer, counts.some)) (omega (arith, k, sp.2, sd, fd.fewer, counts.some)))
      where
        fd : Found single at pre r before [] items pair (front ++ []) openers
        fd = nearest-found single at pre r before [] items pair front [] openers [] p (refl, refl) is

        c : ℕ
        c = taken fd.opener r

        names : Names
        names = names_of r.mark c

        b : ℕ
        b = at + items_size fd.early

        counts : Uses fd.opener r
        counts = uses single fd.opener r fd.pairs fd.some f.2

        marks : Forest
        marks = enclosed names.whole names.sequence names.text c (level fd.inner)

        core : Filling b names c fd.opener r fd.inner fd.front fd.mid f.0
        core =
            pair-core b (length fd.front + room fd.opener) names c fd.opener r fd.inner fd.front fd.mid f.0 fd.inside
            (no-data r.mark c) counts.some (pairing single fd.opener r fd.pairs).opens counts.opener counts.closer
            fd.mids

        ka : ℕ
        ka = (fd.opener.left - c) * width fd.opener.opens

        kb : ℕ
        kb = (r.left - c) * width r.opens

        x : ℕ
        x = at + items_size (shorter c fd.opener ++ fd.early)

        y : ℕ
        y = length (fd.front ++ holes ka)

        eo : List PlacedRun
        eo = shorter_run fd.opener c b (length fd.front) ++ fd.others

        ec : List PlacedRun
        ec = shorter_run r c (entry.first + c) (entry.place + c * width r.opens) ++ f.1

        sp : Passed at pre (shorter c fd.opener ++ fd.early) (fd.front ++ holes ka) eo
            × (items_size (shorter c fd.opener ++ fd.early) + c ≡ fd.opener.left + items_size fd.early)
            × (delimiters (shorter c fd.opener ++ fd.early) + c ≡ fd.opener.left + delimiters fd.early)
        sp =
            shorter-passed at pre fd.opener c fd.early fd.front fd.others (pairing single fd.opener r fd.pairs).opens
            counts.opener fd.passed

        sf : Filled (entry.first + c) (entry.place + c * width r.opens) (shorter c r) (holes kb)
            (shorter_run r c (entry.first + c) (entry.place + c * width r.opens))
            × (items_size (shorter c r) + c ≡ r.left)
        sf = shorter-filled (entry.first + c) (entry.place + c * width r.opens) r c counts.closer

        sd : delimiters (shorter c r ++ items) + c ≡ r.left + delimiters items
        sd = shorter-delimiters r c items counts.closer

        whole : List Span
        whole = fd.front ++ (holes (room fd.opener) ++ (fd.mid ++ (holes (room r) ++ f.0)))

        front-same : front ≡ fd.front ++ (holes (room fd.opener) ++ fd.mid)
        front-same = sym (append-nil front) ∙ fd.same

        front-long : length front ≡ (length fd.front + room fd.opener) + length fd.mid
        front-long =
            let long : length front ≡ length (fd.front ++ (holes (room fd.opener) ++ fd.mid)) = ap length front-same in
            omega (
              arith,
              long,
              length-append fd.front (holes (room fd.opener) ++ fd.mid),
              length-append (holes (room fd.opener)) fd.mid,
              length-holes (room fd.opener),
            )

        four : (a s m t : List Span) → (a ++ (s ++ m)) ++ t ≡ a ++ (s ++ (m ++ t))
        four a s m t = grind (arith, append_assoc)

        whole-same : spans ≡ whole
        whole-same =
            spans-same ∙ ap (λ (l : List Span). l ++ (holes (room r) ++ f.0)) front-same
            ∙ four fd.front (holes (room fd.opener)) fd.mid (holes (room r) ++ f.0)

-- Matching the runs of a level gives its emphasis.
pub runs-matched : (single : Bool) (n at : ℕ) (pre : List Span) (items : List Item) (spans : List Span)
    (runs : List PlacedRun) → Filled at (length pre) items spans runs → delimiters items + delimiters items < n →
    Shows at pre (emphasis single items) (matched single n [] runs (pre ++ spans))
runs-matched single n at pre items spans runs f h =
    same-shows at pre (resumed_at_most single (delimiters items) [] items) (emphasis single items)
    (matched single n [] runs (pre ++ spans)) (matched single n [] runs (pre ++ spans))
    (sym (emphasis-resumed single items)) refl
    (matched-same single n (delimiters items) at pre [] items pre spans [] runs (refl, refl)
    (moved at (at + 0) (length pre) (length pre) items spans runs (omega arith) refl f) (omega (arith, h))
    (omega arith))
