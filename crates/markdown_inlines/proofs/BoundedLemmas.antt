-- Matching with lower bounds: a run that finds no opener notes for its kind where it is, and no run of this kind looks
-- before that byte again. Bounds lose no opener.
use Rattle.std.proofs.Common.{◌≡◌, ◌≢◌, ◌⊎◌, inl, inr, ℕ, zero, suc, ◌+◌, ◌-◌, ◌*◌, ◌<◌, ◌≤◌, Bool, true, false, cond}
use Rattle.std.proofs.Common.{List, [], ◌∷◌, ◌++◌, length, get_or, set, replicate, refl, ap, sym, ◌∙◌, subst, arith}
use Rattle.std.specs.Prelude.{◌==◌, nat_lt, Option, Some, None}
use Rattle.std.proofs.lemmas.Bool.{eqb-true, false≢true}
use Rattle.std.proofs.lemmas.Bool.Decides.{nat_tests}
use Rattle.std.proofs.lemmas.List.{get_or-replicate, get_or-set_other, get_or-set_same, get_or_past, length-replicate}
use Rattle.std.proofs.lemmas.List.{length-set}
use Rattle.md_inline_events.specs.Forest.{size}
use Rattle.md_inlines.specs.declared.Run.{Run}
use Rattle.md_meaning.specs.Ascii.{tilde}
use Rattle.md_inlines.specs.Emphasis.{Item, delimiters, emphasis, may_pair, read, run}
use Rattle.markdown_inlines.specs.declared.attention.PlacedRun.{PlacedRun}
use Rattle.markdown_inlines.specs.declared.span.Span.{Span}
use Rattle.markdown_inlines.specs.Filled.{Filled, Shows, placed, room, shorter_run, width}
use Rattle.markdown_inlines.specs.Matching.{Near, filled_by, kept, kind_of, opener_from, raised, taken}
use Rattle.markdown_inlines.proofs.KeyLemmas.{kind-few, kind-pairs, opens-left, taken-within, whole-tildes, with_left}
use Rattle.markdown_inlines.proofs.MatchLemmas.{ahead_after, at_run, matched, opener_of, openers_after}
use Rattle.markdown_inlines.proofs.MatchLemmas.{runs-matched}

abbrev pub matched_from : Bool → ℕ → List ℕ → List PlacedRun → List PlacedRun → List Span → List Span
matched_from single zero bounds openers ahead spans = spans
matched_from single (suc more) bounds openers [] spans = spans
matched_from single (suc more) bounds openers (closer ∷ ahead) spans =
    elim (opener_from single (get_or bounds (kind_of closer.run) 0) closer.run openers) [
      | None ↦
          matched_from single more (raised bounds (kind_of closer.run) closer.first)
          (kept closer.run.opens closer openers) ahead spans
      | Some near ↦
          let count : ℕ = taken near.opener.run closer.run in
          matched_from single more bounds (openers_after count near) (ahead_after count closer ahead)
          (filled_by count near.opener closer spans)
    ]

abbrev pub at_bound : Bool → ℕ → List ℕ → List PlacedRun → PlacedRun → List PlacedRun → List Span → Option Near →
    List Span
at_bound single more bounds openers closer ahead spans o = elim o [
  | None ↦
      matched_from single more (raised bounds (kind_of closer.run) closer.first)
      (kept closer.run.opens closer openers) ahead spans
  | Some near ↦
      let count : ℕ = taken near.opener.run closer.run in
      matched_from single more bounds (openers_after count near) (ahead_after count closer ahead)
      (filled_by count near.opener closer spans)
]

-- no opener before a bound may be closed
abbrev Barred : Bool → ℕ → Run → List PlacedRun → Type 0
Barred single bound closer [] = Unit {0}
Barred single bound closer (entry ∷ openers) =
    (entry.first < bound → may_pair single entry.run closer ≡ false) × Barred single bound closer openers

-- all begin before a byte
abbrev Below : ℕ → List PlacedRun → Type 0
Below bound [] = Unit {0}
Below bound (entry ∷ openers) = (entry.first < bound) × Below bound openers

-- the last first
abbrev Falls : List PlacedRun → Type 0
Falls [] = Unit {0}
Falls (entry ∷ openers) = Below entry.first openers × Falls openers

-- one after the other, from a byte on
abbrev Rises : ℕ → List PlacedRun → Type 0
Rises at [] = Unit {0}
Rises at (entry ∷ runs) = (at ≤ entry.first) × (0 < entry.run.left) × Rises (entry.first + entry.run.left) runs

-- the runs of a level are one after the other
filled-rises : (at place : ℕ) (items : List Item) (spans : List Span) (runs : List PlacedRun) (from : ℕ) → from ≤ at →
    Filled at place items spans runs → Rises from runs
filled-rises at place [] spans runs from h f = subst (λ (l : List PlacedRun). Rises from l) (sym f.1) tt
filled-rises at place (read forest ∷ items) spans runs from h f =
    filled-rises (at + size forest) (place + length f.0) items f.1 runs from (omega (arith, h)) f.4
filled-rises at place (run r ∷ items) spans runs from h f =
    subst (λ (l : List PlacedRun). Rises from l) (sym f.4)
    (h, f.2, filled-rises (at + r.left) (place + room r) items f.0 f.1 (at + r.left) (omega arith) f.5)

below-more : (a b : ℕ) (openers : List PlacedRun) → a ≤ b → Below a openers → Below b openers
below-more a b [] h p = tt
below-more a b (entry ∷ openers) h p = (omega (arith, h, p.0), below-more a b openers h p.1)

-- what is before a bound is searched in vain
barred-none : (single : Bool) (bound : ℕ) (closer : Run) (openers : List PlacedRun) → Below bound openers →
    Barred single bound closer openers → opener_of single closer openers ≡ None
barred-none single bound closer [] b h = refl
barred-none single bound closer (entry ∷ openers) b h =
    ap (λ (x : Bool). cond x (Some (record { opener = entry; others = openers })) (opener_of single closer openers))
    (h.0 b.0)
    ∙ barred-none single bound closer openers b.1 h.1

from-same : (single : Bool) (bound : ℕ) (closer : Run) (openers : List PlacedRun) → Falls openers →
    Barred single bound closer openers → opener_from single bound closer openers ≡ opener_of single closer openers
from-same single bound closer [] f h = refl
from-same single bound closer (entry ∷ openers) f h =
    go (nat_lt entry.first bound) refl (from-same single bound closer openers f.1 h.1)
  where
    go : (x : Bool) → nat_lt entry.first bound ≡ x →
        opener_from single bound closer openers ≡ opener_of single closer openers →
        cond x None
        (cond (may_pair single entry.run closer) (Some (record { opener = entry; others = openers }))
        (opener_from single bound closer openers)) ≡
        opener_of single closer (entry ∷ openers)
    go true is rec =
        let less : entry.first < bound = grind (arith, nat_tests) in
        sym
        (barred-none single bound closer (entry ∷ openers)
        (less, below-more entry.first bound openers (omega (arith, less)) f.0) h)
    go false is rec =
        ap (λ (o : Option Near). cond (may_pair single entry.run closer)
        (Some (record { opener = entry; others = openers })) o) rec

-- a search in vain bars all
none-barred : (single : Bool) (bound : ℕ) (closer : Run) (openers : List PlacedRun) →
    opener_of single closer openers ≡ None → Barred single bound closer openers
none-barred single bound closer [] h = tt
none-barred single bound closer (entry ∷ openers) h =
    go (may_pair single entry.run closer) refl h (none-barred single bound closer openers)
  where
    go : (x : Bool) → may_pair single entry.run closer ≡ x →
        cond x (Some (record { opener = entry; others = openers })) (opener_of single closer openers) ≡ None →
        (opener_of single closer openers ≡ None → Barred single bound closer openers) →
        Barred single bound closer (entry ∷ openers)
    go true is h rec = cc
    go false is h rec = (λ _. is, rec h)

key-barred : (single : Bool) (bound : ℕ) (c d : Run) (openers : List PlacedRun) →
    ((o : Run) → may_pair single o c ≡ may_pair single o d) → Barred single bound c openers →
    Barred single bound d openers
key-barred single bound c d [] h b = tt
key-barred single bound c d (entry ∷ openers) h b =
    (λ less. sym (h entry.run) ∙ b.0 less, key-barred single bound c d openers h b.1)

-- What an opener that is found leaves.

record Left (single : Bool) (closer : Run) (bound : ℕ) (near : Near) (openers : List PlacedRun) : Type 0 where
  falls : Falls (near.opener ∷ near.others)
  below : Below bound (near.opener ∷ near.others)
  barred : (limit : ℕ) (d : Run) → Barred single limit d openers → Barred single limit d (near.opener ∷ near.others)
  pairs : may_pair single near.opener.run closer ≡ true

some-near : (p q : Near) → Some p ≡ Some q → p ≡ q
some-near p q h = cc

found-left : (single : Bool) (bound : ℕ) (closer : Run) (openers : List PlacedRun) (near : Near) → Falls openers →
    Below bound openers → opener_of single closer openers ≡ Some near → Left single closer bound near openers
found-left single bound closer [] near f b h = cc
found-left single bound closer (entry ∷ openers) near f b h =
    go (may_pair single entry.run closer) refl h (found-left single bound closer openers near f.1 b.1)
  where
    go : (x : Bool) → may_pair single entry.run closer ≡ x →
        cond x (Some (record { opener = entry; others = openers })) (opener_of single closer openers) ≡ Some near →
        (opener_of single closer openers ≡ Some near → Left single closer bound near openers) →
        Left single closer bound near (entry ∷ openers)
    go true is h rec =
        subst (λ (q : Near). Left single closer bound q (entry ∷ openers))
        (some-near (record { opener = entry; others = openers }) near h)
        (record { falls = f; below = b; barred = λ limit d p. p; pairs = is })
    go false is h rec =
        let inner : Left single closer bound near openers = rec h in
        record {
          falls = inner.falls;
          below = inner.below;
          barred = λ limit d p. inner.barred limit d p.1;
          pairs = inner.pairs;
        }

-- what is left of an opener is where it was, and pairs as it did
shorter-left : (P : List PlacedRun → Type 0) (entry : PlacedRun) (count : ℕ) (others : List PlacedRun) →
    (nat_lt count entry.run.left ≡ true →
    P (placed (with_left entry.run (entry.run.left - count)) entry.first entry.place ∷ others)) → P others →
    P (shorter_run entry.run count entry.first entry.place ++ others)
shorter-left P entry count others h k = go (nat_lt count entry.run.left) refl
  where
    go : (x : Bool) → nat_lt count entry.run.left ≡ x → P
        (cond x (placed (with_left entry.run (entry.run.left - count)) entry.first entry.place ∷ []) [] ++ others)
    go true is = h is
    go false is = k

left-pairs : (single : Bool) (o c d : Run) → may_pair single o c ≡ true → nat_lt (taken o c) o.left ≡ true →
    (left : ℕ) → may_pair single (with_left o left) d ≡ may_pair single o d
left-pairs single o c d h less left = go (o.mark == tilde) refl
  where
    go : (t : Bool) → (o.mark == tilde) ≡ t → may_pair single (with_left o left) d ≡ may_pair single o d
    go false e = opens-left single o d left e
    go true e =
        let whole : o.left ≤ taken o c = whole-tildes single o c h e in
        let more : taken o c < o.left = grind (arith, nat_tests) in absurd (omega (arith, whole, more))

rises-less : (a b : ℕ) (runs : List PlacedRun) → b ≤ a → Rises a runs → Rises b runs
rises-less a b [] h r = tt
rises-less a b (entry ∷ runs) h r = (omega (arith, h, r.0), r.1, r.2)

shorter-rises : (from count : ℕ) (entry : PlacedRun) (runs : List PlacedRun) (place : ℕ) → from ≤ entry.first →
    count ≤ entry.run.left → Rises (entry.first + entry.run.left) runs →
    Rises from (shorter_run entry.run count (entry.first + count) place ++ runs)
shorter-rises from count entry runs place h c r = go (nat_lt count entry.run.left) refl
  where
    go : (x : Bool) → nat_lt count entry.run.left ≡ x →
        Rises from
        (cond x (placed (with_left entry.run (entry.run.left - count)) (entry.first + count) place ∷ []) [] ++ runs)
    go true is =
        let some : count < entry.run.left = grind (arith, nat_tests) in (
          omega (arith, h),
          omega (arith, some),
          rises-less (entry.first + entry.run.left) ((entry.first + count) + (entry.run.left - count)) runs
              (omega (arith, some)) r,
        )
    go false is = rises-less (entry.first + entry.run.left) from runs (omega (arith, h)) r

-- a run that is passed is after every bound
kept-barred : (single x : Bool) (limit : ℕ) (d : Run) (closer : PlacedRun) (openers : List PlacedRun) →
    limit ≤ closer.first → Barred single limit d openers → Barred single limit d (kept x closer openers)
kept-barred single false limit d closer openers h b = b
kept-barred single true limit d closer openers h b = (λ less. absurd (omega (arith, h, less)), b)

kept-falls : (x : Bool) (bound : ℕ) (closer : PlacedRun) (openers : List PlacedRun) → closer.first < bound →
    Below closer.first openers → Falls openers →
    Falls (kept x closer openers) × Below bound (kept x closer openers)
kept-falls false bound closer openers h b f =
    (f, below-more closer.first bound openers (omega (arith, h)) b)
kept-falls true bound closer openers h b f =
    ((b, f), (h, below-more closer.first bound openers (omega (arith, h)) b))

-- What a bound is after one was noted.
get-raised : (bounds : List ℕ) (kind first k : ℕ) → length bounds ≡ 16 → kind < 16 →
    (get_or (raised bounds kind first) k 0 ≡ get_or bounds k 0)
    ⊎ ((k ≡ kind) × (kind ≢ 15) × (get_or (raised bounds kind first) k 0 ≡ first))
get-raised bounds kind first k long few = go (kind == 15) refl (k == kind) refl
  where
    go : (x : Bool) → (kind == 15) ≡ x → (y : Bool) → (k == kind) ≡ y →
        (get_or (cond x bounds (set bounds kind first)) k 0 ≡ get_or bounds k 0)
        ⊎ ((k ≡ kind) × (kind ≢ 15) × (get_or (cond x bounds (set bounds kind first)) k 0 ≡ first))
    go true is y same = inl refl
    go false is true same =
        let k_is : k ≡ kind = eqb-true k kind same in
        inr (
          k_is,
          λ fifteen. false≢true (sym is ∙ ap (λ (i : ℕ). i == 15) fifteen),
          ap (λ (i : ℕ). get_or (set bounds kind first) i 0) k_is
              ∙ get_or-set_same bounds kind first 0 (omega (arith, long, few)),
        )
    go false is false same =
        inl (get_or-set_other bounds kind k first 0 (λ e. grind (arith, nat_tests)))

pub raised-long : (bounds : List ℕ) (kind first : ℕ) → length (raised bounds kind first) ≡ length bounds
raised-long bounds kind first = go (kind == 15)
  where
    go : (x : Bool) → length (cond x bounds (set bounds kind first)) ≡ length bounds
    go true = refl
    go false = length-set bounds kind first

-- What is known of the bounds: each bars what is before it, and is not ahead.
record Bars (single : Bool) (from : ℕ) (bounds : List ℕ) (openers : List PlacedRun) : Type 0 where
  falls : Falls openers
  below : Below from openers
  barred : (d : Run) → Barred single (get_or bounds (kind_of d) 0) d openers
  reach : (k : ℕ) → get_or bounds k 0 ≤ from
  long : length bounds ≡ 16

raised-bars : (single : Bool) (bounds : List ℕ) (closer : PlacedRun) (openers : List PlacedRun) →
    Bars single closer.first bounds openers → opener_of single closer.run openers ≡ None → (bound : ℕ) →
    closer.first < bound →
    Bars single bound (raised bounds (kind_of closer.run) closer.first) (kept closer.run.opens closer openers)
raised-bars single bounds closer openers b h bound less =
    record {
      falls = order.0;
      below = order.1;
      barred = λ d. by_kind d
          (get-raised bounds (kind_of closer.run) closer.first (kind_of d) b.long (kind-few single closer.run));
      reach = λ k. reached k
          (get-raised bounds (kind_of closer.run) closer.first k b.long (kind-few single closer.run));
      long = raised-long bounds (kind_of closer.run) closer.first ∙ b.long;
    }
  where
    after : List ℕ
    after = raised bounds (kind_of closer.run) closer.first

    order : Falls (kept closer.run.opens closer openers) × Below bound (kept closer.run.opens closer openers)
    order = kept-falls closer.run.opens bound closer openers less b.below b.falls

    by_kind : (d : Run) →
        (get_or after (kind_of d) 0 ≡ get_or bounds (kind_of d) 0)
        ⊎ ((kind_of d ≡ kind_of closer.run) × (kind_of closer.run ≢ 15) × (get_or after (kind_of d) 0 ≡ closer.first)) →
        Barred single (get_or after (kind_of d) 0) d (kept closer.run.opens closer openers)
    by_kind d (inl same) =
        subst (λ (i : ℕ). Barred single i d (kept closer.run.opens closer openers)) (sym same)
        (kept-barred single closer.run.opens (get_or bounds (kind_of d) 0) d closer openers (b.reach (kind_of d))
        (b.barred d))
    by_kind d (inr new) =
        subst (λ (i : ℕ). Barred single i d (kept closer.run.opens closer openers)) (sym new.2)
        (kept-barred single closer.run.opens closer.first d closer openers (omega arith)
        (key-barred single closer.first closer.run d openers
        (λ o. kind-pairs single o closer.run d (sym new.0) new.1)
        (none-barred single closer.first closer.run openers h)))

    reached : (k : ℕ) →
        (get_or after k 0 ≡ get_or bounds k 0)
        ⊎ ((k ≡ kind_of closer.run) × (kind_of closer.run ≢ 15) × (get_or after k 0 ≡ closer.first)) →
        get_or after k 0 ≤ bound
    reached k (inl same) = let low : get_or bounds k 0 ≤ closer.first = b.reach k in omega (arith, less, low, same)
    reached k (inr new) = omega (arith, less, new.2)

-- Bounds change nothing.
bounds-same : (single : Bool) (n from : ℕ) (bounds : List ℕ) (openers ahead : List PlacedRun) (spans : List Span) →
    Bars single from bounds openers → Rises from ahead →
    matched_from single n bounds openers ahead spans ≡ matched single n openers ahead spans
bounds-same single zero from bounds openers ahead spans b r = refl
bounds-same single (suc n) from bounds openers [] spans b r = refl
bounds-same single (suc n) from bounds openers (closer ∷ ahead) spans b r =
    ap (at_bound single n bounds openers closer ahead spans)
    (from-same single (get_or bounds (kind_of closer.run) 0) closer.run openers b.falls (b.barred closer.run))
    ∙ go (opener_of single closer.run openers) refl
    (λ (from : ℕ) (bounds : List ℕ) (openers ahead : List PlacedRun) (spans : List Span).
    bounds-same single n from bounds openers ahead spans)
  where
    here : Bars single closer.first bounds openers
    here =
        record {
          falls = b.falls;
          below = below-more from closer.first openers r.0 b.below;
          barred = b.barred;
          reach = λ k. (let low : get_or bounds k 0 ≤ from = b.reach k in omega (arith, low, r.0));
          long = b.long;
        }

    go : (o : Option Near) → opener_of single closer.run openers ≡ o →
        ((from : ℕ) (bounds : List ℕ) (openers ahead : List PlacedRun) (spans : List Span) →
        Bars single from bounds openers → Rises from ahead →
        matched_from single n bounds openers ahead spans ≡ matched single n openers ahead spans) →
        at_bound single n bounds openers closer ahead spans o ≡ at_run single n openers closer ahead spans o
    go None is rec =
        rec (closer.first + closer.run.left) (raised bounds (kind_of closer.run) closer.first)
        (kept closer.run.opens closer openers) ahead spans
        (raised-bars single bounds closer openers here is (closer.first + closer.run.left) (omega (arith, r.1))) r.2
    go (Some near) is rec =
        rec closer.first bounds (openers_after c near) (ahead_after c closer ahead)
        (filled_by c near.opener closer spans)
        (record {
          falls = shorter-left Falls near.opener c near.others (λ _. (left-is.falls.0, left-is.falls.1))
              left-is.falls.1;
          below = shorter-left (Below closer.first) near.opener c near.others
              (λ _. (left-is.below.0, left-is.below.1)) left-is.below.1;
          barred = λ d. barred-left d (left-is.barred (get_or bounds (kind_of d) 0) d (b.barred d));
          reach = here.reach;
          long = b.long;
        })
        (shorter-rises closer.first c closer ahead (closer.place + c * width closer.run.opens) (omega arith) within r.2)
      where
        c : ℕ
        c = taken near.opener.run closer.run

        left-is : Left single closer.run closer.first near openers
        left-is = found-left single closer.first closer.run openers near b.falls here.below is

        barred-left : (d : Run) → Barred single (get_or bounds (kind_of d) 0) d (near.opener ∷ near.others) →
            Barred single (get_or bounds (kind_of d) 0) d (openers_after c near)
        barred-left d p =
            shorter-left (Barred single (get_or bounds (kind_of d) 0) d) near.opener c near.others
            (λ less. (
              λ low. left-pairs single near.opener.run closer.run d left-is.pairs less (near.opener.run.left - c)
                  ∙ p.0 low,
              p.1,
            )) p.1

        within : c ≤ closer.run.left
        within = taken-within near.opener.run closer.run r.1

no-bound : (k at : ℕ) → get_or (replicate 16 0) k 0 ≤ at
no-bound k at = go (nat_lt k 16) refl
  where
    go : (x : Bool) → nat_lt k 16 ≡ x → get_or (replicate 16 0) k 0 ≤ at
    go true is =
        let less : k < 16 = grind (arith, nat_tests) in omega (arith, get_or-replicate {A = ℕ} 16 k 0 0 less)
    go false is =
        let more : 16 ≤ k = grind (arith, nat_tests) in
        omega (arith, get_or_past {X = ℕ} (replicate 16 0) k 0 (omega (arith, length-replicate {A = ℕ} 16 0, more)))

-- how many bytes are left of listed runs
abbrev pub total : List PlacedRun → ℕ
total [] = 0
total (entry ∷ runs) = entry.run.left + total runs

filled-total : (at place : ℕ) (items : List Item) (spans : List Span) (runs : List PlacedRun) →
    Filled at place items spans runs → delimiters items ≡ total runs
filled-total at place [] spans runs f = sym (ap total f.1)
filled-total at place (read forest ∷ items) spans runs f =
    filled-total (at + size forest) (place + length f.0) items f.1 runs f.4
filled-total at place (run r ∷ items) spans runs f =
    ap (λ (x : ℕ). r.left + x) (filled-total (at + r.left) (place + room r) items f.0 f.1 f.5) ∙ sym (ap total f.4)

-- Matching the runs of a level with bounds gives its emphasis.
pub level-matched : (single : Bool) (n at : ℕ) (pre : List Span) (items : List Item) (spans : List Span)
    (runs : List PlacedRun) → Filled at (length pre) items spans runs → total runs + total runs < n →
    Shows at pre (emphasis single items) (matched_from single n (replicate 16 0) [] runs (pre ++ spans))
level-matched single n at pre items spans runs f h =
    subst (λ (l : List Span). Shows at pre (emphasis single items) l)
    (sym
    (bounds-same single n at (replicate 16 0) [] runs (pre ++ spans)
    (record {
      falls = tt;
      below = tt;
      barred = λ _. tt;
      reach = λ k. no-bound k at;
      long = length-replicate {A = ℕ} 16 0;
    })
    (filled-rises at (length pre) items spans runs at (omega arith) f)))
    (runs-matched single n at pre items spans runs f
    (omega (arith, h, filled-total at (length pre) items spans runs f)))
