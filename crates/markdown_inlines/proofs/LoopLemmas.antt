-- The loop that matches runs, by one list: the first runs of it may still be closed, and those from a place on are
-- ahead.
use Rattle.std.proofs.Common.{◌≡◌, ℕ, zero, suc, ◌+◌, ◌-◌, ◌*◌, ◌^◌, ◌<◌, ◌≤◌, Bool, true, false, cond, List, [], ◌∷◌}
use Rattle.std.proofs.Common.{◌++◌, length, get_or, set, take, drop, replicate, refl, ap, sym, ◌∙◌, subst, arith}
use Rattle.std.specs.Prelude.{nat_lt, Some, None}
use Rattle.std.proofs.lemmas.Bool.Decides.{nat_tests}
use Rattle.std.proofs.lemmas.List.{drop-drop, drop_more, get_or-set_other, get_or-set_same, get_or-take, length-set}
use Rattle.md_inlines.specs.declared.Run.{Run}
use Rattle.md_inlines.specs.Emphasis.{may_pair}
use Rattle.markdown_inlines.specs.declared.attention.Names.{Names}
use Rattle.markdown_inlines.specs.declared.attention.PlacedRun.{PlacedRun}
use Rattle.markdown_inlines.specs.declared.span.Span.{Span}
use Rattle.markdown_inlines.specs.Filled.{Placed, end_spans, pair_spans, placed, shorter_run, width}
use Rattle.markdown_inlines.specs.Matching.{Near, filled_by, kept, kind_of, names_of, no_run, opener_from, raised}
use Rattle.markdown_inlines.specs.Matching.{stack, taken}
use Rattle.markdown_inlines.specs.Spans.{write}
use Rattle.markdown_inlines.proofs.BoundedLemmas.{at_bound, matched_from, raised-long, total}
use Rattle.markdown_inlines.proofs.KeyLemmas.{Uses, never-closes, pairing, uses, with_left}
use Rattle.markdown_inlines.proofs.MatchLemmas.{ahead_after, openers_after}

-- The first runs of a list.

pub stack-taken : (xs ys : List PlacedRun) (at count : ℕ) → count ≤ at → take at xs ≡ take at ys →
    stack xs count ≡ stack ys count
stack-taken xs ys at zero few same = refl
stack-taken xs ys at (suc count) few same =
    let less : count < at = omega (arith, few) in
    let here : get_or xs count no_run ≡ get_or ys count no_run =
    sym (get_or-take at xs count no_run less) ∙ ap (λ (l : List PlacedRun). get_or l count no_run) same
    ∙ get_or-take at ys count no_run less in
    ap (λ (x : PlacedRun). x ∷ stack xs count) here
    ∙ ap (λ (l : List PlacedRun). get_or ys count no_run ∷ l) (stack-taken xs ys at count (omega (arith, few)) same)

stack-past : (xs : List PlacedRun) (i : ℕ) (x : PlacedRun) (count : ℕ) → count ≤ i →
    stack (set xs i x) count ≡ stack xs count
stack-past xs i x zero few = refl
stack-past xs i x (suc count) few =
    ap (λ (y : PlacedRun). y ∷ stack (set xs i x) count)
    (get_or-set_other xs i count x no_run (λ e. omega (arith, e, few)))
    ∙ ap (λ (l : List PlacedRun). get_or xs count no_run ∷ l) (stack-past xs i x count (omega (arith, few)))

-- a run that is written after so many
pub stack-put : (xs : List PlacedRun) (i : ℕ) (x : PlacedRun) → i < length xs →
    stack (set xs i x) (i + 1) ≡ x ∷ stack xs i
stack-put xs i x less =
    let next : i + 1 ≡ suc i = omega arith in
    ap (stack (set xs i x)) next
    ∙ ap (λ (y : PlacedRun). y ∷ stack (set xs i x) i) (get_or-set_same xs i x no_run less)
    ∙ ap (λ (l : List PlacedRun). x ∷ l) (stack-past xs i x i (omega arith))

pub drop-further : (xs ys : List PlacedRun) (i j : ℕ) → i ≤ j → drop i xs ≡ drop i ys → drop j xs ≡ drop j ys
drop-further xs ys i j less same =
    let more : i + (j - i) ≡ j = omega (arith, less) in
    ap (λ (k : ℕ). drop k xs) (sym more) ∙ sym (drop-drop (j - i) i xs) ∙ ap (drop (j - i)) same
    ∙ drop-drop (j - i) i ys ∙ ap (λ (k : ℕ). drop k ys) more

-- The search for an opener.

-- a run that closes nothing finds none
pub never-found : (single : Bool) (bound : ℕ) (closer : Run) (openers : List PlacedRun) → closer.closes ≡ false →
    opener_from single bound closer openers ≡ None
never-found single bound closer [] h = refl
never-found single bound closer (entry ∷ openers) h =
    go (nat_lt entry.first bound) (never-found single bound closer openers h)
  where
    go : (x : Bool) → opener_from single bound closer openers ≡ None →
        cond x None
        (cond (may_pair single entry.run closer) (Some (record { opener = entry; others = openers }))
        (opener_from single bound closer openers)) ≡
        None
    go true rec = refl
    go false rec =
        ap (λ (y : Bool). cond y (Some (record { opener = entry; others = openers }))
        (opener_from single bound closer openers)) (never-closes single entry.run closer h)
        ∙ rec

-- What a search finds.

pub record IsNear (single : Bool) (closer : Run) (near : Near) (openers : List PlacedRun) : Type 0 where
  pub pairs : may_pair single near.opener.run closer ≡ true
  pub fewer : near.opener.run.left + total near.others ≤ total openers
  pub placed : (count : ℕ) → Placed count openers → Placed count (near.opener ∷ near.others)

some-near : (p q : Near) → Some p ≡ Some q → p ≡ q
some-near p q h = cc

pub is-near : (single : Bool) (bound : ℕ) (closer : Run) (openers : List PlacedRun) (near : Near) →
    opener_from single bound closer openers ≡ Some near → IsNear single closer near openers
is-near single bound closer [] near h = cc
is-near single bound closer (entry ∷ openers) near h =
    go (nat_lt entry.first bound) (may_pair single entry.run closer) refl h
    (is-near single bound closer openers near)
  where
    here : Near
    here = record { opener = entry; others = openers }

    go : (x y : Bool) → may_pair single entry.run closer ≡ y →
        cond x None (cond y (Some here) (opener_from single bound closer openers)) ≡ Some near →
        (opener_from single bound closer openers ≡ Some near → IsNear single closer near openers) →
        IsNear single closer near (entry ∷ openers)
    go true y is h rec = cc
    go false true is h rec =
        subst (λ (q : Near). IsNear single closer q (entry ∷ openers)) (some-near here near h)
        (record { pairs = is; fewer = omega arith; placed = λ count p. p })
    go false false is h rec =
        let inner : IsNear single closer near openers = rec h in
        record {
          pairs = inner.pairs;
          fewer = omega (arith, inner.fewer);
          placed = λ count p. inner.placed count p.3;
        }

-- How much is to be done: the bytes of openers, and twice those ahead.
abbrev pub weight : List PlacedRun → List PlacedRun → ℕ
weight openers ahead = total openers + (total ahead + total ahead)

kept-total : (x : Bool) (closer : PlacedRun) (openers : List PlacedRun) →
    total (kept x closer openers) ≤ closer.run.left + total openers
kept-total true closer openers = omega arith
kept-total false closer openers = omega arith

kept-placed : (x : Bool) (count : ℕ) (closer : PlacedRun) (openers ahead : List PlacedRun) →
    Placed count (closer ∷ ahead) → Placed count openers → Placed count (kept x closer openers)
kept-placed true count closer openers ahead p q = (p.0, p.1, p.2, q)
kept-placed false count closer openers ahead p q = q

shorter-total : (r : Run) (count first place : ℕ) (runs : List PlacedRun) → count ≤ r.left →
    total (shorter_run r count first place ++ runs) + count ≡ r.left + total runs
shorter-total r count first place runs h = go (nat_lt count r.left) refl
  where
    go : (x : Bool) → nat_lt count r.left ≡ x →
        total (cond x (placed (with_left r (r.left - count)) first place ∷ []) [] ++ runs) + count ≡
        r.left + total runs
    go true is = let some : count < r.left = grind (arith, nat_tests) in omega (arith, some)
    go false is = let same : r.left ≤ count = grind (arith, nat_tests) in omega (arith, h, same)

-- the places of what is left
left-room : (left count : ℕ) (x : Bool) → count ≤ left → (left - count) * width x + count * width x ≡ left * width x
left-room left count true h = omega (arith, h)
left-room left count false h = omega (arith, h)

shorter-placed : (many : ℕ) (r : Run) (count first place : ℕ) (runs : List PlacedRun) →
    (count < r.left → (place + (r.left - count) * width r.opens ≤ many) × (first + (r.left - count) < 2 ^ 64)) →
    Placed many runs → Placed many (shorter_run r count first place ++ runs)
shorter-placed many r count first place runs h p = go (nat_lt count r.left) refl
  where
    go : (x : Bool) → nat_lt count r.left ≡ x →
        Placed many (cond x (placed (with_left r (r.left - count)) first place ∷ []) [] ++ runs)
    go true is =
        let some : count < r.left = grind (arith, nat_tests) in
        (omega (arith, some), (h some).0, (h some).1, p)
    go false is = p

write-long : (place : ℕ) (more spans : List Span) → length (write place more spans) ≡ length spans
write-long place [] spans = refl
write-long place (span ∷ more) spans =
    write-long (suc place) more (set spans place span) ∙ length-set spans place span

filled-long : (count : ℕ) (opener closer : PlacedRun) (spans : List Span) →
    length (filled_by count opener closer spans) ≡ length spans
filled-long count opener closer spans =
    write-long closer.place (end_spans names count closer.first) (write place news spans)
    ∙ write-long place news spans
  where
    names : Names
    names = names_of closer.run.mark count

    place : ℕ
    place = opener.place + (opener.run.left - count) * width opener.run.opens

    news : List Span
    news = pair_spans names count (opener.first + (opener.run.left - count)) closer.first

-- What is so before each turn: with so many steps, the rest of the matching gives what all of it gives.

pub record Matching (single : Bool) (all : List Span) (bounds : List ℕ) (openers ahead : List PlacedRun)
    (spans : List Span) : Type 0 where
  pub steps : ℕ
  pub enough : weight openers ahead < steps
  pub same : matched_from single steps bounds openers ahead spans ≡ all

abbrev pub all_matched : Bool → List PlacedRun → List Span → List Span
all_matched single runs spans =
    matched_from single (suc (total runs + total runs)) (replicate 16 0) [] runs spans

none-goes : (single : Bool) (all : List Span) (bounds : List ℕ) (openers : List PlacedRun) (closer : PlacedRun)
    (ahead : List PlacedRun) (spans : List Span) → Matching single all bounds openers (closer ∷ ahead) spans →
    opener_from single (get_or bounds (kind_of closer.run) 0) closer.run openers ≡ None → 0 < closer.run.left →
    Matching single all (raised bounds (kind_of closer.run) closer.first) (kept closer.run.opens closer openers) ahead
    spans
none-goes single all bounds openers closer ahead spans m h some = go m.steps m.enough m.same
  where
    go : (steps : ℕ) → weight openers (closer ∷ ahead) < steps →
        matched_from single steps bounds openers (closer ∷ ahead) spans ≡ all →
        Matching single all (raised bounds (kind_of closer.run) closer.first) (kept closer.run.opens closer openers)
        ahead spans
    go zero enough same = absurd (omega (arith, enough))
    go (suc steps) enough same =
        record {
          steps = steps;
          enough = omega (arith, enough, some, kept-total closer.run.opens closer openers);
          same = sym (ap (at_bound single steps bounds openers closer ahead spans) h) ∙ same;
        }

some-goes : (single : Bool) (all : List Span) (bounds : List ℕ) (openers : List PlacedRun) (closer : PlacedRun)
    (ahead : List PlacedRun) (spans : List Span) (near : Near) →
    Matching single all bounds openers (closer ∷ ahead) spans →
    opener_from single (get_or bounds (kind_of closer.run) 0) closer.run openers ≡ Some near →
    Uses near.opener.run closer.run → near.opener.run.left + total near.others ≤ total openers →
    Matching single all bounds (openers_after (taken near.opener.run closer.run) near)
    (ahead_after (taken near.opener.run closer.run) closer ahead)
    (filled_by (taken near.opener.run closer.run) near.opener closer spans)
some-goes single all bounds openers closer ahead spans near m h u fewer = go m.steps m.enough m.same
  where
    c : ℕ
    c = taken near.opener.run closer.run

    go : (steps : ℕ) → weight openers (closer ∷ ahead) < steps →
        matched_from single steps bounds openers (closer ∷ ahead) spans ≡ all →
        Matching single all bounds (openers_after c near) (ahead_after c closer ahead)
        (filled_by c near.opener closer spans)
    go zero enough same = absurd (omega (arith, enough))
    go (suc steps) enough same =
        record {
          steps = steps;
          enough =
              omega (
                arith,
                enough,
                fewer,
                u.some,
                shorter-total near.opener.run c near.opener.first near.opener.place near.others u.opener,
                shorter-total closer.run c (closer.first + c) (closer.place + c * width closer.run.opens) ahead
                    u.closer,
              );
          same = sym (ap (at_bound single steps bounds openers closer ahead spans) h) ∙ same;
        }

nothing-ahead : (single : Bool) (all : List Span) (bounds : List ℕ) (openers : List PlacedRun) (spans : List Span) →
    Matching single all bounds openers [] spans → spans ≡ all
nothing-ahead single all bounds openers spans m = go m.steps m.same
  where
    go : (steps : ℕ) → matched_from single steps bounds openers [] spans ≡ all → spans ≡ all
    go zero same = same
    go (suc steps) same = same

-- The state of the loop.
pub record Turn (single : Bool) (all : List Span) (runs : List PlacedRun) (height at : ℕ) (bounds : List ℕ)
    (spans : List Span) : Type 0 where
  pub order : (height ≤ at) × (at ≤ length runs)
  pub openers : Placed (length spans) (stack runs height)
  pub ahead : Placed (length spans) (drop at runs)
  pub long : length bounds ≡ 16
  pub matching : Matching single all bounds (stack runs height) (drop at runs) spans

pub begins : (single : Bool) (runs : List PlacedRun) (spans : List Span) → Placed (length spans) runs →
    Turn single (all_matched single runs spans) runs 0 0 (replicate 16 0) spans
begins single runs spans p =
    record {
      order = (omega arith, omega arith);
      openers = tt;
      ahead = p;
      long = refl;
      matching = record { steps = suc (total runs + total runs); enough = omega arith; same = refl };
    }

-- A turn without a pair.
passes : (single : Bool) (all : List Span) (runs : List PlacedRun) (height at : ℕ) (bounds : List ℕ)
    (spans : List Span) (closer : PlacedRun) (others : List PlacedRun) (kept_height : ℕ) →
    Turn single all runs height at bounds spans → at < length runs → drop at runs ≡ closer ∷ drop (at + 1) runs →
    opener_from single (get_or bounds (kind_of closer.run) 0) closer.run (stack runs height) ≡ None →
    stack others kept_height ≡ kept closer.run.opens closer (stack runs height) →
    drop (height + 1) others ≡ drop (height + 1) runs → kept_height ≤ height + 1 → length others ≡ length runs →
    Turn single all others kept_height (at + 1) (raised bounds (kind_of closer.run) closer.first) spans
    × (weight (stack others kept_height) (drop (at + 1) others) < weight (stack runs height) (drop at runs))
passes single all runs height at bounds spans closer others kept_height turn less front none stacked after few long = (
  record {
    order = (omega (arith, few, turn.order.0), omega (arith, less, long));
    openers =
        subst (Placed (length spans)) (sym stacked)
        (kept-placed closer.run.opens (length spans) closer (stack runs height) (drop (at + 1) runs) here
        turn.openers);
    ahead = subst (Placed (length spans)) (sym rest) here.3;
    long = raised-long bounds (kind_of closer.run) closer.first ∙ turn.long;
    matching =
        subst
        (λ (l : List PlacedRun). Matching single all (raised bounds (kind_of closer.run) closer.first) l
        (drop (at + 1) others) spans) (sym stacked)
        (subst
        (λ (l : List PlacedRun). Matching single all (raised bounds (kind_of closer.run) closer.first)
        (kept closer.run.opens closer (stack runs height)) l spans) (sym rest)
        (none-goes single all bounds (stack runs height) closer (drop (at + 1) runs) spans
        (subst (λ (l : List PlacedRun). Matching single all bounds (stack runs height) l spans) front
        turn.matching) none here.0));
  },
  omega (
    arith,
    here.0,
    kept-total closer.run.opens closer (stack runs height),
    ap total stacked,
    ap total rest,
    ap total front,
  ),
)
  where
    here : Placed (length spans) (closer ∷ drop (at + 1) runs)
    here = subst (Placed (length spans)) front turn.ahead

    rest : drop (at + 1) others ≡ drop (at + 1) runs
    rest = drop-further others runs (height + 1) (at + 1) (omega (arith, turn.order.0)) after

-- A turn with a pair.
pairs : (single : Bool) (all : List Span) (runs : List PlacedRun) (height at : ℕ) (bounds : List ℕ)
    (spans : List Span) (closer : PlacedRun) (near : Near) (others : List PlacedRun) (kept_height next : ℕ) →
    Turn single all runs height at bounds spans → drop at runs ≡ closer ∷ drop (at + 1) runs →
    opener_from single (get_or bounds (kind_of closer.run) 0) closer.run (stack runs height) ≡ Some near →
    stack others kept_height ≡ openers_after (taken near.opener.run closer.run) near →
    drop next others ≡ ahead_after (taken near.opener.run closer.run) closer (drop (at + 1) runs) →
    kept_height ≤ next → next ≤ length others →
    Turn single all others kept_height next bounds
    (filled_by (taken near.opener.run closer.run) near.opener closer spans)
    × (weight (stack others kept_height) (drop next others) < weight (stack runs height) (drop at runs))
pairs single all runs height at bounds spans closer near others kept_height next turn front found stacked after order
    fits = (
      record {
        order = (order, fits);
        openers =
            subst (λ (n : ℕ). Placed n (stack others kept_height)) (sym (filled-long c near.opener closer spans))
            (subst (Placed (length spans)) (sym stacked)
            (shorter-placed (length spans) near.opener.run c near.opener.first near.opener.place near.others
            (λ some. (
              omega (arith, left-room near.opener.run.left c near.opener.run.opens u.opener, opener.1),
              omega (arith, opener.2, some),
            )) opener.3));
        ahead =
            subst (λ (n : ℕ). Placed n (drop next others)) (sym (filled-long c near.opener closer spans))
            (subst (Placed (length spans)) (sym after)
            (shorter-placed (length spans) closer.run c (closer.first + c)
            (closer.place + c * width closer.run.opens) (drop (at + 1) runs)
            (λ some. (
              omega (arith, left-room closer.run.left c closer.run.opens u.closer, here.1),
              omega (arith, here.2, some),
            )) here.3));
        long = turn.long;
        matching =
            subst
            (λ (l : List PlacedRun). Matching single all bounds l (drop next others)
            (filled_by c near.opener closer spans)) (sym stacked)
            (subst
            (λ (l : List PlacedRun). Matching single all bounds (openers_after c near) l
            (filled_by c near.opener closer spans)) (sym after)
            (some-goes single all bounds (stack runs height) closer (drop (at + 1) runs) spans near
            (subst (λ (l : List PlacedRun). Matching single all bounds (stack runs height) l spans) front
            turn.matching) found u n.fewer));
      },
      omega (
        arith,
        n.fewer,
        u.some,
        shorter-total near.opener.run c near.opener.first near.opener.place near.others u.opener,
        shorter-total closer.run c (closer.first + c) (closer.place + c * width closer.run.opens) (drop (at + 1) runs)
            u.closer,
        ap total stacked,
        ap total after,
        ap total front,
      ),
    )
  where
    c : ℕ
    c = taken near.opener.run closer.run

    n : IsNear single closer.run near (stack runs height)
    n = is-near single (get_or bounds (kind_of closer.run) 0) closer.run (stack runs height) near found

    here : Placed (length spans) (closer ∷ drop (at + 1) runs)
    here = subst (Placed (length spans)) front turn.ahead

    opener : Placed (length spans) (near.opener ∷ near.others)
    opener = n.placed (length spans) turn.openers

    u : Uses near.opener.run closer.run
    u = uses single near.opener.run closer.run n.pairs opener.0 here.0

-- A turn by what its calls return.

pub none-turn : (single : Bool) (all : List Span) (runs : List PlacedRun) (height at : ℕ) (bounds : List ℕ)
    (spans : List Span) (kind : ℕ) (others : List PlacedRun) (kept_height : ℕ) (after : List ℕ) →
    Turn single all runs height at bounds spans → at < length runs → kind ≡ kind_of (get_or runs at no_run).run →
    opener_from single (get_or bounds kind 0) (get_or runs at no_run).run (stack runs height) ≡ None →
    after ≡ raised bounds kind (get_or runs at no_run).first →
    stack others kept_height ≡ kept (get_or runs at no_run).run.opens (get_or runs at no_run) (stack runs height) →
    drop (height + 1) others ≡ drop (height + 1) runs → kept_height ≤ height + 1 → length others ≡ length runs →
    Turn single all others kept_height (at + 1) after spans
    × (weight (stack others kept_height) (drop (at + 1) others) < weight (stack runs height) (drop at runs))
none-turn single all runs height at bounds spans kind others kept_height after turn less is none noted stacked rest few
    long =
    (subst (λ (l : List ℕ). Turn single all others kept_height (at + 1) l spans) (sym after-is) both.0, both.1)
  where
    closer : PlacedRun
    closer = get_or runs at no_run

    after-is : after ≡ raised bounds (kind_of closer.run) closer.first
    after-is = noted ∙ ap (λ (k : ℕ). raised bounds k closer.first) is

    both : Turn single all others kept_height (at + 1) (raised bounds (kind_of closer.run) closer.first) spans
        × (weight (stack others kept_height) (drop (at + 1) others) < weight (stack runs height) (drop at runs))
    both =
        passes single all runs height at bounds spans closer others kept_height turn less
        (drop_more runs at no_run less)
        (ap (λ (k : ℕ). opener_from single (get_or bounds k 0) closer.run (stack runs height)) (sym is) ∙ none) stacked
        rest few long

abbrev pub near_at : List PlacedRun → ℕ → Near
near_at runs found = record { opener = get_or runs found no_run; others = stack runs found }

-- What is so before the places of a pair are filled.
pub record Ready (count : ℕ) (o c : PlacedRun) (spans : List Span) : Type 0 where
  pub placed : Placed (length spans) (o ∷ c ∷ [])
  pub opens : o.run.opens ≡ true
  pub some : 0 < count
  pub there : (count ≤ o.run.left) × (count ≤ c.run.left)

pub ready : (single : Bool) (all : List Span) (runs : List PlacedRun) (height at : ℕ) (bounds : List ℕ)
    (spans : List Span) (bound found count : ℕ) → Turn single all runs height at bounds spans → at < length runs →
    opener_from single bound (get_or runs at no_run).run (stack runs height) ≡ Some (near_at runs found) →
    count ≡ taken (get_or runs found no_run).run (get_or runs at no_run).run →
    Ready count (get_or runs found no_run) (get_or runs at no_run) spans
ready single all runs height at bounds spans bound found count turn less is many =
    record {
      placed = (o.0, o.1, o.2, (here.0, here.1, here.2, tt));
      opens = (pairing single opener.run closer.run n.pairs).opens;
      some = omega (arith, many, u.some);
      there = (omega (arith, many, u.opener), omega (arith, many, u.closer));
    }
  where
    opener : PlacedRun
    opener = get_or runs found no_run

    closer : PlacedRun
    closer = get_or runs at no_run

    n : IsNear single closer.run (near_at runs found) (stack runs height)
    n = is-near single bound closer.run (stack runs height) (near_at runs found) is

    here : Placed (length spans) (closer ∷ drop (at + 1) runs)
    here = subst (Placed (length spans)) (drop_more runs at no_run less) turn.ahead

    o : Placed (length spans) (opener ∷ stack runs found)
    o = n.placed (length spans) turn.openers

    u : Uses opener.run closer.run
    u = uses single opener.run closer.run n.pairs o.0 here.0

pub some-turn : (single : Bool) (all : List Span) (runs : List PlacedRun) (height at : ℕ) (bounds : List ℕ)
    (spans : List Span) (kind found count : ℕ) (firsts others : List PlacedRun) (kept_height next : ℕ)
    (filled : List Span) → Turn single all runs height at bounds spans → at < length runs →
    kind ≡ kind_of (get_or runs at no_run).run → found < height →
    opener_from single (get_or bounds kind 0) (get_or runs at no_run).run (stack runs height) ≡
    Some (near_at runs found) →
    count ≡ taken (get_or runs found no_run).run (get_or runs at no_run).run →
    filled ≡ filled_by count (get_or runs found no_run) (get_or runs at no_run) spans →
    stack firsts kept_height ≡ openers_after count (near_at runs found) →
    drop (found + 1) firsts ≡ drop (found + 1) runs → kept_height ≤ found + 1 → length firsts ≡ length runs →
    drop next others ≡ ahead_after count (get_or runs at no_run) (drop (at + 1) firsts) →
    take at others ≡ take at firsts → (at ≤ next) × (next ≤ at + 1) → length others ≡ length firsts →
    Turn single all others kept_height next bounds filled
    × (weight (stack others kept_height) (drop next others) < weight (stack runs height) (drop at runs))
some-turn single all runs height at bounds spans kind found count firsts others kept_height next filled turn less is
    before search_is many filled_is stacked rest few long after front between longer =
    (subst (λ (l : List Span). Turn single all others kept_height next bounds l) (sym filled-all) both.0, both.1)
  where
    closer : PlacedRun
    closer = get_or runs at no_run

    near : Near
    near = near_at runs found

    c : ℕ
    c = taken near.opener.run closer.run

    filled-all : filled ≡ filled_by c near.opener closer spans
    filled-all = filled_is ∙ ap (λ (n : ℕ). filled_by n near.opener closer spans) many

    same_rest : drop (at + 1) firsts ≡ drop (at + 1) runs
    same_rest = drop-further firsts runs (found + 1) (at + 1) (omega (arith, before, turn.order.0)) rest

    both : Turn single all others kept_height next bounds (filled_by c near.opener closer spans)
        × (weight (stack others kept_height) (drop next others) < weight (stack runs height) (drop at runs))
    both =
        pairs single all runs height at bounds spans closer near others kept_height next turn
        (drop_more runs at no_run less)
        (ap (λ (k : ℕ). opener_from single (get_or bounds k 0) closer.run (stack runs height)) (sym is) ∙ search_is)
        (stack-taken others firsts at kept_height (omega (arith, few, before, turn.order.0)) front ∙ stacked
        ∙ ap (λ (n : ℕ). openers_after n near) many)
        (after ∙ ap (λ (n : ℕ). ahead_after n closer (drop (at + 1) firsts)) many
        ∙ ap (ahead_after c closer) same_rest)
        (omega (arith, few, before, turn.order.0, between.0)) (omega (arith, between.1, less, long, longer))

pub all-done : (single : Bool) (all : List Span) (runs : List PlacedRun) (height at : ℕ) (bounds : List ℕ)
    (spans : List Span) → Turn single all runs height at bounds spans → drop at runs ≡ [] → spans ≡ all
all-done single all runs height at bounds spans turn none =
    nothing-ahead single all bounds (stack runs height) spans
    (subst (λ (l : List PlacedRun). Matching single all bounds (stack runs height) l spans) none turn.matching)

-- what is left of a run, where some is
pub shorter-some : (r : Run) (count first place : ℕ) → count < r.left →
    shorter_run r count first place ≡ placed (with_left r (r.left - count)) first place ∷ []
shorter-some r count first place less =
    let is : nat_lt count r.left ≡ true = grind (arith, nat_tests) in
    ap (λ (x : Bool). cond x (placed (with_left r (r.left - count)) first place ∷ []) []) is
