-- What is taken of a class at once is what is taken byte by byte.
use Rattle.std.proofs.Common.{◌≡◌, ℕ, zero, suc, ◌+◌, ◌<◌, ◌≤◌, Bool, true, false, nat_eq, nat_lt, List, length, drop}
use Rattle.std.proofs.Common.{◌-◌, length-drop, Option, Some, refl, sym, ◌∙◌, ap, ap₂, cond, arith, subst}
use Rattle.std.specs.Prelude.{slice_index, slice_range}
use Rattle.std.proofs.lemmas.Bool.Decides.{nat_tests}
use Rattle.std.proofs.lemmas.List.{get_or-drop, get_or-take, length-take-le}
use Rattle.md_engine.specs.declared.class.Class.{Class}
use Rattle.md_engine.specs.declared.event.Point.{Point}
use Rattle.md_engine.specs.Classes.{IsSpan, has}
use Rattle.md_engine.specs.Staying.{IsOf, SeesSpan, TakesAll, along, took, took_all}
use Rattle.md_engine.specs.Place.{IsPlaced, is_ending, next_point}
use Rattle.md_engine.specs.World.{Setting, World, after, line_begun, looks_at}
use Rattle.md_engine.proofs.Sound.{placed-next}

-- a byte of a class is no line ending and no tab
pub no-ending : (c : Class) (b : ℕ) → has c b ≡ true → (is_ending b ≡ false) × (nat_eq b 9 ≡ false)
no-ending c b h = go (is_ending b) (nat_eq b 9) refl refl
  where
    go : (x y : Bool) → is_ending b ≡ x → nat_eq b 9 ≡ y → (is_ending b ≡ false) × (nat_eq b 9 ≡ false)
    go false false e k = (e, k)
    go true y e k = let no : false ≡ true = rw e at h in cc
    go false true e k = let no : false ≡ true = rw (e, k) at h in cc

-- the point so many bytes further on the line
abbrev pub further : ℕ → Point → Point
further zero p = p
further (suc n) p = record p { column = p.column + suc n; index = p.index + suc n; vs = 0 }

-- the point after one more
pub further-next : (bytes : List ℕ) (c : Class) (n : ℕ) (p : Point) →
    has c (slice_index bytes (further n p).index) ≡ true →
    next_point bytes (further n p) ≡ further (suc n) p
further-next bytes c zero p h = let e = no-ending c (slice_index bytes p.index) h in rw (e.0, e.1) refl
further-next bytes c (suc n) p h =
    let e = no-ending c (slice_index bytes (p.index + suc n)) h in
    let more : (m : ℕ) → m + suc n + 1 ≡ m + suc (suc n) = λ m. omega arith in
    rw (e.0, e.1, more p.column, more p.index) refl

pub index-further : (n : ℕ) (p : Point) → (further n p).index ≡ p.index + n
index-further zero p = omega arith
index-further (suc n) p = refl

-- such a byte is seen as it is
pub seen-here : (x : Setting) (c : Class) (p : Point) → p.index < x.limit → has c (slice_index x.bytes p.index) ≡ true →
    looks_at x p ≡ Some (slice_index x.bytes p.index)
seen-here x c p lt h =
    let e = no-ending c (slice_index x.bytes p.index) h in
    let inside : nat_lt p.index x.limit ≡ true = grind (arith, nat_tests) in
    rw (inside, e.0, e.1) refl

after-here : (x : Setting) (c : Class) (n : ℕ) (p : Point) → has c (slice_index x.bytes (further n p).index) ≡ true →
    after x (further n p) ≡ further (suc n) p
after-here x c n p h =
    let e = no-ending c (slice_index x.bytes (further n p).index) h in
    let q = next_point x.bytes (further n p) in
    ap (λ (b : Bool). cond b (line_begun x q) q) e.0 ∙ further-next x.bytes c n p h

-- a byte of a class is at each of so many points from here on
abbrev pub AreHere : Class → ℕ → List ℕ → ℕ → Point → Type 0
AreHere c n bytes end p = (k : ℕ) → k < n → IsOf c bytes end (further k p)

pub fewer-here : (c : Class) (n : ℕ) (bytes : List ℕ) (end : ℕ) (p : Point) → AreHere c (suc n) bytes end p →
    AreHere c n bytes end p
fewer-here c n bytes end p h = λ k lt. h k (omega (arith, lt))

along-further : (x : Setting) (c : Class) (n : ℕ) (end : ℕ) (p : Point) → AreHere c n x.bytes end p →
    along x n p ≡ further n p
unfolding along
along-further x c zero end p h = refl
along-further x c (suc n) end p h =
    ap (after x) (along-further x c n end p (fewer-here c n x.bytes end p h)) ∙ after-here x c n p (h n (omega arith)).1

-- what is said of the points that one reaches step by step
here-along : (x : Setting) (c : Class) (n : ℕ) (end : ℕ) (p : Point) →
    ((k : ℕ) → k < n → IsOf c x.bytes end (along x k p)) → AreHere c n x.bytes end p
here-along x c zero end p h = λ k lt. absurd (omega (arith, lt))
here-along x c (suc n) end p h =
    let before = here-along x c n end p (λ k lt. h k (omega (arith, lt))) in
    λ k lt. subst (IsOf c x.bytes end) (along-further x c k end p (λ i below. before i (omega (arith, lt, below))))
    (h k lt)

-- the last byte that was taken, if one was
abbrev last : ℕ → World → Option ℕ
last zero w = w.current
last (suc n) w = Some (slice_index w.setting.bytes (further n w.point).index)

-- what is seen and taken one after another, at once
abbrev pub leapt : ℕ → World → World
leapt n w = record w { point = further n w.point; current = last n w }

took-leapt : (c : Class) (n : ℕ) (w : World) → AreHere c n w.setting.bytes w.setting.limit w.point →
    took_all n w ≡ leapt n w
unfolding took_all
took-leapt c zero w h = refl
took-leapt c (suc n) w h =
    let before = took-leapt c n w (fewer-here c n w.setting.bytes w.setting.limit w.point h) in
    let here = h n (omega arith) in
    ap took before
    ∙ ap₂ (λ (o : Option ℕ) (p : Point). record w { point = p; current = o })
    (seen-here w.setting c (further n w.point) here.0 here.1) (after-here w.setting c n w.point here.1)

-- what a span of the text says of what is here
pub span-here : (c : Class) (n : ℕ) (bytes : List ℕ) (end : ℕ) (p : Point) → end ≤ length bytes → p.index ≤ end →
    IsSpan c (slice_range bytes p.index end) n → AreHere c n bytes end p × ¬ IsOf c bytes end (further n p)
span-here c n bytes end p low at h = (
  λ k lt. rw (index-further k p) (omega (arith, lt, within), rw (read k (omega (arith, lt, within))) at (h.each k lt)),
  λ is.
      let here : (p.index + n < end) ×
      (has c (slice_index bytes (p.index + n)) ≡ true) = rw (index-further n p) at is in
      let no : has c (slice_index bytes (p.index + n)) ≡
      false = rw (read n (omega (arith, here.0))) at (h.ends (rw size (omega (arith, here.0)))) in
      let yes = here.1 in
      cc,
)
  where
    size : length (slice_range bytes p.index end) ≡ end - p.index
    size = grind (arith, length-take-le, length-drop)

    within : n ≤ end - p.index
    within = rw size at h.within

    read : (k : ℕ) → k < end - p.index → slice_index (slice_range bytes p.index end) k ≡ slice_index bytes (p.index + k)
    read k lt = get_or-take (end - p.index) (drop p.index bytes) k 0 lt ∙ get_or-drop p.index bytes k 0

-- the point after a span
abbrev pub following : ℕ → Point → Point
following n p = record p { column = p.column + n; index = p.index + n; vs = 0 }

following-further : (n : ℕ) (p : Point) → 0 < n → further n p ≡ following n p
following-further zero p lt = absurd (omega (arith, lt))
following-further (suc n) p lt = refl

pub span-taken : (c : Class) (n : ℕ) (end : ℕ) (w : World) → end ≤ length w.setting.bytes → w.point.index ≤ end →
    0 < n →
    IsSpan c (slice_range w.setting.bytes w.point.index end) n →
    TakesAll c end w (record w { point = following n w.point })
span-taken c n end w low at some h =
    let here = span-here c n w.setting.bytes end w.point low at h in
    let is = following-further n w.point some in
    record {
      count = n;
      new = ap (λ (p : Point). record w { point = p }) (sym (along-further w.setting c n end w.point here.0 ∙ is));
      each =
          λ k lt. subst (IsOf c w.setting.bytes end)
          (sym (along-further w.setting c k end w.point (λ i below. here.0 i (omega (arith, lt, below)))))
          (here.0 k lt);
      ends = λ sees. here.1 (subst (IsOf c w.setting.bytes end) (sym is) sees);
    }

-- where none is here nothing is taken
pub none-taken : (c : Class) (end : ℕ) (w : World) → ¬ IsOf c w.setting.bytes end w.point → TakesAll c end w w
unfolding along
none-taken c end w none = record { count = 0; new = refl; each = λ k lt. absurd (omega (arith, lt)); ends = none }

-- the point after a span lies in the text
placed-further : (bytes : List ℕ) (c : Class) (n : ℕ) (end : ℕ) (p : Point) → end ≤ length bytes → IsPlaced bytes p →
    AreHere c n bytes end p → IsPlaced bytes (further n p)
placed-further bytes c zero end p low h each = h
placed-further bytes c (suc n) end p low h each =
    let before = placed-further bytes c n end p low h (fewer-here c n bytes end p each) in
    let here = each n (omega arith) in
    rw (← further-next bytes c n p here.1) (placed-next bytes (further n p) before (omega (arith, here.0, low)))

pub placed-following : (c : Class) (n : ℕ) (bytes : List ℕ) (end : ℕ) (p : Point) → IsPlaced bytes p → end ≤
    length bytes →
    p.index ≤ end → 0 < n →
    IsSpan c (slice_range bytes p.index end) n → IsPlaced bytes (following n p)
placed-following c n bytes end p placed low at some h =
    subst (IsPlaced bytes) (following-further n p some)
    (placed-further bytes c n end p low placed (span-here c n bytes end p low at h).0)

-- what is taken as far as the text may be read is seen and taken, where the last byte is seen after it
sees-leapt : (c : Class) (n : ℕ) (w : World) → AreHere c n w.setting.bytes w.setting.limit w.point →
    ¬ IsOf c w.setting.bytes w.setting.limit (further n w.point) → SeesSpan c w (leapt n w)
sees-leapt c n w h none = record {
  count = n;
  new = sym (took-leapt c n w h);
  each = λ k lt. rw (took-leapt c k w (λ i below. h i (omega (arith, lt, below)))) (h k lt);
  ends = none;
}

-- what was taken, by its number
pub record Proceeded (c : Class) (n : ℕ) (end : ℕ) (w v : World) : Type 0 where
  pub here : AreHere c n w.setting.bytes end w.point
  pub ends : ¬ IsOf c w.setting.bytes end (further n w.point)
  pub is : v ≡ record w { point = further n w.point }

pub proceeded : (c : Class) (end : ℕ) (w v : World) (t : TakesAll c end w v) → Proceeded c t.count end w v
proceeded c end w v t = record {
  here = here;
  ends = λ yes. t.ends (subst (IsOf c w.setting.bytes end) (sym at) yes);
  is = is;
}
  where
    here : AreHere c t.count w.setting.bytes end w.point
    here = here-along w.setting c t.count end w.point t.each

    is : v ≡ record w { point = further t.count w.point }
    is = t.new ∙ ap (λ (p : Point). record w { point = p }) (along-further w.setting c t.count end w.point here)

    at : v.point ≡ further t.count w.point
    at = ap (λ (x : World). x.point) is

pub sees-some : (c : Class) (w v v' : World) → TakesAll c w.setting.limit w v → w.point.index < v.point.index →
    v' ≡ record v { current = Some (slice_index v.setting.bytes (v.point.index - 1)) } → SeesSpan c w v'
sees-some c w v v' t lt e = go t.count (proceeded c w.setting.limit w v t)
  where
    go : (n : ℕ) → Proceeded c n w.setting.limit w v → SeesSpan c w v'
    go zero g =
        let none : v.point.index ≡ w.point.index = ap (λ (x : World). x.point.index) g.is in
        absurd (omega (arith, none, lt))
    go (suc m) g =
        let i : w.point.index + suc m - 1 ≡ (further m w.point).index = rw (index-further m w.point) (omega arith) in
        let new : v' ≡ leapt (suc m) w =
        e ∙ ap (λ (x : World). record x { current = Some (slice_index x.setting.bytes (x.point.index - 1)) }) g.is
        ∙ ap
        (λ (j : ℕ).
        record w { point = further (suc m) w.point; current = Some (slice_index w.setting.bytes j) }) i in
        subst (SeesSpan c w) (sym new) (sees-leapt c (suc m) w g.here g.ends)

pub sees-none : (c : Class) (w v : World) → TakesAll c w.setting.limit w v → v.point.index ≤ w.point.index →
    SeesSpan c w v
sees-none c w v t le = go t.count (proceeded c w.setting.limit w v t)
  where
    go : (n : ℕ) → Proceeded c n w.setting.limit w v → SeesSpan c w v
    go zero g = subst (SeesSpan c w) (sym g.is) (sees-leapt c 0 w g.here g.ends)
    go (suc m) g =
        let more : v.point.index ≡ w.point.index + suc m = ap (λ (x : World). x.point.index) g.is in
        absurd (omega (arith, more, le))
