-- How attempts end where they owe to, and why leaving one makes the number of a tokenizer fall.
use Rattle.std.proofs.Common.{◌≡◌, ℕ, ◌+◌, ◌<◌, ◌≤◌, Bool, true, false, cond, List, ◌∷◌, Option, Some, None, refl}
use Rattle.std.proofs.Common.{arith, ap, sym, inl, inr, ◌⊎◌, nat_lt, subst}
use Rattle.std.proofs.lemmas.Bool.Decides.{nat_tests}
use Rattle.md_engine.specs.declared.event.Point.{Point}
use Rattle.md_engine.specs.declared.state.State.{State}
use Rattle.md_engine.specs.declared.state.State.TheVariants.{Error, Ok, Nok, Next, Retry}
use Rattle.md_engine.specs.declared.tokenizer.Frame.{Frame}
use Rattle.md_engine.specs.declared.tokenizer.Scratch.{Scratch}
use Rattle.md_engine.specs.World.{Setting, World}
use Rattle.md_engine.specs.Place.{seen_at}
use Rattle.md_engine.specs.Run.{IsEnd, Leaves, leads_back, left, next_of, plain}
use Rattle.md_engine.specs.Scheme.{After, Ends, EndsLater, Grown, Passes, Reaches, Resumes, Scheme, Position, Tries}
use Rattle.md_engine.specs.Scheme.{TriesLater, after_all, after_frame, cells_before, frame_level, frame_number}
use Rattle.md_engine.specs.Scheme.{frame_rank, frames_work, holds, moved_to, seen, position, spot_at, valid}
use Rattle.md_engine.specs.Scheme.{state_level, state_number, state_rank, state_work, work}
use Rattle.md_engine.proofs.Points.{grown-same, grown-then, passes-reaches, passes_then, rank-low, stays, then_passes}
use Rattle.md_engine.proofs.Points.{then_reaches}
use Rattle.md_engine.proofs.Powers.{weighs}

-- what a construct owes where it ends, it owes from a later position
pub later_at : (P Q : Scratch → Type 0) (x : Position) (K : After) (q : Point) (t : Setting) (s : Scratch) →
    Grown x.setting t → Reaches t.limit x.point q → Ends P Q x K → Ends P Q (spot_at t q s) K
later_at P Q x K q t s g r e = record {
  ok =
      λ v p u is up way. e.ok v p u is (grown-then x.setting t u g up)
      (then_reaches t.limit u.limit x.point q p up.limit r way);
  nok = λ v p u is up. e.nok v p u is (grown-then x.setting t u g up);
}

pub later : (P Q : Scratch → Type 0) (x : Position) (K : After) (q : Point) (s : Scratch) →
    Reaches x.setting.limit x.point q → Ends P Q x K → Ends P Q (moved_to x q s) K
later P Q x K q s r e = later_at P Q x K q x.setting s (grown-same x.setting) r e

-- the same of a construct that accepts only after the point where it begins
pub passing_at : (P Q : Scratch → Type 0) (x : Position) (K : After) (q : Point) (t : Setting) (s : Scratch) →
    Grown x.setting t → Reaches t.limit x.point q → EndsLater P Q x K → EndsLater P Q (spot_at t q s) K
passing_at P Q x K q t s g r e = record {
  ok =
      λ v p u is up way. e.ok v p u is (grown-then x.setting t u g up)
      (then_passes t.limit u.limit x.point q p up.limit r way);
  nok = λ v p u is up. e.nok v p u is (grown-then x.setting t u g up);
}

-- after that point it may accept everywhere
pub passed_at : (P Q : Scratch → Type 0) (x : Position) (K : After) (q : Point) (t : Setting) (s : Scratch) →
    Grown x.setting t → Passes t.limit x.point q → EndsLater P Q x K → Ends P Q (spot_at t q s) K
passed_at P Q x K q t s g r e = record {
  ok =
      λ v p u is up way. e.ok v p u is (grown-then x.setting t u g up)
      (passes_then t.limit u.limit x.point q p up.limit r way);
  nok = λ v p u is up. e.nok v p u is (grown-then x.setting t u g up);
}

pub passed : (P Q : Scratch → Type 0) (x : Position) (K : After) (q : Point) (s : Scratch) →
    Passes x.setting.limit x.point q → EndsLater P Q x K → Ends P Q (moved_to x q s) K
passed P Q x K q s r e = passed_at P Q x K q x.setting s (grown-same x.setting) r e

-- what is seen stays, when more may be read
pub seen_grows : (x : Position) (t : Setting) (s : Scratch) (b : ℕ) → Grown x.setting t → seen x ≡ Some b →
    seen (spot_at t x.point s) ≡ Some b
seen_grows x t s b g e = go (nat_lt x.point.index x.setting.limit) refl
  where
    go : (c : Bool) → nat_lt x.point.index x.setting.limit ≡ c → seen (spot_at t x.point s) ≡ Some b
    go true k =
        let le : x.setting.limit ≤ t.limit = g.limit in
        let inside : nat_lt x.point.index t.limit ≡ true = grind (arith, nat_tests) in
        let here : Some (seen_at x.setting.bytes x.point) ≡ Some b = rw k at e in
        rw (inside, g.bytes) here
    go false k = let none : (let o : Option ℕ = None in o) ≡ Some b = rw k at e in cc

-- what is tried ends as is owed, where what it continues with is ready and below
resumes : (T : Scheme) (f : Frame) (st : State) (x : Position) (K : After) (p : Point) → f.point ≡ p →
    Reaches x.setting.limit p x.point → holds T st x K → state_level T st ≤ frame_level T f →
    (x.point ≡ p → state_rank T st x < frame_rank T f + 1) → Resumes T f st x K
resumes T f st x K p same r h l k = record { valid = h; level = l; falls = go st r.cells k }
  where
    go : (st : State) → (p ≡ x.point) ⊎ ((cells_before p < cells_before x.point) × (p.index < x.setting.limit)) →
        (x.point ≡ p → state_rank T st x < frame_rank T f + 1) → state_number T st x < frame_number T x.setting.limit f
    go Ok c k = omega arith
    go Nok c k = omega arith
    go Error c k = omega arith
    go (Next n) (inl e) k = let less = k (sym e) in rw (same, e) (omega arith)
    go (Next n) (inr lt) k = let few = rank-low (T.rank n x) in rw same (omega (arith, lt.0, lt.1, few))
    go (Retry n) (inl e) k = let less = k (sym e) in rw (same, e) (omega arith)
    go (Retry n) (inr lt) k = let few = rank-low (T.rank n x) in rw same (omega (arith, lt.0, lt.1, few))

-- what is tried refuses as is owed
refused : (T : Scheme) (f : Frame) (Q : Scratch → Type 0) (x : Position) (K : After) → f.point ≡ x.point →
    ((s : Scratch) (t : Setting) → Q s → Grown x.setting t → holds T f.nok (spot_at t x.point s) K) →
    state_level T f.nok ≤ frame_level T f →
    ((s : Scratch) (t : Setting) → Q s → Grown x.setting t →
    state_rank T f.nok (spot_at t x.point s) < frame_rank T f + 1) →
    (s : Scratch) (t : Setting) → Q s → Grown x.setting t → Resumes T f f.nok (spot_at t f.point s) K
refused T f Q x K same h level rank s t is up =
    let P' : Point → Type 0 = λ p. Resumes T f f.nok (spot_at t p s) K in
    subst P' (sym same)
    (resumes T f f.nok (spot_at t x.point s) K x.point same (stays t.limit x.point) (h s t is up) level
    (λ e. rank s t is up))

pub tries : (T : Scheme) (f : Frame) (P Q : Scratch → Type 0) (x : Position) (K : After) → f.point ≡ x.point →
    Tries T f P Q x K → Ends P Q x (after_frame T f K)
tries T f P Q x K same h = record {
  ok = λ s q t is up way. go f.is_check s q t is up way (h.ok s q t is up way);
  nok = λ s q t is up. refused T f Q x K same h.nok h.nok_level h.nok_rank s t is up;
}
  where
    go : (b : Bool) (s : Scratch) (q : Point) (t : Setting) → P s → Grown x.setting t → Reaches t.limit x.point q →
        holds T f.ok (cond b (spot_at t x.point s) (spot_at t q s)) K →
        Resumes T f f.ok (cond b (spot_at t f.point s) (spot_at t q s)) K
    go true s q t is up way k =
        let P' : Point → Type 0 = λ p. Resumes T f f.ok (spot_at t p s) K in
        subst P' (sym same)
        (resumes T f f.ok (spot_at t x.point s) K x.point same (stays t.limit x.point) k h.ok_level
        (λ e. h.ok_rank s t is up))
    go false s q t is up way k = resumes T f f.ok (spot_at t q s) K x.point same way k h.ok_level (λ e.
        let P' : Point → Type 0 = λ p. state_rank T f.ok (spot_at t p s) < frame_rank T f + 1 in
        subst P' (sym e) (h.ok_rank s t is up))

pub tries_later : (T : Scheme) (f : Frame) (P Q : Scratch → Type 0) (x : Position) (K : After) → f.point ≡ x.point →
    TriesLater T f P Q x K → EndsLater P Q x (after_frame T f K)
tries_later T f P Q x K same h = record {
  ok = λ s q t is up way. go f.is_check h.moves_on s q t way (h.ok s q t is up way);
  nok = λ s q t is up. refused T f Q x K same h.nok h.nok_level h.nok_rank s t is up;
}
  where
    go : (b : Bool) → b ≡ false → (s : Scratch) (q : Point) (t : Setting) → Passes t.limit x.point q →
        holds T f.ok (spot_at t q s) K → Resumes T f f.ok (cond b (spot_at t f.point s) (spot_at t q s)) K
    go true e s q t way k = absurd (cc)
    go false e s q t way k =
        resumes T f f.ok (spot_at t q s) K x.point same (passes-reaches t.limit x.point q way) k h.ok_level (λ e.
        let none : cells_before q ≡ cells_before x.point = ap cells_before e in absurd (omega (arith, none, way.cells)))

-- leaving an attempt
pub resumed : (T : Scheme) (w : World) (fs : List Frame) (f : Frame) (s : State) → IsEnd s → w.frames ≡ f ∷ fs →
    valid T w (plain s) →
    Resumes T f (next_of f s) (position (left w fs f (leads_back f s))) (after_all T fs)
resumed T w fs f s end e st = go s end (subst Q e st)
  where
    Q : List Frame → Type 0
    Q = λ x. holds T (plain s) (position w) (after_all T x)

    back : (b : Bool) →
        Resumes T f f.ok (cond b (record (position w) { point = f.point }) (position w)) (after_all T fs) →
        Resumes T f f.ok (position (left w fs f b)) (after_all T fs)
    back true r = r
    back false r = r

    go : (s : State) → IsEnd s → holds T (plain s) (position w) (after_all T (f ∷ fs)) →
        Resumes T f (next_of f s) (position (left w fs f (leads_back f s))) (after_all T fs)
    go Ok end h = back f.is_check h
    go Nok end h = h
    go Error end h = absurd end
    go (Next n) end h = absurd end
    go (Retry n) end h = absurd end

plain-holds : (T : Scheme) (st : State) (x : Position) (K : After) → holds T st x K → holds T (plain st) x K
plain-holds T Ok x K h = h
plain-holds T Nok x K h = h
plain-holds T Error x K h = h
plain-holds T (Next n) x K h = h
plain-holds T (Retry n) x K h = h

plain-work : (T : Scheme) (st : State) (x : Position) → state_work T (plain st) x ≡ state_work T st x
plain-work T Ok x = refl
plain-work T Nok x = refl
plain-work T Error x = refl
plain-work T (Next n) x = refl
plain-work T (Retry n) x = refl

left-frames : (w : World) (fs : List Frame) (f : Frame) (b : Bool) → (left w fs f b).frames ≡ fs
left-frames w fs f true = refl
left-frames w fs f false = refl

left-limit : (w : World) (fs : List Frame) (f : Frame) (b : Bool) → (left w fs f b).setting.limit ≡ w.setting.limit
left-limit w fs f true = refl
left-limit w fs f false = refl

pub left_valid : (T : Scheme) (w : World) (fs : List Frame) (f : Frame) (s : State) → IsEnd s → w.frames ≡ f ∷ fs →
    valid T w (plain s) →
    valid T (left w fs f (leads_back f s)) (plain (next_of f s))
left_valid T w fs f s end e st =
    let r = (resumed T w fs f s end e st).valid in
    let h = plain-holds T (next_of f s) _ _ r in
    rw (left-frames w fs f (leads_back f s)) h

ends-work : (T : Scheme) (s : State) (x : Position) → IsEnd s → state_work T (plain s) x ≡ 0
ends-work T Ok x end = omega arith
ends-work T Nok x end = omega arith
ends-work T Error x end = absurd end
ends-work T (Next n) x end = absurd end
ends-work T (Retry n) x end = absurd end

falls-with : (T : Scheme) (limit : ℕ) (fs : List Frame) (f : Frame) (st : State) (x : Position) (w' : World) →
    w'.frames ≡ fs → x ≡ position w' → w'.setting.limit ≡ limit →
    state_level T st ≤ frame_level T f → state_number T st x < frame_number T x.setting.limit f →
    work T w' (plain st) < frames_work T limit (f ∷ fs)
falls-with T limit fs f st x w' fr sp li le lt =
    let same = plain-work T st (position w') in
    let P : Position → Type 0 = λ y. state_number T st y < frame_number T y.setting.limit f in
    let there : state_number T st (position w') < frame_number T w'.setting.limit f = subst P sp lt in
    let less = weighs w'.setting.limit (state_number T st (position w')) (frame_number T w'.setting.limit f)
    (state_level T st) (frame_level T f) there le in
    let all : work T w' (plain st) <
    frames_work T w'.setting.limit (f ∷ fs) = let g : state_work T st (position w')
    + frames_work T w'.setting.limit fs <
    frames_work T w'.setting.limit (f ∷ fs) = omega (arith, less) in
    rw (fr, same) g in
    let Q : ℕ → Type 0 = λ l. work T w' (plain st) < frames_work T l (f ∷ fs) in
    subst Q li all

pub left_falls : (T : Scheme) (w : World) (fs : List Frame) (f : Frame) (s : State) → IsEnd s → w.frames ≡ f ∷ fs →
    valid T w (plain s) →
    work T (left w fs f (leads_back f s)) (plain (next_of f s)) < work T w (plain s)
left_falls T w fs f s end e st =
    let b = leads_back f s in
    let r = resumed T w fs f s end e st in
    let less = falls-with T w.setting.limit fs f (next_of f s) (position (left w fs f b)) (left w fs f b)
    (left-frames w fs f b) refl (left-limit w fs f b) r.level r.falls in
    let zero_work = ends-work T s (position w) end in
    rw (e, zero_work)
    (let z : 0 + frames_work T w.setting.limit (f ∷ fs) ≡ frames_work T w.setting.limit (f ∷ fs) = omega arith in
    rw z less)

-- the same, of a state and a world known by equations
pub valid_same : (T : Scheme) (w w' : World) (s s' : State) → w ≡ w' → s ≡ s' → valid T w s → valid T w' s'
valid_same T w w' s s' e k h =
    let P : World → Type 0 = λ x. valid T x s in
    let Q : State → Type 0 = λ x. valid T w' x in
    subst Q k (subst P e h)

pub falls_same : (T : Scheme) (v w w' : World) (t s s' : State) → w ≡ w' → s ≡ s' → work T v t < work T w s →
    work T v t < work T w' s'
falls_same T v w w' t s s' e k h =
    let P : World → Type 0 = λ x. work T v t < work T x s in
    let Q : State → Type 0 = λ x. work T v t < work T w' x in
    subst Q k (subst P e h)

pub leaves_valid : (T : Scheme) (w w' : World) (s s' : State) → Leaves s w s' w' → valid T w (plain s) →
    valid T w' (plain s')
leaves_valid T w w' s s' l st =
    valid_same T _ w' _ (plain s') (sym l.new) (ap plain (sym l.next))
    (left_valid T w l.outer l.frame s l.end l.frames st)

pub leaves_falls : (T : Scheme) (w w' : World) (s s' : State) → Leaves s w s' w' → valid T w (plain s) →
    work T w' (plain s') < work T w (plain s)
leaves_falls T w w' s s' l st =
    let P : World → Type 0 = λ x. work T x (plain (next_of l.frame s)) < work T w (plain s) in
    let Q : State → Type 0 = λ x. work T w' (plain x) < work T w (plain s) in
    subst Q (sym l.next) (subst P (sym l.new) (left_falls T w l.outer l.frame s l.end l.frames st))
