-- what a construct proves of each of its states, whatever table it is in
use Rattle.std.proofs.Common.{◌≡◌, ℕ, ◌+◌, ◌<◌, ◌≤◌, List, ◌∷◌, refl, arith, ap}
use Rattle.md_engine.specs.declared.event.Event.{Event}
use Rattle.md_engine.specs.declared.event.Point.{Point}
use Rattle.md_engine.specs.declared.state.Name.{Name as StateName}
use Rattle.md_engine.specs.declared.state.State.{State}
use Rattle.md_engine.specs.declared.state.State.TheVariants.{Error, Ok, Nok, Next, Retry}
use Rattle.md_engine.specs.declared.tokenizer.Frame.{Frame}
use Rattle.md_engine.specs.declared.tokenizer.Scratch.{Scratch}
use Rattle.md_engine.specs.World.{World, after}
use Rattle.md_engine.specs.Scheme.{Reaches, after_frame, Position, position, moved_to, After, Rank, Scheme, state_level}
use Rattle.md_engine.specs.Scheme.{state_rank, state_number, keyed, frame_level, frame_rank, frame_number, base}
use Rattle.md_engine.specs.Scheme.{frames_work, work, holds, after_all, Ends, EndsLater, Tries, TriesLater, Good, Fits}
use Rattle.md_engine.specs.Scheme.{FitsState, of_owners, valid}
use Rattle.md_engine.proofs.Falls.{later, tries, tries_later}
use Rattle.md_engine.proofs.Points.{cells-fall, grown-same, rank-low, stays}
use Rattle.md_engine.proofs.Powers.{weighs, weighs_with}

pub fits : (owner : StateName → Scheme) (n : StateName) → Fits (of_owners owner) (owner n) n
fits owner n = record { ready = λ x K h. h; level = refl; rank = λ x. refl; tries = refl }

-- what falls, at a level no higher
same-frames : (T : Scheme) (w : World) (events : List Event) (p : Point) (s : Scratch) (n m : StateName) →
    T.level m ≤ T.level n →
    state_number T (Next m) (moved_to (position w) p s) < state_number T (Next n) (position w) →
    work T (record w { events = events; point = p; scratch = s }) (Next m) < work T w (Next n)
same-frames T w events p s n m le lt =
    let less = weighs w.setting.limit (state_number T (Next m) (moved_to (position w) p s))
    (state_number T (Next n) (position w)) (T.level m) (T.level n) lt le in
    omega (arith, less)

-- to another state here
pub turns : (T own : Scheme) (n m : StateName) (w : World) (events : List Event) (s : Scratch) → Fits T own n →
    Fits T own m →
    own.ready m (moved_to (position w) w.point s) (after_all T w.frames) → own.level m ≤ own.level n →
    (own.rank m (moved_to (position w) w.point s)).number < (own.rank n (position w)).number →
    Good T n w (Retry m) (record w { events = events; scratch = s })
turns T own n m w events s fn fm r le lt =
    let a = fm.level in let b = fn.level in let c = fm.rank (moved_to (position w) w.point s) in
    let d = fn.rank (position w) in
    let low : (T.rank m (moved_to (position w) w.point s)).number < (T.rank n (position w)).number = rw (c, d) lt in
    (fm.ready _ _ r, same-frames T w events w.point s n m (rw (a, b) le) (omega (arith, low)), (refl, refl))

-- after the cell that is here
pub consumes : (T own : Scheme) (n m : StateName) (w : World) (events : List Event) (s : Scratch) → Fits T own n →
    Fits T own m → w.point.index < w.setting.limit →
    own.ready m (moved_to (position w) (after w.setting w.point) s) (after_all T w.frames) → own.level m ≤ own.level n →
    Good T n w (Next m) (record w { events = events; point = after w.setting w.point; scratch = s })
consumes T own n m w events s fn fm inside r le =
    let a = fm.level in let b = fn.level in
    let less = cells-fall w.setting w.point inside in
    let few = rank-low (T.rank m (moved_to (position w) (after w.setting w.point) s)) in (
      fm.ready _ _ r,
      same-frames T w events (after w.setting w.point) s n m (rw (a, b) le) (omega (arith, less, few)),
      tt,
    )

ends-falls : (T : Scheme) (w : World) (n : StateName) → 0 + frames_work T w.setting.limit w.frames < work T w (Next n)
ends-falls T w n =
    let less =
    weighs w.setting.limit 0 (state_number T (Next n) (position w)) 0 (T.level n) (omega arith) (omega arith) in
    omega (arith, less)

pub accepts : (T : Scheme) (n : StateName) (w : World) (P Q : Scratch → Type 0) (events : List Event) (s : Scratch) →
    Ends P Q (position w) (after_all T w.frames) → P s →
    Good T n w Ok (record w { events = events; scratch = s })
accepts T n w P Q events s e is = (
  e.ok s w.point w.setting is (grown-same w.setting) (stays w.setting.limit w.point),
  omega (arith, ends-falls T w n),
  tt,
)

pub refuses : (T : Scheme) (n : StateName) (w : World) (P Q : Scratch → Type 0) (events : List Event) (s : Scratch) →
    Ends P Q (position w) (after_all T w.frames) → Q s →
    Good T n w Nok (record w { events = events; scratch = s })
refuses T n w P Q events s e is =
    (e.nok s w.point w.setting is (grown-same w.setting), omega (arith, ends-falls T w n), tt)

pub refuses_later : (T : Scheme) (n : StateName) (w : World) (P Q : Scratch → Type 0) (events : List Event)
    (s : Scratch) →
    EndsLater P Q (position w) (after_all T w.frames) → Q s →
    Good T n w Nok (record w { events = events; scratch = s })
refuses_later T n w P Q events s e is =
    (e.nok s w.point w.setting is (grown-same w.setting), omega (arith, ends-falls T w n), tt)

holds_by : (T own : Scheme) (st : State) (x : Position) (K : After) → FitsState T own st → holds own st x K →
    holds T st x K
holds_by T own Ok x K f h = h
holds_by T own Nok x K f h = h
holds_by T own Error x K f h = h
holds_by T own (Next n) x K f h = f.ready x K h
holds_by T own (Retry n) x K f h = f.ready x K h

level_by : (T own : Scheme) (st : State) → FitsState T own st → state_level T st ≡ state_level own st
level_by T own Ok f = refl
level_by T own Nok f = refl
level_by T own Error f = refl
level_by T own (Next n) f = f.level
level_by T own (Retry n) f = f.level

rank_by : (T own : Scheme) (st : State) (x : Position) → FitsState T own st → state_rank T st x ≡ state_rank own st x
rank_by T own Ok x f = refl
rank_by T own Nok x f = refl
rank_by T own Error x f = refl
rank_by T own (Next n) x f = ap (λ (r : Rank). r.number + 1) (f.rank x)
rank_by T own (Retry n) x f = ap (λ (r : Rank). r.number + 1) (f.rank x)

keyed_by : (T own : Scheme) (g : Scheme → StateName → ℕ) → (a b : State) → FitsState T own a → FitsState T own b →
    ((n : StateName) → Fits T own n → g T n ≡ g own n) → keyed (g T) a b ≡ keyed (g own) a b
keyed_by T own g (Next n) b f k e = e n f
keyed_by T own g (Retry n) b f k e = e n f
keyed_by T own g Ok (Next n) f k e = e n k
keyed_by T own g Ok (Retry n) f k e = e n k
keyed_by T own g Ok Ok f k e = refl
keyed_by T own g Ok Nok f k e = refl
keyed_by T own g Ok Error f k e = refl
keyed_by T own g Nok (Next n) f k e = e n k
keyed_by T own g Nok (Retry n) f k e = e n k
keyed_by T own g Nok Ok f k e = refl
keyed_by T own g Nok Nok f k e = refl
keyed_by T own g Nok Error f k e = refl
keyed_by T own g Error (Next n) f k e = e n k
keyed_by T own g Error (Retry n) f k e = e n k
keyed_by T own g Error Ok f k e = refl
keyed_by T own g Error Nok f k e = refl
keyed_by T own g Error Error f k e = refl

-- how far an attempt is, by what it continues with
tries-by : (T own : Scheme) (a b : State) → FitsState T own a → FitsState T own b →
    keyed (λ n. (T.tries n).number) a b ≡ keyed (λ n. (own.tries n).number) a b
tries-by T own a b f k =
    keyed_by T own (λ (S : Scheme) (n : StateName). (S.tries n).number) a b f k
    (λ n h. ap (λ (r : Rank). r.number) h.tries)

tries_by : (T own : Scheme) (f : Frame) (P Q : Scratch → Type 0) (x : Position) (K : After) → FitsState T own f.ok →
    FitsState T own f.nok → Tries own f P Q x K → Tries T f P Q x K
tries_by T own f P Q x K a b t =
    let low = keyed_by T own (λ (S : Scheme). S.level) f.nok f.ok b a (λ n h. h.level) in
    let r = tries-by T own f.nok f.ok b a in
    record {
      ok = λ s q v is up way. holds_by T own f.ok _ K a (t.ok s q v is up way);
      ok_level = rw (low, level_by T own f.ok a) t.ok_level;
      ok_rank = λ s v is up. rw (r, rank_by T own f.ok _ a) (t.ok_rank s v is up);
      nok = λ s v is up. holds_by T own f.nok _ K b (t.nok s v is up);
      nok_level = rw (low, level_by T own f.nok b) t.nok_level;
      nok_rank = λ s v is up. rw (r, rank_by T own f.nok _ b) (t.nok_rank s v is up);
    }

tries_later_by : (T own : Scheme) (f : Frame) (P Q : Scratch → Type 0) (x : Position) (K : After) →
    FitsState T own f.ok → FitsState T own f.nok → TriesLater own f P Q x K → TriesLater T f P Q x K
tries_later_by T own f P Q x K a b t =
    let low = keyed_by T own (λ (S : Scheme). S.level) f.nok f.ok b a (λ n h. h.level) in
    let r = tries-by T own f.nok f.ok b a in
    record {
      moves_on = t.moves_on;
      ok = λ s q v is up way. holds_by T own f.ok _ K a (t.ok s q v is up way);
      ok_level = rw (low, level_by T own f.ok a) t.ok_level;
      nok = λ s v is up. holds_by T own f.nok _ K b (t.nok s v is up);
      nok_level = rw (low, level_by T own f.nok b) t.nok_level;
      nok_rank = λ s v is up. rw (r, rank_by T own f.nok _ b) (t.nok_rank s v is up);
    }

-- what a call that begins an attempt keeps and lets fall
abbrev Begun : Scheme → StateName → World → StateName → World → Type 0
Begun T n w m new = valid T new (Next m) × (work T new (Next m) < work T w (Next n))

-- an attempt at another construct, of a lower level, that is ready there
begins_ready : (T own inner : Scheme) (n m : StateName) (w : World) (events : List Event) (q : Point) (s : Scratch)
    (f : Frame) →
    Fits T own n → Fits T inner m → FitsState T own f.ok → FitsState T own f.nok → f.point ≡ w.point →
    inner.ready m (moved_to (position w) q s) (after_frame T f (after_all T w.frames)) →
    inner.level m < own.level n → frame_level own f ≤ own.level n →
    frame_rank own f < (own.rank n (position w)).number →
    Begun T n w m (record w { events = events; frames = f ∷ w.frames; point = q; scratch = s })
begins_ready T own inner n m w events q s f fn fm fo fk same r low le lt =
    let y : Position = moved_to (position w) q s in
    let a = fm.level in let b = fn.level in let d = fn.rank (position w) in
    let l : frame_level T f ≡
    frame_level own f = keyed_by T own (λ (S : Scheme). S.level) f.nok f.ok fk fo (λ n h. h.level) in
    let k : frame_rank T f ≡ frame_rank own f = tries-by T own f.nok f.ok fk fo in
    let lower : T.level m < T.level n = rw (a, b) low in
    let under : frame_level T f ≤ T.level n = rw (l, b) le in
    let less : frame_rank T f < (T.rank n (position w)).number = rw (k, d) lt in
    let number : frame_number T w.setting.limit f < state_number T (Next n) (position w) =
    rw same (omega (arith, less)) in
    let few = rank-low (T.rank m y) in
    let small : state_number T (Next m) y < base w.setting.limit = omega (arith, few) in
    let all = weighs_with w.setting.limit (state_number T (Next m) y) (frame_number T w.setting.limit f)
    (state_number T (Next n) (position w)) (T.level m) (frame_level T f) (T.level n) number under small lower in
    (fm.ready y _ r, omega (arith, all))

-- here or after the cell that is here
begins_by : (T own inner : Scheme) (n m : StateName) (w : World) (P Q : Scratch → Type 0) (events : List Event)
    (q : Point) (s : Scratch) (f : Frame) →
    Reaches w.setting.limit w.point q →
    Fits T own n → Fits T inner m → FitsState T own f.ok → FitsState T own f.nok → f.point ≡ w.point →
    Tries own f P Q (moved_to (position w) w.point s) (after_all T w.frames) →
    ((K : After) → Ends P Q (moved_to (position w) q s) K → inner.ready m (moved_to (position w) q s) K) →
    inner.level m < own.level n → frame_level own f ≤ own.level n →
    frame_rank own f < (own.rank n (position w)).number →
    Begun T n w m (record w { events = events; frames = f ∷ w.frames; point = q; scratch = s })
begins_by T own inner n m w P Q events q s f way fn fm fo fk same t r low le lt =
    let x : Position = moved_to (position w) w.point s in
    let e = tries T f P Q x (after_all T w.frames) same (tries_by T own f P Q x (after_all T w.frames) fo fk t) in
    let e2 : Ends P Q (moved_to (position w) q s) (after_frame T f (after_all T w.frames)) = later P Q x
    (after_frame T f (after_all T w.frames)) q s way e in
    begins_ready T own inner n m w events q s f fn fm fo fk same (r _ e2) low le lt

pub begins_try : (T own inner : Scheme) (n m : StateName) (w : World) (P Q : Scratch → Type 0) (events : List Event)
    (s : Scratch) (f : Frame) →
    Fits T own n → Fits T inner m → FitsState T own f.ok → FitsState T own f.nok → f.point ≡ w.point →
    Tries own f P Q (moved_to (position w) w.point s) (after_all T w.frames) →
    ((K : After) → Ends P Q (moved_to (position w) w.point s) K → inner.ready m (moved_to (position w) w.point s) K) →
    inner.level m < own.level n → frame_level own f ≤ own.level n →
    frame_rank own f < (own.rank n (position w)).number →
    Good T n w (Retry m) (record w { events = events; frames = f ∷ w.frames; scratch = s })
begins_try T own inner n m w P Q events s f fn fm fo fk same t r low le lt =
    let b = begins_by T own inner n m w P Q events w.point s f (stays w.setting.limit w.point) fn fm fo fk same t r low
    le lt in
    (b.0, b.1, (refl, refl))

-- an attempt here at a construct that accepts only after the point where it begins
pub begins_later : (T own inner : Scheme) (n m : StateName) (w : World) (P Q : Scratch → Type 0) (events : List Event)
    (s : Scratch) (f : Frame) →
    Fits T own n → Fits T inner m → FitsState T own f.ok → FitsState T own f.nok → f.point ≡ w.point →
    TriesLater own f P Q (moved_to (position w) w.point s) (after_all T w.frames) →
    ((K : After) → EndsLater P Q (moved_to (position w) w.point s) K →
    inner.ready m (moved_to (position w) w.point s) K) →
    inner.level m < own.level n → frame_level own f ≤ own.level n →
    frame_rank own f < (own.rank n (position w)).number →
    Good T n w (Retry m) (record w { events = events; frames = f ∷ w.frames; scratch = s })
begins_later T own inner n m w P Q events s f fn fm fo fk same t r low le lt =
    let x : Position = moved_to (position w) w.point s in
    let e = tries_later T f P Q x (after_all T w.frames) same
    (tries_later_by T own f P Q x (after_all T w.frames) fo fk t) in
    let b = begins_ready T own inner n m w events w.point s f fn fm fo fk same (r _ e) low le lt in
    (b.0, b.1, (refl, refl))
