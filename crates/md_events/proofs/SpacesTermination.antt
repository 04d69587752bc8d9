-- Whitespace is and ends in any table that has it.
use Rattle.std.proofs.Common.{◌≡◌, ℕ, ◌<◌, ◌≤◌, Bool, true, false, ◌&&◌, nat_lt, Option, Some, None, List, length, refl}
use Rattle.std.proofs.Common.{arith, ap, sym, ◌∙◌, subst}
use Rattle.std.specs.Prelude.{nat_le}
use Rattle.std.proofs.lemmas.Bool.Decides.{nat_tests}
use Rattle.md_engine.specs.declared.event.Event.{Event}
use Rattle.md_engine.specs.declared.event.Point.{Point}
use Rattle.md_engine.specs.declared.state.Name.{Name as StateName}
use Rattle.md_engine.specs.declared.state.Name.TheVariants as n
use Rattle.md_engine.specs.declared.state.space_or_tab.State.{State as WhiteState}
use Rattle.md_engine.specs.declared.state.space_or_tab.State.TheVariants as its
use Rattle.md_engine.specs.declared.state.State.TheVariants.{Nok, Next, Ok}
use Rattle.md_engine.specs.declared.state.State.{State}
use Rattle.md_engine.specs.declared.event.Name.TheVariants.{SpaceOrTab}
use Rattle.md_engine.specs.declared.tokenizer.Scratch.{Scratch}
use Rattle.md_engine.specs.Scheme.{Ends, EndsLater, Fits, Good, Grown, Reaches, Scheme, Position, after_all, seen}
use Rattle.md_engine.specs.Scheme.{position, spot_at, valid, state_number, work}
use Rattle.md_engine.specs.Run.{Remains, plain}
use Rattle.md_engine.specs.World.{Setting, World, after, looks}
use Rattle.md_engine.proofs.Falls.{later}
use Rattle.md_engine.proofs.Local.{accepts, begins_try, consumes, refuses, turns}
use Rattle.md_engine.proofs.Points.{cells-grow, grown-same, takes}
use Rattle.md_engine.proofs.Powers.{weighs}
use Rattle.md_events.specs.Spaces.{IsRest, after_code, asking, calmed, ends_line, inside_code, sees_white, start_code}
use Rattle.md_events.specs.Spaces.{white_ready, white_scheme, white_then, white_transition}
use Rattle.md_events.specs.Transition.{Transition, entered, exited}

-- what a state does keeps what the table needs, and falls; no state changes the setting
abbrev pub Does : Scheme → StateName → World → Transition → Type 0
Does T n w a = Good T n w a.to a.world × (a.world.setting ≡ w.setting)

-- the same of a state and a world that are known to be those
pub does-valid : (T : Scheme) (name : StateName) (w : World) (a : Transition) (s : State) (w' : World) → s ≡ a.to →
    w' ≡ a.world → Does T name w a → valid T w' (plain s)
does-valid T name w a s w' e k d =
    let P : World → Type 0 = λ x. valid T x (plain s) in
    subst P (sym k) (rw e d.0.0)

pub does-fall : (T : Scheme) (name : StateName) (w : World) (a : Transition) (s : State) (w' : World) → s ≡ a.to →
    w' ≡ a.world → Does T name w a → work T w' (plain s) < work T w (Next name)
does-fall T name w a s w' e k d =
    let P : World → Type 0 = λ x. work T x (plain s) < work T w (Next name) in
    subst P (sym k) (rw e d.0.1)

pub does-setting : (T : Scheme) (name : StateName) (w : World) (a : Transition) (w' : World) → w' ≡ a.world →
    Does T name w a → w'.setting ≡ w.setting
does-setting T name w a w' k d = ap (λ (x : World). x.setting) k ∙ d.1

pub does-remain : (T : Scheme) (name : StateName) (w : World) (a : Transition) (s : State) (w' : World) → s ≡ a.to →
    w' ≡ a.world → Does T name w a → Remains s w w'
does-remain T name w a s w' e k d =
    let P : World → Type 0 = λ x. Remains s w x in
    subst P (sym k) (rw e d.0.2)

-- what is here may be read, where a test that nothing passes holds of it
pub seen-in : (x : Position) (t : Option ℕ → Bool) → t None ≡ false → t (seen x) ≡ true → x.point.index <
    x.setting.limit
seen-in x t n e = go (nat_lt x.point.index x.setting.limit) refl
  where
    go : (b : Bool) → nat_lt x.point.index x.setting.limit ≡ b → x.point.index < x.setting.limit
    go true k = grind (arith, nat_tests)
    go false k = let bad : t None ≡ true = rw k at e in let no : true ≡ false = sym bad ∙ n in cc

pub seen-some : (x : Position) (b : ℕ) → seen x ≡ Some b → x.point.index < x.setting.limit
seen-some x b e = go (nat_lt x.point.index x.setting.limit) refl
  where
    go : (c : Bool) → nat_lt x.point.index x.setting.limit ≡ c → x.point.index < x.setting.limit
    go true k = grind (arith, nat_tests)
    go false k = let bad : (let o : Option ℕ = None in o) ≡ Some b = rw k at e in cc

-- where whitespace is here, something does
pub white-here : (w : World) (b : Bool) → w.current ≡ looks w → sees_white w.current && b ≡ true →
    w.point.index < w.setting.limit
white-here w b c e = go w.current c e
  where
    go : (o : Option ℕ) → o ≡ looks w → sees_white o && b ≡ true → w.point.index < w.setting.limit
    go None k e = cc
    go (Some x) k e = seen-some (position w) x (sym k)

-- where the line does not end here, something is here
pub inside-line : (w : World) → w.current ≡ looks w → ends_line w.current ≡ false → w.point.index < w.setting.limit
inside-line w c e = go w.current c e
  where
    go : (o : Option ℕ) → o ≡ looks w → ends_line o ≡ false → w.point.index < w.setting.limit
    go None k e = cc
    go (Some b) k e = seen-some (position w) b (sym k)

-- at rest no whitespace is asked for
pub rest-calm : (s : Scratch) → IsRest s → IsRest (calmed s)
rest-calm s e = ap calmed e

pub rest-none : (s : Scratch) → IsRest s → s.whitespace.size ≡ 0
rest-none s e = ap (λ (t : Scratch). t.whitespace.size) e

pub rest-size : (s : Scratch) → IsRest s → s.size ≡ 0
rest-size s e = ap (λ (t : Scratch). t.size) e

-- a construct that ends after the cell that is here
pub accepts-following : (T : Scheme) (n : StateName) (w : World) (P Q : Scratch → Type 0) (events : List Event)
    (s : Scratch) →
    w.point.index < w.setting.limit → Ends P Q (position w) (after_all T w.frames) → P s →
    Good T n w Ok (record w { events = events; point = after w.setting w.point; scratch = s })
accepts-following T n w P Q events s inside e is =
    let less = weighs w.setting.limit 0 (state_number T (Next n) (position w)) 0 (T.level n) (omega arith)
    (omega arith) in (
      e.ok s (after w.setting w.point) w.setting is (grown-same w.setting) (takes w.setting w.point inside),
      omega (arith, less),
      tt,
    )

pub record WhiteFits (T : Scheme) : Type 1 where
  pub each : (state : WhiteState) → Fits T white_scheme (n.SpaceOrTab state)

start_ends : (T : Scheme) (w : World) (x : Bool) → WhiteFits T →
    white_ready (n.SpaceOrTab its.Start) (position w) (after_all T w.frames) →
    Does T (n.SpaceOrTab its.Start) w (start_code w x)
start_ends T w true has r = (
  turns T white_scheme _ _ w (entered w SpaceOrTab).events w.scratch (has.each its.Start) (has.each its.Inside) r
      (omega arith) (omega arith),
  refl,
)
start_ends T w false has r = (
  turns T white_scheme _ _ w w.events w.scratch (has.each its.Start) (has.each its.After) r (omega arith)
      (omega arith),
  refl,
)

inside_ends : (T : Scheme) (w : World) (x : Bool) → WhiteFits T →
    white_ready (n.SpaceOrTab its.Inside) (position w) (after_all T w.frames) →
    (x ≡ true → w.point.index < w.setting.limit) → Does T (n.SpaceOrTab its.Inside) w (inside_code w x)
inside_ends T w true has r m = (
  consumes T white_scheme _ _ w w.events _ (has.each its.Inside) (has.each its.Inside) (m refl) (
    omega (arith, r.0, cells-grow w.setting w.point),
    later _ _ (position w) _ _ _ (takes w.setting w.point (m refl)) r.1,
  )
      (omega arith),
  refl,
)
inside_ends T w false has r m = (
  turns T white_scheme _ _ w (exited w SpaceOrTab).events w.scratch (has.each its.Inside) (has.each its.After) r
      (omega arith) (omega arith),
  refl,
)

after_ends : (T : Scheme) (w : World) (x : Bool) → WhiteFits T →
    white_ready (n.SpaceOrTab its.After) (position w) (after_all T w.frames) →
    nat_le w.scratch.whitespace.min w.scratch.whitespace.size ≡ x → Does T (n.SpaceOrTab its.After) w (after_code w x)
after_ends T w true has r e =
    (accepts T _ w _ _ w.events (calmed w.scratch) r.1 refl, refl)
after_ends T w false has r e =
    (refuses T _ w _ _ w.events (calmed w.scratch) r.1 (refl, asked), refl)
  where
    asked : 0 < w.scratch.whitespace.min
    asked = grind (arith, nat_tests)

-- each state of whitespace
pub white_terminates : (T : Scheme) (state : WhiteState) (w : World) → WhiteFits T → w.current ≡ looks w →
    white_ready (n.SpaceOrTab state) (position w) (after_all T w.frames) →
    Does T (n.SpaceOrTab state) w (white_transition state w)
white_terminates T its.Start w has c r = start_ends T w _ has r
white_terminates T its.Inside w has c r = inside_ends T w _ has r (white-here w _ c)
white_terminates T its.After w has c r = after_ends T w _ has r refl

-- an attempt at whitespace that continues with a state of the construct, or refuses where the construct may
white_else : (T own : Scheme) (name next : StateName) (w : World) (events : List Event) (s : Scratch) (min max : ℕ) →
    WhiteFits T → Fits T own name → Fits T own next →
    s.whitespace.size ≡ 0 →
    ((t : Setting) → 0 < min → Grown w.setting t → (after_all T w.frames).nok (spot_at t w.point (calmed s))) →
    ((q : Point) (t : Setting) → Grown w.setting t → Reaches t.limit w.point q →
    own.ready next (spot_at t q (calmed s)) (after_all T w.frames)) →
    own.level next ≤ own.level name → 0 < own.level name →
    ((t : Setting) → Grown w.setting t → (own.rank next (spot_at t w.point (calmed s))).number <
    (own.tries next).number) →
    (own.tries next).number < (own.rank name (position w)).number →
    Does T name w (white_then (record w { events = events; scratch = s }) min max (Next next) Nok)
white_else T own name next w events s min max white fn fx none refuse r le pos low lt = (
  begins_try T own white_scheme name (n.SpaceOrTab its.Start) w (λ t. t ≡ calmed s)
      (λ t. (t ≡ calmed s) × (0 < min)) events (asking min max 0 s)
      (record { ok = Next next; nok = Nok; is_check = false; events_len = length events; point = w.point }) fn
      (white.each its.Start) fx tt refl
      (record {
        ok = λ t q v is up way. rw is (r q v up way);
        ok_level = omega arith;
        ok_rank = λ t v is up. rw is (omega (arith, low v up));
        nok = λ t v is up. rw is.0 (refuse v is.1 up);
        nok_level = omega arith;
        nok_rank = λ t v is up. omega arith;
      })
      (λ K e. (omega arith, e)) pos le lt,
  refl,
)

-- the same, where it refuses as the construct does
pub white_try : (T own : Scheme) (name next : StateName) (w : World) (events : List Event) (s : Scratch) (min max : ℕ)
    (P Q : Scratch → Type 0) →
    WhiteFits T → Fits T own name → Fits T own next →
    s.whitespace.size ≡ 0 → (0 < min → Q (calmed s)) → Ends P Q (position w) (after_all T w.frames) →
    ((q : Point) (t : Setting) → Grown w.setting t → Reaches t.limit w.point q →
    own.ready next (spot_at t q (calmed s)) (after_all T w.frames)) →
    own.level next ≤ own.level name → 0 < own.level name →
    ((t : Setting) → Grown w.setting t → (own.rank next (spot_at t w.point (calmed s))).number <
    (own.tries next).number) →
    (own.tries next).number < (own.rank name (position w)).number →
    Does T name w (white_then (record w { events = events; scratch = s }) min max (Next next) Nok)
white_try T own name next w events s min max P Q white fn fx none calm ends =
    white_else T own name next w events s min max white fn fx none
    (λ t some up. ends.nok (calmed s) w.point t (calm some) up)

-- and the construct accepts only after the point where it begins
pub white_try_later : (T own : Scheme) (name next : StateName) (w : World) (events : List Event) (s : Scratch)
    (min max : ℕ) (P Q : Scratch → Type 0) →
    WhiteFits T → Fits T own name → Fits T own next →
    s.whitespace.size ≡ 0 → (0 < min → Q (calmed s)) → EndsLater P Q (position w) (after_all T w.frames) →
    ((q : Point) (t : Setting) → Grown w.setting t → Reaches t.limit w.point q →
    own.ready next (spot_at t q (calmed s)) (after_all T w.frames)) →
    own.level next ≤ own.level name → 0 < own.level name →
    ((t : Setting) → Grown w.setting t → (own.rank next (spot_at t w.point (calmed s))).number <
    (own.tries next).number) →
    (own.tries next).number < (own.rank name (position w)).number →
    Does T name w (white_then (record w { events = events; scratch = s }) min max (Next next) Nok)
white_try_later T own name next w events s min max P Q white fn fx none calm ends =
    white_else T own name next w events s min max white fn fx none
    (λ t some up. ends.nok (calmed s) w.point t (calm some) up)
