-- Whitespace that is taken column by column, where it is known what is first after it.
use Rattle.std.proofs.Common.{◌≡◌, ◌∙◌, ◌+◌, ◌<◌, ◌≤◌, ◌⊎◌, inl, inr, Bool, true, false, cond, ◌&&◌, ℕ, zero, suc}
use Rattle.std.proofs.Common.{List, ◌∷◌, length, Option, Some, None, ap, arith, nat_lt, refl, subst, sym}
use Rattle.std.specs.Prelude.{slice_index, slice_range}
use Rattle.std.proofs.lemmas.Bool.{and_parts}
use Rattle.std.proofs.lemmas.Bool.Decides.{nat_tests}
use Rattle.md_engine.specs.declared.event.Name.TheVariants.{SpaceOrTab}
use Rattle.md_engine.specs.declared.event.Point.{Point}
use Rattle.md_engine.specs.declared.state.Name.TheVariants as n
use Rattle.md_engine.specs.declared.state.space_or_tab.State.TheVariants as white
use Rattle.md_engine.specs.declared.state.State.{State}
use Rattle.md_engine.specs.declared.state.State.TheVariants.{Next, Retry}
use Rattle.md_engine.specs.Place.{is_ending, seen_at}
use Rattle.md_engine.specs.Run.{reading}
use Rattle.md_engine.specs.Scheme.{cells_left}
use Rattle.md_engine.specs.World.{Setting, World, after, looks, looks_at}
use Rattle.md_engine.proofs.Loops.{ArrivedAt}
use Rattle.md_engine.proofs.Points.{cells-fall}
use Rattle.md_engine.proofs.Walks.{Within, then-stays, then-takes}
use Rattle.md_meaning.specs.Rest.{is_white}
use Rattle.md_events.specs.Look.{first_following}
use Rattle.md_events.specs.Spaces.{asking, inside_code, sees_white}
use Rattle.md_events.specs.Transition.{exited, taken}
use Rattle.md_events.proofs.LookLemmas.{dark-at, left_at, none-left, white-at}
use Rattle.md_events.proofs.PlainSteps.{range-next}
use Rattle.md_registry.specs.States.{FlowStep}
use Rattle.md_at_once.proofs.TakenBack.{stepped-as}

-- what is before the limit is seen
pub looks-inside : (x : Setting) (p : Point) → p.index < x.limit → looks_at x p ≡ Some (seen_at x.bytes p)
looks-inside x p lt =
    let inner : nat_lt p.index x.limit ≡ true = grind (arith, nat_tests) in
    ap (λ (y : Bool). cond y (Some (seen_at x.bytes p)) None) inner

-- A byte is first after whitespace: after one column of it still, or here.
abbrev IsAfter : Setting → Point → ℕ → Type 0
IsAfter x p b = (is_white (slice_index x.bytes p.index) ≡ true) × (first_following (left_at x (after x p)) ≡ Some b)

abbrev IsHere : Setting → Point → ℕ → Type 0
IsHere x p b = (seen_at x.bytes p ≡ b) × (is_white b ≡ false)

first-of : (x : Setting) (p : Point) (b : ℕ) → first_following (left_at x p) ≡ Some b →
    (p.index < x.limit) × (IsAfter x p b ⊎ IsHere x p b)
first-of x p b e = go (nat_lt p.index x.limit) (nat_lt p.index (length x.bytes)) refl refl
  where
    byte : ℕ
    byte = slice_index x.bytes p.index

    rest : List ℕ
    rest = slice_range x.bytes (p.index + 1) x.limit

    left : ((after x p).index ≡ p.index) ⊎ ((after x p).index ≡ p.index + 1) → first_following rest ≡ Some b →
        first_following (left_at x (after x p)) ≡ Some b
    left (inl same) is = ap (λ (i : ℕ). first_following (slice_range x.bytes i x.limit)) same ∙ e
    left (inr more) is = ap (λ (i : ℕ). first_following (slice_range x.bytes i x.limit)) more ∙ is

    dark-seen : (y : Bool) → is_white byte ≡ false → is_white (cond y 10 byte) ≡ false
    dark-seen true k = refl
    dark-seen false k = k

    first : (y : Bool) → is_white byte ≡ y → first_following (byte ∷ rest) ≡ Some b → IsAfter x p b ⊎ IsHere x p b
    first true k is = inl (k, left (white-at x p k).following (rw k at is))
    first false k is =
        let here : Some (seen_at x.bytes p) ≡ Some b = ap Some (dark-at x p k) ∙ (rw k at is) in
        let same : seen_at x.bytes p ≡ b = cc in
        inr (same, ap is_white (sym same ∙ dark-at x p k) ∙ dark-seen (is_ending byte) k)

    go : (y z : Bool) → nat_lt p.index x.limit ≡ y → nat_lt p.index (length x.bytes) ≡ z →
        (p.index < x.limit) × (IsAfter x p b ⊎ IsHere x p b)
    go true true k h =
        let lt : p.index < x.limit = grind (arith, nat_tests) in
        let inside : p.index < length x.bytes = grind (arith, nat_tests) in
        (lt, first (is_white byte) refl (sym (ap first_following (range-next x.bytes p.index x.limit lt inside)) ∙ e))
    go true false k h =
        let past : length x.bytes ≤ p.index = grind (arith, nat_tests) in
        let none : first_following (left_at x p) ≡ None = ap first_following (none-left x p (inr past)) in cc
    go false z k h =
        let past : x.limit ≤ p.index = grind (arith, nat_tests) in
        let none : first_following (left_at x p) ≡ None = ap first_following (none-left x p (inl past)) in cc

-- whitespace was taken up to a point, of so many columns
abbrev pub reached : World → Point → ℕ → World
reached x p size = record x {
  point = p;
  current = looks_at x.setting p;
  scratch = asking x.scratch.whitespace.min x.scratch.whitespace.max size x.scratch;
}

-- It ends, before more of it for which there is no room, or before that byte.
pub record Ended (is_end : Bool) (s : State) (v x : World) (b : ℕ) : Type 0 where
  pub point : Point
  pub size : ℕ
  pub byte : ℕ
  pub inside : point.index < x.setting.limit
  pub seen : looks_at x.setting point ≡ Some byte
  pub is : (is_white byte ≡ true) ⊎ (byte ≡ b)
  pub arrived : ArrivedAt FlowStep is_end s v (n.SpaceOrTab white.After) (exited (reached x point size) SpaceOrTab)

pub white-ends : (fuel : ℕ) (is_end : Bool) (s : State) (v x : World) (b : ℕ) →
    cells_left x.setting.limit x.point ≤ fuel → first_following (left_at x.setting x.point) ≡ Some b →
    x.current ≡ looks x → Within x → ArrivedAt FlowStep is_end s v (n.SpaceOrTab white.Inside) x → Ended is_end s v x b
white-ends zero is_end s v x b le first seen within arrived =
    let lt = (first-of x.setting x.point b first).0 in absurd (omega (arith, le, lt))
white-ends (suc fuel) is_end s v x b le first seen within arrived =
    go (sees_white x.current && nat_lt x.scratch.whitespace.size x.scratch.whitespace.max) refl found.1
    (λ less more on. white-ends fuel is_end s v next b less more refl within on)
  where
    found : (x.point.index < x.setting.limit) × (IsAfter x.setting x.point b ⊎ IsHere x.setting x.point b)
    found = first-of x.setting x.point b first

    here : x.current ≡ Some (seen_at x.setting.bytes x.point)
    here = seen ∙ looks-inside x.setting x.point found.0

    one : World
    one = record (taken x) {
      scratch = asking x.scratch.whitespace.min x.scratch.whitespace.max (x.scratch.whitespace.size + 1) x.scratch;
    }

    next : World
    next = reading one

    Rest : Type 0
    Rest =
        cells_left x.setting.limit next.point ≤ fuel → first_following (left_at x.setting next.point) ≡ Some b →
        ArrivedAt FlowStep is_end s v (n.SpaceOrTab white.Inside) next → Ended is_end s v next b

    by : IsAfter x.setting x.point b ⊎ IsHere x.setting x.point b →
        (is_white (seen_at x.setting.bytes x.point) ≡ true) ⊎ (seen_at x.setting.bytes x.point ≡ b)
    by (inl more) = inl (white-at x.setting x.point more.0).white
    by (inr same) = inr same.0

    go : (y : Bool) → sees_white x.current && nat_lt x.scratch.whitespace.size x.scratch.whitespace.max ≡ y →
        IsAfter x.setting x.point b ⊎ IsHere x.setting x.point b → Rest → Ended is_end s v x b
    go true e (inl more) rest =
        let inside = (first-of x.setting (after x.setting x.point) b more.1).0 in
        let fall = cells-fall x.setting x.point found.0 in
        let on = then-takes FlowStep is_end s v (n.SpaceOrTab white.Inside) (n.SpaceOrTab white.Inside) x one arrived
        (stepped-as (n.SpaceOrTab white.Inside) x (record { to = Next (n.SpaceOrTab white.Inside); world = one })
        (ap (inside_code x) e)) refl within inside in
        let r : Ended is_end s v next b = rest (omega (arith, fall, le)) more.1 on in
        record {
          point = r.point;
          size = r.size;
          byte = r.byte;
          inside = r.inside;
          seen = r.seen;
          is = r.is;
          arrived = r.arrived;
        }
    go true e (inr same) rest =
        let parts = and_parts (sees_white x.current) (nat_lt x.scratch.whitespace.size x.scratch.whitespace.max) e in
        let no : true ≡ false = sym parts.0 ∙ ap sees_white here ∙ ap is_white same.0 ∙ same.1 in cc
    go false e f rest =
        let at_end = then-stays FlowStep is_end s v (n.SpaceOrTab white.Inside) (n.SpaceOrTab white.After) x
        (exited x SpaceOrTab) arrived
        (stepped-as (n.SpaceOrTab white.Inside) x
        (record { to = Retry (n.SpaceOrTab white.After); world = exited x SpaceOrTab })
        (ap (inside_code x) e)) refl within refl seen in
        record {
          point = x.point;
          size = x.scratch.whitespace.size;
          byte = seen_at x.setting.bytes x.point;
          inside = found.0;
          seen = looks-inside x.setting x.point found.0;
          is = by f;
          arrived =
              subst
              (λ (o : Option ℕ).
              ArrivedAt FlowStep is_end s v (n.SpaceOrTab white.After)
              (exited (record x { current = o }) SpaceOrTab)) seen
              at_end;
        }
