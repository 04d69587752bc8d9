-- Whitespace that is taken at once is what its states take.
use Rattle.std.proofs.Common.{◌≡◌, ◌≢◌, ℕ, ◌<◌, ◌≤◌, Bool, true, false, ◌&&◌, nat_lt, Option, Some, None, refl}
use Rattle.std.proofs.Common.{sym, ap, ap₂, ◌∙◌}
use Rattle.std.specs.Prelude.{nat_le}
use Rattle.md_engine.specs.declared.event.Name.TheVariants.{SpaceOrTab}
use Rattle.md_engine.specs.declared.state.Name.{Name as StateName}
use Rattle.md_engine.specs.declared.state.Name.TheVariants as n
use Rattle.md_engine.specs.declared.state.space_or_tab.State.{State as WhiteState}
use Rattle.md_engine.specs.declared.state.space_or_tab.State.TheVariants as its
use Rattle.md_engine.specs.declared.state.State.{State}
use Rattle.md_engine.specs.declared.state.State.TheVariants.{Error, Next}
use Rattle.md_engine.specs.declared.stay.Stay.TheVariants.{White}
use Rattle.md_engine.specs.Going.{SeesOn}
use Rattle.md_engine.specs.Run.{Remains, RunsHere, reading}
use Rattle.md_engine.specs.Staying.{Sees, SeesAll, SeesSome}
use Rattle.md_engine.specs.World.{World, looks}
use Rattle.md_engine.proofs.Loops.{ArrivedHere, call-sees, arrived-calls, arrived-first}
use Rattle.md_engine.proofs.Walks.{TakesSo, Within, then-seen, then-stays, then-waits}
use Rattle.md_events.specs.Spaces.{WhiteStep, after_code, begins_white, inside_code, sees_white, start_code}
use Rattle.md_events.specs.Spaces.{white_transition}
use Rattle.md_events.specs.Stays.{TakesEach}
use Rattle.md_events.specs.Transition.{Transition, entered, exited}
use Rattle.md_events.proofs.SpacesTermination.{white-here}

-- whitespace is taken column by column, as far as there is room for it
pub inside-takes : TakesEach White (n.SpaceOrTab its.Inside) (white_transition its.Inside)
inside-takes w b e h =
    ap (inside_code w)
    (ap (λ (o : Option ℕ). sees_white o && nat_lt w.scratch.whitespace.size w.scratch.whitespace.max) e ∙ h)

takes-so : TakesSo WhiteStep (n.SpaceOrTab its.Inside) White
takes-so w b e h = inside-takes (reading w) b e h

-- it begins,
pub white-begins : (w : World) → begins_white w ≡ true → w.current ≡ looks w → Within w →
    ArrivedHere WhiteStep (n.SpaceOrTab its.Start) w (n.SpaceOrTab its.Inside) (entered w SpaceOrTab)
white-begins w is seen within is_end s v named sees may =
    then-stays WhiteStep is_end s v (n.SpaceOrTab its.Start) (n.SpaceOrTab its.Inside) w (entered w SpaceOrTab)
    (arrived-first WhiteStep (n.SpaceOrTab its.Start) w is_end s v named sees may) (ap (start_code w) is)
    refl within refl
    seen

-- and waits for more
pub white-waits : (w y u : World) → begins_white w ≡ true → w.current ≡ looks w → Within w →
    y ≡ entered w SpaceOrTab → Within y → SeesSome White y u → u.setting.limit ≤ u.point.index →
    RunsHere WhiteStep (n.SpaceOrTab its.Start) w (Next (n.SpaceOrTab its.Inside)) u
white-waits w y u is seen within e more some le is_end s v named sees may =
    then-waits WhiteStep is_end s v (n.SpaceOrTab its.Inside) White y u takes-so
    (rw e (white-begins w is seen within is_end s v named sees may)) (rw e seen) more some
    (rw e (white-here w (nat_lt 0 w.scratch.whitespace.max) seen is)) le

-- or ends where something else is, or where there is no more room
white-over : (u : World) → ¬ Sees White u →
    sees_white (looks u) && nat_lt u.scratch.whitespace.size u.scratch.whitespace.max ≡ false
white-over u none = go (looks u) refl
  where
    go : (o : Option ℕ) → looks u ≡ o →
        sees_white o && nat_lt u.scratch.whitespace.size u.scratch.whitespace.max ≡ false
    go None e = refl
    go (Some b) e =
        not-true (sees_white (Some b) && nat_lt u.scratch.whitespace.size u.scratch.whitespace.max)
        (λ is. none (b, e, is))
      where
        not-true : (x : Bool) → (x ≡ true → ⊥) → x ≡ false
        not-true false h = refl
        not-true true h = absurd (h refl)

pub white-ends : (w y u z : World) → begins_white w ≡ true → w.current ≡ looks w → Within w →
    y ≡ entered w SpaceOrTab → Within y → SeesAll White y u → u.point.index < u.setting.limit → z ≡ reading u →
    Within z → ArrivedHere WhiteStep (n.SpaceOrTab its.Start) w (n.SpaceOrTab its.After) (exited z SpaceOrTab)
white-ends w y u z is seen within e more all lt sees kept is_end s v named saw may =
    then-stays WhiteStep is_end s v (n.SpaceOrTab its.Inside) (n.SpaceOrTab its.After) z (exited z SpaceOrTab)
    (rw sees (then-seen WhiteStep is_end s v (n.SpaceOrTab its.Inside) White y u takes-so
    (rw e (white-begins w is seen within is_end s v named saw may)) (rw e seen) more all.some lt))
    (rw sees (ap (inside_code (reading u)) (white-over u all.ends))) refl kept refl (rw sees refl)

-- where none is here, none is taken
pub white-none : (w : World) → begins_white w ≡ false → w.current ≡ looks w → Within w →
    ArrivedHere WhiteStep (n.SpaceOrTab its.Start) w (n.SpaceOrTab its.After) w
white-none w is seen within is_end s v named sees may =
    then-stays WhiteStep is_end s v (n.SpaceOrTab its.Start) (n.SpaceOrTab its.After) w w
    (arrived-first WhiteStep (n.SpaceOrTab its.Start) w is_end s v named sees may) (ap (start_code w) is)
    refl within refl
    seen

-- Each state keeps the text, and what stays sees what is here.
white-keeps : (state : WhiteState) (w : World) →
    Remains (white_transition state w).to w (white_transition state w).world ×
    ((white_transition state w).world.setting ≡ w.setting)
white-keeps its.Start w = go (begins_white w)
  where
    go : (x : Bool) → Remains (start_code w x).to w (start_code w x).world ×
        ((start_code w x).world.setting ≡ w.setting)
    go true = ((refl, refl), refl)
    go false = ((refl, refl), refl)
white-keeps its.Inside w = go (sees_white w.current && nat_lt w.scratch.whitespace.size w.scratch.whitespace.max)
  where
    go : (x : Bool) → Remains (inside_code w x).to w (inside_code w x).world ×
        ((inside_code w x).world.setting ≡ w.setting)
    go true = (tt, refl)
    go false = ((refl, refl), refl)
white-keeps its.After w = go (nat_le w.scratch.whitespace.min w.scratch.whitespace.size)
  where
    go : (x : Bool) → Remains (after_code w x).to w (after_code w x).world ×
        ((after_code w x).world.setting ≡ w.setting)
    go true = (tt, refl)
    go false = (tt, refl)

same-step : (a : Transition) (to : State) (new : World) → to ≡ a.to → new ≡ a.world →
    a ≡ record { to = to; world = new }
same-step a to new e k = ap₂ (λ (s : State) (x : World). record { to = s; world = x }) (sym e) (sym k)

-- so a call is a run, from wherever one came
pub white-called : (first : StateName) (state : WhiteState) (old w : World) (to : State) (new : World) →
    ArrivedHere WhiteStep first old (n.SpaceOrTab state) w → to ≡ (white_transition state w).to →
    new ≡ (white_transition state w).world → to ≢ Error → Within w → RunsHere WhiteStep first old to new
white-called first state old w to new arrived e k fine within =
    arrived-calls WhiteStep first (n.SpaceOrTab state) old w to new arrived
    (same-step (white_transition state w) to new e k) fine (ap (λ (x : World). x.setting) k ∙ (white-keeps state w).1)
    within

pub white-sees : (state : WhiteState) (w : World) (to : State) (new : World) → to ≡ (white_transition state w).to →
    new ≡ (white_transition state w).world → w.current ≡ looks w → SeesOn to w new
white-sees state w to new e k seen =
    call-sees to w new (rw (e, k) (white-keeps state w).0) (ap (λ (x : World). x.setting) k ∙ (white-keeps state w).1)
    seen
