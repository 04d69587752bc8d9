-- The check that a further line is not lazy is and ends in any table that has it.
use Rattle.std.proofs.Common.{◌≡◌, Bool, true, false, refl, arith, ap, sym}
use Rattle.md_engine.specs.declared.state.Name.TheVariants as n
use Rattle.md_engine.specs.declared.state.non_lazy_continuation.State.{State as NonLazyState}
use Rattle.md_engine.specs.declared.state.non_lazy_continuation.State.TheVariants as its
use Rattle.md_engine.specs.Scheme.{Fits, Scheme, after_all, seen, position}
use Rattle.md_engine.specs.World.{World, looks}
use Rattle.md_engine.proofs.Falls.{later}
use Rattle.md_engine.proofs.Local.{accepts, consumes, refuses}
use Rattle.md_engine.proofs.Points.{takes}
use Rattle.md_leaves.specs.NonLazy.{after_code, non_lazy_ready, non_lazy_scheme, non_lazy_transition, start_code}
use Rattle.md_events.specs.Spaces.{is_current}
use Rattle.md_events.proofs.SpacesTermination.{Does, seen-in}

pub record NonLazyFits (T : Scheme) : Type 1 where
  pub each : (state : NonLazyState) → Fits T non_lazy_scheme (n.NonLazyContinuation state)

non_lazy_start_ends : (T : Scheme) (w : World) (x : Bool) → NonLazyFits T →
    non_lazy_ready (position w) (after_all T w.frames) → is_current 10 (seen (position w)) ≡ x →
    Does T (n.NonLazyContinuation its.Start) w (start_code w x)
non_lazy_start_ends T w true has r e =
    let inside = seen-in (position w) (is_current 10) refl e in (
      consumes T non_lazy_scheme _ (n.NonLazyContinuation its.After) w (start_code w true).world.events w.scratch
          (has.each its.Start) (has.each its.After) inside
          (later _ _ (position w) _ _ _ (takes w.setting w.point inside) r)
          (omega arith),
      refl,
    )
non_lazy_start_ends T w false has r e =
    (refuses T _ w _ _ w.events w.scratch r refl, refl)

non_lazy_after_ends : (T : Scheme) (w : World) (x : Bool) → NonLazyFits T →
    non_lazy_ready (position w) (after_all T w.frames) → Does T (n.NonLazyContinuation its.After) w (after_code w x)
non_lazy_after_ends T w true has r =
    (refuses T _ w _ _ w.events w.scratch r refl, refl)
non_lazy_after_ends T w false has r =
    (accepts T _ w _ _ w.events w.scratch r refl, refl)

-- each state of the check
pub non_lazy_terminates : (T : Scheme) (state : NonLazyState) (w : World) → NonLazyFits T → w.current ≡ looks w →
    non_lazy_ready (position w) (after_all T w.frames) →
    Does T (n.NonLazyContinuation state) w (non_lazy_transition state w)
non_lazy_terminates T its.Start w has c r = non_lazy_start_ends T w _ has r (ap (is_current 10) (sym c))
non_lazy_terminates T its.After w has c r = non_lazy_after_ends T w _ has r
