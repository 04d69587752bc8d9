-- The byte order mark is and ends in any table that has it.
use Rattle.std.proofs.Common.{◌≡◌, ◌<◌, Bool, true, false, nat_lt, refl, arith, ap, sym}
use Rattle.std.proofs.lemmas.Bool.Decides.{nat_tests}
use Rattle.md_engine.specs.declared.event.Name.TheVariants as parts
use Rattle.md_engine.specs.declared.state.Name.TheVariants as n
use Rattle.md_engine.specs.declared.state.bom.State.{State as BomState}
use Rattle.md_engine.specs.declared.state.bom.State.TheVariants as its
use Rattle.md_engine.specs.Scheme.{Fits, Scheme, after_all, seen, position}
use Rattle.md_engine.specs.World.{World, looks}
use Rattle.md_engine.proofs.Falls.{later}
use Rattle.md_engine.proofs.Local.{consumes, refuses, turns}
use Rattle.md_engine.proofs.Points.{takes}
use Rattle.md_leaves.specs.Bom.{bom_ready, bom_scheme, bom_transition, inside_code, mark_at, start_code}
use Rattle.md_leaves.specs.Heading.{without_size}
use Rattle.md_leaves.proofs.HeadingTermination.{rest-without}
use Rattle.md_events.specs.Spaces.{is_current, rest_ready}
use Rattle.md_events.specs.Transition.{entered}
use Rattle.md_events.proofs.SpacesTermination.{Does, accepts-following, rest-size, seen-in}

pub record BomFits (T : Scheme) : Type 1 where
  pub each : (state : BomState) → Fits T bom_scheme (n.Bom state)

bom_start_ends : (T : Scheme) (w : World) (x : Bool) → BomFits T → rest_ready (position w) (after_all T w.frames) →
    Does T (n.Bom its.Start) w (start_code w x)
bom_start_ends T w true has r = (
  turns T bom_scheme _ (n.Bom its.Inside) w (entered w parts.ByteOrderMark).events w.scratch (has.each its.Start)
      (has.each its.Inside)
      (record { size = omega (arith, rest-size w.scratch r.0); rest = rest-without w.scratch r.0 }, r.1) (omega arith)
      (omega arith),
  refl,
)
bom_start_ends T w false has r =
    (refuses T _ w _ _ w.events w.scratch r.1 r.0, refl)

bom_inside_ends : (T : Scheme) (w : World) (x y : Bool) → BomFits T →
    bom_ready (n.Bom its.Inside) (position w) (after_all T w.frames) →
    is_current (mark_at w.scratch.size) (seen (position w)) ≡ x → nat_lt w.scratch.size 2 ≡ y →
    Does T (n.Bom its.Inside) w (inside_code w x y)
bom_inside_ends T w true true has r e f =
    let inside = seen-in (position w) (is_current (mark_at w.scratch.size)) refl e in
    let less : w.scratch.size < 2 = grind (arith, nat_tests) in (
      consumes T bom_scheme _ _ w w.events _ (has.each its.Inside) (has.each its.Inside) inside (
        record { size = omega (arith, less); rest = r.0.rest },
        later _ _ (position w) _ _ _ (takes w.setting w.point inside) r.1,
      )
          (omega arith),
      refl,
    )
bom_inside_ends T w true false has r e f =
    let inside = seen-in (position w) (is_current (mark_at w.scratch.size)) refl e in (
      accepts-following T (n.Bom its.Inside) w _ _ (inside_code w true false).world.events
          (without_size w.scratch) inside r.1 r.0.rest,
      refl,
    )
bom_inside_ends T w false y has r e f =
    (refuses T _ w _ _ w.events (without_size w.scratch) r.1 r.0.rest, refl)

-- each state of a mark
pub bom_terminates : (T : Scheme) (state : BomState) (w : World) → BomFits T → w.current ≡ looks w →
    bom_ready (n.Bom state) (position w) (after_all T w.frames) →
    Does T (n.Bom state) w (bom_transition state w)
bom_terminates T its.Start w has c r = bom_start_ends T w _ has r
bom_terminates T its.Inside w has c r =
    bom_inside_ends T w _ _ has r (ap (is_current (mark_at w.scratch.size)) (sym c)) refl
