-- A blank line is and ends in any table that has it.
use Rattle.std.proofs.Common.{Bool, true, false, refl, arith}
use Rattle.md_engine.specs.declared.state.Name.TheVariants as n
use Rattle.md_engine.specs.declared.state.blank_line.State.{State as BlankState}
use Rattle.md_engine.specs.declared.state.blank_line.State.TheVariants as its
use Rattle.md_engine.specs.Scheme.{Fits, Scheme, after_all, position}
use Rattle.md_engine.specs.World.{World}
use Rattle.md_engine.proofs.Falls.{later_at}
use Rattle.md_engine.proofs.Local.{accepts, refuses, turns}
use Rattle.md_leaves.specs.Blank.{after_code, blank_scheme, blank_transition, start_code}
use Rattle.md_events.specs.Spaces.{IsRest, rest_ready, any_size}
use Rattle.md_events.proofs.SpacesTermination.{Does, WhiteFits, rest-calm, rest-none, white_try}

pub record BlankFits (T : Scheme) : Type 1 where
  pub white : WhiteFits T
  pub each : (state : BlankState) → Fits T blank_scheme (n.BlankLine state)

blank_start_ends : (T : Scheme) (w : World) (x : Bool) → BlankFits T → rest_ready (position w) (after_all T w.frames) →
    Does T (n.BlankLine its.Start) w (start_code w x)
blank_start_ends T w true has r =
    white_try T blank_scheme _ (n.BlankLine its.After) w w.events w.scratch 1 any_size IsRest IsRest has.white
    (has.each its.Start) (has.each its.After) (rest-none w.scratch r.0) (λ some. rest-calm w.scratch r.0) r.1
    (λ q t up way. (rest-calm w.scratch r.0, later_at _ _ (position w) _ q t _ up way r.1)) (omega arith) (omega arith)
    (λ t up. omega arith) (omega arith)
blank_start_ends T w false has r = (
  turns T blank_scheme _ _ w w.events w.scratch (has.each its.Start) (has.each its.After) r (omega arith)
      (omega arith),
  refl,
)

blank_after_ends : (T : Scheme) (w : World) (x : Bool) → BlankFits T → rest_ready (position w) (after_all T w.frames) →
    Does T (n.BlankLine its.After) w (after_code w x)
blank_after_ends T w true has r =
    (accepts T _ w _ _ w.events w.scratch r.1 r.0, refl)
blank_after_ends T w false has r =
    (refuses T _ w _ _ w.events w.scratch r.1 r.0, refl)

-- each state of a blank line
pub blank_terminates : (T : Scheme) (state : BlankState) (w : World) → BlankFits T →
    rest_ready (position w) (after_all T w.frames) →
    Does T (n.BlankLine state) w (blank_transition state w)
blank_terminates T its.Start w has r = blank_start_ends T w _ has r
blank_terminates T its.After w has r = blank_after_ends T w _ has r
