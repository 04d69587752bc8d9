-- A break is and ends in any table that has it.
use Rattle.std.proofs.Common.{◌≡◌, ℕ, ◌<◌, ◌&&◌, ◌==◌, Bool, true, false, cond, Option}
use Rattle.std.proofs.Common.{Some, None, refl, arith, ap, sym, ◌∙◌}
use Rattle.md_engine.specs.declared.event.Name.TheVariants as parts
use Rattle.md_engine.specs.declared.state.Name.TheVariants as n
use Rattle.md_engine.specs.declared.state.thematic_break.State.{State as BreakState}
use Rattle.md_engine.specs.declared.state.thematic_break.State.TheVariants as its
use Rattle.md_engine.specs.declared.tokenizer.Scratch.{Scratch}
use Rattle.md_engine.specs.Scheme.{Fits, Grown, Scheme, after_all, ranked, seen, position, spot_at}
use Rattle.md_engine.specs.World.{Setting, World, looks}
use Rattle.md_engine.proofs.Falls.{later, later_at, seen_grows}
use Rattle.md_engine.proofs.Local.{accepts, consumes, refuses, turns}
use Rattle.md_engine.proofs.Points.{cells-grow, stays, takes}
use Rattle.md_leaves.specs.Break.{at_break_code, before_code, break_ready, break_scheme, break_transition, is_marker}
use Rattle.md_leaves.specs.Break.{marked_code, one_run_after_code, one_run_code, sequence_code, without_marker}
use Rattle.md_leaves.specs.HeadingSetext.{turns_nothing}
use Rattle.md_events.specs.Spaces.{IsRest, calmed, is_current, rest_ready, sees_white, any_size}
use Rattle.md_events.specs.Transition.{entered, exited}
use Rattle.md_leaves.proofs.LeafStart.{FitsStart, good-start}
use Rattle.md_events.proofs.SpacesTermination.{Does, WhiteFits, rest-size, seen-in, white_try}

pub record BreakFits (T : Scheme) : Type 1 where
  pub white : WhiteFits T
  pub each : (state : BreakState) → Fits T break_scheme (n.ThematicBreak state)

break-starts : (T : Scheme) → BreakFits T →
    FitsStart T break_scheme (n.ThematicBreak its.Start) (n.ThematicBreak its.Before)
break-starts T has = record {
  white = has.white;
  start_fits = has.each its.Start;
  next_fits = has.each its.Before;
  ready = λ x K r. r;
  level = omega arith;
  some = omega arith;
  falls = λ x. omega arith;
  tries = λ x. omega arith;
}

-- with a marker taken back a scratch at rest is at rest
pub marked-rest : (s : Scratch) (b : ℕ) → IsRest s → IsRest (without_marker (record s { marker = b }))
marked-rest s b e = ap (λ (t : Scratch). without_marker (record t { marker = b })) e

-- a trial at rest ends at rest
pub rest-marker : (s : Scratch) → IsRest s → without_marker s ≡ s
rest-marker s e = ap without_marker e ∙ sym e

pub rest-white : (s : Scratch) → IsRest s → without_marker (calmed s) ≡ s
rest-white s e = ap (λ (t : Scratch). without_marker (calmed t)) e ∙ sym e

-- at a marker the rank is below that before the marker,
marked-rank : (y : Bool) → (cond y (ranked 2 refl) (ranked 0 refl)).number < 4
marked-rank true = omega arith
marked-rank false = omega arith

-- in the first run too,
run-rank : (y : Bool) → (cond y (ranked 1 refl) (ranked 3 refl)).number < 4
run-rank true = omega arith
run-rank false = omega arith

-- and after that run it is above that between two runs
after-rank : (y : Bool) →
    (cond y (ranked 2 refl) (ranked 0 refl)).number < (cond y (ranked 3 refl) (ranked 1 refl)).number
after-rank true = omega arith
after-rank false = omega arith

before_ends : (T : Scheme) (w : World) (x : Bool) (o : Option ℕ) → BreakFits T →
    rest_ready (position w) (after_all T w.frames) → Does T (n.ThematicBreak its.Before) w (before_code w x o)
before_ends T w x None has r =
    (refuses T _ w _ _ w.events w.scratch r.1 r.0, refl)
before_ends T w x (Some b) has r = go (is_marker b) refl
  where
    ready : is_marker b ≡ true →
        break_ready (n.ThematicBreak its.AtBreak) (spot_at w.setting w.point (record w.scratch { marker = b }))
        (after_all T w.frames)
    ready e = (
      record { marker = e; size = omega (arith, rest-size w.scratch r.0); rest = marked-rest w.scratch b r.0 },
      later IsRest IsRest (position w) (after_all T w.frames) w.point (record w.scratch { marker = b })
          (stays w.setting.limit w.point) r.1,
    )

    marked : is_marker b ≡ true → (y : Bool) → Does T (n.ThematicBreak its.Before) w (marked_code w b y)
    marked e true = (
      turns T break_scheme _ (n.ThematicBreak its.OneRun) w (entered w parts.ThematicBreakSequence).events
          (record w.scratch { marker = b }) (has.each its.Before) (has.each its.OneRun) (ready e) (omega arith)
          (run-rank (is_current b (seen (position w)))),
      refl,
    )
    marked e false = (
      turns T break_scheme _ (n.ThematicBreak its.AtBreak) w w.events (record w.scratch { marker = b })
          (has.each its.Before) (has.each its.AtBreak) (ready e) (omega arith)
          (marked-rank (is_current b (seen (position w)))),
      refl,
    )

    go : (y : Bool) → is_marker b ≡ y → Does T (n.ThematicBreak its.Before) w (before_code w x (Some b))
    go true e = rw e (marked e ((b == 45) && x))
    go false e = rw e ((refuses T (n.ThematicBreak its.Before) w IsRest IsRest w.events w.scratch r.1 r.0), refl)

at_break_ends : (T : Scheme) (w : World) (x y : Bool) → BreakFits T →
    break_ready (n.ThematicBreak its.AtBreak) (position w) (after_all T w.frames) →
    is_current w.scratch.marker (seen (position w)) ≡ x → Does T (n.ThematicBreak its.AtBreak) w (at_break_code w x y)
at_break_ends T w true y has r e = (
  turns T break_scheme _ _ w (entered w parts.ThematicBreakSequence).events w.scratch (has.each its.AtBreak)
      (has.each its.Sequence) r (omega arith) (rw e (omega arith)),
  refl,
)
at_break_ends T w false true has r e =
    (accepts T _ w _ _ (exited w parts.ThematicBreak).events (without_marker w.scratch) r.1 r.0.rest, refl)
at_break_ends T w false false has r e =
    (refuses T _ w _ _ w.events (without_marker w.scratch) r.1 r.0.rest, refl)

-- a space that is no marker here is none when more may be read
still-none : (w : World) (t : Setting) → Grown w.setting t → is_current w.scratch.marker (seen (position w)) ≡ false →
    sees_white (seen (position w)) ≡ true →
    is_current w.scratch.marker (seen (spot_at t w.point (calmed w.scratch))) ≡ false
still-none w t up e k = go (seen (position w)) refl e k
  where
    go : (o : Option ℕ) → seen (position w) ≡ o → is_current w.scratch.marker o ≡ false → sees_white o ≡ true →
        is_current w.scratch.marker (seen (spot_at t w.point (calmed w.scratch))) ≡ false
    go None is e k = cc
    go (Some b) is e k = ap (is_current w.scratch.marker) (seen_grows (position w) t (calmed w.scratch) b up is) ∙ e

-- in a sequence no whitespace is asked for
marked-none : (s : Scratch) → IsRest (without_marker s) → s.whitespace.size ≡ 0
marked-none s e = ap (λ (t : Scratch). t.whitespace.size) e

-- whitespace at rest is as it is when calmed
pub marked-calm : (s : Scratch) → IsRest (without_marker s) → calmed s ≡ s
marked-calm s e = ap (λ (t : Scratch). record s { whitespace = t.whitespace }) (sym e)

sequence_ends : (T : Scheme) (w : World) (x y : Bool) → BreakFits T →
    break_ready (n.ThematicBreak its.Sequence) (position w) (after_all T w.frames) →
    is_current w.scratch.marker (seen (position w)) ≡ x → sees_white (seen (position w)) ≡ y →
    Does T (n.ThematicBreak its.Sequence) w (sequence_code w x y)
sequence_ends T w true y has r e k =
    let inside = seen-in (position w) (is_current w.scratch.marker) refl e in (
      consumes T break_scheme _ _ w w.events _ (has.each its.Sequence) (has.each its.Sequence) inside (
        record {
          marker = r.0.marker;
          size = omega (arith, r.0.size, cells-grow w.setting w.point);
          rest = r.0.rest;
        },
        later _ _ (position w) _ _ _ (takes w.setting w.point inside) r.1,
      )
          (omega arith),
      refl,
    )
sequence_ends T w false true has r e k =
    let calm = marked-calm w.scratch r.0.rest in
    white_try T break_scheme _ (n.ThematicBreak its.AtBreak) w
    (exited w parts.ThematicBreakSequence).events w.scratch 0 any_size IsRest IsRest has.white
    (has.each its.Sequence) (has.each its.AtBreak) (marked-none w.scratch r.0.rest)
    (λ some. absurd (omega arith)) r.1
    (λ q t up way. (
      record { marker = r.0.marker; size = omega (arith, r.0.size, way.before); rest = ap calmed r.0.rest },
      later_at _ _ (position w) _ q t _ up way r.1,
    ))
    (omega arith) (omega arith) (λ t up. rw (still-none w t up e k) (omega arith)) (rw e (omega arith))
sequence_ends T w false false has r e k = (
  turns T break_scheme _ _ w (exited w parts.ThematicBreakSequence).events w.scratch (has.each its.Sequence)
      (has.each its.AtBreak) r (omega arith) (rw e (omega arith)),
  refl,
)

one_run_ends : (T : Scheme) (w : World) (x y : Bool) → BreakFits T →
    break_ready (n.ThematicBreak its.OneRun) (position w) (after_all T w.frames) →
    is_current w.scratch.marker (seen (position w)) ≡ x → sees_white (seen (position w)) ≡ y →
    Does T (n.ThematicBreak its.OneRun) w (one_run_code w x y)
one_run_ends T w true y has r e k =
    let inside = seen-in (position w) (is_current w.scratch.marker) refl e in (
      consumes T break_scheme _ _ w w.events _ (has.each its.OneRun) (has.each its.OneRun) inside (
        record {
          marker = r.0.marker;
          size = omega (arith, r.0.size, cells-grow w.setting w.point);
          rest = r.0.rest;
        },
        later _ _ (position w) _ _ _ (takes w.setting w.point inside) r.1,
      )
          (omega arith),
      refl,
    )
one_run_ends T w false true has r e k =
    let calm = marked-calm w.scratch r.0.rest in
    white_try T break_scheme _ (n.ThematicBreak its.OneRunAfter) w
    (exited w parts.ThematicBreakSequence).events w.scratch 0 any_size IsRest IsRest has.white
    (has.each its.OneRun) (has.each its.OneRunAfter) (marked-none w.scratch r.0.rest)
    (λ some. absurd (omega arith)) r.1
    (λ q t up way. (
      record { marker = r.0.marker; size = omega (arith, r.0.size, way.before); rest = ap calmed r.0.rest },
      later_at _ _ (position w) _ q t _ up way r.1,
    ))
    (omega arith) (omega arith) (λ t up. rw (still-none w t up e k) (omega arith)) (rw e (omega arith))
one_run_ends T w false false has r e k = (
  turns T break_scheme _ _ w (exited w parts.ThematicBreakSequence).events w.scratch (has.each its.OneRun)
      (has.each its.OneRunAfter) r (omega arith) (rw e (omega arith)),
  refl,
)

one_run_after_ends : (T : Scheme) (w : World) (x : Bool) → BreakFits T →
    break_ready (n.ThematicBreak its.OneRunAfter) (position w) (after_all T w.frames) →
    Does T (n.ThematicBreak its.OneRunAfter) w (one_run_after_code w x)
one_run_after_ends T w true has r =
    (refuses T _ w _ _ w.events (without_marker w.scratch) r.1 r.0.rest, refl)
one_run_after_ends T w false has r = (
  turns T break_scheme _ (n.ThematicBreak its.AtBreak) w w.events w.scratch (has.each its.OneRunAfter)
      (has.each its.AtBreak) r (omega arith) (after-rank (is_current w.scratch.marker (seen (position w)))),
  refl,
)

-- each state of a break
pub break_terminates : (T : Scheme) (state : BreakState) (w : World) → BreakFits T → w.current ≡ looks w →
    break_ready (n.ThematicBreak state) (position w) (after_all T w.frames) →
    Does T (n.ThematicBreak state) w (break_transition state w)
break_terminates T its.Start w has c r = good-start T break_scheme parts.ThematicBreak _ _ w _ _ (break-starts T has) r
break_terminates T its.Before w has c r =
    before_ends T w (turns_nothing w.setting.options w.flags.leaf) w.current has r
break_terminates T its.AtBreak w has c r = at_break_ends T w _ _ has r (ap (is_current w.scratch.marker) (sym c))
break_terminates T its.Sequence w has c r =
    sequence_ends T w _ _ has r (ap (is_current w.scratch.marker) (sym c)) (ap sees_white (sym c))
break_terminates T its.OneRun w has c r =
    one_run_ends T w _ _ has r (ap (is_current w.scratch.marker) (sym c)) (ap sees_white (sym c))
break_terminates T its.OneRunAfter w has c r = one_run_after_ends T w _ has r
