-- The underline of a setext heading is and ends in any table that has it.
use Rattle.std.proofs.Common.{◌≡◌, ℕ, ◌<◌, Bool, true, false, cond, Option, Some, None, refl, arith, ap, sym}
use Rattle.md_engine.specs.declared.event.Name.TheVariants as parts
use Rattle.md_engine.specs.declared.state.Name.TheVariants as n
use Rattle.md_engine.specs.declared.state.heading_setext.State.{State as SetextState}
use Rattle.md_engine.specs.declared.state.heading_setext.State.TheVariants as its
use Rattle.md_engine.specs.Scheme.{Fits, Scheme, after_all, ranked, seen, position}
use Rattle.md_engine.specs.World.{World, looks}
use Rattle.md_engine.proofs.Falls.{later, later_at}
use Rattle.md_engine.proofs.Local.{accepts, consumes, refuses, turns}
use Rattle.md_engine.proofs.Points.{cells-grow, stays, takes}
use Rattle.md_leaves.specs.HeadingSetext.{after_code, before_code, inside_code, is_marker, setext_ready, setext_scheme}
use Rattle.md_leaves.specs.HeadingSetext.{setext_transition, without_marker}
use Rattle.md_leaves.proofs.BreakTermination.{marked-rest}
use Rattle.md_leaves.proofs.LeafStart.{FitsStart, good-start}
use Rattle.md_events.specs.Spaces.{IsRest, any_size, is_current, rest_ready}
use Rattle.md_events.specs.Transition.{entered, exited}
use Rattle.md_events.proofs.SpacesTermination.{Does, WhiteFits, rest-calm, rest-none, rest-size, seen-in, white_try}

-- a table that has the states of an underline, and those of whitespace
pub record SetextFits (T : Scheme) : Type 1 where
  pub white : WhiteFits T
  pub each : (state : SetextState) → Fits T setext_scheme (n.HeadingSetext state)

-- it has those of its start
setext-starts : (T : Scheme) → SetextFits T →
    FitsStart T setext_scheme (n.HeadingSetext its.Start) (n.HeadingSetext its.Before)
setext-starts T has = record {
  white = has.white;
  start_fits = has.each its.Start;
  next_fits = has.each its.Before;
  ready = λ x K r. r;
  level = omega arith;
  some = omega arith;
  falls = λ x. omega arith;
  tries = λ x. omega arith;
}

-- in the run the rank is low
run-rank : (y : Bool) → (cond y (ranked 1 refl) (ranked 2 refl)).number < 3
run-rank true = omega arith
run-rank false = omega arith

-- Each state.

-- after the indent
before_ends : (T : Scheme) (w : World) (o : Option ℕ) → SetextFits T → rest_ready (position w) (after_all T w.frames) →
    Does T (n.HeadingSetext its.Before) w (before_code w o)
before_ends T w None has r =
    (refuses T _ w _ _ w.events w.scratch r.1 r.0, refl)
before_ends T w (Some b) has r = go (is_marker b) refl
  where
    go : (x : Bool) → is_marker b ≡ x → Does T (n.HeadingSetext its.Before) w (before_code w (Some b))
    go true e = rw e (
      (turns T setext_scheme _ (n.HeadingSetext its.Inside) w (entered w parts.HeadingSetextUnderlineSequence).events
          (record w.scratch { marker = b }) (has.each its.Before) (has.each its.Inside) (
            record { marker = e; size = omega (arith, rest-size w.scratch r.0); rest = marked-rest w.scratch b r.0 },
            later IsRest IsRest (position w) (after_all T w.frames) w.point (record w.scratch { marker = b })
                (stays w.setting.limit w.point) r.1,
          )
          (omega arith) (run-rank (is_current b (seen (position w))))),
      refl,
    )
    go false e = rw e ((refuses T (n.HeadingSetext its.Before) w IsRest IsRest w.events w.scratch r.1 r.0), refl)

-- in the run
inside_ends : (T : Scheme) (w : World) (x y : Bool) → SetextFits T →
    setext_ready (n.HeadingSetext its.Inside) (position w) (after_all T w.frames) →
    is_current w.scratch.marker (seen (position w)) ≡ x → Does T (n.HeadingSetext its.Inside) w (inside_code w x y)
inside_ends T w true y has r e =
    let inside = seen-in (position w) (is_current w.scratch.marker) refl e in (
      consumes T setext_scheme _ _ w w.events _ (has.each its.Inside) (has.each its.Inside) inside (
        record {
          marker = r.0.marker;
          size = omega (arith, r.0.size, cells-grow w.setting w.point);
          rest = r.0.rest;
        },
        later _ _ (position w) _ _ _ (takes w.setting w.point inside) r.1,
      )
          (omega arith),
      refl,
    )
inside_ends T w false true has r e =
    white_try T setext_scheme _ (n.HeadingSetext its.After) w
    (exited w parts.HeadingSetextUnderlineSequence).events (without_marker w.scratch) 0 any_size IsRest IsRest has.white
    (has.each its.Inside) (has.each its.After) (rest-none (without_marker w.scratch) r.0.rest)
    (λ some. absurd (omega arith)) r.1
    (λ q t up way. (rest-calm (without_marker w.scratch) r.0.rest, later_at _ _ (position w) _ q t _ up way r.1))
    (omega arith) (omega arith) (λ t up. omega arith) (rw e (omega arith))
inside_ends T w false false has r e = (
  turns T setext_scheme _ _ w (exited w parts.HeadingSetextUnderlineSequence).events (without_marker w.scratch)
      (has.each its.Inside) (has.each its.After) (
        r.0.rest,
        later IsRest IsRest (position w) (after_all T w.frames) w.point (without_marker w.scratch)
            (stays w.setting.limit w.point) r.1,
      )
      (omega arith) (rw e (omega arith)),
  refl,
)

-- after the run and whitespace
after_ends : (T : Scheme) (w : World) (x : Bool) → SetextFits T → rest_ready (position w) (after_all T w.frames) →
    Does T (n.HeadingSetext its.After) w (after_code w x)
after_ends T w true has r =
    (accepts T _ w _ _ (exited w parts.HeadingSetextUnderline).events w.scratch r.1 r.0, refl)
after_ends T w false has r =
    (refuses T _ w _ _ w.events w.scratch r.1 r.0, refl)

-- all of them
pub setext_terminates : (T : Scheme) (state : SetextState) (w : World) → SetextFits T → w.current ≡ looks w →
    setext_ready (n.HeadingSetext state) (position w) (after_all T w.frames) →
    Does T (n.HeadingSetext state) w (setext_transition state w)
setext_terminates T its.Start w has c r =
    good-start T setext_scheme parts.HeadingSetextUnderline _ _ w _ _ (setext-starts T has) r
setext_terminates T its.Before w has c r = before_ends T w w.current has r
setext_terminates T its.Inside w has c r = inside_ends T w _ _ has r (ap (is_current w.scratch.marker) (sym c))
setext_terminates T its.After w has c r = after_ends T w _ has r
