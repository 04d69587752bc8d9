-- Whitespace with at most one line ending is and ends in any table that has it.
use Rattle.std.proofs.Common.{◌≡◌, Bool, true, false, refl, arith, ap, sym}
use Rattle.md_engine.specs.declared.event.Name.TheVariants.{LineEnding}
use Rattle.md_engine.specs.declared.state.Name.TheVariants as n
use Rattle.md_engine.specs.declared.state.space_or_tab_eol.State.{State as GapState}
use Rattle.md_engine.specs.declared.state.space_or_tab_eol.State.TheVariants as its
use Rattle.md_engine.specs.declared.tokenizer.Scratch.{Scratch}
use Rattle.md_engine.specs.Scheme.{Fits, Scheme, after_all, seen, position}
use Rattle.md_engine.specs.World.{World, looks}
use Rattle.md_engine.proofs.Falls.{later, later_at}
use Rattle.md_engine.proofs.Local.{accepts, consumes, refuses, turns}
use Rattle.md_engine.proofs.Points.{stays, takes}
use Rattle.md_link_definitions.specs.Gap.{after_eol_code, at_eol_code, gap_ready, gap_scheme, gap_transition}
use Rattle.md_link_definitions.specs.Gap.{start_code, after_first_transition, with_seen, without_seen}
use Rattle.md_events.specs.Spaces.{IsRest, any_size, is_current, rest_ready}
use Rattle.md_events.specs.Transition.{entered, exited}
use Rattle.md_events.proofs.SpacesTermination.{Does, WhiteFits, rest-calm, rest-none, seen-in, white_try}

-- a table that has its states, and those of whitespace
pub record GapFits (T : Scheme) : Type 1 where
  pub white : WhiteFits T
  pub each : (state : GapState) → Fits T gap_scheme (n.SpaceOrTabEol state)

-- with what was taken forgotten, a scratch at rest is at rest
seen-rest : (s : Scratch) → IsRest s → IsRest (without_seen s)
seen-rest s e = ap without_seen e

-- Each state.

-- before whitespace
start_ends : (T : Scheme) (w : World) (x : Bool) → GapFits T → rest_ready (position w) (after_all T w.frames) →
    Does T (n.SpaceOrTabEol its.Start) w (start_code w x)
start_ends T w true has r =
    white_try T gap_scheme _ (n.SpaceOrTabEol its.AfterFirst) w w.events w.scratch 1 any_size IsRest IsRest has.white
    (has.each its.Start) (has.each its.AfterFirst) (rest-none w.scratch r.0) (λ some. rest-calm w.scratch r.0) r.1
    (λ q t up way. (rest-calm w.scratch r.0, later_at _ _ (position w) _ q t _ up way r.1)) (omega arith) (omega arith)
    (λ t up. omega arith) (omega arith)
start_ends T w false has r = (
  turns T gap_scheme _ (n.SpaceOrTabEol its.AtEol) w w.events w.scratch (has.each its.Start) (has.each its.AtEol)
      (seen-rest w.scratch r.0, r.1) (omega arith) (omega arith),
  refl,
)

-- after it
after_first_ends : (T : Scheme) (w : World) → GapFits T → rest_ready (position w) (after_all T w.frames) →
    Does T (n.SpaceOrTabEol its.AfterFirst) w (after_first_transition w)
after_first_ends T w has r = (
  turns T gap_scheme _ (n.SpaceOrTabEol its.AtEol) w w.events (with_seen w.scratch) (has.each its.AfterFirst)
      (has.each its.AtEol) (
        seen-rest w.scratch r.0,
        later IsRest IsRest (position w) (after_all T w.frames) w.point (with_seen w.scratch)
            (stays w.setting.limit w.point) r.1,
      )
      (omega arith) (omega arith),
  refl,
)

-- where an ending may be
at_eol_ends : (T : Scheme) (w : World) (x y : Bool) → GapFits T →
    gap_ready (n.SpaceOrTabEol its.AtEol) (position w) (after_all T w.frames) → is_current 10 (seen (position w)) ≡ x →
    Does T (n.SpaceOrTabEol its.AtEol) w (at_eol_code w x y)
at_eol_ends T w true y has r e =
    let inside = seen-in (position w) (is_current 10) refl e in (
      consumes T gap_scheme _ (n.SpaceOrTabEol its.AfterEol) w (entered w LineEnding).events (without_seen w.scratch)
          (has.each its.AtEol) (has.each its.AfterEol) inside
          (r.0, later IsRest IsRest (position w) _ _ (without_seen w.scratch) (takes w.setting w.point inside) r.1)
          (omega arith),
      refl,
    )
at_eol_ends T w false true has r e = (accepts T _ w _ _ w.events (without_seen w.scratch) r.1 r.0, refl)
at_eol_ends T w false false has r e = (refuses T _ w _ _ w.events (without_seen w.scratch) r.1 r.0, refl)

-- after the ending
after_eol_ends : (T : Scheme) (w : World) (x : Bool) → GapFits T → rest_ready (position w) (after_all T w.frames) →
    Does T (n.SpaceOrTabEol its.AfterEol) w (after_eol_code w x)
after_eol_ends T w true has r =
    white_try T gap_scheme _ (n.SpaceOrTabEol its.AfterMore) w (exited w LineEnding).events w.scratch 1 any_size IsRest
    IsRest has.white (has.each its.AfterEol) (has.each its.AfterMore) (rest-none w.scratch r.0)
    (λ some. rest-calm w.scratch r.0) r.1
    (λ q t up way. (rest-calm w.scratch r.0, later_at _ _ (position w) _ q t _ up way r.1)) (omega arith) (omega arith)
    (λ t up. omega arith) (omega arith)
after_eol_ends T w false has r = (
  turns T gap_scheme _ (n.SpaceOrTabEol its.AfterMore) w (exited w LineEnding).events w.scratch (has.each its.AfterEol)
      (has.each its.AfterMore) r (omega arith) (omega arith),
  refl,
)

-- all of them
pub gap_terminates : (T : Scheme) (state : GapState) (w : World) → GapFits T → w.current ≡ looks w →
    gap_ready (n.SpaceOrTabEol state) (position w) (after_all T w.frames) →
    Does T (n.SpaceOrTabEol state) w (gap_transition state w)
gap_terminates T its.Start w has c r = start_ends T w _ has r
gap_terminates T its.AfterFirst w has c r = after_first_ends T w has r
gap_terminates T its.AtEol w has c r = at_eol_ends T w _ _ has r (ap (is_current 10) (sym c))
gap_terminates T its.AfterEol w has c r = after_eol_ends T w _ has r
gap_terminates T its.AfterMore w has c r = (accepts T _ w _ _ w.events w.scratch r.1 r.0, refl)
