-- The states of a footnote definition are and end in any table that has them.
use Rattle.std.proofs.Common.{◌≡◌, ℕ, ◌+◌, ◌<◌, Bool, true, false, nat_eq, Option, Some, None, refl, arith, ap, sym}
use Rattle.std.specs.Prelude.{nat_le}
use Rattle.std.proofs.lemmas.Bool.Decides.{nat_tests}
use Rattle.md_engine.specs.declared.event.Name.TheVariants as parts
use Rattle.md_engine.specs.declared.state.Name.TheVariants as n
use Rattle.md_engine.specs.declared.state.gfm_footnote_definition.State.{State as FootnoteState}
use Rattle.md_engine.specs.declared.state.gfm_footnote_definition.State.TheVariants as its
use Rattle.md_engine.specs.Scheme.{After, Fits, Scheme, Position, after_all, seen, position}
use Rattle.md_engine.specs.World.{World, looks}
use Rattle.md_engine.proofs.Falls.{later, later_at, passed}
use Rattle.md_engine.proofs.Local.{accepts, consumes, refuses, refuses_later, turns}
use Rattle.md_engine.proofs.Points.{takes, takes_past}
use Rattle.md_containers.specs.Footnote.{breaks_label, closed_code, footnote_ready, footnote_scheme}
use Rattle.md_containers.specs.Footnote.{footnote_transition, label_after_code, label_at_marker_code, label_before_code}
use Rattle.md_containers.specs.Footnote.{label_escape_code, label_inside_code, marker_after_code, most, sees_mark}
use Rattle.md_containers.specs.Footnote.{taken_as}
use Rattle.md_containers.specs.Item.{without_size}
use Rattle.md_containers.proofs.LaterStart.{good-later_start}
use Rattle.md_meaning.specs.Ascii.{caret, colon, left_bracket}
use Rattle.md_leaves.specs.LeafStart as leaf
use Rattle.md_events.specs.Spaces.{IsRest, any_size, is_current, later_ready, rest_ready}
use Rattle.md_events.specs.Transition.{exited}
use Rattle.md_events.proofs.SpacesTermination.{Does, WhiteFits, rest-calm, rest-none, rest-size}
use Rattle.md_events.proofs.SpacesTermination.{seen-in, seen-some, white_try}

pub record FootnoteFits (T : Scheme) : Type 1 where
  pub white : WhiteFits T
  pub each : (state : FootnoteState) → Fits T footnote_scheme (n.GfmFootnoteDefinition state)

start_ends : (T : Scheme) (w : World) (x y : Bool) → FootnoteFits T → later_ready (position w) (after_all T w.frames) →
    Does T (n.GfmFootnoteDefinition its.Start) w
    (leaf.start_code parts.GfmFootnoteDefinition (n.GfmFootnoteDefinition its.LabelBefore) w x y)
start_ends T w x y has r =
    good-later_start T footnote_scheme parts.GfmFootnoteDefinition (n.GfmFootnoteDefinition its.Start)
    (n.GfmFootnoteDefinition its.LabelBefore) w x y
    (record {
      white = has.white;
      start_fits = has.each its.Start;
      next_fits = has.each its.LabelBefore;
      ready = λ x K h. h;
      level = omega arith;
      some = omega arith;
      falls = λ x. omega arith;
      tries = λ x. omega arith;
    })
    r

-- The begin of the label.

label_before_ends : (T : Scheme) (w : World) (x : Bool) → FootnoteFits T →
    later_ready (position w) (after_all T w.frames) → is_current left_bracket (seen (position w)) ≡ x →
    Does T (n.GfmFootnoteDefinition its.LabelBefore) w (label_before_code w x)
label_before_ends T w true has r e =
    let inside = seen-in (position w) (is_current left_bracket) refl e in (
      consumes T footnote_scheme _ _ w (label_before_code w true).world.events w.scratch (has.each its.LabelBefore)
          (has.each its.LabelAtMarker) inside
          (r.0, passed _ _ (position w) _ _ _ (takes_past w.setting w.point inside) r.1) (omega arith),
      refl,
    )
label_before_ends T w false has r e = (refuses_later T _ w _ _ w.events w.scratch r.1 r.0, refl)

label_at_marker_ends : (T : Scheme) (w : World) (x : Bool) → FootnoteFits T →
    rest_ready (position w) (after_all T w.frames) → is_current caret (seen (position w)) ≡ x →
    Does T (n.GfmFootnoteDefinition its.LabelAtMarker) w (label_at_marker_code w x)
label_at_marker_ends T w true has r e =
    let inside = seen-in (position w) (is_current caret) refl e in
    let none = rest-size w.scratch r.0 in (
      consumes T footnote_scheme _ _ w (label_at_marker_code w true).world.events w.scratch
          (has.each its.LabelAtMarker) (has.each its.LabelInside) inside (
            record { size = omega (arith, none); rest = ap without_size r.0 },
            later _ _ (position w) _ _ _ (takes w.setting w.point inside) r.1,
          ) (omega arith),
      refl,
    )
label_at_marker_ends T w false has r e = (refuses T _ w _ _ w.events w.scratch r.1 r.0, refl)

-- The label.

-- what is ready in it
abbrev InLabel : Scheme → World → Type 0
InLabel T w = footnote_ready (n.GfmFootnoteDefinition its.LabelInside) (position w) (after_all T w.frames)

-- a byte of it, after which another state in it follows
record IsWithin (state : FootnoteState) : Type 1 where
  ready : (x : Position) (K : After) → footnote_ready (n.GfmFootnoteDefinition its.LabelInside) x K →
      footnote_ready (n.GfmFootnoteDefinition state) x K

taken_ends : (T : Scheme) (w : World) (state next : FootnoteState) (x : Bool) → FootnoteFits T → InLabel T w →
    w.point.index < w.setting.limit → IsWithin next → nat_le most w.scratch.size ≡ x →
    Does T (n.GfmFootnoteDefinition state) w (taken_as w next)
taken_ends T w state next true has r inside within e =
    rw e (refuses T _ w _ _ w.events (without_size w.scratch) r.1 r.0.rest, refl)
taken_ends T w state next false has r inside within e =
    let room : w.scratch.size < most = grind (arith, nat_tests) in
    rw e (
      consumes T footnote_scheme _ (n.GfmFootnoteDefinition next) w w.events
          (record w.scratch { size = w.scratch.size + 1 }) (has.each state) (has.each next) inside
          (within.ready _ _ (
            record { size = omega (arith, room); rest = r.0.rest },
            later _ _ (position w) _ _ _ (takes w.setting w.point inside) r.1,
          )) (omega arith),
      refl,
    )

closed_ends : (T : Scheme) (w : World) (x : Bool) → FootnoteFits T → InLabel T w → w.point.index < w.setting.limit →
    Does T (n.GfmFootnoteDefinition its.LabelInside) w (closed_code w x)
closed_ends T w true has r inside = (refuses T _ w _ _ w.events (without_size w.scratch) r.1 r.0.rest, refl)
closed_ends T w false has r inside = (
  consumes T footnote_scheme _ _ w (closed_code w false).world.events (without_size w.scratch)
      (has.each its.LabelInside) (has.each its.LabelAfter) inside
      (r.0.rest, later _ _ (position w) _ _ _ (takes w.setting w.point inside) r.1) (omega arith),
  refl,
)

label_inside_ends : (T : Scheme) (w : World) (o : Option ℕ) → FootnoteFits T → InLabel T w → seen (position w) ≡ o →
    Does T (n.GfmFootnoteDefinition its.LabelInside) w (label_inside_code w o)
label_inside_ends T w None has r e = (refuses T _ w _ _ w.events (without_size w.scratch) r.1 r.0.rest, refl)
label_inside_ends T w (Some b) has r e = go (nat_eq b 93) (breaks_label b) (nat_eq b 92) refl refl refl
  where
    inside : w.point.index < w.setting.limit
    inside = seen-some (position w) b e

    go : (x y z : Bool) → nat_eq b 93 ≡ x → breaks_label b ≡ y → nat_eq b 92 ≡ z →
        Does T (n.GfmFootnoteDefinition its.LabelInside) w (label_inside_code w (Some b))
    go true y z k l m = rw k (closed_ends T w _ has r inside)
    go false true z k l m =
        rw (k, l) (refuses T _ w _ _ w.events (without_size w.scratch) r.1 r.0.rest, refl)
    go false false true k l m =
        rw (k, l, m)
        (taken_ends T w its.LabelInside its.LabelEscape _ has r inside (record { ready = λ x K h. h }) refl)
    go false false false k l m =
        rw (k, l, m)
        (taken_ends T w its.LabelInside its.LabelInside _ has r inside (record { ready = λ x K h. h }) refl)

label_escape_ends : (T : Scheme) (w : World) (x : Bool) → FootnoteFits T → InLabel T w →
    sees_mark (seen (position w)) ≡ x →
    Does T (n.GfmFootnoteDefinition its.LabelEscape) w (label_escape_code w x)
label_escape_ends T w true has r e =
    taken_ends T w its.LabelEscape its.LabelInside _ has r (seen-in (position w) sees_mark refl e)
    (record { ready = λ x K h. h }) refl
label_escape_ends T w false has r e = (
  turns T footnote_scheme _ _ w w.events w.scratch (has.each its.LabelEscape) (has.each its.LabelInside) r
      (omega arith) (omega arith),
  refl,
)

-- After the label.

label_after_ends : (T : Scheme) (w : World) (x : Bool) → FootnoteFits T →
    rest_ready (position w) (after_all T w.frames) → is_current colon (seen (position w)) ≡ x →
    Does T (n.GfmFootnoteDefinition its.LabelAfter) w (label_after_code w x)
label_after_ends T w true has r e =
    let inside = seen-in (position w) (is_current colon) refl e in (
      consumes T footnote_scheme _ _ w (label_after_code w true).world.events w.scratch (has.each its.LabelAfter)
          (has.each its.MarkerAfter) inside (r.0, later _ _ (position w) _ _ _ (takes w.setting w.point inside) r.1)
          (omega arith),
      refl,
    )
label_after_ends T w false has r e = (refuses T _ w _ _ w.events w.scratch r.1 r.0, refl)

marker_after_ends : (T : Scheme) (w : World) (x : Bool) → FootnoteFits T →
    rest_ready (position w) (after_all T w.frames) →
    Does T (n.GfmFootnoteDefinition its.MarkerAfter) w (marker_after_code w x)
marker_after_ends T w true has r =
    white_try T footnote_scheme _ (n.GfmFootnoteDefinition its.WhitespaceAfter) w w.events w.scratch 1 any_size IsRest
    IsRest has.white (has.each its.MarkerAfter) (has.each its.WhitespaceAfter) (rest-none w.scratch r.0)
    (λ some. rest-calm w.scratch r.0) r.1
    (λ q t up way. (rest-calm w.scratch r.0, later_at IsRest IsRest (position w) _ q t _ up way r.1)) (omega arith)
    (omega arith) (λ t up. omega arith) (omega arith)
marker_after_ends T w false has r = (
  turns T footnote_scheme _ _ w w.events w.scratch (has.each its.MarkerAfter) (has.each its.WhitespaceAfter) r
      (omega arith) (omega arith),
  refl,
)

-- each state of a footnote definition
pub footnote_terminates : (T : Scheme) (state : FootnoteState) (w : World) → FootnoteFits T → w.current ≡ looks w →
    footnote_ready (n.GfmFootnoteDefinition state) (position w) (after_all T w.frames) →
    Does T (n.GfmFootnoteDefinition state) w (footnote_transition state w)
footnote_terminates T its.Start w has c r = start_ends T w _ _ has r
footnote_terminates T its.LabelBefore w has c r =
    label_before_ends T w _ has r (ap (is_current left_bracket) (sym c))
footnote_terminates T its.LabelAtMarker w has c r =
    label_at_marker_ends T w _ has r (ap (is_current caret) (sym c))
footnote_terminates T its.LabelInside w has c r = label_inside_ends T w w.current has r (sym c)
footnote_terminates T its.LabelEscape w has c r = label_escape_ends T w _ has r (ap sees_mark (sym c))
footnote_terminates T its.LabelAfter w has c r = label_after_ends T w _ has r (ap (is_current colon) (sym c))
footnote_terminates T its.MarkerAfter w has c r = marker_after_ends T w _ has r
footnote_terminates T its.WhitespaceAfter w has c r =
    (accepts T _ w _ _ (exited w parts.GfmFootnoteDefinitionPrefix).events w.scratch r.1 r.0, refl)
