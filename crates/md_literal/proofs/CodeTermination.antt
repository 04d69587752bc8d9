-- Indented code is and ends in any table that has it.
use Rattle.std.proofs.Common.{◌≡◌, Bool, true, false, [], ◌∷◌, ◌++◌, length, refl, arith, ap, sym, ◌∙◌}
use Rattle.md_engine.specs.declared.event.Event.{Event}
use Rattle.md_engine.specs.declared.event.Name.TheVariants.{CodeFlowChunk, CodeIndented}
use Rattle.md_engine.specs.declared.state.Name.TheVariants as n
use Rattle.md_engine.specs.declared.state.State.TheVariants.{Ok, Next}
use Rattle.md_engine.specs.declared.state.code_indented.State.{State as CodeState}
use Rattle.md_engine.specs.declared.state.code_indented.State.TheVariants as its
use Rattle.md_engine.specs.declared.tokenizer.Scratch.{Scratch}
use Rattle.md_engine.specs.Scheme.{Fits, Position, Scheme, after_all, seen, position}
use Rattle.md_engine.specs.World.{World, looks}
use Rattle.md_engine.proofs.Falls.{later, later_at}
use Rattle.md_engine.proofs.Local.{accepts, begins_try, consumes, refuses, turns}
use Rattle.md_engine.proofs.Points.{stays, takes}
use Rattle.md_literal.specs.Code.{CodeInvariant, at_break_code, begun_code, chunk_begun, chunk_noted, code_level}
use Rattle.md_literal.specs.Code.{code_rank, code_ready, code_scheme, code_transition, further_after_code}
use Rattle.md_literal.specs.Code.{further_begin_code, further_inside_code, inside_blank_code, inside_code}
use Rattle.md_leaves.specs.Further.{further_link}
use Rattle.md_events.specs.Events.Nested.{enter, enter_link}
use Rattle.md_events.specs.Spaces.{IsRest, calmed, ends_line, rest_ready, sees_white}
use Rattle.md_events.specs.Transition.{entered, exited, taken}
use Rattle.md_events.proofs.SpacesTermination.{Does, WhiteFits, inside-line, rest-calm, rest-none, seen-in, white_try}

pub record CodeFits (T : Scheme) : Type 1 where
  pub white : WhiteFits T
  pub each : (state : CodeState) → Fits T code_scheme (n.CodeIndented state)

-- at a state before a line of code, which begins with this event
code_begun_ends : (T : Scheme) (state : CodeState) (begin : Event) (w : World) (x : Bool) →
    code_level (n.CodeIndented state) ≡ 1 → (code_rank (n.CodeIndented state) (position w)).number ≡ 6 → CodeFits T →
    rest_ready (position w) (after_all T w.frames) → Does T (n.CodeIndented state) w (begun_code w begin x)
code_begun_ends T state begin w true level rank has r =
    white_try T code_scheme _ (n.CodeIndented its.AtBreak) w (w.events ++ begin ∷ []) w.scratch 4 4 IsRest IsRest
    has.white (has.each state) (has.each its.AtBreak) (rest-none w.scratch r.0) (λ some. rest-calm w.scratch r.0) r.1
    (λ q t up way.
    (ap (λ (s : Scratch). chunk_begun (calmed s)) r.0, later_at _ _ (position w) _ q t _ up way r.1)) (omega arith)
    (omega arith)
    (λ t up. omega arith) (omega arith)
code_begun_ends T state begin w false level rank has r = (refuses T _ w _ _ w.events w.scratch r.1 r.0, refl)

code_at_break_ends : (T : Scheme) (w : World) (x : Bool) → CodeFits T →
    code_ready (n.CodeIndented its.AtBreak) (position w) (after_all T w.frames) → w.scratch.seen ≡ x →
    Does T (n.CodeIndented its.AtBreak) w (at_break_code w x)
code_at_break_ends T w true has r e = (
  turns T code_scheme _ (n.CodeIndented its.FurtherInside) w (entered w CodeFlowChunk).events (chunk_begun w.scratch)
      (has.each its.AtBreak) (has.each its.FurtherInside)
      (r.0, later IsRest IsRest (position w) _ _ _ (stays w.setting.limit w.point) r.1) (omega arith) (omega arith),
  refl,
)
code_at_break_ends T w false has r e =
    let same : w.scratch ≡ chunk_begun w.scratch = ap (λ (b : Bool). record w.scratch { seen = b }) e in (
      turns T code_scheme _ (n.CodeIndented its.InsideBlank) w (entered w CodeFlowChunk).events w.scratch
          (has.each its.AtBreak) (has.each its.InsideBlank) (same ∙ r.0, r.1) (omega arith) (omega arith),
      refl,
    )

-- whitespace is taken in a chunk, at a state that is ready at rest
good-white : (T : Scheme) (state : CodeState) (w : World) →
    ((x : Position) → IsRest x.scratch → CodeInvariant (n.CodeIndented state) x) → CodeFits T →
    rest_ready (position w) (after_all T w.frames) → sees_white (seen (position w)) ≡ true →
    Does T (n.CodeIndented state) w (record { to = Next (n.CodeIndented state); world = taken w })
good-white T state w rest has r e =
    let inside = seen-in (position w) sees_white refl e in (
      consumes T code_scheme _ _ w w.events w.scratch (has.each state) (has.each state) inside
          (rest _ r.0, later _ _ (position w) _ _ _ (takes w.setting w.point inside) r.1) (omega arith),
      refl,
    )

inside_blank_ends : (T : Scheme) (w : World) (x y : Bool) → CodeFits T →
    rest_ready (position w) (after_all T w.frames) →
    sees_white (seen (position w)) ≡ y → Does T (n.CodeIndented its.InsideBlank) w (inside_blank_code w x y)
inside_blank_ends T w true y has r e = (refuses T _ w _ _ w.events w.scratch r.1 r.0, refl)
inside_blank_ends T w false true has r e = good-white T its.InsideBlank w (λ x is. is) has r e
inside_blank_ends T w false false has r e = (
  turns T code_scheme _ (n.CodeIndented its.Inside) w w.events w.scratch (has.each its.InsideBlank)
      (has.each its.Inside) r (omega arith) (omega arith),
  refl,
)

inside_ends : (T : Scheme) (w : World) (x : Bool) → CodeFits T → w.current ≡ looks w →
    rest_ready (position w) (after_all T w.frames) →
    ends_line w.current ≡ x → Does T (n.CodeIndented its.Inside) w (inside_code w x)
inside_ends T w true has c r e = (
  turns T code_scheme _ (n.CodeIndented its.After) w (exited w CodeFlowChunk).events w.scratch
      (has.each its.Inside) (has.each its.After) r (omega arith) (omega arith),
  refl,
)
inside_ends T w false has c r e =
    let inside = inside-line w c e in (
      consumes T code_scheme _ _ w w.events w.scratch (has.each its.Inside) (has.each its.Inside) inside
          (r.0, later _ _ (position w) _ _ _ (takes w.setting w.point inside) r.1) (omega arith),
      refl,
    )

after_ends : (T : Scheme) (w : World) → rest_ready (position w) (after_all T w.frames) →
    Does T (n.CodeIndented its.After) w (code_transition its.After w)
after_ends T w r = (accepts T _ w _ _ (exited w CodeIndented).events w.scratch r.1 r.0, refl)

further_start_ends : (T : Scheme) (w : World) → CodeFits T → rest_ready (position w) (after_all T w.frames) →
    Does T (n.CodeIndented its.FurtherStart) w (code_transition its.FurtherStart w)
further_start_ends T w has r = (
  begins_try T code_scheme code_scheme (n.CodeIndented its.FurtherStart) (n.CodeIndented its.FurtherLine) w
      IsRest IsRest
      w.events w.scratch
      (record {
        ok = Ok;
        nok = Next (n.CodeIndented its.FurtherBegin);
        is_check = false;
        events_len = length w.events;
        point = w.point;
      })
      (has.each its.FurtherStart) (has.each its.FurtherLine) tt (has.each its.FurtherBegin) refl
      (record {
        ok = λ s q t is up way. r.1.ok s q t is up way;
        ok_level = omega arith;
        ok_rank = λ s t is up. omega arith;
        nok =
            λ s t is up.
            (is, later_at IsRest IsRest (position w) _ w.point t s up (stays t.limit w.point) r.1);
        nok_level = omega arith;
        nok_rank = λ s t is up. omega arith;
      })
      (λ K e. (r.0, e)) (omega arith) (omega arith) (omega arith),
  refl,
)

further_begin_ends : (T : Scheme) (w : World) (x : Bool) → CodeFits T → rest_ready (position w) (after_all T w.frames) →
    Does T (n.CodeIndented its.FurtherBegin) w (further_begin_code w x)
further_begin_ends T w true has r =
    white_try T code_scheme _ (n.CodeIndented its.FurtherAfter) w w.events w.scratch 0 4 IsRest IsRest has.white
    (has.each its.FurtherBegin) (has.each its.FurtherAfter) (rest-none w.scratch r.0)
    (λ some. rest-calm w.scratch r.0) r.1
    (λ q t up way. (rest-calm w.scratch r.0, later_at _ _ (position w) _ q t _ up way r.1)) (omega arith) (omega arith)
    (λ t up. omega arith) (omega arith)
further_begin_ends T w false has r = (
  turns T code_scheme _ (n.CodeIndented its.FurtherAfter) w w.events w.scratch (has.each its.FurtherBegin)
      (has.each its.FurtherAfter) r (omega arith) (omega arith),
  refl,
)

further_after_ends : (T : Scheme) (w : World) (x y : Bool) → CodeFits T →
    rest_ready (position w) (after_all T w.frames) →
    Does T (n.CodeIndented its.FurtherAfter) w (further_after_code w x y)
further_after_ends T w true y has r = (accepts T _ w _ _ w.events w.scratch r.1 r.0, refl)
further_after_ends T w false true has r = (
  turns T code_scheme _ (n.CodeIndented its.AtBreak) w w.events (chunk_noted w.scratch) (has.each its.FurtherAfter)
      (has.each its.AtBreak) (
        ap (λ (s : Scratch). chunk_begun (chunk_noted s)) r.0,
        later IsRest IsRest (position w) _ _ _ (stays w.setting.limit w.point) r.1,
      )
      (omega arith) (omega arith),
  refl,
)
further_after_ends T w false false has r = (refuses T _ w _ _ w.events w.scratch r.1 r.0, refl)

further_inside_ends : (T : Scheme) (w : World) (x y : Bool) → CodeFits T →
    rest_ready (position w) (after_all T w.frames) →
    sees_white (seen (position w)) ≡ y → Does T (n.CodeIndented its.FurtherInside) w (further_inside_code w x y)
further_inside_ends T w true y has r e =
    (accepts T _ w _ _ (exited w CodeFlowChunk).events w.scratch r.1 r.0, refl)
further_inside_ends T w false true has r e = good-white T its.FurtherInside w (λ x is. is) has r e
further_inside_ends T w false false has r e = (refuses T _ w _ _ w.events w.scratch r.1 r.0, refl)

-- each state of code
pub code_terminates : (T : Scheme) (state : CodeState) (w : World) → CodeFits T → w.current ≡ looks w →
    code_ready (n.CodeIndented state) (position w) (after_all T w.frames) →
    Does T (n.CodeIndented state) w (code_transition state w)
code_terminates T its.Start w has c r = code_begun_ends T its.Start (enter CodeIndented w.point) w _ refl refl has r
code_terminates T its.AtBreak w has c r = code_at_break_ends T w _ has r refl
code_terminates T its.InsideBlank w has c r = inside_blank_ends T w _ _ has r (ap sees_white (sym c))
code_terminates T its.Inside w has c r = inside_ends T w _ has c r refl
code_terminates T its.After w has c r = after_ends T w r
code_terminates T its.FurtherStart w has c r = further_start_ends T w has r
code_terminates T its.FurtherLine w has c r =
    code_begun_ends T its.FurtherLine (enter_link CodeIndented w.point further_link) w _ refl refl has r
code_terminates T its.FurtherBegin w has c r = further_begin_ends T w _ has r
code_terminates T its.FurtherAfter w has c r = further_after_ends T w _ _ has r
code_terminates T its.FurtherInside w has c r = further_inside_ends T w _ _ has r (ap sees_white (sym c))
