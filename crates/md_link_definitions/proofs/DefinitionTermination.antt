-- A definition is and ends in any table that has it, and its parts.
use Rattle.std.proofs.Common.{◌≡◌, ◌<◌, ◌≤◌, Bool, true, false, length, refl, arith, ap, sym}
use Rattle.md_meaning.specs.Ascii.{colon}
use Rattle.md_engine.specs.declared.event.Name.TheVariants.{Definition}
use Rattle.md_engine.specs.declared.state.Name.{Name as StateName}
use Rattle.md_engine.specs.declared.state.Name.TheVariants as n
use Rattle.md_engine.specs.declared.state.definition.State.{State as DefinitionState}
use Rattle.md_engine.specs.declared.state.definition.State.TheVariants as its
use Rattle.md_engine.specs.declared.state.destination.State.TheVariants as destination
use Rattle.md_engine.specs.declared.state.label.State.TheVariants as label
use Rattle.md_engine.specs.declared.state.space_or_tab_eol.State.TheVariants as gap
use Rattle.md_engine.specs.declared.state.title.State.TheVariants as title
use Rattle.md_engine.specs.declared.state.State.TheVariants.{Nok, Next}
use Rattle.md_engine.specs.declared.tokenizer.Frame.{Frame}
use Rattle.md_engine.specs.Scheme.{After, Fits, Scheme, Position, after_all, seen, position, spot_at}
use Rattle.md_engine.specs.World.{World, looks}
use Rattle.md_engine.proofs.Falls.{later, later_at, passed_at, passing_at}
use Rattle.md_engine.proofs.Local.{accepts, begins_later, begins_try, consumes, refuses, refuses_later, turns}
use Rattle.md_engine.proofs.Points.{passes-reaches, stays, takes}
use Rattle.md_link_definitions.specs.Definition.{before_code, following_white, definition_level, definition_rank}
use Rattle.md_link_definitions.specs.Definition.{definition_ready, definition_scheme, definition_transition}
use Rattle.md_link_definitions.specs.Definition.{definition_tries, end_code, label_after_code, start_code}
use Rattle.md_link_definitions.specs.Definition.{title_before_code, title_before_marker_transition, title_end_code}
use Rattle.md_link_definitions.specs.Definition.{tries_part}
use Rattle.md_link_definitions.specs.Destination.{destination_scheme}
use Rattle.md_link_definitions.specs.Gap.{gap_scheme}
use Rattle.md_link_definitions.specs.Label.{label_scheme}
use Rattle.md_link_definitions.specs.Title.{title_scheme}
use Rattle.md_link_definitions.proofs.DestinationTermination.{DestinationFits}
use Rattle.md_link_definitions.proofs.GapTermination.{GapFits}
use Rattle.md_link_definitions.proofs.LabelTermination.{LabelFits}
use Rattle.md_link_definitions.proofs.TitleTermination.{TitleFits}
use Rattle.md_events.specs.Spaces.{IsRest, any_size, is_current, later_ready, rest_ready}
use Rattle.md_events.specs.Transition.{entered, exited}
use Rattle.md_events.proofs.SpacesTermination.{Does, rest-calm, rest-none, seen-in, white_try, white_try_later}

-- a table that has its states, and those of its parts
pub record DefinitionFits (T : Scheme) : Type 1 where
  pub gap : GapFits T
  pub label : LabelFits T
  pub destination : DestinationFits T
  pub title : TitleFits T
  pub each : (state : DefinitionState) → Fits T definition_scheme (n.Definition state)

-- Whitespace that may be left out, before a state that is ready at rest.
white-following : (T : Scheme) (name next : DefinitionState) (w : World) (x : Bool) → DefinitionFits T →
    rest_ready (position w) (after_all T w.frames) →
    ((y : Position) (K : After) → rest_ready y K → definition_ready (n.Definition next) y K) →
    definition_level (n.Definition next) ≤ definition_level (n.Definition name) →
    0 < definition_level (n.Definition name) →
    ((y : Position) →
    (definition_rank (n.Definition next) y).number < (definition_tries (n.Definition next)).number) →
    (definition_tries (n.Definition next)).number < (definition_rank (n.Definition name) (position w)).number →
    Does T (n.Definition name) w (following_white w next x)
white-following T name next w true has r ready level some low falls =
    white_try T definition_scheme (n.Definition name) (n.Definition next) w w.events w.scratch 1 any_size IsRest IsRest
    has.gap.white (has.each name) (has.each next) (rest-none w.scratch r.0) (λ asked. rest-calm w.scratch r.0) r.1
    (λ q t up way. ready _ _ (rest-calm w.scratch r.0, later_at _ _ (position w) _ q t _ up way r.1)) level some
    (λ t up. low _) falls
white-following T name next w false has r ready level some low falls =
    let less = low (position w) in (
      turns T definition_scheme (n.Definition name) (n.Definition next) w w.events w.scratch (has.each name)
          (has.each next) (ready _ _ r) level (omega (arith, less, falls)),
      refl,
    )

-- A part that is tried where both states that it may continue with are ready at rest.
part-tried : (T inner : Scheme) (name ok nok : DefinitionState) (first : StateName) (w : World) → DefinitionFits T →
    Fits T inner first → rest_ready (position w) (after_all T w.frames) →
    ((y : Position) (K : After) → rest_ready y K → inner.ready first y K) →
    ((y : Position) (K : After) → rest_ready y K → definition_ready (n.Definition ok) y K) →
    ((y : Position) (K : After) → rest_ready y K → definition_ready (n.Definition nok) y K) →
    inner.level first < definition_level (n.Definition name) →
    definition_level (n.Definition ok) ≤ definition_level (n.Definition nok) →
    definition_level (n.Definition nok) ≤ definition_level (n.Definition name) →
    ((y : Position) → (definition_rank (n.Definition ok) y).number < (definition_tries (n.Definition nok)).number) →
    ((y : Position) → (definition_rank (n.Definition nok) y).number < (definition_tries (n.Definition nok)).number) →
    (definition_tries (n.Definition nok)).number < (definition_rank (n.Definition name) (position w)).number →
    Does T (n.Definition name) w (tries_part w first (Next (n.Definition ok)) (Next (n.Definition nok)))
part-tried T inner name ok nok first w has part r ready ready_ok ready_nok below level_ok level low_ok low_nok falls =
    let K : After = after_all T w.frames in
    let f : Frame = record {
      ok = Next (n.Definition ok);
      nok = Next (n.Definition nok);
      is_check = false;
      events_len = length w.events;
      point = w.point;
    } in (
      begins_try T definition_scheme inner (n.Definition name) first w IsRest IsRest w.events w.scratch f
          (has.each name) part (has.each ok) (has.each nok) refl
          (record {
            ok = λ s q t is up way. ready_ok _ K (is, later_at _ _ (position w) K q t s up way r.1);
            ok_level = level_ok;
            ok_rank = λ s t is up. let low = low_ok (spot_at t w.point s) in omega (arith, low);
            nok = λ s t is up. ready_nok _ K (
              is,
              later_at _ _ (position w) K w.point t s up
                  (stays t.limit w.point) r.1,
            );
            nok_level = omega arith;
            nok_rank = λ s t is up. let low = low_nok (spot_at t w.point s) in omega (arith, low);
          })
          (λ K e. ready _ K (r.0, e)) below level falls,
      refl,
    )

-- Each state.

-- before a definition
start_ends : (T : Scheme) (w : World) (on white : Bool) → DefinitionFits T →
    later_ready (position w) (after_all T w.frames) → Does T (n.Definition its.Start) w (start_code w on white)
start_ends T w true true has r =
    white_try_later T definition_scheme _ (n.Definition its.Before) w w.events w.scratch 1 any_size IsRest IsRest
    has.gap.white (has.each its.Start) (has.each its.Before) (rest-none w.scratch r.0)
    (λ some. rest-calm w.scratch r.0) r.1
    (λ q t up way. (rest-calm w.scratch r.0, passing_at _ _ (position w) _ q t _ up way r.1))
    (omega arith) (omega arith)
    (λ t up. omega arith) (omega arith)
start_ends T w true false has r = (
  turns T definition_scheme _ _ w w.events w.scratch (has.each its.Start) (has.each its.Before) r (omega arith)
      (omega arith),
  refl,
)
start_ends T w false white has r = (refuses_later T _ w _ _ w.events w.scratch r.1 r.0, refl)

-- at the `[`
before_ends : (T : Scheme) (w : World) (x : Bool) → DefinitionFits T → later_ready (position w) (after_all T w.frames) →
    Does T (n.Definition its.Before) w (before_code w x)
before_ends T w true has r =
    let K : After = after_all T w.frames in
    let f : Frame = record {
      ok = Next (n.Definition its.LabelAfter);
      nok = Next (n.Definition its.LabelNok);
      is_check = false;
      events_len = length (entered w Definition).events;
      point = w.point;
    } in (
      begins_later T definition_scheme label_scheme _ (n.Label label.Start) w IsRest IsRest
          (entered w Definition).events w.scratch f (has.each its.Before) (has.label.each label.Start)
          (has.each its.LabelAfter) (has.each its.LabelNok) refl
          (record {
            moves_on = refl;
            ok = λ s q t is up way. (is, passed_at _ _ (position w) K q t s up way r.1);
            ok_level = omega arith;
            nok = λ s t is up. (is, passing_at _ _ (position w) K w.point t s up (stays t.limit w.point) r.1);
            nok_level = omega arith;
            nok_rank = λ s t is up. omega arith;
          })
          (λ K e. (r.0, e)) (omega arith) (omega arith) (omega arith),
      refl,
    )
before_ends T w false has r = (refuses_later T _ w _ _ w.events w.scratch r.1 r.0, refl)

-- after the label
label_after_ends : (T : Scheme) (w : World) (x : Bool) → DefinitionFits T →
    rest_ready (position w) (after_all T w.frames) → is_current colon (seen (position w)) ≡ x →
    Does T (n.Definition its.LabelAfter) w (label_after_code w x)
label_after_ends T w true has r e =
    let inside = seen-in (position w) (is_current colon) refl e in (
      consumes T definition_scheme _ _ w (label_after_code w true).world.events w.scratch (has.each its.LabelAfter)
          (has.each its.MarkerAfter) inside (r.0, later _ _ (position w) _ _ _ (takes w.setting w.point inside) r.1)
          (omega arith),
      refl,
    )
label_after_ends T w false has r e = (refuses T _ w _ _ w.events w.scratch r.1 r.0, refl)

-- before the gap before a title
title_before_ends : (T : Scheme) (w : World) (x : Bool) → DefinitionFits T →
    rest_ready (position w) (after_all T w.frames) → Does T (n.Definition its.TitleBefore) w (title_before_code w x)
title_before_ends T w true has r =
    let K : After = after_all T w.frames in
    let f : Frame = record {
      ok = Next (n.Definition its.TitleBeforeMarker);
      nok = Nok;
      is_check = false;
      events_len = length w.events;
      point = w.point;
    } in (
      begins_try T definition_scheme gap_scheme _ (n.SpaceOrTabEol gap.Start) w IsRest IsRest w.events w.scratch f
          (has.each its.TitleBefore) (has.gap.each gap.Start) (has.each its.TitleBeforeMarker) tt refl
          (record {
            ok = λ s q t is up way. (is, later_at _ _ (position w) K q t s up way r.1);
            ok_level = omega arith;
            ok_rank = λ s t is up. omega arith;
            nok = λ s t is up. r.1.nok s w.point t is up;
            nok_level = omega arith;
            nok_rank = λ s t is up. omega arith;
          })
          (λ K e. (r.0, e)) (omega arith) (omega arith) (omega arith),
      refl,
    )
title_before_ends T w false has r = (refuses T _ w _ _ w.events w.scratch r.1 r.0, refl)

-- before a title
title_before_marker_ends : (T : Scheme) (w : World) → DefinitionFits T →
    rest_ready (position w) (after_all T w.frames) →
    Does T (n.Definition its.TitleBeforeMarker) w (title_before_marker_transition w)
title_before_marker_ends T w has r =
    let K : After = after_all T w.frames in
    let f : Frame = record {
      ok = Next (n.Definition its.TitleAfter);
      nok = Nok;
      is_check = false;
      events_len = length w.events;
      point = w.point;
    } in (
      begins_later T definition_scheme title_scheme _ (n.Title title.Start) w IsRest IsRest w.events w.scratch f
          (has.each its.TitleBeforeMarker) (has.title.each title.Start) (has.each its.TitleAfter) tt refl
          (record {
            moves_on = refl;
            ok = λ s q t is up way.
                (is, later_at _ _ (position w) K q t s up (passes-reaches t.limit w.point q way) r.1);
            ok_level = omega arith;
            nok = λ s t is up. r.1.nok s w.point t is up;
            nok_level = omega arith;
            nok_rank = λ s t is up. omega arith;
          })
          (λ K e. (r.0, e)) (omega arith) (omega arith) (omega arith),
      refl,
    )

-- after a title and whitespace
title_end_ends : (T : Scheme) (w : World) (x : Bool) → rest_ready (position w) (after_all T w.frames) →
    Does T (n.Definition its.TitleAfterOptionalWhitespace) w (title_end_code w x)
title_end_ends T w true r = (accepts T _ w _ _ w.events w.scratch r.1 r.0, refl)
title_end_ends T w false r = (refuses T _ w _ _ w.events w.scratch r.1 r.0, refl)

-- after the definition and whitespace
end_ends : (T : Scheme) (w : World) (x : Bool) → rest_ready (position w) (after_all T w.frames) →
    Does T (n.Definition its.AfterWhitespace) w (end_code w x)
end_ends T w true r = (accepts T _ w _ _ (exited w Definition).events w.scratch r.1 r.0, refl)
end_ends T w false r = (refuses T _ w _ _ w.events w.scratch r.1 r.0, refl)

-- all of them
pub definition_terminates : (T : Scheme) (state : DefinitionState) (w : World) → DefinitionFits T →
    w.current ≡ looks w →
    definition_ready (n.Definition state) (position w) (after_all T w.frames) →
    Does T (n.Definition state) w (definition_transition state w)
definition_terminates T its.Start w has c r = start_ends T w _ _ has r
definition_terminates T its.Before w has c r = before_ends T w _ has r
definition_terminates T its.LabelAfter w has c r = label_after_ends T w _ has r (ap (is_current colon) (sym c))
definition_terminates T its.LabelNok w has c r = (refuses_later T _ w _ _ w.events w.scratch r.1 r.0, refl)
definition_terminates T its.MarkerAfter w has c r =
    part-tried T gap_scheme its.MarkerAfter its.DestinationBefore its.DestinationBefore (n.SpaceOrTabEol gap.Start) w
    has (has.gap.each gap.Start) r (λ y K k. k) (λ y K k. k) (λ y K k. k) (omega arith) (omega arith) (omega arith)
    (λ y. omega arith) (λ y. omega arith) (omega arith)
definition_terminates T its.DestinationBefore w has c r =
    part-tried T destination_scheme its.DestinationBefore its.DestinationAfter its.DestinationMissing
    (n.Destination destination.Start) w has (has.destination.each destination.Start) r (λ y K k. k) (λ y K k. k)
    (λ y K k. k) (omega arith) (omega arith) (omega arith) (λ y. omega arith) (λ y. omega arith) (omega arith)
definition_terminates T its.DestinationAfter w has c r =
    part-tried T definition_scheme its.DestinationAfter its.After its.After (n.Definition its.TitleBefore) w has
    (has.each its.TitleBefore) r (λ y K k. k) (λ y K k. k) (λ y K k. k) (omega arith) (omega arith) (omega arith)
    (λ y. omega arith) (λ y. omega arith) (omega arith)
definition_terminates T its.DestinationMissing w has c r = (refuses T _ w _ _ w.events w.scratch r.1 r.0, refl)
definition_terminates T its.After w has c r =
    white-following T its.After its.AfterWhitespace w _ has r (λ y K k. k) (omega arith) (omega arith)
    (λ y. omega arith)
    (omega arith)
definition_terminates T its.AfterWhitespace w has c r = end_ends T w _ r
definition_terminates T its.TitleBefore w has c r = title_before_ends T w _ has r
definition_terminates T its.TitleBeforeMarker w has c r = title_before_marker_ends T w has r
definition_terminates T its.TitleAfter w has c r =
    white-following T its.TitleAfter its.TitleAfterOptionalWhitespace w _ has r (λ y K k. k) (omega arith) (omega arith)
    (λ y. omega arith) (omega arith)
definition_terminates T its.TitleAfterOptionalWhitespace w has c r = title_end_ends T w _ r
