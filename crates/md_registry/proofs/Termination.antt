-- What is tried at a state of flow, in any table that has flow: what is tried next ranks below, so flow ends.
use Rattle.std.proofs.Common.{◌≡◌, ◌<◌, Bool, true, false, List, length, refl, arith}
use Rattle.md_engine.specs.declared.event.Event.{Event}
use Rattle.md_engine.specs.declared.state.Name.{Name as StateName}
use Rattle.md_engine.specs.declared.state.Name.TheVariants as n
use Rattle.md_engine.specs.declared.state.State.TheVariants.{Retry, Next}
use Rattle.md_engine.specs.declared.tokenizer.container.name.ContainerKind.{ContainerKind}
use Rattle.md_engine.specs.Scheme.{After, EndsLater, Fits, Scheme, Position, after_all, seen, position}
use Rattle.md_engine.specs.World.{Flags, World}
use Rattle.md_engine.proofs.Falls.{later_at}
use Rattle.md_engine.proofs.Local.{begins_later, begins_try, turns}
use Rattle.md_engine.proofs.Points.{passes-reaches, stays}
use Rattle.md_events.specs.Spaces.{IsRest, ends_line, rest_ready}
use Rattle.md_events.proofs.SpacesTermination.{Does}
use Rattle.proof_frame.specs.LeafName.{LeafName}
use Rattle.md_registry.specs.Flow.{flow_rank, flow_ready, flow_scheme, trial_code}
use Rattle.md_registry.specs.Registry.{container_rules, leaf, next_of, next_opener}

-- what a table has of the first state of a construct that ends at rest: it is of a lower level than flow, and ready at
-- rest
pub record InsideFits (T : Scheme) (start : StateName) : Type 1 where
  pub own : Scheme
  pub starts : Fits T own start
  pub level : own.level start < 3
  pub ready : (x : Position) (K : After) → rest_ready x K → own.ready start x K

-- what is known of the position where a container is tried, and of the one where an open one is asked: there the line
-- does not end
abbrev pub Anywhere : Position → Type 0
Anywhere x = Unit {0}

abbrev pub IsWithin : Position → Type 0
IsWithin x = ends_line (seen x) ≡ false

-- the same of containers: of the first state of one, where it may open, and of the one before its prefix
pub record ContainerFits (T : Scheme) (Where : Position → Type 0) (start : StateName) : Type 1 where
  pub own : Scheme
  pub starts : Fits T own start
  pub level : own.level start < 3
  pub ready : (x : Position) (K : After) → IsRest x.scratch → Where x → EndsLater IsRest IsRest x K →
      own.ready start x K

-- a state that tries something, and the one before what is tried next, are those of flow, and fall
pub record TrialFits (T : Scheme) (from nok : StateName) : Type 1 where
  pub front : Fits T flow_scheme from
  pub next : Fits T flow_scheme nok
  pub falls : (flow_scheme.tries nok).number < (flow_rank from).number
  pub next_low : (flow_rank nok).number < (flow_scheme.tries nok).number
  pub after_low : 1 < (flow_scheme.tries nok).number

abbrev pub LeafFits : Scheme → LeafName → Type 1
LeafFits T l = TrialFits T (n.Flow (leaf l).before) (n.Flow (next_of l))

abbrev pub OpenerFits : Scheme → ContainerKind → Type 1
OpenerFits T k = TrialFits T (n.Document (container_rules k).before) (n.Document (next_opener k))

-- flow continues here with a state that ranks below
pub turned : (T : Scheme) (from next : StateName) (w : World) (events : List Event) (g : Flags) →
    Fits T flow_scheme from → Fits T flow_scheme next → flow_ready (position w) (after_all T w.frames) →
    (flow_rank next).number < (flow_rank from).number →
    Does T from w (record { to = Retry next; world = record w { events = events; flags = g } })
turned T from next w events g here there r lt =
    (turns T flow_scheme from next w events w.scratch here there r (omega arith) lt, refl)

-- a trial that is refused at once continues with such a state
refused : (T : Scheme) (from nok : StateName) (w : World) (g : Flags) → TrialFits T from nok →
    flow_ready (position w) (after_all T w.frames) →
    Does T from w (record { to = Retry nok; world = record w { flags = g } })
refused T from nok w g fit r =
    let a = fit.falls in let b = fit.next_low in
    turned T from nok w w.events g fit.front fit.next r (omega (arith, a, b))

-- a construct is tried that ends at rest,
pub inside-tried : (T : Scheme) (from start ok nok : StateName) (w : World) (g : Flags) (may : Bool) →
    TrialFits T from nok → InsideFits T start → Fits T flow_scheme ok →
    (flow_rank ok).number < (flow_scheme.tries nok).number → flow_ready (position w) (after_all T w.frames) →
    Does T from w (trial_code start ok nok (record w { flags = g }) may)
inside-tried T from start ok nok w g false fit inner following low r = refused T from nok w g fit r
inside-tried T from start ok nok w g true fit inner following low r =
    let K = after_all T w.frames in
    let low_nok = fit.next_low in (
      begins_try T flow_scheme inner.own from start w IsRest IsRest w.events w.scratch
          (record { ok = Next ok; nok = Next nok; is_check = false; events_len = length w.events; point = w.point })
          fit.front inner.starts following fit.next refl
          (record {
            ok = λ s q t is up way. ((is, later_at _ _ (position w) K q t s up way r.0.1), r.1);
            ok_level = omega arith;
            ok_rank = λ s t is up. omega (arith, low);
            nok = λ s t is up. ((is, later_at _ _ (position w) K w.point t s up (stays t.limit w.point) r.0.1), r.1);
            nok_level = omega arith;
            nok_rank = λ s t is up. omega (arith, low_nok);
          }) (λ K e. inner.ready _ K (r.0.0, e)) inner.level (omega arith) fit.falls,
      refl,
    )

-- and a prefix, which ends later
pub prefix-tried : (T : Scheme) (Where : Position → Type 0) (from start ok nok : StateName) (w : World) (g : Flags)
    (may : Bool) →
    TrialFits T from nok → ContainerFits T Where start → Where (position w) → Fits T flow_scheme ok →
    flow_ready (position w) (after_all T w.frames) →
    Does T from w (trial_code start ok nok (record w { flags = g }) may)
prefix-tried T Where from start ok nok w g false fit inner is following r = refused T from nok w g fit r
prefix-tried T Where from start ok nok w g true fit inner is following r =
    let K = after_all T w.frames in
    let low_nok = fit.next_low in (
      begins_later T flow_scheme inner.own from start w IsRest IsRest w.events w.scratch
          (record { ok = Next ok; nok = Next nok; is_check = false; events_len = length w.events; point = w.point })
          fit.front inner.starts following fit.next refl
          (record {
            moves_on = refl;
            ok =
                λ s q t is up way. (
                  (is, later_at _ _ (position w) K q t s up (passes-reaches t.limit w.point q way) r.0.1),
                  r.1,
                );
            ok_level = omega arith;
            nok = λ s t is up. ((is, later_at _ _ (position w) K w.point t s up (stays t.limit w.point) r.0.1), r.1);
            nok_level = omega arith;
            nok_rank = λ s t is up. omega (arith, low_nok);
          }) (λ K e. inner.ready _ K r.0.0 is e) inner.level (omega arith) fit.falls,
      refl,
    )
