use Rattle.std.proofs.Common.{◌≡◌, ◌≢◌, ◌∙◌, Bool, true, false, ap, refl}
use Rattle.md_engine.specs.World.{World, looks, world}
use Rattle.md_engine.specs.declared.event.Name.TheVariants.{HeadingAtx as HeadingName}
use Rattle.md_engine.specs.declared.state.heading_atx.State.{State as HeadingState}
use Rattle.md_engine.specs.declared.state.heading_atx.State.TheVariants as its
use Rattle.md_engine.specs.declared.state.Name.{Name as StateName}
use Rattle.md_engine.specs.declared.state.Name.TheVariants as n
use Rattle.md_engine.specs.declared.state.State.{State}
use Rattle.md_engine.specs.declared.state.State.TheVariants.{Error, Retry}
use Rattle.md_engine.proofs.StayLemmas.{within-world}
use Rattle.md_engine.proofs.Walks.{Within, runs-in}
use Rattle.md_leaves.specs.Heading as heading
use Rattle.md_leaves.specs.HeadingCalls.{HeadingStep}
use Rattle.md_leaves.specs.LeafStart as leaf_start
use Rattle.md_events.specs.Spaces.{sees_white}
use Rattle.md_registry.specs.States.{FlowStep}
use Rattle.md_registry.proofs.HeadingAtx.Calls.{heading-flows}
use Rattle.md_registry.proofs.LinesAtOnce.{Proceeds, Leaves, proceeds-through, leaves-once}
use Rattle.md_at_once.proofs.at_once.heading_begins.Goals as goal

-- Where a heading begins, before an indent or without one.
starts : (w : World) (to : State) (new : World) → w.current ≡ looks w → Within w →
    (to ≢ Error → to ≡ (heading.start_transition w).to) → (to ≢ Error → new ≡ (heading.start_transition w).world) →
    to ≢ Error → Proceeds (n.HeadingAtx its.Start) w to new
starts w to new seen within to_is new_is fine =
    leaves-once (n.HeadingAtx its.Start) w to new
    (leaves w.setting.options.constructs.heading_atx (sees_white w.current)) (to_is fine) (new_is fine) fine seen within
  where
    leaves : (on white : Bool) → Leaves (leaf_start.start_code HeadingName (n.HeadingAtx its.Before) w on white) w
    leaves false white = (tt, refl)
    leaves true true = ((refl, refl), refl)
    leaves true false = ((refl, refl), refl)

-- a state of a heading, as it was found
named : (s : State) (name : StateName) (state other : HeadingState) → s ≡ Retry name → name ≡ n.HeadingAtx state →
    state ≡ other → s ≡ Retry (n.HeadingAtx other)
named s name state other is name_is state_is =
    is ∙ ap Retry name_is ∙ ap (λ (x : HeadingState). Retry (n.HeadingAtx x)) state_is

pub returns-in-Retry-HeadingAtx-Before : goal.returns-in-Retry-HeadingAtx-Before
returns-in-Retry-HeadingAtx-Before c =
    let w = world c.args.tokenizer.now in
    let v = world c.start.new.tokenizer in
    let u = world c.opening.new.tokenizer in
    let b = c.in-Retry-HeadingAtx-Before in
    let all = λ (fine : c.opening.result ≢ Error).
    proceeds-through (n.HeadingAtx its.Start) (n.HeadingAtx its.Before) w v c.start.result c.opening.result u
    c.requires.current (named _ _ _ _ b.is b.field-0-is b.field-0-0-is)
    (starts w _ v c.requires.current (within-world c.args.tokenizer.now) c.start.ensures.to c.start.ensures.world)
    (λ saw. (
      λ is_end s x named sees may.
          runs-in HeadingStep FlowStep is_end s x c.opening.result u
          (heading-flows) (c.opening.ensures.runs fine is_end s x named sees may),
      c.opening.ensures.sees fine,
    )) in
    record { runs = λ fine. (all fine).0; sees = λ fine. (all fine).1; full = c.opening.ensures.full }

pub returns-in_default-2 : goal.returns-in_default-2
returns-in_default-2 c =
    let w = world c.args.tokenizer.now in
    let all = starts w _ (world c.start.new.tokenizer) c.requires.current (within-world c.args.tokenizer.now)
    c.in_default.ensures.to c.in_default.ensures.world in
    record { runs = λ fine. (all fine).0; sees = λ fine. (all fine).1; full = c.in_default.ensures.full }

pub returns-in_default-3 : goal.returns-in_default-3
returns-in_default-3 c =
    let w = world c.args.tokenizer.now in
    let all = starts w c.start.result (world c.start.new.tokenizer) c.requires.current
    (within-world c.args.tokenizer.now) c.start.ensures.to c.start.ensures.world in
    record { runs = λ fine. (all fine).0; sees = λ fine. (all fine).1; full = c.start.ensures.full }
