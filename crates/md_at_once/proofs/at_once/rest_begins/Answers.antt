use Rattle.std.proofs.Common.{◌≡◌, ◌≢◌, ◌∙◌, inl, refl, subst, sym}
use Rattle.md_engine.specs.Going.{SeesOn}
use Rattle.md_engine.specs.World.{World, looks, world}
use Rattle.md_engine.specs.declared.state.State.{State}
use Rattle.md_engine.specs.declared.state.State.TheVariants.{Error, Retry}
use Rattle.md_engine.specs.declared.state.Name.{Name as StateName}
use Rattle.md_engine.specs.declared.state.Name.TheVariants as n
use Rattle.md_engine.specs.declared.state.flow.State.TheVariants as flow
use Rattle.md_engine.specs.declared.state.heading_atx.State.TheVariants as heading
use Rattle.md_engine.proofs.Loops.{ArrivedHere, arrived-first, not_error}
use Rattle.md_engine.proofs.StayLemmas.{within-world}
use Rattle.md_engine.proofs.Walks.{Within}
use Rattle.md_registry.specs.Flow.{start_transition}
use Rattle.md_registry.specs.States.{FlowStep}
use Rattle.md_registry.proofs.LinesAtOnce.{Proceeds, blank-leaves, content-follows, proceeds-through, leaves-once}
use Rattle.md_registry.proofs.LinesAtOnce.{start-leaves}
use Rattle.md_at_once.proofs.FlowRuns.{run-ends, run-on}
use Rattle.md_at_once.proofs.WantOfMemory.{state-wants}
use Rattle.md_at_once.proofs.at_once.rest_begins.Goals as goal

starts : (w : World) (to : State) (new : World) → w.current ≡ looks w → Within w →
    (to ≢ Error → to ≡ (start_transition w).to) → (to ≢ Error → new ≡ (start_transition w).world) → to ≢ Error →
    Proceeds (n.Flow flow.Start) w to new
starts w to new seen within to_is new_is fine =
    leaves-once (n.Flow flow.Start) w to new (start-leaves w) (to_is fine) (new_is fine) fine seen within

pub returns-then-content_alone : goal.returns-then-content_alone
returns-then-content_alone c =
    let w = world c.args.tokenizer.now in
    let arrived : ArrivedHere FlowStep (n.Flow flow.Start) w (n.Flow flow.BeforeContent) w =
    λ is_end s v named sees may.
    content-follows is_end s v w (sym c.content_alone.ensures ∙ c.if-content_alone.true) c.requires.current
    (within-world c.args.tokenizer.now) (arrived-first FlowStep (n.Flow flow.Start) w is_end s v named sees may) in
    run-on (n.Flow flow.Start) (n.Flow flow.BeforeContent) w w c.content_begins.result c.content_begins.new.tokenizer
    arrived c.requires.current (inl refl) c.content_begins.ensures

-- what is here is still seen
still-seen : (next : StateName) (w u : World) (s : State) → w.current ≡ looks w → Within w → s ≡ Retry next →
    (s ≢ Error → s ≡ (start_transition w).to) → (s ≢ Error → u ≡ (start_transition w).world) → u.current ≡ looks u
still-seen next w u s seen within is to_is new_is =
    (subst (λ (x : State). SeesOn x w u) is
    (starts w s u seen within to_is new_is (λ e. not_error (Retry next) next refl (sym is ∙ e))).1).0

pub blank_line_before-requires : goal.blank_line_before-requires
blank_line_before-requires c = record {
  current =
      still-seen (n.Flow flow.BlankLineBefore) (world c.args.tokenizer.now) (world c.start-state.new.tokenizer)
      c.start-state.result c.requires.current (within-world c.args.tokenizer.now)
      (c.may_be_blank.ensures c.if-may_be_blank.true) c.start-state.ensures.state.to c.start-state.ensures.state.world;
  has = tt;
}

pub heading_begins-to-requires : goal.heading_begins-to-requires
heading_begins-to-requires c = record {
  current =
      still-seen (n.HeadingAtx heading.Start) (world c.args.tokenizer.now) (world c.start-state.new.tokenizer)
      c.start-state.result c.requires.current (within-world c.args.tokenizer.now)
      (c.is_heading.ensures c.if-is_heading.true) c.start-state.ensures.state.to c.start-state.ensures.state.world;
  has = tt;
}

pub returns-then-may_be_blank : goal.returns-then-may_be_blank
returns-then-may_be_blank c =
    let w = world c.args.tokenizer.now in
    let u = world c.start-state.new.tokenizer in
    let all = λ (fine : c.blank_line_before.result ≢ Error).
    proceeds-through (n.Flow flow.Start) (n.Flow flow.BlankLineBefore) w u c.start-state.result
    c.blank_line_before.result
    (world c.blank_line_before.new.tokenizer) c.requires.current (c.may_be_blank.ensures c.if-may_be_blank.true)
    (starts w _ u c.requires.current (within-world c.args.tokenizer.now) c.start-state.ensures.state.to
    c.start-state.ensures.state.world)
    (λ saw. leaves-once (n.Flow flow.BlankLineBefore) u c.blank_line_before.result
    (world c.blank_line_before.new.tokenizer) (blank-leaves u) (c.blank_line_before.ensures.to fine)
    (c.blank_line_before.ensures.world fine) fine saw (within-world c.start-state.new.tokenizer)) in
    record {
      runs = λ fine. (all fine).0;
      sees = λ fine. (all fine).1;
      full =
          state-wants (n.Flow flow.Start) w c.blank_line_before.result c.blank_line_before.new.tokenizer
          c.blank_line_before.ensures.full;
    }

pub returns-then-is_heading : goal.returns-then-is_heading
returns-then-is_heading c =
    let w = world c.args.tokenizer.now in
    let u = world c.start-state.new.tokenizer in
    let to = c.heading_begins-to.result in
    let mid = c.heading_begins-to.new.tokenizer in
    let proceeds : to ≢ Error → Proceeds (n.Flow flow.Start) w to (world mid) = λ begins.
    proceeds-through (n.Flow flow.Start) (n.HeadingAtx heading.Start) w u c.start-state.result to
    (world mid) c.requires.current (c.is_heading.ensures c.if-is_heading.true)
    (starts w _ u c.requires.current (within-world c.args.tokenizer.now) c.start-state.ensures.state.to
    c.start-state.ensures.state.world)
    (λ saw. (c.heading_begins-to.ensures.runs begins, c.heading_begins-to.ensures.sees begins)) in
    run-ends (n.Flow flow.Start) w to mid c.end.result c.end.new.tokenizer c.requires.current proceeds
    (state-wants (n.Flow flow.Start) w to mid c.heading_begins-to.ensures.full) c.end.ensures

pub returns : goal.returns
returns c =
    let all = starts (world c.args.tokenizer.now) c.start-state.result (world c.start-state.new.tokenizer)
    c.requires.current (within-world c.args.tokenizer.now) c.start-state.ensures.state.to
    c.start-state.ensures.state.world in
    record {
      runs = λ fine. (all fine).0;
      sees = λ fine. (all fine).1;
      full =
          state-wants (n.Flow flow.Start) (world c.args.tokenizer.now) c.start-state.result
          c.start-state.new.tokenizer c.start-state.ensures.state.full;
    }
