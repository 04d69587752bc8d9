use Rattle.std.proofs.Common.{◌≡◌, ◌≢◌, ◌∙◌, Bool, Option, ap, false, inl, refl, subst, sym, true}
use Rattle.std.specs.Option.{is_some}
use Rattle.md_engine.specs.declared.state.State.TheVariants.{Error}
use Rattle.md_engine.specs.declared.state.document.State.TheVariants as document
use Rattle.md_engine.specs.declared.state.flow.State.TheVariants as flow
use Rattle.md_registry.specs.Flow.{leaf_front, opener_transition}
use Rattle.md_engine.proofs.Walks.{Within}
use Rattle.md_engine.specs.World.{World, looks, world}
use Rattle.md_engine.specs.declared.state.Name.TheVariants as n
use Rattle.md_engine.specs.declared.tokenizer.container.name.ContainerKind.{ContainerKind}
use Rattle.md_engine.proofs.Loops.{ArrivedHere, ArrivedAt, arrived-first}
use Rattle.md_engine.proofs.StayLemmas.{within-world}
use Rattle.md_events.specs.Transition.{Transition}
use Rattle.md_registry.specs.AtOnce.{openers_passed}
use Rattle.md_registry.specs.Registry.{asked_first, opener_at, opener_front, openers}
use Rattle.md_registry.specs.States.{FlowStep}
use Rattle.md_registry.proofs.LinesAtOnce.{ends-with, tried-opener-leaves}
use Rattle.md_at_once.specs.AtOnce.{OpensNone}
use Rattle.md_at_once.proofs.NoLabel.{passes-to-front}
use Rattle.md_at_once.proofs.FlowRuns.{run-on}
use Rattle.md_at_once.proofs.WantOfMemory.{state-wants}
use Rattle.md_at_once.proofs.at_once.containers_new.Goals as goal

-- the leaf that is open is asked first, or the rest of the line follows
front : (w u : World) → u ≡ openers_passed w → OpensNone w → w.current ≡ looks w → Within w → (x : Bool) →
    is_some (asked_first u.flags.leaf) ≡ x →
    ArrivedHere FlowStep (n.Document (opener_front openers)) w (leaf_front x) u
front w u passed none seen within x asked is_end s v named sees may =
    subst (λ (y : Bool). ArrivedAt FlowStep is_end s v (leaf_front y) u) asked
    (subst
    (λ (y : World). ArrivedAt FlowStep is_end s v (leaf_front (is_some (asked_first y.flags.leaf))) y) (sym passed)
    (passes-to-front is_end s v w none seen within
    (arrived-first FlowStep (n.Document (opener_front openers)) w is_end s v named sees may)))

pub returns-then-continues_inside : goal.returns-then-continues_inside
returns-then-continues_inside c =
    let w = world c.args.tokenizer.now in
    let u = world c.pass_openers.new.tokenizer in
    run-on (n.Document (opener_front openers)) (n.Document document.FlowInside) w u c.inside.result
    c.inside.new.tokenizer
    (front w u c.pass_openers.ensures (c.opens_none.ensures c.if-opens_none.true) c.requires.current
    (within-world c.args.tokenizer.now) true (sym c.continues_inside.ensures ∙ c.if-continues_inside.true))
    (subst (λ (x : World). x.current ≡ looks x) (sym c.pass_openers.ensures) c.requires.current)
    (inl (ap (λ (x : World). x.point) c.pass_openers.ensures)) c.inside.ensures

pub returns-else-continues_inside : goal.returns-else-continues_inside
returns-else-continues_inside c =
    let w = world c.args.tokenizer.now in
    let u = world c.pass_openers.new.tokenizer in
    run-on (n.Document (opener_front openers)) (n.Flow flow.Start) w u c.rest_begins.result c.rest_begins.new.tokenizer
    (front w u c.pass_openers.ensures (c.opens_none.ensures c.if-opens_none.true) c.requires.current
    (within-world c.args.tokenizer.now) false (sym c.continues_inside.ensures ∙ c.if-continues_inside.false))
    (subst (λ (x : World). x.current ≡ looks x) (sym c.pass_openers.ensures) c.requires.current)
    (inl (ap (λ (x : World). x.point) c.pass_openers.ensures)) c.rest_begins.ensures

pub returns-else-opens_plainly : goal.returns-else-opens_plainly
returns-else-opens_plainly c =
    let first = n.Document (opener_front openers) in
    let w = world c.args.tokenizer.now in
    let at = ap opener_at c.first_opener.ensures in
    let is = ap (λ (o : Option ContainerKind). opener_transition o w) at in
    let all = λ (fine : c.before_opener.result ≢ Error).
    ends-with first first w w c.before_opener.result (world c.before_opener.new.tokenizer)
    (arrived-first FlowStep first w) (tried-opener-leaves (opener_at (opener_front openers)) w)
    (c.before_opener.ensures.to fine ∙ ap (λ (x : Transition). x.to) is)
    (c.before_opener.ensures.world fine ∙ ap (λ (x : Transition). x.world) is) fine c.requires.current
    (within-world c.args.tokenizer.now) refl in
    record {
      runs = λ fine. (all fine).0;
      sees = λ fine. (all fine).1;
      full = state-wants first w c.before_opener.result c.before_opener.new.tokenizer c.before_opener.ensures.full;
    }
