use Rattle.std.proofs.Common.{◌≡◌, ◌≢◌, ◌∙◌, ap, inl, inr, subst, sym}
use Rattle.md_engine.specs.Run.{RunsHere}
use Rattle.md_engine.specs.World.{world}
use Rattle.md_engine.specs.declared.state.document.State.{State as DocumentState}
use Rattle.md_engine.specs.declared.state.document.State.TheVariants as document
use Rattle.md_engine.specs.declared.state.Name.{Name as StateName}
use Rattle.md_engine.specs.declared.state.Name.TheVariants as n
use Rattle.md_engine.specs.declared.state.State.{State}
use Rattle.md_engine.specs.declared.state.State.TheVariants.{Error, Next, Retry}
use Rattle.md_engine.proofs.Loops.{ArrivedHere, arrived-on, not_error, plain_of, reading-same}
use Rattle.md_registry.specs.States.{FlowStep}
use Rattle.md_registry.specs.Registry.{opener_front, openers}
use Rattle.md_at_once.specs.AtOnce.{Proceeds}
use Rattle.md_at_once.proofs.FlowRuns.{run-on, run-through}
use Rattle.md_at_once.proofs.at_once.containers.Goals as goal

abbrev line : StateName
line = n.Document document.ContainerExistingBefore

abbrev next : StateName
next = n.Document (opener_front openers)

pub containers_new-requires : goal.containers_new-requires
containers_new-requires c =
    let at = c.in-Next-Document-ContainerNewBefore in
    let is : c.containers_existing.result ≡ Next next =
    at.is ∙ ap Next at.field-0-is ∙ ap (λ (x : DocumentState). Next (n.Document x)) at.field-0-0-is in
    record { current = (c.containers_existing.ensures.opens next is).0; has = tt }

-- Where the next container has ended, what is here is seen already, and one continues with those that may open.
pub returns-in-Next-Document-ContainerNewBefore : goal.returns-in-Next-Document-ContainerNewBefore
returns-in-Next-Document-ContainerNewBefore c =
    let at = c.in-Next-Document-ContainerNewBefore in
    let old = world c.args.tokenizer.now in
    let u = world c.containers_existing.new.tokenizer in
    let is : c.containers_existing.result ≡ Next next =
    at.is ∙ ap Next at.field-0-is ∙ ap (λ (x : DocumentState). Next (n.Document x)) at.field-0-0-is in
    let become = not_error c.containers_existing.result next (plain_of c.containers_existing.result next (inl is)) in
    let runs : RunsHere FlowStep line old (Next next) u =
    subst (λ (x : State). RunsHere FlowStep line old x u) is (c.containers_existing.ensures.run.runs become) in
    let ahead = c.containers_existing.ensures.opens next is in
    let arrived : ArrivedHere FlowStep line old next u = λ is_end.
    arrived-on FlowStep is_end line next old u u (runs is_end) (inr ahead.1) (sym (reading-same u ahead.0)) in
    run-on line next old u c.containers_new.result c.containers_new.new.tokenizer arrived ahead.0 (inr ahead.1)
    c.containers_new.ensures

pub returns-in-Retry-Document-ContainerNewBefore : goal.returns-in-Retry-Document-ContainerNewBefore
returns-in-Retry-Document-ContainerNewBefore c =
    let at = c.in-Retry-Document-ContainerNewBefore in
    let old = world c.args.tokenizer.now in
    let u = world c.containers_existing.new.tokenizer in
    let to = c.containers_existing.result in
    let is : to ≡ Retry next =
    at.is ∙ ap Retry at.field-0-is ∙ ap (λ (x : DocumentState). Retry (n.Document x)) at.field-0-0-is in
    let become : to ≢ Error → Proceeds line old to u =
    λ fine. (c.containers_existing.ensures.run.runs fine, c.containers_existing.ensures.run.sees fine) in
    let called = c.containers_new-in-Retry-Document-ContainerNewBefore in
    run-through line next old u to called.result called.new.tokenizer c.requires.current is become called.ensures

pub returns-in-Retry-Document-ContainersAfter : goal.returns-in-Retry-Document-ContainersAfter
returns-in-Retry-Document-ContainersAfter c =
    let at = c.in-Retry-Document-ContainersAfter in
    let old = world c.args.tokenizer.now in
    let u = world c.containers_existing.new.tokenizer in
    let to = c.containers_existing.result in
    let is : to ≡ Retry (n.Document document.ContainersAfter) =
    at.is ∙ ap Retry at.field-0-is ∙ ap (λ (x : DocumentState). Retry (n.Document x)) at.field-0-0-is in
    let become : to ≢ Error → Proceeds line old to u =
    λ fine. (c.containers_existing.ensures.run.runs fine, c.containers_existing.ensures.run.sees fine) in
    run-through line (n.Document document.ContainersAfter) old u to c.after_containers.result
    c.after_containers.new.tokenizer c.requires.current is become c.after_containers.ensures
