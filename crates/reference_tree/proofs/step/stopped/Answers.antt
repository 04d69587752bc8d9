use Rattle.std.proofs.Common.{◌≡◌, IfOk, sym, ◌∙◌, ap, subst}
use Rattle.md_meaning.specs.State.{Path}
use Rattle.reference_tree.specs.Rests.{rest_meaning}
use Rattle.reference_tree.specs.States.{spot_meaning, taken_meaning, taken_option, path_meaning}
use Rattle.reference_tree.proofs.StepLemmas.{stops-opened, stops-lazy, stops-fresh}
use Rattle.reference_tree.proofs.step.stopped.Goals as goal

pub returns-in-Some : goal.returns-in-Some
returns-in-Some c =
    subst (λ (x : Path). IfOk c.enter_after.result (λ p. path_meaning p ≡ x))
    (stops-opened c.args.options.now c.args.count c.args.path.frames.items (spot_meaning c.args.path.spot)
    (rest_meaning c.args.rest.now) (taken_meaning c.in-Some.taken) c.requires
    (sym c.opens.ensures ∙ ap taken_option c.in-Some.is)) c.enter_after.ensures

pub returns-then-branch : goal.returns-then-branch
returns-then-branch c =
    subst (λ (x : Path). IfOk c.stay_open.result (λ p. path_meaning p ≡ x))
    (stops-lazy c.args.options.now c.args.count c.args.path.frames.items (spot_meaning c.args.path.spot)
    (rest_meaning c.args.rest.now) c.requires
    (sym c.opens.ensures ∙ ap taken_option c.in_default.is)
    (sym c.if-branch.true ∙ c.in_ok-takes_lazy.ensures)) c.stay_open.ensures

pub returns-else-branch : goal.returns-else-branch
returns-else-branch c =
    subst (λ (x : Path). IfOk c.fresh_after.result (λ p. path_meaning p ≡ x))
    (stops-fresh c.args.options.now c.args.count c.args.path.frames.items (spot_meaning c.args.path.spot)
    (rest_meaning c.args.rest.now) c.requires
    (sym c.opens.ensures ∙ ap taken_option c.in_default.is)
    (sym c.if-branch.false ∙ c.in_ok-takes_lazy.ensures)) c.fresh_after.ensures
