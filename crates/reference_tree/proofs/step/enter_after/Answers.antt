use Rattle.std.proofs.Common.{◌≡◌, take, IfOk, ◌∙◌, ap, subst}
use Rattle.md_meaning.specs.State.{Path}
use Rattle.md_meaning.specs.Step.{entered}
use Rattle.reference_tree.specs.Held.{blocks_meaning}
use Rattle.reference_tree.specs.States.{taken_meaning, path_meaning, within}
use Rattle.reference_tree.proofs.step.enter_after.Goals as goal

pub returns : goal.returns
returns c =
    let options = c.args.options.now in
    let taken = taken_meaning c.args.taken in
    subst (λ (x : Path). IfOk c.enter.result (λ p. path_meaning p ≡ x))
    (ap (λ fs. within fs (entered options (blocks_meaning c.in_ok-frames.here) taken)) c.in_ok-frames.ensures.outer
    ∙ ap (λ bs. within (take c.args.count c.args.path.frames.items) (entered options bs taken))
    c.in_ok-frames.ensures.blocks) c.enter.ensures
