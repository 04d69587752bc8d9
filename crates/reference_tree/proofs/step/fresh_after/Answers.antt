use Rattle.std.proofs.Common.{take, ◌∙◌, ap}
use Rattle.md_meaning.specs.State.{At}
use Rattle.md_meaning.specs.Step.{fresh_line}
use Rattle.reference_tree.specs.Rests.{rest_meaning}
use Rattle.reference_tree.specs.States.{spot_meaning, within}
use Rattle.reference_tree.proofs.step.fresh_after.Goals as goal

pub returns : goal.returns
returns c =
    ap (λ fs. within fs (At (spot_meaning c.in_ok-spot.spot))) c.in_ok-frames.ensures.outer
    ∙ ap (λ y. within (take c.args.count c.args.path.frames.items) (At y))
    (c.in_ok-spot.ensures
    ∙ ap (λ bs. fresh_line c.args.options.now bs (rest_meaning c.args.rest.now)) c.in_ok-frames.ensures.blocks)
