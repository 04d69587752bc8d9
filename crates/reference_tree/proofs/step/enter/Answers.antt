use Rattle.std.proofs.Common.{length, ◌∙◌, ap}
use Rattle.md_meaning.specs.Step.{fresh_line}
use Rattle.reference_tree.specs.Trees.{meanings}
use Rattle.reference_tree.specs.Rests.{rest_meaning}
use Rattle.reference_tree.specs.States.{spot_meaning}
use Rattle.reference_tree.proofs.PathLemmas.{entered-path}
use Rattle.reference_tree.proofs.step.enter.Goals as goal

pub returns : goal.returns
returns c =
    entered-path c.args.options.now c.args.frames.items c.push.new.items.items c.in_ok-frames.frames.items
    (record { before = c.args.here; container = c.args.taken.container }) (spot_meaning c.in_ok-spot.spot)
    (rest_meaning c.args.taken.rest) (rest_meaning c.in_ok-frames.rest)
    (length c.args.taken.rest.bytes.now) c.in_ok-push.ensures c.in_ok-frames.ensures
    (c.in_ok-spot.ensures
    ∙ ap (λ xs. fresh_line c.args.options.now (meanings xs) (rest_meaning c.in_ok-frames.rest)) c.new.ensures)
