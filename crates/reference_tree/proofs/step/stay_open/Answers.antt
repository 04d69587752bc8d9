use Rattle.std.proofs.Common.{ap}
use Rattle.md_meaning.specs.State.{At}
use Rattle.reference_tree.specs.States.{within}
use Rattle.reference_tree.proofs.step.stay_open.Goals as goal

pub returns : goal.returns
returns c = ap (λ y. within c.args.path.frames.items (At y)) c.in_ok-spot.ensures
