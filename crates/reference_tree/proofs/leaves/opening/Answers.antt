use Rattle.std.specs.Option.{option_copied}
use Rattle.reference_tree.proofs.LineLemmas.{opening-math}
use Rattle.reference_tree.proofs.leaves.opening.Goals as goal

pub returns-then-marker-eq36 : goal.returns-then-marker-eq36
returns-then-marker-eq36 c =
    opening-math c.args.marker c.args.size c.args.indent c.args.text.now (option_copied c.nonempty.result)
    c.if-marker-eq36.true c.nonempty.ensures
