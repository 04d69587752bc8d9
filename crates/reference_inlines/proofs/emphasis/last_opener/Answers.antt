use Rattle.std.proofs.Common.{ap, sym, ◌∙◌}
use Rattle.reference_inlines.specs.Rounds.{last_opener}
use Rattle.reference_inlines.proofs.RoundLemmas.{last_before, last_here}
use Rattle.reference_inlines.proofs.emphasis.last_opener.Goals as goal

pub returns-in-Some-opens_for : goal.returns-in-Some-opens_for
returns-in-Some-opens_for c =
    sym
    (last_here c.args.single c.args.closer c.in-Some.before.now c.in-Some.node.now c.in-Some-opens_for.run'
    (sym c.in-Some-opens_for.ensures))
    ∙ ap (last_opener c.args.single c.args.closer) (sym c.in-Some.ensures.cases.0) ∙ c.loop-node.invariant

pub loop-node-preserved : goal.loop-node-preserved
loop-node-preserved c =
    sym
    (last_before c.args.single c.args.closer c.in-Some.before.now c.in-Some.node.now
    (sym c.in_default-opens_for.ensures))
    ∙ ap (last_opener c.args.single c.args.closer) (sym c.in-Some.ensures.cases.0) ∙ c.loop-node.invariant
