use Rattle.std.proofs.Common.{◌-◌, sym, ◌∙◌, ap}
use Rattle.reference_tree.proofs.RestLemmas.{lose-still, lose-next}
use Rattle.reference_tree.proofs.rest.Rest.lose.Goals as goal

pub loop-step-preserved : goal.loop-step-preserved
loop-step-preserved c = c.loop-step.invariant ∙ lose-next _ _ _ _ c.loop-step-test.true c.without_column-next.ensures

pub returns-then-next-rest : goal.returns-then-next-rest
returns-then-next-rest c =
    sym
    (c.loop-step.invariant
    ∙ lose-still (c.args.columns - c.loop-step.step) _
    (ap (λ x. x.column) (sym c.without_column-next.ensures) ∙ c.if-next-rest.true))
