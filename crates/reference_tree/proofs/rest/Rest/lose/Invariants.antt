use Rattle.std.proofs.Common.{◌≡◌, ◌-◌}
use Rattle.md_meaning.specs.Rest as r
use Rattle.reference_tree.specs.Rests.{rest_meaning}
use Rattle.reference_tree.proofs.rest.Rest.lose.Given as goal

abbrev pub invariant-loop-step : goal.invariant-loop-step
invariant-loop-step l = r.lose l.columns (rest_meaning l.self) ≡ r.lose (l.columns - l.step) (rest_meaning l.rest)
