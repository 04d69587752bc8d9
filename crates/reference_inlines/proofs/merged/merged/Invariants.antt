use Rattle.std.proofs.Common.{◌≡◌, [], length}
use Rattle.std.specs.Prelude.{reverse}
use Rattle.reference_inlines.specs.Merged.{merged_onto}
use Rattle.reference_inlines.proofs.merged.merged.Given as goal

abbrev pub invariant-loop-node : goal.invariant-loop-node
invariant-loop-node l = merged_onto l.rest (reverse l.made.items) ≡ merged_onto l.fn.nodes []

abbrev pub decreases-loop-node : goal.decreases-loop-node
decreases-loop-node l = length l.rest
