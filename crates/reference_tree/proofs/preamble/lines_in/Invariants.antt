use Rattle.std.proofs.Common.{◌≡◌, take}
use Rattle.reference_tree.specs.Trees.{slices}
use Rattle.reference_tree.specs.Fronts as fronts
use Rattle.reference_tree.proofs.preamble.lines_in.Given as goal

abbrev pub invariant-loop-rest : goal.invariant-loop-rest
invariant-loop-rest l = slices l.lines.items ≡ fronts.lines_in (take l.rest-index l.rests)
