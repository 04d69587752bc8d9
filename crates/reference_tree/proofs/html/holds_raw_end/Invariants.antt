use Rattle.std.proofs.Common.{◌≡◌, length}
use Rattle.md_meaning.specs.Html.{holds, is_raw_end}
use Rattle.reference_tree.proofs.html.holds_raw_end.Given as goal

abbrev pub invariant-loop-rest : goal.invariant-loop-rest
invariant-loop-rest l = holds is_raw_end l.rest ≡ holds is_raw_end l.fn.line

abbrev pub decreases-loop-rest : goal.decreases-loop-rest
decreases-loop-rest l = length l.rest
