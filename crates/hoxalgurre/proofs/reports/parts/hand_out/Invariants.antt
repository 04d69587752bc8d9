use Rattle.std.proofs.Common.{length}
use Rattle.markdown_blocks.specs.PartsLeft.{left_in}
use Rattle.hoxalgurre.proofs.reports.parts.hand_out.Given as goal

abbrev pub invariant-loop-parts : goal.invariant-loop-parts
invariant-loop-parts w l = Unit {0}

abbrev pub decreases-loop-parts : goal.decreases-loop-parts
decreases-loop-parts w l = length (left_in l.parts).blocks
