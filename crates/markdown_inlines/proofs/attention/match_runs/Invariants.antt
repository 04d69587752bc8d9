use Rattle.std.proofs.Common.{drop}
use Rattle.markdown_inlines.specs.Matching.{stack}
use Rattle.markdown_inlines.proofs.LoopLemmas.{Turn, all_matched, weight}
use Rattle.markdown_inlines.proofs.attention.match_runs.Given as goal

abbrev pub invariant-loop-at : goal.invariant-loop-at
invariant-loop-at l =
    Turn l.single (all_matched l.single l.fn.runs l.fn.spans) l.runs l.height l.at l.bounds l.spans

abbrev pub decreases-loop-at : goal.decreases-loop-at
decreases-loop-at l = weight (stack l.runs l.height) (drop l.at l.runs)
