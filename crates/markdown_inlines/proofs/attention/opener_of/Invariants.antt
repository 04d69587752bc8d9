use Rattle.std.proofs.Common.{◌≡◌, ◌≤◌}
use Rattle.markdown_inlines.specs.Matching.{opener_from, stack}
use Rattle.markdown_inlines.proofs.attention.opener_of.Given as goal

abbrev pub invariant-loop-at : goal.invariant-loop-at
invariant-loop-at l = record {
  within : l.at ≤ l.height;
  same : opener_from l.single l.bound l.closer (stack l.runs l.at) ≡
      opener_from l.single l.bound l.closer (stack l.runs l.height);
}

abbrev pub decreases-loop-at : goal.decreases-loop-at
decreases-loop-at l = l.at
