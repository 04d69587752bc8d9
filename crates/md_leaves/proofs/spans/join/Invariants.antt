use Rattle.std.proofs.Common.{◌≡◌, ◌++◌, false, length}
use Rattle.md_leaves.specs.Spanned.{spanned, spanned_from}
use Rattle.md_leaves.specs.SpannedWalk.{given_of, rest_of}
use Rattle.md_leaves.specs.Turned.{HoldNoUnderline}
use Rattle.md_leaves.proofs.spans.join.Given as goal

abbrev pub invariant-loop-event : goal.invariant-loop-event
invariant-loop-event l = record {
  whole : given_of l.walk ++ spanned_from l.walk.place (rest_of l.walk) ≡ spanned l.fn.events.items;
  plain : l.walk.underlines ≡ false → HoldNoUnderline (given_of l.walk);
}

abbrev pub decreases-loop-event : goal.decreases-loop-event
decreases-loop-event l = length (rest_of l.walk)
