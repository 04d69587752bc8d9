use Rattle.std.proofs.Common.{◌≡◌, ◌-◌, drop, length}
use Rattle.md_leaves.specs.Spanned.{is_continued}
use Rattle.md_leaves.proofs.spans.is_continued.Given as goal

abbrev pub invariant-loop-at : goal.invariant-loop-at
invariant-loop-at l = is_continued (drop l.at l.events) ≡ is_continued l.events

abbrev pub decreases-loop-at : goal.decreases-loop-at
decreases-loop-at l = length l.events - l.at
