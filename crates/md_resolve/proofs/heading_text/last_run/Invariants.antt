use Rattle.std.proofs.Common.{◌≡◌, ◌≤◌, drop, false, length}
use Rattle.std.specs.List.{All}
use Rattle.md_leaves.specs.HeadingText.{ends, is_run}
use Rattle.md_resolve.proofs.heading_text.last_run.Given as goal

abbrev pub invariant-loop-at : goal.invariant-loop-at
invariant-loop-at l = record {
  within : l.at ≤ length l.events;
  following : All (λ e. ends is_run e ≡ false) (drop l.at l.events);
}

abbrev pub decreases-loop-at : goal.decreases-loop-at
decreases-loop-at l = l.at
