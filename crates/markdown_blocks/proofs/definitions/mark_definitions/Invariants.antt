use Rattle.std.proofs.Common.{◌≡◌, ◌≤◌, ◌+◌, ◌-◌, ◌++◌, drop, length}
use Rattle.markdown_blocks.specs.Definitions.{marked}
use Rattle.markdown_blocks.proofs.definitions.mark_definitions.Given as goal

abbrev pub invariant-loop-at : goal.invariant-loop-at
invariant-loop-at l = record {
  within : l.at ≤ length l.fn.events;
  marks : l.marks.items ++ marked (l.fn.before + l.at) (drop l.at l.fn.events)
      ≡ l.fn.marks.items ++ marked l.fn.before l.fn.events;
}

abbrev pub decreases-loop-at : goal.decreases-loop-at
decreases-loop-at l = length l.fn.events - l.at
