use Rattle.std.proofs.Common.{◌≡◌, ◌≤◌, length, take}
use Rattle.md_events.specs.TextPart.{last_of_block}
use Rattle.markdown_blocks.proofs.part_places.last_of_block.Given as goal

abbrev pub invariant-loop-at : goal.invariant-loop-at
invariant-loop-at l = record {
  within : l.at ≤ length l.events;
  same : last_of_block (take l.at l.events) ≡ last_of_block l.events;
}

abbrev pub decreases-loop-at : goal.decreases-loop-at
decreases-loop-at l = l.at
