use Rattle.std.proofs.Common.{◌≡◌, ◌≤◌, ◌-◌, ◌++◌, drop, length}
use Rattle.md_events.specs.Substituted.{chunks_after, chunks_from}
use Rattle.md_events.specs.TextPart.{wants_text}
use Rattle.markdown_blocks.proofs.text_parts.list_chunks.Given as goal

abbrev pub invariant-loop-at : goal.invariant-loop-at
invariant-loop-at l = record {
  within : l.at ≤ length l.events;
  chunks : l.chunks.items ++ chunks_after wants_text (drop l.at l.events) ≡ chunks_from wants_text l.events;
}

abbrev pub decreases-loop-at : goal.decreases-loop-at
decreases-loop-at l = length l.events - l.at
