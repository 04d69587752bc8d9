use Rattle.std.proofs.Common.{◌≡◌, ◌≤◌, ◌-◌, ◌++◌, drop, length}
use Rattle.md_events.specs.Substituted.{chunks_after, chunks_from}
use Rattle.md_events.proofs.subtokenize.list_chunks.Given as goal

abbrev pub invariant-loop-at : goal.invariant-loop-at
invariant-loop-at g l = record {
  within : l.at ≤ length l.events;
  chunks : l.chunks.items ++ chunks_after (g.R.Reader.wants l.reader) (drop l.at l.events) ≡
      chunks_from (g.R.Reader.wants l.reader) l.events;
}

abbrev pub decreases-loop-at : goal.decreases-loop-at
decreases-loop-at g l = length l.events - l.at
