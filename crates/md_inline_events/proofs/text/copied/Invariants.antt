use Rattle.std.proofs.Common.{◌≡◌, ◌++◌, length}
use Rattle.std.specs.List.{All}
use Rattle.md_inline_events.specs.Room.{IsStretch}
use Rattle.md_inline_events.specs.Woven.{read_chunks}
use Rattle.md_inline_events.proofs.text.copied.Given as goal

abbrev pub invariant-loop-chunk : goal.invariant-loop-chunk
invariant-loop-chunk l = record {
  text :
      l.text.items ++ read_chunks l.bytes l.starts l.leaves_out l.rest ≡
      read_chunks l.bytes l.leaves_out l.leaves_out l.chunks;
  each : All (IsStretch l.bytes) l.rest;
}

abbrev pub decreases-loop-chunk : goal.decreases-loop-chunk
decreases-loop-chunk l = length l.rest
