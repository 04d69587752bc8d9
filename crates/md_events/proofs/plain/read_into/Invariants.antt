use Rattle.std.proofs.Common.{◌+◌, ◌-◌, ◌*◌, ◌≤◌, length, vec_capacity, vec_len}
use Rattle.md_events.proofs.PlainSteps.{ReadChunks}
use Rattle.md_events.proofs.plain.read_into.Given as goal

abbrev pub invariant-loop-chunk : goal.invariant-loop-chunk
invariant-loop-chunk l = record {
  room : vec_len l.events + (length l.chunks - l.chunk-index) * 4 ≤ vec_capacity l.events;
  events : ReadChunks l.state.bytes.now l.chunks l.chunk-index l.events.items;
}
