use Rattle.std.proofs.Common.{◌≡◌, ◌+◌, ◌*◌, ◌≤◌, length}
use Rattle.md_content.specs.ContentReads.{first_of}
use Rattle.md_content.proofs.WholeLines.{Begun}
use Rattle.md_content.proofs.content.write_paragraph.Given as goal

abbrev pub invariant-loop-chunk : goal.invariant-loop-chunk
invariant-loop-chunk l = record {
  items : Begun (first_of l.chunks) l.chunks l.chunk-index l.events.items;
  len : l.events.len ≡ 2 * l.chunk-index + 1;
  room : 2 * length l.chunks + 2 ≤ l.events.cap;
}
