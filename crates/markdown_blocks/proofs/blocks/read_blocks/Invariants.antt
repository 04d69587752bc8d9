use Rattle.std.proofs.Common.{◌≡◌, true}
use Rattle.markdown_blocks.specs.Definitions.{marked}
use Rattle.markdown_blocks.proofs.AllBlocks.{IsBefore, bytes_left}
use Rattle.markdown_blocks.proofs.blocks.read_blocks.Given as goal

abbrev pub invariant-loop-next : goal.invariant-loop-next
invariant-loop-next l = record {
  blocks : IsBefore l.options l.text l.all l.next;
  marks : l.wants_marks ≡ true → l.marks.items ≡ marked 0 l.all.events.items;
}

abbrev pub decreases-loop-next : goal.decreases-loop-next
decreases-loop-next l = bytes_left l.text l.next
