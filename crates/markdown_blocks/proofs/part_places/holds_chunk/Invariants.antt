use Rattle.std.proofs.Common.{◌≡◌, length}
use Rattle.markdown_blocks.specs.PartPlaces.{holds_chunk}
use Rattle.markdown_blocks.proofs.part_places.holds_chunk.Given as goal

abbrev pub invariant-loop-left : goal.invariant-loop-left
invariant-loop-left l = holds_chunk l.fn.following ≡ holds_chunk l.left

abbrev pub decreases-loop-left : goal.decreases-loop-left
decreases-loop-left l = length l.left
