use Rattle.std.proofs.Common.{◌≡◌, ◌++◌, length}
use Rattle.markdown_blocks.specs.PartPlaces.{chunks_in}
use Rattle.markdown_blocks.proofs.definitions.list_part.Given as goal

abbrev pub invariant-loop-left : goal.invariant-loop-left
invariant-loop-left l = l.chunks.items ++ chunks_in l.left ≡ chunks_in l.fn.following

abbrev pub decreases-loop-left : goal.decreases-loop-left
decreases-loop-left l = length l.left
