use Rattle.std.proofs.Common.{◌≡◌, length}
use Rattle.markdown_blocks.specs.PartPlaces.{chunks_in}
use Rattle.markdown_blocks.proofs.place.has_chunks.Given as goal

abbrev pub invariant-loop-left : goal.invariant-loop-left
invariant-loop-left l = chunks_in l.left ≡ l.awaited → chunks_in l.fn.following ≡ l.fn.chunks

abbrev pub decreases-loop-left : goal.decreases-loop-left
decreases-loop-left l = length l.left
