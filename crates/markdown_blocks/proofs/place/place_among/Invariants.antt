use Rattle.std.proofs.Common.{length}
use Rattle.std.specs.Prelude.{option_copied}
use Rattle.markdown_blocks.proofs.PlacedParts.{IsSearched}
use Rattle.markdown_blocks.proofs.place.place_among.Given as goal

abbrev pub invariant-loop-left : goal.invariant-loop-left
invariant-loop-left l = IsSearched l.fn.events (option_copied l.last) l.left

abbrev pub decreases-loop-left : goal.decreases-loop-left
decreases-loop-left l = length l.left
