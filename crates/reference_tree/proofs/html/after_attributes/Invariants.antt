use Rattle.std.proofs.Common.{◌≡◌, length}
use Rattle.md_meaning.specs.Html.{after_attributes}
use Rattle.reference_tree.proofs.html.after_attributes.Given as goal

abbrev pub invariant-loop-more : goal.invariant-loop-more
invariant-loop-more l = after_attributes (length l.left) l.left ≡ after_attributes (length l.fn.rest) l.fn.rest

abbrev pub decreases-loop-more : goal.decreases-loop-more
decreases-loop-more l = length l.left
