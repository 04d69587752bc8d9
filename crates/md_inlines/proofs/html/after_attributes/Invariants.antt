use Rattle.std.proofs.Common.{◌≡◌, length}
use Rattle.md_inlines.specs.RawHtml.{after_attributes}
use Rattle.md_inlines.proofs.html.after_attributes.Given as goal

abbrev pub invariant-loop-more : goal.invariant-loop-more
invariant-loop-more l = after_attributes l.rest ≡ after_attributes l.fn.text

abbrev pub decreases-loop-more : goal.decreases-loop-more
decreases-loop-more l = length l.rest
