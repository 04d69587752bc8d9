use Rattle.std.proofs.Common.{◌≡◌, ◌++◌}
use Rattle.markdown_inlines.specs.Spans.{holes}
use Rattle.markdown_inlines.proofs.span.push_places.Given as goal

abbrev pub invariant-loop-left : goal.invariant-loop-left
invariant-loop-left l = l.spans.items ++ holes l.left ≡ l.fn.spans.items ++ holes l.fn.count

abbrev pub decreases-loop-left : goal.decreases-loop-left
decreases-loop-left l = l.left

abbrev pub invariant-loop-left-2 : goal.invariant-loop-left-2
invariant-loop-left-2 l = l.spans.items ++ holes l.left ≡ l.fn.spans.items ++ holes l.fn.count

abbrev pub decreases-loop-left-2 : goal.decreases-loop-left-2
decreases-loop-left-2 l = l.left
