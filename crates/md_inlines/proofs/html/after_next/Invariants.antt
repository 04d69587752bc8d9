use Rattle.std.proofs.Common.{◌≡◌, length}
use Rattle.md_meaning.specs.Html.{after_next}
use Rattle.md_inlines.proofs.html.after_next.Given as goal

abbrev pub invariant-loop-rest : goal.invariant-loop-rest
invariant-loop-rest l = after_next l.byte l.rest ≡ after_next l.byte l.fn.text

abbrev pub decreases-loop-rest : goal.decreases-loop-rest
decreases-loop-rest l = length l.rest
