use Rattle.std.proofs.Common.{◌≡◌, length}
use Rattle.plain_inlines.specs.Given.{left}
use Rattle.plain_inlines.proofs.given.left.Given as goal

abbrev pub invariant-loop-first : goal.invariant-loop-first
invariant-loop-first l = left l.rest ≡ left l.input

abbrev pub decreases-loop-first : goal.decreases-loop-first
decreases-loop-first l = length l.rest
