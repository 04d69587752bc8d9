use Rattle.std.proofs.Common.{◌≡◌, false, length}
use Rattle.md_inlines.proofs.LiteralLemmas.{late_in}
use Rattle.md_inlines.proofs.address.has_last_underscore.Given as goal

abbrev pub invariant-loop-first : goal.invariant-loop-first
invariant-loop-first l = late_in l.earlier l.now l.rest ≡ late_in false false l.fn.text

abbrev pub decreases-loop-first : goal.decreases-loop-first
decreases-loop-first l = length l.rest
