use Rattle.std.proofs.Common.{length}
use Rattle.md_scan.proofs.DefinitionLemmas.{TextIn}
use Rattle.md_scan.proofs.definition.up_to_mark.Given as goal

abbrev pub invariant-loop-first : goal.invariant-loop-first
invariant-loop-first l = TextIn l.opener l.closer l.escaped l.rest l.line

abbrev pub decreases-loop-first : goal.decreases-loop-first
decreases-loop-first l = length l.rest
