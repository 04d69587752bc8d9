use Rattle.std.proofs.Common.{◌≡◌, ◌+◌, ◌≤◌, false, length}
use Rattle.md_meaning.specs.Definition.{balanced}
use Rattle.md_scan.proofs.definition.is_balanced.Given as goal

abbrev pub invariant-loop-first : goal.invariant-loop-first
invariant-loop-first l =
    (balanced l.depth l.escaped l.rest ≡ balanced 0 false l.fn.text) × (l.depth + length l.rest ≤ length l.fn.text)

abbrev pub decreases-loop-first : goal.decreases-loop-first
decreases-loop-first l = length l.rest
