use Rattle.std.proofs.Common.{◌≡◌, nat_le, length, drop, sum_by}
use Rattle.md_scan.specs.Definitions.{texts}
use Rattle.reference_tree.proofs.definition.is_short.Given as goal

abbrev pub invariant-loop-line : goal.invariant-loop-line
invariant-loop-line l =
    nat_le (sum_by length (texts (drop l.line-index l.lines))) l.left ≡ nat_le (sum_by length (texts l.lines)) 999
