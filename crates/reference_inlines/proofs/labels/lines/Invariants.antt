use Rattle.std.proofs.Common.{◌≡◌, ◌≤◌, ◌+◌, ◌-◌, ◌++◌, length, drop}
use Rattle.md_scan.specs.Definitions.{texts}
use Rattle.md_inlines.specs.Target as target
use Rattle.reference_inlines.proofs.LineLemmas.{first_len}
use Rattle.reference_inlines.proofs.labels.lines.Given as goal

abbrev pub invariant-loop-end : goal.invariant-loop-end
invariant-loop-end l =
    (texts l.made.items ++ target.lines (drop l.start l.text) ≡ target.lines l.text)
    × (l.end ≡ l.start + first_len (drop l.start l.text)) × (l.start ≤ length l.text)

abbrev pub decreases-loop-end : goal.decreases-loop-end
decreases-loop-end l = length l.text - l.start
