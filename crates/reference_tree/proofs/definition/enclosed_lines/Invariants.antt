use Rattle.std.proofs.Common.{◌≡◌, ◌-◌, ◌∷◌, length, drop}
use Rattle.md_meaning.specs.Enclosed.{enclosed_lines}
use Rattle.md_scan.specs.Definitions.{texts}
use Rattle.reference_tree.proofs.DefinitionLemmas.{with_lines}
use Rattle.reference_tree.proofs.definition.enclosed_lines.Given as goal

abbrev pub invariant-lines : goal.invariant-lines
invariant-lines l =
    with_lines (texts l.text.items) (enclosed_lines l.opener l.closer (l.rest ∷ texts (drop l.next l.lines))) ≡
    enclosed_lines l.opener l.closer (l.initial.rest ∷ texts (drop l.initial.next l.lines))

abbrev pub decreases-lines : goal.decreases-lines
decreases-lines l = length l.lines - l.next
