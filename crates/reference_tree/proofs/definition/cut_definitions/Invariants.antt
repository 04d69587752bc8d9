use Rattle.std.proofs.Common.{◌≡◌, ◌-◌, ◌++◌, map, length, drop}
use Rattle.md_meaning.specs.Definition.{cut_definitions}
use Rattle.md_scan.specs.Definitions.{texts}
use Rattle.reference_tree.specs.Definitions.{defined_meaning}
use Rattle.reference_tree.proofs.DefinitionLemmas.{with_definitions}
use Rattle.reference_tree.proofs.definition.cut_definitions.Given as goal

abbrev pub invariant-loop-definitions : goal.invariant-loop-definitions
invariant-loop-definitions l =
    with_definitions (map defined_meaning l.definitions.items) (cut_definitions (texts (drop l.next l.lines))) ≡
    cut_definitions (texts l.fn.lines)

abbrev pub decreases-loop-definitions : goal.decreases-loop-definitions
decreases-loop-definitions l = length l.lines - l.next

abbrev pub invariant-loop-next : goal.invariant-loop-next
invariant-loop-next l =
    (map defined_meaning l.definitions.items, texts l.remaining.items ++ texts (drop l.next l.lines)) ≡
    cut_definitions (texts l.fn.lines)

abbrev pub decreases-loop-next : goal.decreases-loop-next
decreases-loop-next l = length l.lines - l.next
