use Rattle.std.proofs.Common.{◌≡◌}
use Rattle.md_meaning.specs.State as state
use Rattle.reference_tree.specs.Held.{blocks_meaning}
use Rattle.reference_tree.specs.Paragraphs.{definitions_of}
use Rattle.reference_tree.proofs.paragraph.push_definitions.Given as goal

abbrev pub invariant-loop-defined : goal.invariant-loop-defined
invariant-loop-defined l =
    blocks_meaning l.blocks ≡ state.then_definitions (blocks_meaning l.initial.blocks) (definitions_of l.yielded)
