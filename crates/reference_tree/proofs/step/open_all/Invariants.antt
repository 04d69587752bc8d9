use Rattle.std.proofs.Common.{◌≡◌, ◌-◌, length}
use Rattle.md_meaning.specs.Step.{opened}
use Rattle.reference_tree.specs.Rests.{rest_meaning}
use Rattle.reference_tree.specs.States.{within}
use Rattle.reference_tree.proofs.step.open_all.Given as goal

abbrev pub invariant-loop-count : goal.invariant-loop-count
invariant-loop-count l =
    within l.frames.items (opened l.options (length l.rest.bytes.now - l.count) (rest_meaning l.left))
    ≡ within l.fn.frames.items (opened l.options (length l.rest.bytes.now) (rest_meaning l.rest))
