use Rattle.std.proofs.Common.{◌≡◌, length, take, drop}
use Rattle.md_meaning.specs.State.{At}
use Rattle.md_meaning.specs.Step as definition
use Rattle.reference_tree.specs.Rests.{rest_meaning}
use Rattle.reference_tree.specs.States.{spot_meaning, path_meaning, within}
use Rattle.reference_tree.proofs.step.step.Given as goal

abbrev pub invariant-loop-index : goal.invariant-loop-index
invariant-loop-index l = record {
  count : length l.path.frames.items ≡ length l.initial.path.frames.items;
  path : definition.step l.options (path_meaning l.fn.path) (rest_meaning l.fn.rest)
      ≡ within (take l.index l.path.frames.items)
      (definition.step l.options (within (drop l.index l.path.frames.items) (At (spot_meaning l.path.spot)))
      (rest_meaning l.rest));
}
