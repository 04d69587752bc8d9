use Rattle.std.proofs.Common.{◌≡◌, length, take, drop}
use Rattle.md_meaning.specs.State.{At, closed}
use Rattle.md_meaning.specs.Step.{spot_of}
use Rattle.reference_tree.specs.Held.{blocks_meaning}
use Rattle.reference_tree.specs.States.{spot_meaning, within}
use Rattle.reference_tree.proofs.close.close_to.Given as goal

abbrev pub invariant-loop-frames : goal.invariant-loop-frames
invariant-loop-frames l = record {
  outer : take l.count l.frames.items ≡ take l.count l.fn.path.frames.items;
  blocks : closed l.options (within (drop l.count l.frames.items) (At (spot_of (blocks_meaning l.here))))
      ≡ closed l.options (within (drop l.count l.fn.path.frames.items) (At (spot_meaning l.fn.path.spot)));
}

abbrev pub decreases-loop-frames : goal.decreases-loop-frames
decreases-loop-frames l = length l.frames.items
