use Rattle.std.proofs.Common.{◌≡◌, drop}
use Rattle.md_meaning.specs.Label.{both}
use Rattle.reference_tree.specs.Labels.{labels_at, labels_meaning}
use Rattle.reference_tree.specs.Placed.{places}
use Rattle.reference_tree.proofs.labels.push_places.Given as goal

abbrev pub invariant-loop-place : goal.invariant-loop-place
invariant-loop-place l =
    both (labels_meaning l.labels) (labels_at (places (drop l.place-index l.found))) ≡
    both (labels_meaning l.fn.labels) (labels_at (places l.found))
