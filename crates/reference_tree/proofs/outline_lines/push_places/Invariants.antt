use Rattle.std.proofs.Common.{◌≡◌, ◌++◌, drop}
use Rattle.md_meaning.specs.Outline.{entries_of}
use Rattle.reference_tree.specs.Outlined.{own_lines}
use Rattle.reference_tree.specs.Placed.{places}
use Rattle.reference_tree.proofs.outline_lines.push_places.Given as goal

abbrev pub invariant-loop-place : goal.invariant-loop-place
invariant-loop-place l =
    entries_of l.outline.items ++ own_lines (places (drop l.place-index l.found)) ≡
    entries_of l.fn.outline.items ++ own_lines (places l.found)
