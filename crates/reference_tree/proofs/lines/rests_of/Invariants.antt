use Rattle.std.proofs.Common.{◌≡◌, ◌≤◌, ◌+◌, ◌*◌, ◌^◌, ◌++◌, length}
use Rattle.md_meaning.specs.Lines.{lines_of}
use Rattle.md_meaning.specs.Preamble.{rests_at}
use Rattle.reference_tree.specs.Rests.{rest_meanings}
use Rattle.reference_tree.proofs.lines.rests_of.Given as goal

abbrev pub invariant-loop-left : goal.invariant-loop-left
invariant-loop-left l = record {
  value : rests_at l.column (lines_of l.text) ≡ rest_meanings l.rests.items ++ rests_at l.begins (lines_of l.left);
  room : l.begins + 4 * length l.left ≤ 2 ^ 63;
}

abbrev pub decreases-loop-left : goal.decreases-loop-left
decreases-loop-left l = length l.left
