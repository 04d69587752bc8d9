use Rattle.std.proofs.Common.{◌≡◌, ◌≤◌, ◌+◌, ◌-◌, false, length}
use Rattle.reference_tree.specs.Pieces.{piece_len}
use Rattle.reference_tree.proofs.table.piece_len.Given as goal

abbrev pub invariant-loop-rest : goal.invariant-loop-rest
invariant-loop-rest l =
    (length l.row - length l.rest + piece_len l.escaped l.rest ≡ piece_len false l.fn.row) ×
    (length l.rest ≤ length l.row)

abbrev pub decreases-loop-rest : goal.decreases-loop-rest
decreases-loop-rest l = length l.rest
