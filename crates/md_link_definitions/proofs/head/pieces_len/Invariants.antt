use Rattle.std.proofs.Common.{◌≡◌, ◌≤◌, ◌+◌, false, length}
use Rattle.md_link_definitions.specs.Head.{pieces_len}
use Rattle.md_link_definitions.proofs.head.pieces_len.Given as goal

abbrev pub invariant-loop-rest : goal.invariant-loop-rest
invariant-loop-rest l =
    (l.count + pieces_len l.escaped l.rest ≡ pieces_len false l.fn.row) ×
    (l.count + length l.rest ≤ length l.fn.row)

abbrev pub decreases-loop-rest : goal.decreases-loop-rest
decreases-loop-rest l = length l.rest
