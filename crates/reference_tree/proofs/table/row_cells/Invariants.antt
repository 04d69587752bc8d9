use Rattle.std.proofs.Common.{◌≡◌, ◌++◌, false, map, length}
use Rattle.md_meaning.specs.Rest.{trim}
use Rattle.md_meaning.specs.Table.{pieces, row_cells}
use Rattle.reference_tree.proofs.table.row_cells.Given as goal

abbrev pub invariant-pieces : goal.invariant-pieces
invariant-pieces l = map (λ cell. cell.now) l.cells.items ++ map trim (pieces false l.rest) ≡ row_cells l.fn.row

abbrev pub decreases-pieces : goal.decreases-pieces
decreases-pieces l = length l.rest
