use Rattle.std.proofs.Common.{refl, arith}
use Rattle.md_meaning.specs.Table.{row_cells}
use Rattle.reference_tree.proofs.PieceLemmas.{PushesCell, last_cell, next_cell}
use Rattle.reference_tree.proofs.table.row_cells.Goals as goal

pub pieces-init : goal.pieces-init
unfolding row_cells
pieces-init c = rw (c.new-cells.ensures.items, c.after_optional-rest.ensures, c.trim.ensures) refl

pub returns-then-following-le1 : goal.returns-then-following-le1
returns-then-following-le1 c =
    let pushes : PushesCell c.pieces.cells.items c.push.new.items.items c.pieces.rest.now c.split_at.result.1.now =
    record {
      cell = c.trim-in-pieces.result;
      pushed = c.in_ok-push.ensures;
      text = cc;
      following_is = cc;
    } in
    last_cell pushes (omega arith) _ c.pieces.invariant

pub pieces-preserved : goal.pieces-preserved
pieces-preserved c =
    let pushes : PushesCell c.pieces.cells.items c.push.new.items.items c.pieces.rest.now c.split_at.result.1.now =
    record {
      cell = c.trim-in-pieces.result;
      pushed = c.in_ok-push.ensures;
      text = cc;
      following_is = cc;
    } in
    rw c.split_at-in-pieces.ensures.back (next_cell pushes (omega arith) _ c.pieces.invariant)
