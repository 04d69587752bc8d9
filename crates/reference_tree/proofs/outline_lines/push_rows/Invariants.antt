use Rattle.std.proofs.Common.{◌≡◌, ◌++◌, map, drop}
use Rattle.md_meaning.specs.Outline.{rows_entries}
use Rattle.reference_tree.specs.Trees.{slices}
use Rattle.md_meaning.specs.Outline.{entries_of}
use Rattle.reference_tree.proofs.outline_lines.push_rows.Given as goal

abbrev pub invariant-loop-row : goal.invariant-loop-row
invariant-loop-row l =
    entries_of l.outline.items ++ rows_entries l.depth (map (λ row. slices row.items) (drop l.row-index l.rows))
    ≡ entries_of l.fn.outline.items ++ rows_entries l.depth (map (λ row. slices row.items) l.rows)
