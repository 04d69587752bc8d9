use Rattle.std.proofs.Common.{◌≡◌, ◌++◌, drop}
use Rattle.md_meaning.specs.Outline.{line_entries}
use Rattle.reference_tree.specs.Trees.{line_meanings}
use Rattle.md_meaning.specs.Outline.{entries_of}
use Rattle.reference_tree.proofs.outline_lines.push_lines.Given as goal

abbrev pub invariant-loop-line : goal.invariant-loop-line
invariant-loop-line l =
    entries_of l.outline.items ++ line_entries l.depth (line_meanings (drop l.line-index l.lines)) ≡
    entries_of l.fn.outline.items ++ line_entries l.depth (line_meanings l.lines)
