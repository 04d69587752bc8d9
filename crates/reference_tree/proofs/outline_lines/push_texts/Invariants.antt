use Rattle.std.proofs.Common.{◌≡◌, ◌++◌, drop}
use Rattle.md_meaning.specs.Outline.{entries}
use Rattle.reference_tree.specs.Trees.{slices}
use Rattle.md_meaning.specs.Outline.{entries_of}
use Rattle.reference_tree.proofs.outline_lines.push_texts.Given as goal

abbrev pub invariant-loop-text : goal.invariant-loop-text
invariant-loop-text l =
    entries_of l.outline.items ++ entries l.depth l.word (slices (drop l.text-index l.texts)) ≡
    entries_of l.fn.outline.items ++ entries l.depth l.word (slices l.texts)
