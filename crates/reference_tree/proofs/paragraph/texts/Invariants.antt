use Rattle.std.proofs.Common.{◌≡◌, take}
use Rattle.md_meaning.specs.State as state
use Rattle.reference_tree.specs.Trees.{slices}
use Rattle.reference_tree.specs.States.{kept_meanings}
use Rattle.reference_tree.proofs.paragraph.texts.Given as goal

abbrev pub invariant-loop-kept : goal.invariant-loop-kept
invariant-loop-kept l = slices l.texts.items ≡ state.texts (kept_meanings (take l.kept-index l.lines))
