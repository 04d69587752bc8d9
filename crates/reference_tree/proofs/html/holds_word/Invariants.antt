use Rattle.std.proofs.Common.{◌≡◌, length}
use Rattle.md_meaning.specs.Html.{holds_word}
use Rattle.reference_tree.proofs.html.holds_word.Given as goal

abbrev pub invariant-loop-rest : goal.invariant-loop-rest
invariant-loop-rest l = holds_word l.word l.rest ≡ holds_word l.word l.fn.line

abbrev pub decreases-loop-rest : goal.decreases-loop-rest
decreases-loop-rest l = length l.rest
