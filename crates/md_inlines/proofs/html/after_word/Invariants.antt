use Rattle.std.proofs.Common.{◌≡◌, length}
use Rattle.md_inlines.specs.RawHtml.{after_word}
use Rattle.md_inlines.proofs.html.after_word.Given as goal

abbrev pub invariant-loop-rest : goal.invariant-loop-rest
invariant-loop-rest l = after_word l.word l.rest ≡ after_word l.word l.fn.text

abbrev pub decreases-loop-rest : goal.decreases-loop-rest
decreases-loop-rest l = length l.rest
