use Rattle.std.proofs.Common.{◌≡◌, length}
use Rattle.markdown_inlines.proofs.OwnLemmas.{short}
use Rattle.markdown_inlines.proofs.labels.is_short.Given as goal

abbrev pub invariant-loop-byte : goal.invariant-loop-byte
invariant-loop-byte l = short l.left l.rest ≡ short 999 l.fn.text

abbrev pub decreases-loop-byte : goal.decreases-loop-byte
decreases-loop-byte l = length l.rest
