use Rattle.std.proofs.Common.{◌≡◌, false, length}
use Rattle.markdown_inlines.specs.Own.{is_whole}
use Rattle.markdown_inlines.proofs.labels.is_whole.Given as goal

abbrev pub invariant-loop-byte : goal.invariant-loop-byte
invariant-loop-byte l = is_whole l.escaped l.rest ≡ is_whole false l.fn.text

abbrev pub decreases-loop-byte : goal.decreases-loop-byte
decreases-loop-byte l = length l.rest
