use Rattle.std.proofs.Common.{◌≡◌, length}
use Rattle.markdown_inlines.specs.Addressed.{are_with_sign}
use Rattle.markdown_inlines.proofs.emails.are_with_sign.Given as goal

abbrev pub invariant-loop-token : goal.invariant-loop-token
invariant-loop-token l = are_with_sign l.text l.hidden l.at l.rest ≡ are_with_sign l.text 0 l.fn.start l.fn.tokens

abbrev pub decreases-loop-token : goal.decreases-loop-token
decreases-loop-token l = length l.rest
