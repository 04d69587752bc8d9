use Rattle.std.proofs.Common.{◌≡◌, length}
use Rattle.markdown_inlines.specs.Added.{all_tokens}
use Rattle.markdown_inlines.specs.Addressed.{joined_after, searched}
use Rattle.markdown_inlines.proofs.emails.with_addresses.Given as goal

abbrev pub invariant-loop-token : goal.invariant-loop-token
invariant-loop-token l =
    all_tokens l.joined (searched l.text l.hidden l.at l.rest) ≡
    joined_after 0 (searched l.text 0 l.fn.start l.fn.tokens.items)

abbrev pub decreases-loop-token : goal.decreases-loop-token
decreases-loop-token l = length l.rest
