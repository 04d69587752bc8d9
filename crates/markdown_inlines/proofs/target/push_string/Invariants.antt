use Rattle.std.proofs.Common.{length}
use Rattle.markdown_inlines.proofs.LeadingLemmas.{ToRead}
use Rattle.markdown_inlines.proofs.target.push_string.Given as goal

abbrev pub invariant-loop-byte : goal.invariant-loop-byte
invariant-loop-byte l = ToRead l.options l.at l.initial.spans.items l.fn.text l.here l.spans.items l.rest

abbrev pub decreases-loop-byte : goal.decreases-loop-byte
decreases-loop-byte l = length l.rest
