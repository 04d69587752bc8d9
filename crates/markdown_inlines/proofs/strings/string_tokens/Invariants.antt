use Rattle.std.proofs.Common.{length}
use Rattle.markdown_inlines.proofs.StringTokens.{Listed}
use Rattle.markdown_inlines.proofs.strings.string_tokens.Given as goal

abbrev pub invariant-loop-byte : goal.invariant-loop-byte
invariant-loop-byte l = Listed l.options l.fn.text l.made.items l.plain l.rest

abbrev pub decreases-loop-byte : goal.decreases-loop-byte
decreases-loop-byte l = length l.rest
