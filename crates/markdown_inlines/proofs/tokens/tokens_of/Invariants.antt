use Rattle.std.proofs.Common.{◌≡◌, ◌++◌, [], length, reverse}
use Rattle.markdown_inlines.specs.Spans.{live}
use Rattle.markdown_inlines.specs.Tokens.{tokens_from}
use Rattle.markdown_inlines.proofs.tokens.tokens_of.Given as goal

abbrev pub invariant-loop-span : goal.invariant-loop-span
invariant-loop-span l =
    l.tokens.items ++ tokens_from (reverse l.parts.items) l.at (live l.rest) l.end ≡
    tokens_from [] l.start (live l.spans) l.end

abbrev pub decreases-loop-span : goal.decreases-loop-span
decreases-loop-span l = length l.rest
