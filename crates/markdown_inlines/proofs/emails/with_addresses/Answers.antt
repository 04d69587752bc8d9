use Rattle.std.proofs.Common.{arith, rules}
use Rattle.markdown_inlines.proofs.AddedLemmas.{addressed-end}
use Rattle.markdown_inlines.proofs.SignLemmas.{unsearched-end}
use Rattle.markdown_inlines.proofs.emails.with_addresses.Goals as goal

pub returns : goal.returns
returns c =
    λ forest names readable again sized is.
    addressed-end c.args.text.now c.args.start c.loop-token.hidden c.loop-token.at c.args.tokens.items
    c.loop-token.rest.now c.loop-token.joined c.push_text.new.joined.tokens.items forest
    (omega (arith, c.in_default.ensures.cases)) c.in_ok-push_text.ensures.tokens c.loop-token.invariant names readable
    sized is

pub returns-then-not-is_searched : goal.returns-then-not-is_searched
returns-then-not-is_searched c =
    λ forest names readable again sized is.
    unsearched-end c.args.text.now c.args.start c.args.tokens.items forest (search rules) names readable again sized is
