use Rattle.std.proofs.Common.{List, ap, reverse, ◌++◌, ◌∙◌}
use Rattle.markdown_inlines.specs.Tokens.{tokens_from}
use Rattle.markdown_inlines.specs.declared.span.Span.{Span}
use Rattle.markdown_inlines.proofs.TokensLemmas.{all_read, passed, tokens-read}
use Rattle.markdown_inlines.proofs.tokens.tokens_of.Goals as goal

pub loop-span-preserved : goal.loop-span-preserved
loop-span-preserved c =
    ap (λ (l : List Span). c.loop-span.tokens.items
    ++ tokens_from (reverse c.loop-span.parts.items) c.loop-span.at l c.args.end)
    (passed c.in-Some.span.now c.loop-span.rest.now c.in-Some.following.now c.in-Some.ensures.cases.0 c.if-span.false)
    ∙ c.loop-span.invariant

pub returns : goal.returns
returns c = λ forest r m long shows.
    all_read c.loop-span.tokens.items c.push_ends-2.new.tokens.items c.loop-span.parts.items c.loop-span.at
    c.loop-span.rest.now c.args.end c.in_default.ensures.cases c.in_ok-push_ends-2.ensures.tokens
    ∙ c.loop-span.invariant
    ∙ tokens-read forest c.args.start c.args.end c.args.spans.now r m long shows
