use Rattle.std.proofs.Common.{◌++◌, List, ap, ◌∙◌, arith, rules}
use Rattle.md_inline_events.specs.Tokens.{live}
use Rattle.md_inline_events.specs.declared.token.Token.{Token}
use Rattle.markdown_inlines.proofs.StringTokens.{live-pushed, reference-len, reference-tokens, reference_tokens}
use Rattle.markdown_inlines.proofs.strings.push_reference.Goals as goal

pub returns-clause-tokens : goal.returns-clause-tokens
returns-clause-tokens c =
    live-pushed c.args.tokens.now.items c.push_tokens.new.tokens.items
    (reference_tokens c.min.result c.saturating_sub.result c.args.found.value) c.in_ok-push_tokens.ensures
    ∙ ap (λ (l : List Token). live c.args.tokens.now.items ++ l)
    (reference-tokens c.args.found c.min.result c.saturating_sub.result c.min.ensures (search rules))

pub returns-clause-len : goal.returns-clause-len
returns-clause-len c =
    reference-len c.args.found c.in_ok-len.len (omega (arith, c.in_ok-len.ensures, c.in_ok-past.ensures))
