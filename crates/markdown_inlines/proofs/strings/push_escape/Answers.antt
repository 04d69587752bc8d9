use Rattle.markdown_inlines.proofs.StringTokens.{live-pushed}
use Rattle.markdown_inlines.proofs.strings.push_escape.Goals as goal

pub returns-clause-tokens : goal.returns-clause-tokens
returns-clause-tokens c =
    live-pushed c.args.tokens.now.items c.push_tokens.new.tokens.items _ c.in_ok-push_tokens.ensures
