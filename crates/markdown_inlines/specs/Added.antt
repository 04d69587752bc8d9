-- Tokens that are added to others, with text beside text as one token.
use Rattle.std.specs.Prelude.{◌≡◌, List, ◌++◌}
use Rattle.md_inline_events.specs.declared.token.Token.{Token}
use Rattle.markdown_inlines.specs.Addressed.{joined_after}
use Rattle.markdown_inlines.specs.declared.emails.Joined.{Joined}

-- all tokens, where these follow
abbrev pub all_tokens : Joined → List Token → List Token
all_tokens joined list = joined.tokens.items ++ joined_after joined.text list

pub record IsAdded (list : List Token) (old new : Joined) : Type 0 where
  pub same : (rest : List Token) → all_tokens new rest ≡ all_tokens old (list ++ rest)
