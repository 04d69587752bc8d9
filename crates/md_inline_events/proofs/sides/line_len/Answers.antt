use Rattle.std.proofs.Common.{◌+◌, ℕ, ap, ◌∙◌, refl}
use Rattle.md_inline_events.proofs.LineLemmas.{line-counted}
use Rattle.md_inline_events.proofs.sides.line_len.Goals as goal

pub returns-clause-value : goal.returns-clause-value
returns-clause-value c =
    ap (λ (k : ℕ). c.args.at + k) c.each_line_len.ensures.value
    ∙ line-counted c.args.text.now _ c.args.at c.requires.counted refl
