use Rattle.std.proofs.Common.{◌∙◌, ap}
use Rattle.md_outline.proofs.TextCuts.{text-lent}
use Rattle.md_outline.proofs.outline.lines.text_of.Goals as goal

pub returns : goal.returns
returns c = λ u.
    ap (λ s. s.now) c.unwrap_or.ensures ∙ text-lent c.from_utf8.result _ c.args.bytes.now _ c.from_utf8.ensures.cases u
