use Rattle.std.proofs.Common.{◌∙◌, sym}
use Rattle.std.proofs.lemmas.Bool.{eqb-true}
use Rattle.md_outline.proofs.TextCuts.{line-trimmed}
use Rattle.md_outline.proofs.outline.lines.is_trimmed_line.Goals as goal

pub returns-then-is_one_line : goal.returns-then-is_one_line
returns-then-is_one_line c = λ none.
    line-trimmed c.args.text.now (c.is_one_line.ensures c.if-is_one_line.true)
    (sym c.white_len.ensures.value ∙ eqb-true c.white_len.result 0 none)
