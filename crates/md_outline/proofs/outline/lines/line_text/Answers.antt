use Rattle.std.proofs.Common.{◌≡◌, ◌∙◌, drop, sym, ap, subst}
use Rattle.std.specs.Str.{IsUtf8}
use Rattle.md_meaning.specs.Rest.{trim_start}
use Rattle.md_outline.proofs.TextCuts.{utf8-trim}
use Rattle.md_outline.proofs.outline.lines.line_text.Goals as goal

pub returns : goal.returns
returns c = λ u.
    let rest : c.split_at.result.1.now ≡ trim_start c.args.line.now = c.split_at.ensures.back
    ∙ ap (λ n. drop n c.args.line.now) c.white_len.ensures.value in
    c.text_of.ensures (subst IsUtf8 (sym rest) (utf8-trim c.args.line.now u)) ∙ rest
