use Rattle.std.proofs.Common.{◌≡◌, ◌∙◌, ◌-◌, ℕ, List, length, take, drop, sym, ap, subst}
use Rattle.std.specs.Str.{IsUtf8}
use Rattle.md_meaning.specs.Rest.{trim, trim_end, trim_start}
use Rattle.md_outline.proofs.TextCuts.{utf8-trim, utf8-trim_end}
use Rattle.md_outline.proofs.outline.lines.trimmed_text.Goals as goal

pub returns : goal.returns
returns c = λ u.
    let line : List ℕ = c.args.line.now in
    let rest : List ℕ = c.split_at.result.1.now in
    let front : rest ≡ trim_start line = c.split_at.ensures.back ∙ ap (λ n. drop n line) c.white_len.ensures.value in
    let text : c.split_at-2.result.0.now ≡ trim line = c.split_at-2.ensures.front
    ∙ ap (λ n. take (length rest - n) rest) c.white_end_len.ensures.value
    ∙ ap trim_end front in
    c.text_of.ensures (subst IsUtf8 (sym text) (utf8-trim_end (trim_start line) (utf8-trim line u))) ∙ text
