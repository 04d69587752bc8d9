use Rattle.std.proofs.Common.{◌≡◌, ap, ◌∙◌, length, arith}
use Rattle.md_meaning.specs.Bytes.{after_optional}
use Rattle.md_meaning.specs.Rest.{trim_start}
use Rattle.md_inlines.specs.Target.{after_gap}
use Rattle.md_inlines.proofs.HtmlLemmas.{length-after_gap}
use Rattle.md_inlines.proofs.html.after_gap.Goals as goal

pub returns-clause-bound : goal.returns-clause-bound
returns-clause-bound c =
    let same : c.trim_start-2.result.now ≡ after_gap c.args.text.now =
    c.trim_start-2.ensures ∙ ap trim_start (c.after_optional.ensures ∙ ap (after_optional 10) c.trim_start.ensures) in
    omega (arith, ap length same, length-after_gap c.args.text.now)
