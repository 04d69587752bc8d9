use Rattle.std.proofs.Common.{map, ap, ◌∙◌}
use Rattle.std.specs.Prelude.{string_bytes}
use Rattle.std.proofs.lemmas.Result.{IfOk-weaker}
use Rattle.md_scan.specs.Definitions.{texts}
use Rattle.plain_inlines.proofs.PrintedLemmas.{content-shown}
use Rattle.plain_inlines.proofs.print_content.Goals as goal

pub returns : goal.returns
returns c =
    IfOk-weaker c.print.result _ _
    (λ made is.
    content-shown c.args.options.now (map string_bytes c.deref.result.now) (map string_bytes c.deref-2.result.now)
    (texts c.args.more.now) c.is_marked-first.result c.args.text.now (string_bytes made) c.deref-3.result.now
    (ap (map string_bytes) c.deref.ensures.value ∙ c.in_ok-definitions.ensures)
    (ap (map string_bytes) c.deref-2.ensures.value ∙ c.in_ok-footnotes.ensures) c.is_marked-first.ensures
    (c.deref-3.ensures.value ∙ c.in_ok-nodes.ensures) is)
    c.print.ensures
