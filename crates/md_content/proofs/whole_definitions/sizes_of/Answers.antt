use Rattle.std.proofs.Common.{arith, sym, ◌∙◌}
use Rattle.md_content.proofs.WholeDefinitions.{sized}
use Rattle.md_content.proofs.whole_definitions.sizes_of.Goals as goal

pub returns : goal.returns
returns c =
    sized c.args.line.now c.in-Some.text.now c.split_at.result.0.now c.split_at.result.1.now
    c.in-Some-after_closer.destination.now _ c.in-Some.ensures c.label_len.ensures.value c.split_at.ensures.front
    c.split_at.ensures.back c.in-Some-after_closer.ensures (omega (arith, c.if-label-gt-LABEL_LEN.false))
    (sym c.is_blank.ensures ∙ c.if-is_blank.false)
    (sym c.is_plain_destination.ensures ∙ c.if-not-is_plain_destination.false)
