use Rattle.std.proofs.Common.{◌∙◌, inl, inr, sym}
use Rattle.markdown_blocks.proofs.parts.may_end.Goals as goal

pub returns-then-waits_in_text : goal.returns-then-waits_in_text
returns-then-waits_in_text c = λ ends.
    inl (c.waits_in_text.ensures c.if-waits_in_text.true, sym c.is_ending.ensures ∙ ends)

pub returns : goal.returns
returns c = λ outside.
    inr (
      c.waits_outside.ensures outside,
      c.is_after_line.ensures.more c.if-not-is_after_line.false,
      c.is_after_line.ensures.filled c.if-not-is_after_line.false,
    )
