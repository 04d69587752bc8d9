use Rattle.std.proofs.Common.{◌∙◌, ap, arith}
use Rattle.md_outline.specs.LinedState.{closed_word, with_head}
use Rattle.md_outline.proofs.LinedLines.{line-headed}
use Rattle.md_outline.proofs.outline.lined.close_head.Goals as goal

pub returns-then-place-len : goal.returns-then-place-len
returns-then-place-len c =
    line-headed c.drop_end.new.lines.items c.args.place closed_word c.index.result.now c.index_mut.result.now
    c.closed.result
    (omega (arith, c.if-place-len.true, c.len.ensures)) c.closed.ensures c.index.ensures c.index_mut.ensures.value
    ∙ ap (with_head closed_word c.args.place) c.drop_end.ensures
