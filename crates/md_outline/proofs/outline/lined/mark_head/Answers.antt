use Rattle.std.proofs.Common.{arith}
use Rattle.md_outline.specs.LinedState.{marked_word}
use Rattle.md_outline.proofs.LinedLines.{line-headed}
use Rattle.md_outline.proofs.outline.lined.mark_head.Goals as goal

pub returns-then-place-len : goal.returns-then-place-len
returns-then-place-len c =
    line-headed c.args.lines.now.items c.args.place (marked_word c.args.marker) c.index.result.now
    c.index_mut.result.now c.marked.result
    (omega (arith, c.if-place-len.true, c.len.ensures)) c.marked.ensures c.index.ensures c.index_mut.ensures.value
