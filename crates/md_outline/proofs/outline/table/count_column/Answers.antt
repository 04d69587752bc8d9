use Rattle.std.proofs.Common.{arith}
use Rattle.md_outline.specs.TableState.{counted_word}
use Rattle.md_outline.proofs.LinedLines.{line-headed}
use Rattle.md_outline.proofs.outline.table.count_column.Goals as goal

pub returns-in_ok-word : goal.returns-in_ok-word
returns-in_ok-word c =
    line-headed c.args.lines.now.items c.args.place counted_word c.index.result.now c.index_mut.result.now
    c.in_ok-word.word
    (omega (arith, c.if-place-len.true, c.len.ensures)) c.in_ok-word.ensures c.index.ensures c.index_mut.ensures.value
