use Rattle.std.proofs.Common.{arith}
use Rattle.md_outline.proofs.FirstLine.{line-above, line-more}
use Rattle.md_outline.proofs.outline.lines.first_line_len.Goals as goal

pub loop-at-init : goal.loop-at-init
loop-at-init c = record {
  within = c.above_cr_len-at.ensures.bound;
  rest = rw c.above_cr_len-at.ensures.value (line-above c.args.text.now);
}

pub loop-at-preserved : goal.loop-at-preserved
loop-at-preserved c = record {
  within = omega arith;
  rest =
      line-more c.args.text.now c.loop-at.at c.above_cr_len-at-in-loop-at.result c.loop-at-test.true
      c.if-text-at-ne10.true c.if-text-at-ne13.true c.loop-at.invariant.rest
      c.above_cr_len-at-in-loop-at.ensures.value;
}
