use Rattle.std.proofs.Common.{refl, arith}
use Rattle.md_inline_events.proofs.SpanSteps.{span_step}
use Rattle.md_inline_events.proofs.events.past_text.Goals as goal

pub loop-byte-preserved : goal.loop-byte-preserved
loop-byte-preserved c = record {
  value =
      span_step c.loop-byte.rest.now c.in-Some.following.now c.split_at.result.1.now c.in-Some.byte.now
      c.span-count.result c.loop-byte.at c.past_byte-to.result _ _ c.in-Some.ensures.cases.0
      c.past_byte-to.ensures.value c.span-count.ensures c.split_at.ensures.back refl c.loop-byte.invariant.value;
  index = grind (arith, c.span-count.ensures.within);
  column = omega (arith, c.past_byte-to.ensures.column);
}
