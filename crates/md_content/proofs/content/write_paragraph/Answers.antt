use Rattle.std.proofs.Common.{arith}
use Rattle.md_content.proofs.WholeLines.{begun-all, begun-more}
use Rattle.md_content.proofs.content.write_paragraph.Goals as goal

pub loop-chunk-preserved : goal.loop-chunk-preserved
loop-chunk-preserved c = record {
  items =
      begun-more _ _ c.loop-chunk.chunk-index _ _ _ _ c.loop-chunk-test.true c.loop-chunk.invariant.items
      c.push_reserved-in-loop-chunk.ensures.items c.push_reserved-in-loop-chunk-2.ensures.items;
  len = omega (
    arith,
    c.push_reserved-in-loop-chunk-2.ensures.len,
    c.push_reserved-in-loop-chunk.ensures.len,
    c.loop-chunk.invariant.len,
  );
  room = omega (
    arith,
    c.push_reserved-in-loop-chunk-2.ensures.capacity,
    c.push_reserved-in-loop-chunk.ensures.capacity,
    c.loop-chunk.invariant.room,
  );
}

pub returns : goal.returns
returns c =
    begun-all c.args.chunks.now c.loop-chunk.chunk-index _ _ _ c.requires c.loop-chunk-test.false
    c.loop-chunk.invariant.items c.push_reserved-2.ensures.items
