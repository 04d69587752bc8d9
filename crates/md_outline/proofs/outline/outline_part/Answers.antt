use Rattle.md_outline.proofs.FirstBlocks.{part-begins}
use Rattle.md_outline.proofs.outline.outline_part.Goals as goal

pub returns : goal.returns
returns c = record {
  within = c.part_end-end.ensures.within;
  shorter = c.part_end-end.ensures.some;
  whole = c.part_end-end.ensures.whole;
  fewest = c.part_end-end.ensures.fewest;
  begins =
      part-begins c.args.events.now c.part_end-end.result c.args.state.now.bytes.now c.in_ok-lines.lines.items
      c.part_end-end.ensures.whole c.in_ok-lines.ensures;
}
