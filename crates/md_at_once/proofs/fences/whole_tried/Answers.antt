use Rattle.std.proofs.Common.{arith}
use Rattle.md_engine.proofs.Sound.{sound-put}
use Rattle.md_flow.proofs.SoundParts.{sound-tried}
use Rattle.md_at_once.proofs.fences.whole_tried.Goals as goal

pub invariant_of-tokenizer-2 : goal.invariant_of-tokenizer-2
invariant_of-tokenizer-2 c = record {
  sound =
      rw (
        c.push_reserved-3.ensures.items,
        c.push_reserved-2.ensures.items,
        c.push_reserved.ensures.items,
        c.reserve-2.ensures.items,
        c.reserve.ensures.items,
        c.opening.ensures,
      )
      (sound-put _ _ _ _ _ _ _
      (sound-put _ _ _ _ _ _ _
      (sound-tried _ _ _ _ _ _ _ c.args.tokenizer.now.sound c.requires (omega (arith, c.len.ensures))) c.requires)
      c.requires);
  spread = c.args.tokenizer.now.spread;
  passed = c.args.tokenizer.now.passed;
}
