use Rattle.md_engine.proofs.Sound.{sound-put}
use Rattle.md_events.proofs.parts.add_growing.Goals as goal

pub invariant_of-tokenizer-then-is_err-2 : goal.invariant_of-tokenizer-then-is_err-2
invariant_of-tokenizer-then-is_err-2 c = record {
  sound =
      rw (c.reserve-2.ensures.items, c.push_reserved.ensures.items, c.reserve.ensures.items)
      (sound-put _ _ _ _ _ _ _ c.args.tokenizer.now.sound c.requires.first);
  spread = c.args.tokenizer.now.spread;
  passed = c.args.tokenizer.now.passed;
}

pub invariant_of-tokenizer-2 : goal.invariant_of-tokenizer-2
invariant_of-tokenizer-2 c = record {
  sound =
      rw (
        c.push_reserved-2.ensures.items,
        c.reserve-2.ensures.items,
        c.push_reserved.ensures.items,
        c.reserve.ensures.items,
      )
      (sound-put _ _ _ _ _ _ _ (sound-put _ _ _ _ _ _ _ c.args.tokenizer.now.sound c.requires.first) c.requires.last);
  spread = c.args.tokenizer.now.spread;
  passed = c.args.tokenizer.now.passed;
}
