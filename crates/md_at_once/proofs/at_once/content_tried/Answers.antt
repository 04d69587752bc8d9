use Rattle.md_at_once.proofs.LateAttempt.{sound-late}
use Rattle.md_at_once.proofs.at_once.content_tried.Goals as goal

pub invariant_of-tokenizer-2 : goal.invariant_of-tokenizer-2
invariant_of-tokenizer-2 c = record {
  sound =
      rw (c.push_reserved.ensures.items, c.reserve.ensures.items)
      (sound-late _ _ _ _ _ _ _ c.args.tokenizer.now.sound c.requires.placed c.requires.many c.requires.outer);
  spread = c.args.tokenizer.now.spread;
  passed = c.args.tokenizer.now.passed;
}
