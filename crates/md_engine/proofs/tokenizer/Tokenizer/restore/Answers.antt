use Rattle.std.proofs.Common.{◌≤◌}
use Rattle.md_engine.proofs.Sound.{All-unreverse, sound-restored}
use Rattle.md_engine.proofs.tokenizer.Tokenizer.restore.Goals as goal

pub invariant_of-self : goal.invariant_of-self
invariant_of-self c = record {
  sound = rw c.truncate.ensures.items
      (sound-restored _ c.args.self.now.point c.args.frame.point _ c.args.frame.events_len _ _ _ c.args.self.now.sound
      c.requires.placed
      (All-unreverse (λ f. f.events_len ≤ c.args.frame.events_len) _ c.requires.outer));
  spread = c.args.self.now.spread;
  passed = c.args.self.now.passed;
}
