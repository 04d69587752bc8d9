use Rattle.std.proofs.Common.{refl}
use Rattle.md_engine.proofs.Sound.{sound-add}
use Rattle.md_engine.proofs.tokenizer.Tokenizer.add.Goals as goal

pub invariant_of-self : goal.invariant_of-self
invariant_of-self c = record {
  sound = rw c.push_reserved.ensures.items (sound-add _ _ _ _ _ _ _ c.args.self.now.sound refl);
  spread = c.args.self.now.spread;
  passed = c.args.self.now.passed;
}
