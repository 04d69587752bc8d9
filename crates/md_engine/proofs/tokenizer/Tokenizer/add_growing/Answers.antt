use Rattle.std.proofs.Common.{refl}
use Rattle.md_engine.proofs.Sound.{sound-add}
use Rattle.md_engine.proofs.tokenizer.Tokenizer.add_growing.Goals as goal

pub invariant_of-self : goal.invariant_of-self
invariant_of-self c =
    record {
      sound = rw c.reserve.ensures.items c.args.self.now.sound;
      spread = c.args.self.now.spread;
      passed = c.args.self.now.passed;
    }

pub invariant_of-self-2 : goal.invariant_of-self-2
invariant_of-self-2 c = record {
  sound =
      rw (c.push_reserved.ensures.items, c.reserve.ensures.items)
      (sound-add _ _ _ _ _ _ _ c.args.self.now.sound refl);
  spread = c.args.self.now.spread;
  passed = c.args.self.now.passed;
}
