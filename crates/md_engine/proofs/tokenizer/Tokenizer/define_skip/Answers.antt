use Rattle.std.proofs.Common.{rules}
use Rattle.md_engine.proofs.Sound.{sound-moved, sound-skipped}
use Rattle.md_engine.proofs.tokenizer.Tokenizer.define_skip.Goals as goal

pub invariant_of-self-then-self-point-2 : goal.invariant_of-self-then-self-point-2
invariant_of-self-then-self-point-2 c = record {
  sound = sound-moved _ _ c.args.point _ _ _ _
      (sound-skipped _ _ c.args.point _ _ _ _ _ _ c.args.self.now.sound c.requires
      c.reserve.ensures.items c.push_reserved.ensures.items) c.requires;
  spread = c.args.self.now.spread;
  passed = c.args.self.now.passed;
}

pub invariant_of-self-else-self-point-2 : goal.invariant_of-self-else-self-point-2
invariant_of-self-else-self-point-2 c = record {
  sound = sound-skipped _ _ c.args.point _ _ _ _ _ _
      c.args.self.now.sound c.requires
      c.reserve.ensures.items c.push_reserved.ensures.items;
  spread = c.args.self.now.spread;
  passed = c.args.self.now.passed;
}

pub invariant_of-self-else-self-point : goal.invariant_of-self-else-self-point
invariant_of-self-else-self-point c = record {
  sound = sound-skipped _ _ c.args.point _ _ _ _ _ _ c.args.self.now.sound
      c.requires
      c.reserve.ensures.items c.push_reserved.ensures.items;
  spread = c.args.self.now.spread;
  passed = c.args.self.now.passed;
}

pub returns-then-self-point-2 : goal.returns-then-self-point-2
returns-then-self-point-2 c = search rules

pub returns-else-self-point : goal.returns-else-self-point
returns-else-self-point c = search rules
