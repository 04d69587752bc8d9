use Rattle.std.proofs.Common.{List, reverse}
use Rattle.md_engine.specs.declared.tokenizer.Frame.{Frame}
use Rattle.md_engine.specs.World.{world}
use Rattle.md_engine.proofs.Sound.{outer-popped, placed-popped, same-popped, sound-popped}
use Rattle.md_engine.proofs.tokenizer.Tokenizer.innermost.Goals as goal

pub invariant_of-self : goal.invariant_of-self
invariant_of-self c =
    record {
      sound = sound-popped _ _ _ _ _ _ _ _ c.args.self.now.sound c.pop.ensures.items;
      spread = c.args.self.now.spread;
      passed = c.args.self.now.passed;
    }

pub returns-clause-placed : goal.returns-clause-placed
returns-clause-placed c = placed-popped _ _ _ _ _ _ _ _ c.args.self.now.sound c.pop.ensures.items

pub returns-clause-outer : goal.returns-clause-outer
returns-clause-outer c = outer-popped _ _ _ _ _ _ _ _ c.args.self.now.sound c.pop.ensures.items

pub returns-clause-same : goal.returns-clause-same
returns-clause-same c =
    same-popped (λ (fs : List Frame). record (world c.args.self.now) { frames = reverse fs }) _ _ _ c.pop.ensures.items
