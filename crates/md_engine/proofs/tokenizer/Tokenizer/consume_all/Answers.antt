use Rattle.std.proofs.Common.{◌≡◌, ◌<◌, ◌≤◌, arith}
use Rattle.md_engine.specs.World.{World, world}
use Rattle.md_engine.proofs.ClassLemmas.{none-taken, placed-following, span-here, span-taken}
use Rattle.md_engine.proofs.Sound.{sound-moved}
use Rattle.md_engine.proofs.tokenizer.Tokenizer.consume_all.Goals as goal

pub returns-then-index-end : goal.returns-then-index-end
returns-then-index-end c =
    none-taken c.args.class c.args.end (world c.args.self.now) (λ is. absurd (omega (arith, is.0)))

pub invariant_of-self : goal.invariant_of-self
invariant_of-self c =
    let w : World = world c.args.self.now in
    let at : w.point.index ≤ c.args.end = omega arith in
    let some : 0 < c.span-count.result = c.if-count-gt0.true in
    let q = placed-following c.args.class c.span-count.result w.setting.bytes c.args.end w.point
    c.args.self.now.sound.placed c.requires at some c.span-count.ensures in
    record {
      sound = sound-moved _ _ _ _ _ _ _ c.args.self.now.sound (rw c.further-self.ensures q);
      spread = c.args.self.now.spread;
      passed = c.args.self.now.passed;
    }

pub returns-then-count-gt0 : goal.returns-then-count-gt0
returns-then-count-gt0 c =
    let w : World = world c.args.self.now in
    let at : w.point.index ≤ c.args.end = omega arith in
    let some : 0 < c.span-count.result = c.if-count-gt0.true in
    rw c.further-self.ensures
    (span-taken c.args.class c.span-count.result c.args.end w c.requires at some c.span-count.ensures)

pub returns-else-count-gt0 : goal.returns-else-count-gt0
returns-else-count-gt0 c =
    let w : World = world c.args.self.now in
    let at : w.point.index ≤ c.args.end = omega arith in
    let none : c.span-count.result ≡ 0 = omega arith in
    let here = span-here c.args.class c.span-count.result w.setting.bytes c.args.end w.point c.requires at
    c.span-count.ensures in
    none-taken c.args.class c.args.end w (rw none at here.1)
