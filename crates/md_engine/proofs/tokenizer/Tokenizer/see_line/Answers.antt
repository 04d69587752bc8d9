use Rattle.std.proofs.Common.{arith}
use Rattle.md_engine.specs.declared.class.Class.TheVariants.{Text}
use Rattle.md_engine.specs.declared.stay.Stay.TheVariants.{Line}
use Rattle.md_engine.specs.World.{world}
use Rattle.md_engine.proofs.StayLemmas.{line-ends, line-spans, span-sees, tab-taken}
use Rattle.md_engine.proofs.tokenizer.Tokenizer.see_line.Goals as goal

-- what is seen and taken at once
pub loop-self-init : goal.loop-self-init
loop-self-init c = record {
  some = span-sees Line Text (world c.args.self.now) (world c.see_span.new.self) line-spans c.see_span.ensures;
  ends = c.see_span.ensures.ends;
}

pub loop-self-smaller : goal.loop-self-smaller
loop-self-smaller c =
    (tab-taken (world c.args.self.now) (world c.loop-self.self) (world c.see_columns.new.self)
    (world c.see_span-in-loop-self.new.self) c.see_columns.result c.loop-self.invariant.some c.loop-self-test.true
    c.if-self-eq9.true c.see_columns.ensures c.see_span-in-loop-self.ensures).1

pub loop-self-preserved : goal.loop-self-preserved
loop-self-preserved c = record {
  some =
      (tab-taken (world c.args.self.now) (world c.loop-self.self) (world c.see_columns.new.self)
      (world c.see_span-in-loop-self.new.self) c.see_columns.result c.loop-self.invariant.some c.loop-self-test.true
      c.if-self-eq9.true c.see_columns.ensures c.see_span-in-loop-self.ensures).0;
  ends = c.see_span-in-loop-self.ensures.ends;
}

pub returns-else-self-eq9 : goal.returns-else-self-eq9
returns-else-self-eq9 c = record {
  some = c.loop-self.invariant.some;
  ends = line-ends (world c.loop-self.self) c.loop-self.invariant.ends (λ lt. c.if-self-eq9.false);
}

pub returns-after-loop-self : goal.returns-after-loop-self
returns-after-loop-self c = record {
  some = c.loop-self.invariant.some;
  ends =
      line-ends (world c.loop-self.self) c.loop-self.invariant.ends
      (λ lt. absurd (omega (arith, lt, c.loop-self-test.false)));
}
