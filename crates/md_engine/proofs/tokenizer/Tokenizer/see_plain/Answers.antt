use Rattle.std.proofs.Common.{refl}
use Rattle.md_engine.specs.declared.class.Class.TheVariants as class
use Rattle.md_engine.specs.declared.stay.Stay.TheVariants as stay
use Rattle.md_engine.specs.World.{world}
use Rattle.md_engine.proofs.StayLemmas.{span-ends, span-sees, plain-spans}
use Rattle.md_engine.proofs.tokenizer.Tokenizer.see_plain.Goals as goal

pub returns : goal.returns
returns c = record {
  some =
      span-sees stay.Plain class.Plain (world c.args.self.now) (world c.see_span.new.self) plain-spans
      c.see_span.ensures;
  ends = span-ends stay.Plain class.Plain (world c.see_span.new.self) (λ s b h. h) refl c.see_span.ensures.ends;
}
