use Rattle.std.proofs.Common.{refl}
use Rattle.md_engine.specs.declared.class.Class.TheVariants as class
use Rattle.md_engine.specs.declared.stay.Stay.TheVariants as stay
use Rattle.md_engine.specs.World.{world}
use Rattle.md_engine.proofs.StayLemmas.{span-ends, span-sees, word-spans}
use Rattle.md_engine.proofs.tokenizer.Tokenizer.see_word.Goals as goal

pub returns : goal.returns
returns c = record {
  some =
      span-sees stay.Word class.Word (world c.args.self.now) (world c.see_span.new.self) word-spans c.see_span.ensures;
  ends = span-ends stay.Word class.Word (world c.see_span.new.self) (λ s b h. h) refl c.see_span.ensures.ends;
}
