use Rattle.std.proofs.Common.{◌≡◌, true, false, sym, ◌∙◌, ◌<◌, ◌≤◌, arith, refl}
use Rattle.md_engine.specs.Staying.{IsSeen}
use Rattle.md_engine.specs.World.{World, world}
use Rattle.md_engine.proofs.ClassLemmas.{none-taken, sees-none, sees-some}
use Rattle.md_engine.proofs.tokenizer.Tokenizer.see_span.Goals as goal
use Rattle.md_engine.proofs.tokenizer.Tokenizer.see_span.Goals.{then-index-self-via-then-index-self}
use Rattle.md_engine.proofs.tokenizer.Tokenizer.see_span.Goals.{then-index-self-via-else-index-self+then-not-has}

pub returns-then-self-index : goal.returns-then-self-index
returns-then-self-index c =
    let w : World = world c.args.self.now in
    let v : World = world c.consume_all.new.self in
    let more : w.point.index < v.point.index = omega arith in
    sees-some c.args.class w v _ c.consume_all.ensures more refl

pub returns-else-self-index : goal.returns-else-self-index
returns-else-self-index c =
    let w : World = world c.args.self.now in
    let v : World = world c.consume_all.new.self in
    let same : v.point.index ≤ w.point.index = omega arith in
    sees-none c.args.class w v c.consume_all.ensures same

pub returns-then-index-self : goal.returns-then-index-self
returns-then-index-self c =
    let w : World = world c.args.self.now in
    let none : ¬ IsSeen c.args.class w =
    elim c.then-index-self.branch [
      | then-index-self-via-then-index-self h ↦ (λ here. absurd (omega (arith, here.0, h.if-index-self.true)))
      | then-index-self-via-else-index-self+then-not-has h ↦ (λ here.
          let no : true ≡ false = sym here.1 ∙ sym h.if-not-has.ensures in cc)
    ] in
    sees-none c.args.class w w (none-taken c.args.class w.setting.limit w none) (omega arith)
