use Rattle.std.proofs.Common.{◌≡◌, true, false, refl, sym, ◌∙◌, arith}
use Rattle.md_engine.specs.World.{world}
use Rattle.md_engine.proofs.StayLemmas.{white-full, white-none, white-sees}
use Rattle.md_engine.proofs.tokenizer.Tokenizer.see_white.Goals as goal
use Rattle.md_engine.proofs.tokenizer.Tokenizer.see_white.Goals.{else-size-max-via-then-size-max+then-self+else-is_white}
use Rattle.md_engine.proofs.tokenizer.Tokenizer.see_white.Goals.{else-size-max-via-then-size-max+else-self}
use Rattle.md_engine.proofs.tokenizer.Tokenizer.see_white.Goals.{else-size-max-via-else-size-max}

pub returns-then-is_white : goal.returns-then-is_white
returns-then-is_white c =
    white-sees (world c.args.self.now) (world c.see_columns.new.self) _ c.see_columns.result c.if-size-max.true
    c.see_columns.ensures refl

pub returns-else-size-max : goal.returns-else-size-max
returns-else-size-max c = elim c.else-size-max.branch [
  | else-size-max-via-then-size-max+then-self+else-is_white w ↦
      white-none (world c.args.self.now)
      (λ here. let no : true ≡ false = sym here.1 ∙ sym w.if-is_white.ensures in cc)
  | else-size-max-via-then-size-max+else-self w ↦
      white-none (world c.args.self.now) (λ here. absurd (omega (arith, here.0, w.if-self.false)))
  | else-size-max-via-else-size-max w ↦ white-full (world c.args.self.now) (omega (arith, w.if-size-max.false))
]
