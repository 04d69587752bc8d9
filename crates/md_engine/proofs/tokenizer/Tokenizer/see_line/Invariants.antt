use Rattle.md_engine.specs.declared.class.Class.TheVariants.{Text}
use Rattle.md_engine.specs.declared.stay.Stay.TheVariants.{Line}
use Rattle.md_engine.specs.Scheme.{cells_left}
use Rattle.md_engine.specs.Staying.{IsSeen, SeesSome}
use Rattle.md_engine.specs.World.{world}
use Rattle.md_engine.proofs.tokenizer.Tokenizer.see_line.Given as goal

abbrev pub invariant-loop-self : goal.invariant-loop-self
invariant-loop-self l = record {
  some : SeesSome Line (world l.fn.self) (world l.self);
  ends : ¬ IsSeen Text (world l.self);
}

abbrev pub decreases-loop-self : goal.decreases-loop-self
decreases-loop-self l = cells_left l.self.limit l.self.point
