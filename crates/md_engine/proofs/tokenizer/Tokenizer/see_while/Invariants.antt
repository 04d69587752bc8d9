use Rattle.md_engine.specs.Scheme.{cells_left}
use Rattle.md_engine.specs.Staying.{SeesSome}
use Rattle.md_engine.specs.World.{world}
use Rattle.md_engine.proofs.tokenizer.Tokenizer.see_while.Given as goal

abbrev pub invariant-loop-byte : goal.invariant-loop-byte
invariant-loop-byte l = SeesSome l.stay (world l.initial.self) (world l.self)

abbrev pub decreases-loop-byte : goal.decreases-loop-byte
decreases-loop-byte l = cells_left l.self.limit l.self.point
