use Rattle.std.specs.Io.KnownBytes.{Keeps}
use Rattle.md_program.proofs.system.UninterruptedWrite.write.Given as goal

-- nothing was written
abbrev pub invariant-loop-turn : goal.invariant-loop-turn
invariant-loop-turn g l = Keeps (g.W.Write.contents l.initial.self.stream) (g.W.Write.contents l.self.stream)
