use Rattle.std.proofs.Common.{sym, arith}
use Rattle.md_inlines.proofs.TargetLemmas.{closed-length}
use Rattle.md_inlines.proofs.target.enclosed_len.Goals as goal

pub returns-in-Closed-clause-bound : goal.returns-in-Closed-clause-bound
returns-in-Closed-clause-bound c = omega (arith, closed-length _ _ _ _ _ _ (sym c.in-Closed.ensures))
