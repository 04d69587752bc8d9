use Rattle.std.proofs.Common.{length}
use Rattle.md_resolve.specs.PassWalk.{rest_of}
use Rattle.md_resolve.proofs.PassLaws.{HasPassed, now_of}
use Rattle.md_resolve.proofs.pass.set_all.Given as goal

abbrev pub invariant-loop-event : goal.invariant-loop-event
invariant-loop-event l = HasPassed l.fn.wanted l.fn.bytes l.fn.events.items (now_of l.walk)

abbrev pub decreases-loop-event : goal.decreases-loop-event
decreases-loop-event l = length (rest_of l.walk)
