use Rattle.std.proofs.Common.{length}
use Rattle.md_events.specs.Rewritten.{left_of}
use Rattle.md_tables.proofs.HeadsWalk.{Leads}
use Rattle.md_tables.proofs.heads.put_heads.Given as goal

abbrev pub invariant-loop-event : goal.invariant-loop-event
invariant-loop-event l = Leads l.bytes l.options l.fn.events.items l.all

abbrev pub decreases-loop-event : goal.decreases-loop-event
decreases-loop-event l = length (left_of l.all)
