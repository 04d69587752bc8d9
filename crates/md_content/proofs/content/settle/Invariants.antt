use Rattle.md_content.proofs.SettledLemmas.{Settling}
use Rattle.md_content.proofs.content.settle.Given as goal

abbrev pub invariant-loop-event : goal.invariant-loop-event
invariant-loop-event l = Settling l.chunks l.initial.events l.event-index l.line l.events
