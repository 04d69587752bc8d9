use Rattle.std.proofs.Common.{◌≡◌, ◌++◌, length}
use Rattle.reference_inlines.specs.Searched.{searched}
use Rattle.reference_inlines.proofs.emails.with_emails.Given as goal

abbrev pub invariant-loop-node : goal.invariant-loop-node
invariant-loop-node l =
    l.made.items ++ searched l.text l.hidden l.at l.rest ≡ searched l.text 0 l.fn.start l.fn.nodes

abbrev pub decreases-loop-node : goal.decreases-loop-node
decreases-loop-node l = length l.rest
