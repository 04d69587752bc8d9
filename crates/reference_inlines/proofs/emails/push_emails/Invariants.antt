use Rattle.std.proofs.Common.{◌≡◌, ◌++◌, ◌-◌, length}
use Rattle.reference_inlines.proofs.SearchedLemmas.{emails_from}
use Rattle.reference_inlines.proofs.emails.push_emails.Given as goal

abbrev pub invariant-loop-byte : goal.invariant-loop-byte
invariant-loop-byte l =
    l.nodes.items ++ emails_from l.text l.at ≡ l.initial.nodes.items ++ emails_from l.text l.fn.start

abbrev pub decreases-loop-byte : goal.decreases-loop-byte
decreases-loop-byte l = length l.text - l.at
