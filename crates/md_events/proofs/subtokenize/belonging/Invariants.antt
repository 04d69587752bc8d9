use Rattle.std.proofs.Common.{◌≡◌, ◌+◌, drop}
use Rattle.std.specs.List.{prefix_len}
use Rattle.md_events.specs.Substituted.{belongs}
use Rattle.md_events.proofs.subtokenize.belonging.Given as goal

abbrev pub invariant-loop-at : goal.invariant-loop-at
invariant-loop-at l = prefix_len (belongs l.end) l.events ≡ l.at + prefix_len (belongs l.end) (drop l.at l.events)
