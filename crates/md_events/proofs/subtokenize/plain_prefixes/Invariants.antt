use Rattle.std.proofs.Common.{◌≡◌, ◌+◌, drop}
use Rattle.std.specs.List.{prefix_len}
use Rattle.md_events.specs.Substituted.{is_plain_prefix}
use Rattle.md_events.proofs.subtokenize.plain_prefixes.Given as goal

abbrev pub invariant-loop-at : goal.invariant-loop-at
invariant-loop-at l = prefix_len is_plain_prefix l.events ≡ l.at + prefix_len is_plain_prefix (drop l.at l.events)
