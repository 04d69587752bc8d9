use Rattle.std.proofs.Common.{◌≡◌, ◌+◌, drop}
use Rattle.std.specs.List.{prefix_len}
use Rattle.md_content.specs.Joined.{is_of_prefix}
use Rattle.md_content.proofs.lines.prefixes.Given as goal

abbrev pub invariant-loop-at : goal.invariant-loop-at
invariant-loop-at l = prefix_len is_of_prefix l.events ≡ l.at + prefix_len is_of_prefix (drop l.at l.events)
