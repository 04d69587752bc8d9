use Rattle.std.proofs.Common.{◌-◌, ◌≤◌, length, nat_lt}
use Rattle.std.specs.List.{prefix_len}
use Rattle.md_engine.proofs.class.above_cr_len.Given as goal

abbrev pub invariant-loop-at : goal.invariant-loop-at
invariant-loop-at l = l.at ≤ prefix_len (nat_lt 13) l.bytes

abbrev pub decreases-loop-at : goal.decreases-loop-at
decreases-loop-at l = length l.bytes - l.at
