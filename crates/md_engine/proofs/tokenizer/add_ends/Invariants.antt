use Rattle.std.proofs.Common.{◌≡◌, ◌+◌, ◌++◌, drop, ◌≤◌, length}
use Rattle.std.specs.Vec.{vec_capacity, vec_len}
use Rattle.md_engine.specs.Ends.{ends_at}
use Rattle.md_engine.proofs.tokenizer.add_ends.Given as goal

abbrev pub invariant-loop-left : goal.invariant-loop-left
invariant-loop-left l = record {
  ends : l.events.items ≡ l.fn.events.items ++ ends_at (drop l.left l.containers) l.fn.point;
  room : vec_len l.events + l.left ≤ vec_capacity l.events;
  within : l.left ≤ length l.containers;
}

abbrev pub decreases-loop-left : goal.decreases-loop-left
decreases-loop-left l = l.left
