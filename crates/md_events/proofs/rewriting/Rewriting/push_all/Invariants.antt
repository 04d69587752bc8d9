use Rattle.std.proofs.Common.{◌≡◌, ◌≤◌, ◌+◌, ◌-◌, ◌++◌, drop, length}
use Rattle.md_events.specs.Rewritten.{held_of, left_of, written_of}
use Rattle.md_events.proofs.rewriting.Rewriting.push_all.Given as goal

abbrev pub invariant-loop-at : goal.invariant-loop-at
invariant-loop-at l = record {
  left : left_of l.self ≡ left_of l.initial.self;
  held : held_of l.self ≡ held_of l.initial.self;
  written : written_of l.self ++ drop l.at l.events ≡ written_of l.initial.self ++ l.events;
  room : l.self.written + (length l.events - l.at) ≤ l.self.done;
}

abbrev pub decreases-loop-at : goal.decreases-loop-at
decreases-loop-at l = length l.events - l.at
