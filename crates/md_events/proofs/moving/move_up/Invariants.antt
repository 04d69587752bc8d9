use Rattle.std.proofs.Common.{length, ◌+◌, ◌-◌, ◌≡◌, ◌≤◌, drop, take}
use Rattle.md_events.proofs.moving.move_up.Given as goal

abbrev pub invariant-loop-end : goal.invariant-loop-end
invariant-loop-end l = record {
  moved : drop (l.end + l.gap) l.events ≡ drop l.end (take (length l.fn.events - l.gap) l.fn.events);
  before : take (l.end + l.gap) l.events ≡ take (l.end + l.gap) l.fn.events;
  many : length l.events ≡ length l.fn.events;
  within : (l.from ≤ l.end) × (l.end + l.gap ≤ length l.fn.events);
}

abbrev pub decreases-loop-end : goal.decreases-loop-end
decreases-loop-end l = l.end
