use Rattle.std.proofs.Common.{length, ◌+◌, ◌-◌, ◌≡◌, ◌++◌, ◌≤◌, drop, take}
use Rattle.md_events.proofs.moving.move_pieces_down.Given as goal

abbrev pub invariant-loop-at : goal.invariant-loop-at
invariant-loop-at l = record {
  moved : take (l.to + (l.at - l.from)) l.events ≡ take l.to l.fn.events
      ++ take (l.at - l.from) (drop l.from l.fn.events);
  following : drop l.at l.events ≡ drop l.at l.fn.events;
  many : length l.events ≡ length l.fn.events;
  within : (l.from ≤ l.at) × (l.at ≤ l.end);
}

abbrev pub decreases-loop-at : goal.decreases-loop-at
decreases-loop-at l = l.end - l.at
