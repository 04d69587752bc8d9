use Rattle.std.proofs.Common.{◌≡◌, ◌+◌, ◌*◌, ◌≤◌, length}
use Rattle.md_events.specs.Events.Places.{past_text}
use Rattle.md_inline_events.proofs.events.past_text.Given as goal

abbrev pub invariant-loop-byte : goal.invariant-loop-byte
invariant-loop-byte l = record {
  value : past_text l.rest l.at ≡ past_text l.text l.fn.point;
  index : l.at.index + length l.rest ≡ l.fn.point.index + length l.text;
  column : l.at.column ≤ 4 * l.at.index + 5;
}

abbrev pub decreases-loop-byte : goal.decreases-loop-byte
decreases-loop-byte l = length l.rest
