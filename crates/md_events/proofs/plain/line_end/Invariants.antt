use Rattle.std.proofs.Common.{◌≡◌, ◌+◌, ◌*◌, ◌-◌, ◌≤◌}
use Rattle.md_events.specs.Events.Inline.{line_end}
use Rattle.md_events.specs.Events.Places.{past_text}
use Rattle.md_events.proofs.PlainSteps.{line_left}
use Rattle.md_events.proofs.plain.line_end.Given as goal

abbrev pub invariant-loop-point : goal.invariant-loop-point
invariant-loop-point l = record {
  first : 1 ≤ l.point.column;
  columns : l.point.column ≤ 4 * l.point.index + 4;
  line : past_text (line_left l.bytes l.point l.end) l.point ≡ line_end l.bytes l.chunk;
}

abbrev pub decreases-loop-point : goal.decreases-loop-point
decreases-loop-point l = l.end - l.point.index
