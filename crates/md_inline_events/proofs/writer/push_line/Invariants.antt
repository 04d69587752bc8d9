use Rattle.std.proofs.Common.{◌≡◌, true, ◌+◌, ◌*◌, ◌≤◌, ◌++◌, drop, take, length}
use Rattle.md_events.specs.Events.Places.{past_text}
use Rattle.md_inline_events.specs.Marks.{last_name, line_events}
use Rattle.md_inline_events.specs.Room.{is_even}
use Rattle.md_inline_events.specs.SidesOf.{cursor_marks}
use Rattle.md_inline_events.proofs.writer.push_line.Given as goal

abbrev pub invariant-loop-rest : goal.invariant-loop-rest
invariant-loop-rest l = record {
  events :
      l.events.items ++ line_events l.rest (cursor_marks l.cursor) l.cursor.name l.from l.at ≡
      l.initial.events.items ++ line_events l.line (cursor_marks l.fn.cursor) l.fn.cursor.name l.fn.first l.fn.first;
  marks : drop (length l.rest) (cursor_marks l.cursor) ≡ drop (length l.line) (cursor_marks l.fn.cursor);
  name :
      last_name l.cursor.name (take (length l.rest) (cursor_marks l.cursor)) ≡
      last_name l.fn.cursor.name (take (length l.line) (cursor_marks l.fn.cursor));
  point : past_text l.rest l.at ≡ past_text l.line l.fn.first;
  index : l.at.index + length l.rest ≡ l.fn.first.index + length l.line;
  column : l.at.column ≤ 4 * l.at.index + 5;
  even : l.even ≡ true → is_even l.rest ≡ true;
}

abbrev pub decreases-loop-rest : goal.decreases-loop-rest
decreases-loop-rest l = length l.rest
