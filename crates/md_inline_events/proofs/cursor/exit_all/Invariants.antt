use Rattle.std.proofs.Common.{◌≡◌, ◌++◌, [], length}
use Rattle.md_inline_events.specs.Cursor.{back_of, left_first, token_marks}
use Rattle.md_inline_events.specs.Marks.{back_events, back_from}
use Rattle.md_inline_events.proofs.cursor.exit_all.Given as goal

abbrev pub invariant-loop-token : goal.invariant-loop-token
invariant-loop-token l = record {
  events :
      l.events.items ++ back_events (back_of (left_first l.rest)) l.fn.name l.begun l.fn.point ≡
      l.initial.events.items ++ back_events (back_of (left_first l.fn.tokens)) l.fn.name l.fn.from l.fn.point;
  from :
      back_from (back_of (left_first l.rest)) l.begun l.fn.point ≡
      back_from (back_of (left_first l.fn.tokens)) l.fn.from l.fn.point;
  marks : token_marks [] l.rest ≡ token_marks [] l.fn.tokens;
}

abbrev pub decreases-loop-token : goal.decreases-loop-token
decreases-loop-token l = length l.rest
