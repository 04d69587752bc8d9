use Rattle.std.proofs.Common.{◌≡◌, ◌++◌, drop}
use Rattle.md_inline_events.specs.Cursor.{entering}
use Rattle.md_inline_events.specs.Marks.{entered}
use Rattle.md_inline_events.proofs.cursor.enter_all.Given as goal

abbrev pub invariant-loop-token : goal.invariant-loop-token
invariant-loop-token l =
    l.events.items ++ entered (entering (drop l.token-index l.tokens)) l.point ≡
    l.initial.events.items ++ entered (entering l.tokens) l.point
