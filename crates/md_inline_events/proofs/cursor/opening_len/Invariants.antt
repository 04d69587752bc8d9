use Rattle.std.proofs.Common.{◌≡◌, ◌+◌, drop}
use Rattle.md_inline_events.specs.Cursor.{before_piece}
use Rattle.md_inline_events.proofs.cursor.opening_len.Given as goal

abbrev pub invariant-loop-index : goal.invariant-loop-index
invariant-loop-index l = l.index + before_piece (drop l.index l.tokens) ≡ before_piece l.tokens
