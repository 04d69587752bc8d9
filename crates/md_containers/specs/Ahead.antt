-- Points further on a line.
use Rattle.std.specs.Prelude.{ℕ, ◌+◌}
use Rattle.md_engine.specs.declared.event.Point.{Point}

-- the point after so many bytes of text, of which there is one at least
abbrev pub ahead : ℕ → Point → Point
ahead n p = record p { column = p.column + n; index = p.index + n; vs = 0 }
