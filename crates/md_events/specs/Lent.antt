-- What is between two points of a text: bytes, and columns of tabs that are cut.
use Rattle.std.specs.Prelude.{ℕ, ◌+◌, ◌-◌, ◌%◌, ◌&&◌, ◌==◌, nat_lt, nat_le, if◌then◌else◌, List, [], length}
use Rattle.std.specs.Prelude.{slice_range}
use Rattle.md_engine.specs.declared.event.Point.{Point}
use Rattle.md_events.specs.declared.slice.Position.{Position}

-- the bytes from one index to another; none where the text has no such indices
abbrev pub lent : List ℕ → ℕ → ℕ → List ℕ
lent bytes first after = if nat_le first after && nat_le after (length bytes) then slice_range bytes first after else []

-- the first byte that does not begin before a point
abbrev pub whole_from : Point → ℕ
whole_from p = if nat_lt 0 p.vs then p.index + 1 else p.index

-- the columns from a point to the end of the tab that it lies in (CommonMark 2.2)
abbrev pub tab_left : Point → ℕ
tab_left p = 4 - (p.column + 3) % 4

-- the columns before the bytes: those of a tab that the part begins within
abbrev pub columns_in_front : Position → ℕ
columns_in_front at =
    if nat_lt 0 at.start.vs then (if at.start.index == at.end.index then at.end.vs - at.start.vs else tab_left at.start)
    else 0

-- the columns after the bytes: those of a tab that the part ends within
abbrev pub columns_after : Position → ℕ
columns_after at = if nat_lt 0 at.start.vs && (at.start.index == at.end.index) then 0 else at.end.vs
