-- The bytes of a line, from a point on and up to one: a tab reaches over columns, and each other byte is one cell.
use Rattle.std.specs.Prelude.{ℕ, zero, suc, ◌+◌, ◌-◌, ◌==◌, if◌then◌else◌, List, [], ◌∷◌, ◌++◌, map, slice_index}
use Rattle.md_engine.specs.declared.event.Point.{Point}
use Rattle.md_engine.specs.declared.tokenizer.Scratch.{Scratch}
use Rattle.md_engine.specs.Meaning.{Cell}
use Rattle.md_events.specs.Ahead.{line_cells}
use Rattle.md_events.specs.Lent.{whole_from}

-- the cells at which a byte begins, from a point on: not the further columns of a tab
abbrev pub whole_cells : Point → List Cell → List Cell
whole_cells p [] = []
whole_cells p (c ∷ cs) = if p.vs == 0 then c ∷ whole_cells c.after cs else whole_cells c.after cs

-- the bytes of the line that begin from a point on: a tab counts once, and not if the point lies within it
abbrev pub whole_line : Point → List Cell → List ℕ
whole_line p cells = map (λ (c : Cell). c.byte) (whole_cells p (line_cells cells))

-- so many bytes of a text from an index on; after its end 0 is seen
unfoldable pub bytes_on : List ℕ → ℕ → ℕ → List ℕ
bytes_on bytes from zero = []
bytes_on bytes from (suc n) = bytes_on bytes from n ++ slice_index bytes (from + n) ∷ []

-- what was taken of a line: a byte within which the point lies counts, and not one within which the line began
abbrev pub line_taken : List ℕ → Scratch → Point → List ℕ
line_taken bytes s p = bytes_on bytes s.start (whole_from p - s.start)
