-- Cells as a text has them: a tab reaches over columns, and each other byte is one cell.
use Rattle.std.specs.Prelude.{◌≡◌, ◌⊎◌, ℕ, true, ◌-◌, nat_lt, List, [], ◌∷◌}
use Rattle.md_meaning.specs.Rest.{Rest, is_white}
use Rattle.md_engine.specs.declared.event.Point.{Point}
use Rattle.md_engine.specs.Meaning.{Cell}
use Rattle.md_link_definitions.specs.OpenText.{begun_rest}
pub use Rattle.md_events.specs.WholeLine.{whole_cells, whole_line}

-- the rest of a line that begins at a point with these bytes, and that from a point on
abbrev pub rest_here : Point → List ℕ → Rest
rest_here p line = begun_rest (p.column - 1) (nat_lt 0 p.vs) line

abbrev pub whole_rest : Point → List Cell → Rest
whole_rest p cells = rest_here p (whole_line p cells)

-- only within whitespace a point lies within a byte; the begin of a line may
abbrev pub IsWhole : Point → Cell → Type 0
IsWhole p c = (is_white c.byte ≡ true) ⊎ ((p.vs ≡ 0) × ((c.byte ≡ 10) ⊎ (c.after.vs ≡ 0)))

abbrev pub AreWhole : Point → List Cell → Type 0
AreWhole p [] = Unit {0}
AreWhole p (c ∷ cs) = IsWhole p c × AreWhole c.after cs
