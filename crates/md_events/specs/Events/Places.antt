-- The points of a text: where they are, and which comes first.
use Rattle.std.specs.Prelude.{ℕ, ◌+◌, ◌-◌, Bool, ◌&&◌, ◌||◌, ◌==◌, not, nat_lt, nat_le, if◌then◌else◌, List, [], ◌∷◌}
use Rattle.std.specs.Prelude.{length, take, drop}
use Rattle.std.specs.List.{list_all}
use Rattle.md_engine.specs.declared.event.Point.{Point}
use Rattle.md_engine.specs.declared.event.Event.{Event}
use Rattle.md_engine.specs.Place.{is_pair}
pub use Rattle.md_engine.specs.Place.{first_point}
use Rattle.md_meaning.specs.Rest.{tab_columns}
use Rattle.md_meaning.specs.Texts.{split_lines, first_byte}

-- the column after a byte that begins in this column, both counted from 0 (CommonMark 2.2)
abbrev pub column_past : ℕ → ℕ → ℕ
column_past b column = if b == 9 then column + tab_columns column else column + 1

-- the columns up to the end of a piece of a line that begins in this column
abbrev pub columns_from : ℕ → List ℕ → ℕ
columns_from column [] = column
columns_from column (b ∷ bs) = columns_from (column_past b column) bs

abbrev pub last_line : List (List ℕ) → List ℕ
last_line [] = []
last_line (line ∷ []) = line
last_line (line ∷ next ∷ lines) = last_line (next ∷ lines)

-- the columns of the last line before a byte
abbrev pub columns_before : List ℕ → ℕ → ℕ
columns_before bytes index = columns_from 0 (last_line (split_lines (take index bytes)))

-- Whether virtual spaces are counted only within a tab.
abbrev pub within_tab : List ℕ → Point → Bool
within_tab bytes p =
    (p.vs == 0) || ((first_byte (drop p.index bytes) == 9) && nat_lt p.vs (tab_columns (columns_before bytes p.index)))

-- whether a byte is the LF of a CR LF, which is one ending
abbrev pub splits_pair : List ℕ → ℕ → Bool
splits_pair bytes index = nat_lt 0 index && is_pair bytes (index - 1)

-- Whether a point is one of the text: its line is 1 plus the line endings before it, its column 1 plus the columns
-- before it on that line, and it is not inside an ending.
abbrev pub is_placed : List ℕ → Point → Bool
is_placed bytes p =
    nat_le p.index (length bytes) && within_tab bytes p
    && (p.line == length (split_lines (take p.index bytes)))
    && (p.column == columns_before bytes p.index + p.vs + 1)
    && not (splits_pair bytes p.index)

-- whether the points of some events are
abbrev pub are_placed : List ℕ → List Event → Bool
are_placed bytes events = list_all (λ (e : Event). is_placed bytes e.point) events

-- whether two points are one: byte and virtual spaces
abbrev pub same_place : Point → Point → Bool
same_place p q = (p.index == q.index) && (p.vs == q.vs)

-- whether a point does not come after another
abbrev pub at_or_before : Point → Point → Bool
at_or_before p q = nat_lt p.index q.index || ((p.index == q.index) && nat_le p.vs q.vs)

-- the point after a byte of a line, also from within a tab
abbrev pub past_byte : ℕ → Point → Point
past_byte b p = record { line = p.line; column = column_past b (p.column - 1) + 1; index = p.index + 1; vs = 0 }

-- the point after a piece of a line
abbrev pub past_text : List ℕ → Point → Point
past_text [] p = p
past_text (b ∷ bs) p = past_text bs (past_byte b p)
