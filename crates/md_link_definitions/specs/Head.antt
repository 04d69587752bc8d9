-- The head of a table (GFM 4.10).
use Rattle.std.specs.Prelude.{ℕ, ◌+◌, Bool, ◌&&◌, ◌==◌, not, if◌then◌else◌, List, [], ◌∷◌, length}
use Rattle.std.specs.List.{list_all}
use Rattle.md_meaning.specs.Ascii.{backslash, pipe}
use Rattle.md_meaning.specs.Bytes.{is_end}
use Rattle.md_meaning.specs.Table.{is_head, row_cells}

-- how many cells a line has as a head; 0 if it may be none
abbrev pub head_columns : List ℕ → ℕ
head_columns line = if is_head line then length (row_cells line) else 0

-- whether a pipe divides: no backslash takes it, and something is after it
abbrev pub divides : ℕ → Bool → Bool → Bool
divides b escaped is_last = (not escaped && (b == pipe)) && not is_last

abbrev pub divided : ℕ → Bool → Bool → ℕ
divided b escaped is_last = if divides b escaped is_last then 1 else 0

-- how many pieces are between the pipes of a row
abbrev pub pieces_len : Bool → List ℕ → ℕ
pieces_len escaped [] = 1
pieces_len escaped (b ∷ bs) = divided b escaped (is_end bs) + pieces_len (not escaped && (b == backslash)) bs

-- whether no pipe is in a line
abbrev pub is_pipeless : List ℕ → Bool
is_pipeless line = list_all (λ b. not (b == pipe)) line
