-- Tables: the cells of a row, and delimiter rows (GFM 4.10).
use Rattle.std.specs.Prelude.{ℕ, Bool, true, false, ◌&&◌, ◌||◌, not, ◌==◌, if◌then◌else◌, List, [], ◌∷◌, map, length}
use Rattle.std.specs.Prelude.{Option, Some, None}
use Rattle.std.specs.List.{list_any, list_all, onto_first}
use Rattle.md_meaning.specs.Lines.{begins_with}
use Rattle.md_meaning.specs.Rest.{trim}
use Rattle.md_meaning.specs.Bytes.{is_end, after, after_optional}
use Rattle.md_meaning.specs.Ascii.{backslash, colon, hyphen, pipe}

-- what a byte of a row makes of the pieces after it: a pipe divides, unless it is the last byte
abbrev pub with_byte : ℕ → Bool → List (List ℕ) → List (List ℕ)
with_byte b is_last pieces = if b == pipe then (if is_last then pieces else [] ∷ pieces) else onto_first b pieces

-- the pieces between the pipes of a row; `escaped` says that a backslash takes the byte that is next
unfoldable pub pieces : Bool → List ℕ → List (List ℕ)
pieces escaped [] = [] ∷ []
pieces true (b ∷ bs) = onto_first b (pieces false bs)
pieces false (b ∷ bs) = with_byte b (is_end bs) (pieces (b == backslash) bs)

-- the cells of a row: one pipe at its front and one at its end enclose them
unfoldable pub row_cells : List ℕ → List (List ℕ)
row_cells row = map trim (pieces false (after_optional pipe (trim row)))

-- a cell of a delimiter row: dashes, with a colon perhaps on either side
abbrev pub is_delimiter : List ℕ → Bool
is_delimiter cell =
    begins_with hyphen (after_optional colon cell)
    && is_end (after_optional colon (after (λ b. b == hyphen) (after_optional colon cell)))

-- how many columns a delimiter row has; a line of dashes alone is none (own choice)
unfoldable pub delimiter_columns : List ℕ → Option ℕ
delimiter_columns row =
    if list_any (λ b. (b == colon) || (b == pipe)) row && list_all is_delimiter (row_cells row)
    then Some (length (row_cells row)) else None

-- whether a line may be a head: it is not just a pipe with spaces and tabs around it (own choice)
unfoldable pub is_head : List ℕ → Bool
is_head line = not (begins_with pipe (trim line) && is_end (after_optional pipe (trim line)))
