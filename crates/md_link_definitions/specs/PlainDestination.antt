-- Destinations that reach to the end of their line and have no byte with a meaning (CommonMark 6.3).
use Rattle.std.specs.Prelude.{ℕ, Bool, false, ◌&&◌, ◌||◌, ◌==◌, not, nat_lt, List, [], ◌∷◌}
use Rattle.std.specs.List.{list_all}
use Rattle.md_meaning.specs.Ascii.{backslash, left_parenthesis, less_than, right_parenthesis}

-- no space, no control of ASCII, no parenthesis and no backslash
abbrev pub is_plain_byte : ℕ → Bool
is_plain_byte b =
    nat_lt 32 b && not ((b == left_parenthesis) || (b == right_parenthesis) || (b == backslash) || (b == 127))

-- whether a line is such a destination, without angle brackets
abbrev pub is_plain_destination : List ℕ → Bool
is_plain_destination [] = false
is_plain_destination (b ∷ bytes) = not (b == less_than) && list_all is_plain_byte (b ∷ bytes)
