-- Where the pieces of a row end.
use Rattle.std.specs.Prelude.{ℕ, suc, Bool, true, false, ◌==◌, if◌then◌else◌, List, [], ◌∷◌}

-- how many bytes are before the first pipe that no backslash takes; `escaped` says that one takes the byte that is next
abbrev pub piece_len : Bool → List ℕ → ℕ
piece_len escaped [] = 0
piece_len true (b ∷ bs) = suc (piece_len false bs)
piece_len false (b ∷ bs) = if b == 124 then 0 else suc (piece_len (b == 92) bs)
