-- What is still to come of a line.
use Rattle.std.specs.Prelude.{ℕ, Bool, true, false, ◌==◌, if◌then◌else◌, List, [], ◌∷◌, drop}
use Rattle.std.specs.List.{prefix_len}

-- whether the line ends here
abbrev pub is_end : List ℕ → Bool
is_end [] = true
is_end (b ∷ bytes) = false

-- whether a byte comes first that passes
abbrev pub begins : (ℕ → Bool) → List ℕ → Bool
begins test [] = false
begins test (b ∷ bytes) = test b

-- without the bytes at the front that pass
abbrev pub after : (ℕ → Bool) → List ℕ → List ℕ
after test bytes = drop (prefix_len test bytes) bytes

-- without this byte, if it comes first
abbrev pub after_optional : ℕ → List ℕ → List ℕ
after_optional byte [] = []
after_optional byte (b ∷ bytes) = if b == byte then bytes else b ∷ bytes
