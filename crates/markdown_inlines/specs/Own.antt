-- Text between brackets as a label.
use Rattle.std.specs.Prelude.{ℕ, Bool, true, false, ◌||◌, ◌==◌, not, if◌then◌else◌, List, [], ◌∷◌}
use Rattle.md_meaning.specs.Ascii.{backslash, left_bracket, right_bracket}

-- Whether a bracket after a text is the first that no backslash takes. `escaped` says that a backslash takes the byte
-- that is next.
abbrev pub is_whole : Bool → List ℕ → Bool
is_whole escaped [] = not escaped
is_whole true (b ∷ text) = is_whole false text
is_whole false (b ∷ text) =
    if (b == right_bracket) || (b == left_bracket) then false else is_whole (b == backslash) text
