-- What the rests of the program mean.
use Rattle.std.specs.Prelude.{ℕ, ◌==◌, ◌&&◌, if◌then◌else◌, List, [], ◌∷◌, map, drop}
use Rattle.md_meaning.specs.Lines.{begins_with}
use Rattle.md_meaning.specs.Rest as r
use Rattle.reference_tree.specs.declared.rest.Rest.{Rest}

abbrev pub rest_meaning : Rest → r.Rest
rest_meaning x = record { column = x.column; spaces = x.spaces; bytes = x.bytes.now }

abbrev pub rest_meanings : List Rest → List r.Rest
rest_meanings xs = map rest_meaning xs

-- what follows the line ending that comes first
abbrev pub after_ending : List ℕ → List ℕ
after_ending [] = []
after_ending (b ∷ bytes) = if (b == 13) && begins_with 10 bytes then drop 1 bytes else bytes
