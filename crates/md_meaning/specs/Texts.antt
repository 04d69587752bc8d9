-- A text of several lines, as of a paragraph, a label or a title.
use Rattle.std.specs.Prelude.{ℕ, if◌then◌else◌, List, [], ◌∷◌, map}
use Rattle.std.specs.List.{onto_first}
use Rattle.md_meaning.specs.Lines.{is_ending, ends_line}
use Rattle.md_meaning.specs.Rest.{trim_start}

-- A text split at its line endings (CommonMark 2.1): one line more than there are endings. The CR of a CR LF is
-- dropped, and its LF ends the line.
abbrev pub split_lines : List ℕ → List (List ℕ)
split_lines [] = [] ∷ []
split_lines (b ∷ bs) =
    let rest : List (List ℕ) = split_lines bs in
    if ends_line b bs then [] ∷ rest else if is_ending b then rest else onto_first b rest

-- lines without the spaces and tabs before each
abbrev pub trim_each : List (List ℕ) → List (List ℕ)
trim_each lines = map trim_start lines

-- lines without the spaces and tabs before each but the first
abbrev pub trim_further : List (List ℕ) → List (List ℕ)
trim_further [] = []
trim_further (line ∷ lines) = line ∷ trim_each lines

-- the first of some bytes, and 0 of none
abbrev pub first_byte : List ℕ → ℕ
first_byte [] = 0
first_byte (b ∷ bs) = b
