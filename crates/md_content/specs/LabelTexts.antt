-- The text of a label as one line: the ending of a line parts words as a space does.
use Rattle.std.specs.Prelude.{ℕ, if◌then◌else◌, List, map}
use Rattle.md_meaning.specs.Ascii.{space}
use Rattle.md_meaning.specs.Lines.{is_ending}

abbrev pub unended : ℕ → ℕ
unended b = if is_ending b then space else b

abbrev pub on_one_line : List ℕ → List ℕ
on_one_line bytes = map unended bytes
