-- Line endings (CommonMark 2.1), and how long they are.
use Rattle.std.specs.Prelude.{ℕ, ◌&&◌, ◌==◌, if◌then◌else◌, List, [], ◌∷◌}
use Rattle.md_meaning.specs.Ascii.{carriage_return, line_feed}
use Rattle.md_meaning.specs.Lines.{begins_with}

-- how many bytes the line ending has that is first: two for CR LF, one for LF or CR
abbrev pub ending_len : List ℕ → ℕ
ending_len [] = 0
ending_len (b ∷ bytes) = if (b == carriage_return) && begins_with line_feed bytes then 2 else 1
