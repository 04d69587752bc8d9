-- The lines of a text (CommonMark 2.1).
use Rattle.std.specs.Prelude.{ℕ, Bool, false, ◌&&◌, ◌||◌, ◌==◌, not, if◌then◌else◌, List, [], ◌∷◌, map}
use Rattle.std.specs.List.{take_while, onto_first}
use Rattle.md_meaning.specs.Ascii.{carriage_return, line_feed}

-- a line feed or a carriage return
abbrev pub is_ending : ℕ → Bool
is_ending b = (b == line_feed) || (b == carriage_return)

-- whether this byte comes first
abbrev pub begins_with : ℕ → List ℕ → Bool
begins_with b [] = false
begins_with b (c ∷ bytes) = c == b

-- whether this byte, before these, is the last of a line ending: LF, CR or CRLF
abbrev pub ends_line : ℕ → List ℕ → Bool
ends_line b bytes = (b == line_feed) || ((b == carriage_return) && not (begins_with line_feed bytes))

-- the lines with their endings: an empty rest after the last ending is no line (own choice)
abbrev pub full_lines_of : List ℕ → List (List ℕ)
full_lines_of [] = []
full_lines_of (b ∷ bytes) =
    if ends_line b bytes then (b ∷ []) ∷ full_lines_of bytes else onto_first b (full_lines_of bytes)

-- a line without its ending
abbrev pub without_ending : List ℕ → List ℕ
without_ending line = take_while (λ b. not (is_ending b)) line

-- the lines without their endings
abbrev pub lines_of : List ℕ → List (List ℕ)
lines_of text = map without_ending (full_lines_of text)
