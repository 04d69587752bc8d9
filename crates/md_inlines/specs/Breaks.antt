-- Line breaks (CommonMark 6.7, 6.8).
use Rattle.std.specs.Prelude.{ℕ, Bool, true, false, ◌&&◌, ◌==◌, nat_le, if◌then◌else◌, List, [], ◌∷◌, take, drop}
use Rattle.std.specs.List.{prefix_len, suffix_len}
use Rattle.md_meaning.specs.Ascii.{backslash, line_feed, space}
use Rattle.md_meaning.specs.Lines.{begins_with}
use Rattle.md_meaning.specs.Rest.{is_white}

-- whether the text or its line ends here
abbrev pub ends_here : List ℕ → Bool
ends_here [] = true
ends_here (b ∷ text) = b == line_feed

-- a backslash before a line ending
abbrev pub is_break_escape : List ℕ → Bool
is_break_escape [] = false
is_break_escape (b ∷ text) = (b == backslash) && begins_with line_feed text

-- how many spaces and tabs come first, if the line ends after them
unfoldable pub trailing_len : List ℕ → ℕ
trailing_len text = if ends_here (drop (prefix_len is_white text) text) then prefix_len is_white text else 0

-- how many of these are spaces that make a hard break: two or more right before a line ending
unfoldable pub break_len : List ℕ → ℕ
break_len text =
    let len : ℕ = trailing_len text in
    let spaces : ℕ = suffix_len (λ b. b == space) (take len text) in
    if nat_le 2 spaces && begins_with line_feed (drop len text) then spaces else 0
