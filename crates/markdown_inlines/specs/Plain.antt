-- Bytes that begin nothing.
use Rattle.std.specs.Prelude.{ℕ, ◌+◌, Bool, false, ◌&&◌, ◌||◌, ◌==◌, not, if◌then◌else◌, List, [], ◌∷◌, codes}
use Rattle.std.specs.List.{list_any}
use Rattle.md_meaning.specs.Ascii.{line_feed}
use Rattle.md_inlines.specs.Breaks.{trailing_len}

-- Whether nothing but trailing whitespace begins with a byte. `literals` says whether addresses without angle brackets
-- are read: these begin with `http` or `www`.
abbrev pub is_plain : Bool → ℕ → Bool
is_plain literals b =
    not (list_any (λ c. c == b) (codes "!$&*<[\\]_`~")) && not (literals && list_any (λ c. c == b) (codes "HWhw"))

-- How far text goes in a line. So many bytes are such ones, whitespace at their end is after `dark` of them, and these
-- bytes follow.
abbrev pub line_end : ℕ → ℕ → List ℕ → ℕ
line_end dark len [] = dark
line_end dark len (b ∷ rest) = if not (b == line_feed) then len else if dark == len then len + 1 else dark

-- whether the first of two bytes is that of `http` or `www`, in any case, and the second is not
abbrev pub differs : ℕ → ℕ → Bool
differs b c =
    (list_any (λ x. x == b) (codes "Hh") && not (list_any (λ x. x == c) (codes "Tt")))
    || (list_any (λ x. x == b) (codes "Ww") && not (list_any (λ x. x == c) (codes "Ww")))

-- whether a text begins with two such bytes: no address is there
abbrev pub is_quiet : List ℕ → Bool
is_quiet [] = false
is_quiet (b ∷ []) = false
is_quiet (b ∷ c ∷ text) = differs b c

-- whether the first of two bytes begins no address that is read, or nothing at all, and ends no line
abbrev pub is_inner_by : Bool → ℕ → ℕ → Bool
is_inner_by literals b c = not (b == line_feed) && ((literals && differs b c) || is_plain literals b)

-- whether a text begins with such a byte
abbrev pub is_inner : Bool → List ℕ → Bool
is_inner literals [] = false
is_inner literals (b ∷ text) = not (b == line_feed) && ((literals && is_quiet (b ∷ text)) || is_plain literals b)

-- how many such bytes are at the front
abbrev pub inner_len : Bool → List ℕ → ℕ
inner_len literals [] = 0
inner_len literals (b ∷ text) = if is_inner literals (b ∷ text) then 1 + inner_len literals text else 0

-- whether a text begins with a byte of text
abbrev pub begins_text : Bool → List ℕ → Bool
begins_text literals [] = false
begins_text literals (b ∷ text) =
    (is_plain literals b || is_quiet (b ∷ text)) && (trailing_len (b ∷ text) == 0)

-- whether a byte is a mark or a bracket, with which no atom begins
abbrev pub is_bare : ℕ → Bool
is_bare b = list_any (λ c. c == b) (codes "!*[]_~")
