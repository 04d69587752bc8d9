-- What pieces are over: the bytes that each may have.
use Rattle.std.specs.Prelude.{ℕ, Bool, false, ◌&&◌, ◌||◌, ◌==◌, not, nat_le, List, [], ◌∷◌, codes, length}
use Rattle.std.specs.List.{list_all}
use Rattle.std.specs.Str.{bytes_eq}
use Rattle.md_meaning.specs.Alert.{is_marker}
use Rattle.md_meaning.specs.Lines.{is_ending}
use Rattle.md_meaning.specs.Ascii.{asterisk, backtick, carriage_return, equals_sign, hyphen, less_than, line_feed}
use Rattle.md_meaning.specs.Ascii.{space, tab, tilde, underscore}

-- so many of this byte at least, and nothing else
abbrev pub is_run : ℕ → ℕ → List ℕ → Bool
is_run least byte text = nat_le least (length text) && list_all (λ b. b == byte) text

-- one of these bytes
abbrev pub is_one_of : List ℕ → List ℕ → Bool
is_one_of bytes [] = false
is_one_of bytes (b ∷ []) = not (list_all (λ c. not (b == c)) bytes)
is_one_of bytes (b ∷ c ∷ text) = false

-- LF, CR or CR LF (CommonMark 2.1)
abbrev pub is_line_ending : List ℕ → Bool
is_line_ending text =
    bytes_eq text (line_feed ∷ []) || bytes_eq text (carriage_return ∷ [])
    || bytes_eq text (carriage_return ∷ line_feed ∷ [])

-- bytes of one line
abbrev pub is_in_line : List ℕ → Bool
is_in_line text = list_all (λ b. not (is_ending b)) text

abbrev pub is_digit : ℕ → Bool
is_digit b = nat_le 48 b && nat_le b 57

abbrev pub is_byte_order_mark : List ℕ → Bool
is_byte_order_mark text = bytes_eq text (239 ∷ 187 ∷ 191 ∷ [])

-- of frontmatter
abbrev pub is_frontmatter_sequence : List ℕ → Bool
is_frontmatter_sequence text = bytes_eq text (codes "---") || bytes_eq text (codes "+++")

-- `>` (CommonMark 5.1), or the marker of an alert
abbrev pub is_quote_marker : List ℕ → Bool
is_quote_marker text = is_one_of (codes ">") text || is_marker text

-- at most nine digits (CommonMark 5.2)
abbrev pub is_item_value : List ℕ → Bool
is_item_value text = nat_le (length text) 9 && list_all is_digit text

-- an underline (CommonMark 4.3)
abbrev pub is_underline : List ℕ → Bool
is_underline text = is_run 1 equals_sign text || is_run 1 hyphen text

-- a run of a thematic break (CommonMark 4.1)
abbrev pub is_break_run : List ℕ → Bool
is_break_run text = is_run 1 asterisk text || is_run 1 hyphen text || is_run 1 underscore text

-- three backticks or tildes at least (CommonMark 4.5)
abbrev pub is_code_fence : List ℕ → Bool
is_code_fence text = is_run 3 backtick text || is_run 3 tilde text

-- What pieces of inline layers are over.

-- strong emphasis (CommonMark 6.2)
abbrev pub is_strong_sequence : List ℕ → Bool
is_strong_sequence text = bytes_eq text (codes "**") || bytes_eq text (codes "__")

-- one tilde or two (GFM 6.5)
abbrev pub is_strikethrough_sequence : List ℕ → Bool
is_strikethrough_sequence text = is_run 1 tilde text && nat_le (length text) 2

-- the address of an autolink: no whitespace, and no `<` (CommonMark 6.5, GFM 6.9)
abbrev pub is_address_byte : ℕ → Bool
is_address_byte b = not ((b == space) || (b == tab) || is_ending b || (b == less_than))

abbrev pub is_address : List ℕ → Bool
is_address text = list_all is_address_byte text

-- ASCII punctuation (CommonMark 2.1)
abbrev pub is_punctuation : ℕ → Bool
is_punctuation b =
    (nat_le 33 b && nat_le b 47) || (nat_le 58 b && nat_le b 64) || (nat_le 91 b && nat_le b 96)
    || (nat_le 123 b && nat_le b 126)

-- what a backslash escapes (CommonMark 2.4)
abbrev pub is_escaped : List ℕ → Bool
is_escaped [] = false
is_escaped (b ∷ []) = is_punctuation b
is_escaped (b ∷ c ∷ text) = false

-- the name or the number of a character: letters and digits (CommonMark 2.5)
abbrev pub is_letter_or_digit : ℕ → Bool
is_letter_or_digit b = is_digit b || (nat_le 65 b && nat_le b 90) || (nat_le 97 b && nat_le b 122)

abbrev pub is_character : List ℕ → Bool
is_character text = list_all is_letter_or_digit text
