-- Escapes and character references (CommonMark 2.4, 2.5).
use Rattle.std.specs.Prelude.{ℕ, Bool, false, ◌&&◌, ◌||◌, ◌==◌, nat_le, if◌then◌else◌, List, [], ◌∷◌, drop, Option}
use Rattle.std.specs.Prelude.{Some}
use Rattle.std.specs.Prelude.{None, option_map}
use Rattle.std.specs.List.{prefix_len, take_while}
use Rattle.std.specs.Char.{is_ascii_alphanumeric, is_ascii_digit, is_ascii_hexdigit, is_ascii_punctuation}
use Rattle.md_entities.specs.Names.{is_name}
use Rattle.md_meaning.specs.Ascii.{backslash, hash}
use Rattle.md_meaning.specs.Lines.{begins_with}
use Rattle.md_meaning.specs.Bytes.{begins}
use Rattle.md_inlines.specs.declared.Reference.{Reference}

abbrev pub semicolon : ℕ
semicolon = 59

abbrev pub ampersand : ℕ
ampersand = 38

-- a backslash before ASCII punctuation, which then represents itself
abbrev pub is_escape : List ℕ → Bool
is_escape [] = false
is_escape (b ∷ text) = (b == backslash) && begins is_ascii_punctuation text

-- how many of these bytes come first, if there are 1 to so many and then a `;`
abbrev pub value_len : (ℕ → Bool) → ℕ → List ℕ → Option ℕ
value_len test most text =
    let len : ℕ = prefix_len test text in
    if nat_le 1 len && nat_le len most && begins_with semicolon (drop len text) then Some len else None

-- a name of HTML, and then a `;`
abbrev pub name_len : List ℕ → Option ℕ
name_len text =
    let len : ℕ = prefix_len is_ascii_alphanumeric text in
    if begins_with semicolon (drop len text) && is_name (take_while is_ascii_alphanumeric text) then Some len else None

abbrev pub with_markers : ℕ → Option ℕ → Option Reference
with_markers markers value = option_map (λ (len : ℕ). record { markers = markers; value = len }) value

-- after `#`: a decimal number of 1 to 7 digits, or after `x` or `X` a hexadecimal one of 1 to 6
abbrev pub numeric : List ℕ → Option Reference
numeric [] = None
numeric (b ∷ text) =
    if (b == 120) || (b == 88) then with_markers 2 (value_len is_ascii_hexdigit 6 text)
    else with_markers 1 (value_len is_ascii_digit 7 (b ∷ text))

-- the character reference whose `&` is before this text
unfoldable pub reference_at : List ℕ → Option Reference
reference_at [] = None
reference_at (b ∷ text) = if b == hash then numeric text else with_markers 0 (name_len (b ∷ text))
