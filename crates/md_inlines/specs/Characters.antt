-- Characters (CommonMark 2.1): Unicode whitespace and punctuation.
use Rattle.std.specs.Prelude.{ℕ, ◌-◌, Bool, ◌&&◌, ◌||◌, ◌==◌, nat_le, nat_lt, if◌then◌else◌, List, [], ◌∷◌, length}
use Rattle.std.specs.Prelude.{drop}
use Rattle.std.specs.Prelude.{Option, Some, None, chars, slice_get}
use Rattle.std.specs.List.{suffix_len, take_while}
use Rattle.std.specs.Char.{is_ascii_punctuation}
use Rattle.std.specs.Str.{is_utf8}
use Rattle.ucd_category.specs.GeneralCategory.{general_category, general_category_eq}
use Rattle.ucd_category.specs.GeneralCategoryGroup.{in_group}
use Rattle.ucd_category.specs.declared.GeneralCategory.TheVariants.{SpaceSeparator}
use Rattle.ucd_category.specs.declared.GeneralCategoryGroup.TheVariants.{Punctuation, Symbol}
use Rattle.md_meaning.specs.Ascii.{carriage_return, line_feed, space, tab}
use Rattle.md_meaning.specs.Rest.{is_white}
use Rattle.md_inlines.specs.declared.Side.{Side}
use Rattle.md_inlines.specs.declared.Side.TheVariants as beside

-- a space, a tab or a line ending
abbrev pub is_gap : ℕ → Bool
is_gap b = is_white b || (b == line_feed)

-- Unicode whitespace: tab, LF, FF, CR, and the characters of category Zs
abbrev pub is_whitespace : ℕ → Bool
is_whitespace c =
    if nat_lt c 128
    then (c == tab) || (c == line_feed) || (c == 12) || (c == carriage_return) || (c == space)
    else general_category_eq (general_category c) SpaceSeparator

-- Unicode punctuation: ASCII punctuation, and the characters of the categories P and S
abbrev pub is_punctuation : ℕ → Bool
is_punctuation c =
    if nat_lt c 128 then is_ascii_punctuation c
    else in_group Punctuation (general_category c) || in_group Symbol (general_category c)

-- In a text of UTF-8, a byte that is not the first of a character.
abbrev pub is_within : ℕ → Bool
is_within b = nat_le 128 b && nat_lt b 192

-- the bytes of the first character of a text, and of the last
abbrev pub first_bytes : List ℕ → List ℕ
first_bytes [] = []
first_bytes (b ∷ text) = b ∷ take_while is_within text

abbrev pub last_bytes : List ℕ → List ℕ
last_bytes text = drop (length text - suffix_len is_within text - 1) text

-- the character that these bytes spell, if they are UTF-8
abbrev pub character : List ℕ → Option ℕ
character bytes = if is_utf8 bytes then slice_get (chars bytes) 0 else None

-- what these bytes of a character are beside a delimiter run; an end of the text counts as whitespace (CommonMark 6.2)
abbrev pub side_of : ℕ → Side
side_of c = if is_whitespace c then beside.White else if is_punctuation c then beside.Punctuation else beside.Other

unfoldable pub side : List ℕ → Side
side [] = beside.White
side (b ∷ []) = if nat_lt b 128 then side_of b else beside.Other
side (b ∷ c ∷ bytes) = elim (character (b ∷ c ∷ bytes)) [ Some found ↦ side_of found | None ↦ beside.Other ]
