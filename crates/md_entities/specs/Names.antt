-- The named character references of HTML (CommonMark 2.5): what the table of `src/table.rt` says.
use Rattle.std.specs.Prelude.{ℕ, suc, Bool, ◌==◌, not, if◌then◌else◌, List, [], ◌∷◌, drop, Option, Some, None, option_map}
use Rattle.std.specs.Prelude.{is_some, slice_index}
use Rattle.std.specs.List.{slice_split, take_while}
use Rattle.std.specs.Str.{bytes_eq}
use Rattle.md_entities.specs.declared.Characters.{Characters}
use Rattle.md_entities.specs.declared.table.TheConstants.{FIRST, NAMES, SECOND}

abbrev pub is_semicolon : ℕ → Bool
is_semicolon b = b == 59

-- the names, without `&` and `;`: in the table a `;` is between each two
unfoldable pub names : List (List ℕ)
names = slice_split is_semicolon NAMES

-- the name that starts at a byte of such a text
abbrev pub name_from : List ℕ → ℕ → List ℕ
name_from text start = take_while (λ b. not (is_semicolon b)) (drop start text)

-- the place of a name among names, from 0
abbrev pub place_among : List (List ℕ) → List ℕ → Option ℕ
place_among [] name = None
place_among (known ∷ others) name =
    if bytes_eq known name then Some 0 else option_map suc (place_among others name)

-- the place of a name in the table
unfoldable pub place_of : List ℕ → Option ℕ
place_of name = place_among names name

-- a character, unless it is U+0000
abbrev pub unless_null : ℕ → Option ℕ
unless_null c = if c == 0 then None else Some c

-- the characters of the name at a place
abbrev pub characters_at : ℕ → Characters
characters_at place = record { first = slice_index FIRST place; second = unless_null (slice_index SECOND place) }

-- what a name represents
unfoldable pub characters_of : List ℕ → Option Characters
characters_of name = option_map characters_at (place_of name)

-- whether this is one of the names
unfoldable pub is_name : List ℕ → Bool
is_name name = is_some (place_of name)
