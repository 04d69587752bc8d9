-- Raw HTML (CommonMark 6.6), over as many lines as it takes. Each form is given after its first bytes, and says what
-- follows it.
use Rattle.std.specs.Prelude.{ℕ, zero, suc, Bool, ◌&&◌, ◌||◌, ◌==◌, not, nat_eq, if◌then◌else◌, List, [], ◌∷◌, length}
use Rattle.std.specs.Prelude.{drop, Option, Some, None, codes}
use Rattle.std.specs.List.{starts_with}
use Rattle.std.specs.Char.{is_ascii_alphabetic}
use Rattle.md_meaning.specs.Ascii.{double_quote, equals_sign, exclamation_mark, greater_than, line_feed, single_quote}
use Rattle.md_meaning.specs.Ascii.{slash}
use Rattle.md_meaning.specs.Bytes.{after, after_optional, begins}
use Rattle.md_meaning.specs.Html as html
use Rattle.md_meaning.specs.Lines.{begins_with}
use Rattle.md_inlines.specs.Characters.{is_gap}
use Rattle.md_inlines.specs.Target.{after_gap}

-- what follows this byte, if it comes first
abbrev pub after_byte : ℕ → List ℕ → Option (List ℕ)
after_byte byte [] = None
after_byte byte (b ∷ bytes) = if b == byte then Some bytes else None

-- what follows the first place where a text has these bytes
abbrev pub after_word : List ℕ → List ℕ → Option (List ℕ)
after_word word [] = None
after_word word (b ∷ bytes) =
    if starts_with nat_eq (b ∷ bytes) word then Some (drop (length word) (b ∷ bytes)) else after_word word bytes

-- the bytes of a value without quotes
abbrev pub is_value_byte : ℕ → Bool
is_value_byte b = html.is_value_byte b && not (b == line_feed)

-- a value: in quotes, or a run of bytes that is not empty
unfoldable pub after_value : List ℕ → Option (List ℕ)
after_value [] = None
after_value (b ∷ bytes) =
    if (b == double_quote) || (b == single_quote) then html.after_next b bytes
    else if is_value_byte b then Some (after is_value_byte bytes)
    else None

-- perhaps `=` and a value
unfoldable pub after_assignment : List ℕ → Option (List ℕ)
after_assignment rest =
    if begins_with equals_sign (after_gap rest) then after_value (after_gap (drop 1 (after_gap rest))) else Some rest

-- an attribute: whitespace, a name, and perhaps `=` and a value
unfoldable pub after_attribute : List ℕ → Option (List ℕ)
after_attribute rest =
    if begins is_gap rest && begins html.begins_attribute (after_gap rest)
    then after_assignment (after html.is_attribute_byte (after_gap rest)) else None

-- what follows where this is taken off as often as it comes first, at most so many times
abbrev pub repeated : (List ℕ → Option (List ℕ)) → ℕ → List ℕ → List ℕ
repeated step zero rest = rest
repeated step (suc n) rest = elim (step rest) [ Some more ↦ repeated step n more | None ↦ rest ]

abbrev pub after_attributes : List ℕ → List ℕ
after_attributes rest = repeated after_attribute (length rest) rest

-- an opening tag, after its name
unfoldable pub after_opening : List ℕ → Option (List ℕ)
after_opening rest = after_byte greater_than (after_optional slash (after_gap (after_attributes rest)))

-- a closing tag, after `</`
unfoldable pub after_closing : List ℕ → Option (List ℕ)
after_closing rest =
    if begins is_ascii_alphabetic rest then after_byte greater_than (after_gap (after html.is_tag_byte rest)) else None

-- a comment, after `<!--`: `<!-->`, `<!--->`, or up to the first `-->`
unfoldable pub after_comment : List ℕ → Option (List ℕ)
after_comment rest =
    if begins_with greater_than rest then Some (drop 1 rest)
    else if starts_with nat_eq rest (codes "->") then Some (drop 2 rest)
    else after_word (codes "-->") rest

-- after `<!`: a comment, a CDATA section, or a declaration, which begins with a letter
unfoldable pub after_marked : List ℕ → Option (List ℕ)
after_marked rest =
    if starts_with nat_eq rest (codes "--") then after_comment (drop 2 rest)
    else if starts_with nat_eq rest (codes "[CDATA[") then after_word (codes "]]>") (drop 7 rest)
    else if begins is_ascii_alphabetic rest then html.after_next greater_than rest
    else None

-- what follows the HTML whose `<` is before this text
unfoldable pub after_html : List ℕ → Option (List ℕ)
after_html [] = None
after_html (b ∷ rest) =
    if b == exclamation_mark then after_marked rest
    else if b == 63 then after_word (codes "?>") rest
    else if b == slash then after_closing rest
    else if is_ascii_alphabetic b then after_opening (after html.is_tag_byte rest)
    else None
