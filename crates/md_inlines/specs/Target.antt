-- What a link or an image leads to (CommonMark 6.3): labels and resources.
use Rattle.std.specs.Prelude.{ℕ, suc, ◌+◌, ◌-◌, Bool, false, ◌&&◌, ◌||◌, ◌==◌, not, nat_lt, if◌then◌else◌, List, []}
use Rattle.std.specs.Prelude.{◌∷◌, ◌++◌, length, take, drop, Option, Some, None, option_map}
use Rattle.std.specs.List.{list_any, slice_split}
use Rattle.md_meaning.specs.Ascii.{backslash, greater_than, left_bracket, left_parenthesis, less_than, line_feed}
use Rattle.md_meaning.specs.Ascii.{right_bracket, right_parenthesis}
use Rattle.md_meaning.specs.Bytes.{after_optional}
use Rattle.md_meaning.specs.Definition as definition
use Rattle.md_meaning.specs.Enclosed.{Broken, Closed, Enclosed, Open, enclosed}
use Rattle.md_meaning.specs.Lines.{begins_with}
use Rattle.md_meaning.specs.Rest.{trim_start}
use Rattle.md_inlines.specs.declared.Resource.{Resource}

-- the lines of a text
abbrev pub lines : List ℕ → List (List ℕ)
lines text = slice_split (λ b. b == line_feed) text

-- a label: not blank, and at most 999 bytes (own choice: the standard counts characters)
abbrev pub is_label : List ℕ → Bool
is_label text = definition.is_label (lines text)

-- how many bytes are between two marks, the first of which is before this text
abbrev pub length_in : Enclosed → Option ℕ
length_in (Closed text rest) = Some (length text)
length_in Open = None
length_in Broken = None

abbrev pub enclosed_len : ℕ → ℕ → List ℕ → Option ℕ
enclosed_len opener closer text = length_in (enclosed opener closer false text)

-- how many bytes of a label are before its `]`, whose `[` is before this text; no bare bracket is in it
unfoldable pub label_len : List ℕ → Option ℕ
label_len text = elim (enclosed_len left_bracket right_bracket text) [
  | Some len ↦ (if is_label (take len text) then Some len else None)
  | None ↦ None
]

-- whether the text between two brackets is a label
abbrev pub is_own_label : List ℕ → Bool
is_own_label text = elim (label_len (text ++ right_bracket ∷ [])) [ Some len ↦ len == length text | None ↦ false ]

-- what follows spaces, tabs and at most one line ending
abbrev pub after_gap : List ℕ → List ℕ
after_gap text = trim_start (after_optional line_feed (trim_start text))

abbrev pub gap_len : List ℕ → ℕ
gap_len text = length text - length (after_gap text)

-- A destination in angle brackets, after its `<`: how many bytes are before its `>`. It has no line ending.
unfoldable pub literal_len : List ℕ → Option ℕ
literal_len text = elim (enclosed_len less_than greater_than text) [
  | Some len ↦ (if list_any (λ b. b == line_feed) (take len text) then None else Some len)
  | None ↦ None
]

-- A destination without angle brackets ends before a byte that none has, and before a `)` that it does not open. So
-- many parentheses are open; `escaped` says that a backslash takes the byte.
abbrev pub ends_raw : ℕ → Bool → ℕ → Bool
ends_raw depth escaped b =
    not (definition.is_raw_byte b) || (not escaped && (b == right_parenthesis) && (depth == 0))

-- at most 32 parentheses are open (own choice)
abbrev pub is_too_deep : ℕ → Bool → ℕ → Bool
is_too_deep depth escaped b = not escaped && (b == left_parenthesis) && (depth == 32)

abbrev pub depth_after : ℕ → Bool → ℕ → ℕ
depth_after depth escaped b = if escaped then depth else definition.depth_after depth b

abbrev pub is_escaped_after : Bool → ℕ → Bool
is_escaped_after escaped b = not escaped && (b == backslash)

-- a byte of it that opens and closes nothing: those after `)` but a backslash and U+007F
abbrev pub is_plain_raw : ℕ → Bool
is_plain_raw b = nat_lt 41 b && not (b == backslash) && not (b == 127)

-- so many bytes, if each parenthesis is closed
abbrev pub closed : ℕ → ℕ → Option ℕ
closed depth len = if depth == 0 then Some len else None

-- how many bytes of it come first
unfoldable pub raw_len : ℕ → Bool → List ℕ → Option ℕ
raw_len depth escaped [] = closed depth 0
raw_len depth escaped (b ∷ text) =
    if ends_raw depth escaped b then closed depth 0
    else if is_too_deep depth escaped b then None
    else option_map suc (raw_len (depth_after depth escaped b) (is_escaped_after escaped b) text)

-- how many bytes a destination has, with its angle brackets if it has some
unfoldable pub destination_len : List ℕ → Option ℕ
destination_len text =
    if begins_with less_than text then option_map (λ (len : ℕ). len + 2) (literal_len (drop 1 text))
    else raw_len 0 false text

-- how many bytes the title has that comes first, with its marks
unfoldable pub title_len : List ℕ → Option ℕ
title_len [] = None
title_len (b ∷ text) = elim (definition.title_closer b) [
  | Some closer ↦ option_map (λ (len : ℕ). len + 2) (enclosed_len b closer text)
  | None ↦ None
]

-- a title after a destination: whitespace is between them; 0 if there is none
abbrev pub title_after : ℕ → ℕ → List ℕ → ℕ
title_after destination gap text =
    if nat_lt 0 destination && nat_lt 0 gap then elim (title_len text) [ Some len ↦ len | None ↦ 0 ] else 0

-- the whitespace after a title; 0 where there is none
abbrev pub last_gap : ℕ → List ℕ → ℕ
last_gap title text = if title == 0 then 0 else gap_len text

-- a resource with a destination of so many bytes, after whitespace; a `)` ends it
abbrev pub with_destination : List ℕ → ℕ → Option Resource
with_destination text len =
    let rest : List ℕ = drop len (after_gap text) in
    let title : ℕ = title_after len (gap_len rest) (after_gap rest) in
    let last : List ℕ = drop title (after_gap rest) in
    let after : ℕ = last_gap title last in
    if begins_with right_parenthesis (drop after last)
    then Some
    (record {
      before = gap_len text;
      destination = len;
      is_literal = begins_with less_than (after_gap text);
      between = gap_len rest;
      title = title;
      after = after;
    })
    else None

-- the resource whose `(` is before this text: a destination and a title, each of which may be absent
unfoldable pub resource_at : List ℕ → Option Resource
resource_at text = elim (destination_len (after_gap text)) [
  | Some len ↦ with_destination text len
  | None ↦ None
]
