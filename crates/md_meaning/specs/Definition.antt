-- Link reference definitions (CommonMark 4.7). A paragraph's lines are given without leading spaces and tabs. What is
-- still to come is a list of lines, of which the first may be the rest of one.
use Rattle.std.specs.Prelude.{ℕ, zero, suc, ◌+◌, ◌-◌, Bool, true, false, ◌&&◌, ◌||◌, not, nat_lt, nat_le, ◌==◌}
use Rattle.std.specs.Prelude.{if◌then◌else◌, List, [], ◌∷◌, length, sum_by, Option, Some, None}
use Rattle.std.specs.List.{list_all, take_while}
use Rattle.md_meaning.specs.Rest.{is_blank, is_parted, trim_start}
use Rattle.md_meaning.specs.Lines.{begins_with}
use Rattle.md_meaning.specs.Bytes.{is_end, after, after_optional}
use Rattle.md_meaning.specs.Enclosed.{Closed, Open, Broken, enclosed, Lines, enclosed_lines}
use Rattle.md_meaning.specs.Ascii.{backslash, colon, double_quote, greater_than, left_bracket, left_parenthesis}
use Rattle.md_meaning.specs.Ascii.{less_than, right_bracket, right_parenthesis, single_quote}

pub record Defined : Type 0 where
  -- the lines of the label, between the brackets
  pub label : List (List ℕ)
  -- without angle brackets
  pub destination : List ℕ
  -- the lines of the title, between its marks
  pub title : Option (List (List ℕ))

-- a label is not blank, and has at most 999 bytes (CommonMark 6.3, which counts characters and endings; own choice)
abbrev pub is_label : List (List ℕ) → Bool
is_label lines = not (list_all is_blank lines) && nat_le (sum_by length lines) 999

-- the label whose `[` is next, and what follows its `]` (CommonMark 6.3)
unfoldable pub label_at : List (List ℕ) → Option Lines
label_at [] = None
label_at (rest ∷ lines) =
    if begins_with left_bracket rest
    then elim (enclosed_lines left_bracket right_bracket (after_optional left_bracket rest ∷ lines)) [
      | Some label ↦ (if is_label label.text then Some label else None)
      | None ↦ None
    ]
    else None

-- what follows the `:` that is next
abbrev pub after_colon : List (List ℕ) → Option (List (List ℕ))
after_colon [] = None
after_colon (rest ∷ lines) = if begins_with colon rest then Some (after_optional colon rest ∷ lines) else None

-- what follows spaces and tabs with at most one line ending
abbrev pub after_gap : List (List ℕ) → List (List ℕ)
after_gap [] = []
after_gap (line ∷ lines) = if is_blank line then lines else trim_start line ∷ lines

-- A destination, and what follows it on its line.
pub record Destination : Type 0 where
  pub text : List ℕ
  pub rest : List ℕ

-- the bytes of a destination without angle brackets: no space, and no control of ASCII but U+0000 (CommonMark 6.3; own
-- choice)
abbrev pub is_raw_byte : ℕ → Bool
is_raw_byte b = (b == 0) || (nat_lt 32 b && not (b == 127))

-- how many parentheses are open after this byte
abbrev pub depth_after : ℕ → ℕ → ℕ
depth_after depth b = if b == left_parenthesis then depth + 1 else if b == right_parenthesis then depth - 1 else depth

-- whether parentheses nest, so many open before; those that a backslash escapes are left out
unfoldable pub balanced : ℕ → Bool → List ℕ → Bool
balanced depth escaped [] = depth == 0
balanced depth true (b ∷ bs) = balanced depth false bs
balanced depth false (b ∷ bs) =
    not ((b == right_parenthesis) && (depth == 0)) && balanced (depth_after depth b) (b == backslash) bs

-- the destination that is next (CommonMark 6.3)
unfoldable pub destination_at : List ℕ → Option Destination
destination_at line =
    let raw = take_while is_raw_byte line in
    if begins_with less_than line
    then elim (enclosed less_than greater_than false (after_optional less_than line)) [
      | Closed text rest ↦ Some (record { text = text; rest = rest })
      | Open ↦ None
      | Broken ↦ None
    ]
    else if not (is_end raw) && balanced 0 false raw then Some (record { text = raw; rest = after is_raw_byte line })
    else None

-- the mark that closes a title which begins with this byte
abbrev pub title_closer : ℕ → Option ℕ
title_closer b =
    if (b == double_quote) || (b == single_quote) then Some b else if b == left_parenthesis then Some right_parenthesis
    else None

-- a text that nothing but spaces and tabs follows on its line, and the lines after it
abbrev pub alone : Option Lines → Option Lines
alone None = None
alone (Some found) = elim found.rest [
  | [] ↦ None
  | rest ∷ lines ↦ (if is_blank rest then Some (record { text = found.text; rest = lines }) else None)
]

-- the title that is next, and the lines after it (CommonMark 6.3)
unfoldable pub title_at : List (List ℕ) → Option Lines
title_at [] = None
title_at ([] ∷ lines) = None
title_at ((b ∷ bs) ∷ lines) = elim (title_closer b) [
  | Some closer ↦ alone (enclosed_lines b closer (bs ∷ lines))
  | None ↦ None
]

-- the title after a destination, after whitespace with at most one line ending
abbrev pub title_after : List ℕ → List (List ℕ) → Option Lines
title_after rest lines = if is_parted rest then title_at (after_gap (rest ∷ lines)) else None

-- A definition, and the lines after it.
pub record Cut : Type 0 where
  pub defined : Defined
  pub rest : List (List ℕ)

-- The definition with this label and destination. Without a title it ends with the line of the destination.
abbrev pub with_title : List (List ℕ) → Destination → List (List ℕ) → Option Cut
with_title label d lines = elim (title_after d.rest lines) [
  | Some title ↦ Some
      (record { defined = record { label = label; destination = d.text; title = Some title.text }; rest = title.rest })
  | None ↦ (if is_blank d.rest
      then Some (record { defined = record { label = label; destination = d.text; title = None }; rest = lines })
      else None)
]

-- the definition with this label, whose destination is next
abbrev pub with_destination : List (List ℕ) → List (List ℕ) → Option Cut
with_destination label [] = None
with_destination label (line ∷ lines) = elim (destination_at line) [ Some d ↦ with_title label d lines | None ↦ None ]

-- the definition that is next
unfoldable pub definition_at : List (List ℕ) → Option Cut
definition_at lines = elim (label_at lines) [
  | Some label ↦ elim (after_colon label.rest) [
    | Some more ↦ with_destination label.text (after_gap more)
    | None ↦ None
  ]
  | None ↦ None
]

-- with this definition before the others
abbrev pub with_definition : Defined → List Defined × List (List ℕ) → List Defined × List (List ℕ)
with_definition d cut = (d ∷ cut.0, cut.1)

-- at most so many definitions
unfoldable pub cut_at_most : ℕ → List (List ℕ) → List Defined × List (List ℕ)
cut_at_most zero lines = ([], lines)
cut_at_most (suc n) lines = elim (definition_at lines) [
  | Some cut ↦ with_definition cut.defined (cut_at_most n cut.rest)
  | None ↦ ([], lines)
]

-- the definitions at the front of a paragraph, and the lines that remain
unfoldable pub cut_definitions : List (List ℕ) → List Defined × List (List ℕ)
cut_definitions lines = cut_at_most (length lines) lines
