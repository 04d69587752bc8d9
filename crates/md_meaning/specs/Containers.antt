-- Containers: block quotes, list items and footnote definitions.
use Rattle.std.specs.Prelude.{ℕ, ◌+◌, Bool, true, false, ◌&&◌, ◌||◌, ◌==◌, not, nat_le, nat_eq, if◌then◌else◌, List, []}
use Rattle.std.specs.Prelude.{◌∷◌, length, drop, Option, Some, None}
use Rattle.std.specs.List.{starts_with, take_while}
use Rattle.std.specs.Option.{option_or}
use Rattle.md_engine.specs.declared.configuration.ParseOptions.{ParseOptions}
use Rattle.md_meaning.specs.declared.alert.AlertKind.{AlertKind}
use Rattle.md_meaning.specs.Alert.{alert_at, marker_of}
use Rattle.md_meaning.specs.Lines.{begins_with}
use Rattle.md_meaning.specs.Rest.{Rest, is_white, is_blank, is_parted, indent, has_small_indent, lose, after_indent}
use Rattle.md_meaning.specs.Rest.{following}
use Rattle.md_meaning.specs.State.{Container, InQuote, InItem, InFootnote}
use Rattle.md_meaning.specs.Leaves.{is_rule}
use Rattle.md_meaning.specs.Ascii.{asterisk, backslash, caret, colon, dot, greater_than, hyphen, left_bracket, plus}
use Rattle.md_meaning.specs.Ascii.{right_bracket, right_parenthesis}

-- a container that continued or opened, and the rest of the line in it
pub record Taken : Type 0 where
  pub container : Container
  pub rest : Rest

-- a quote's prefix: a small indent, `>`, and one column of whitespace if there is one (CommonMark 5.1)
unfoldable pub quote_taken : ParseOptions → Option AlertKind → Rest → Option Taken
quote_taken options kind r =
    let marker = after_indent r in
    if has_small_indent options r && begins_with greater_than marker.bytes
    then Some (record { container = InQuote kind; rest = lose 1 (following 1 marker) })
    else None

-- a nonblank line continues an item if it is indented by its width; a blank line does, unless it comes directly after a
-- first line that was blank (CommonMark 5.2)
unfoldable pub item_continues : List ℕ → ℕ → ℕ → Bool → Rest → Option Taken
item_continues digits marker width starts_blank r =
    if if is_blank r.bytes then not starts_blank else nat_le width (indent r)
    then Some (record { container = InItem digits marker width false; rest = lose width r })
    else None

-- a footnote definition continues with blank lines and with lines indented by 4 columns (own choice, as on GitHub)
unfoldable pub footnote_continues : List ℕ → Rest → Option Taken
footnote_continues label r =
    if is_blank r.bytes || nat_le 4 (indent r)
    then Some (record { container = InFootnote label; rest = lose 4 r })
    else None

-- whether an open container continues on this line, and the rest in it
abbrev pub continues : ParseOptions → Container → Rest → Option Taken
continues options (InQuote kind) r = quote_taken options kind r
continues options (InItem digits marker width starts_blank) r = item_continues digits marker width starts_blank r
continues options (InFootnote label) r = footnote_continues label r

-- a quote whose first rest is the marker of a kind: all of it belongs to the prefix
abbrev pub taken_as : Taken → Option AlertKind → Taken
taken_as t None = t
taken_as t (Some kind) = record {
  container = InQuote (Some kind);
  rest = after_indent (following (length (marker_of kind)) (after_indent t.rest));
}

abbrev pub with_kind : ParseOptions → Option Taken → Option Taken
with_kind options None = None
with_kind options (Some t) = Some (taken_as t (alert_at options t.rest))

-- a quote, or an alert
unfoldable pub opens_quote : ParseOptions → Rest → Option Taken
opens_quote options r =
    if options.constructs.block_quote then with_kind options (quote_taken options None r) else None

-- a list marker: the digits of an ordered one, and the byte after them (CommonMark 5.2)
pub record Marker : Type 0 where
  pub digits : List ℕ
  pub byte : ℕ

abbrev pub is_digit : ℕ → Bool
is_digit b = nat_le 48 b && nat_le b 57

abbrev pub is_bullet : ℕ → Bool
is_bullet b = (b == asterisk) || (b == plus) || (b == hyphen)

-- the `.` or `)` after digits
abbrev pub marker_following : List ℕ → List ℕ → Option Marker
marker_following digits [] = None
marker_following digits (b ∷ bytes) =
    if (b == dot) || (b == right_parenthesis) then Some (record { digits = digits; byte = b }) else None

-- a bullet, or 1 to 9 digits and then `.` or `)`
abbrev pub list_marker : List ℕ → Option Marker
list_marker [] = None
list_marker (b ∷ bytes) =
    let digits = take_while is_digit (b ∷ bytes) in
    if is_bullet b then Some (record { digits = []; byte = b })
    else if nat_le 1 (length digits) && nat_le (length digits) 9
    then marker_following digits (drop (length digits) (b ∷ bytes))
    else None

-- the columns after the marker that belong to the item: none before a blank rest, 1 of 5 or more
abbrev pub item_padding : Rest → ℕ
item_padding r = if is_blank r.bytes then 0 else if nat_le 5 (indent r) then 1 else indent r

-- an item may interrupt a paragraph if it does not begin with a blank line and its number, if any, is written 1
abbrev pub may_interrupt : Marker → Rest → Bool
may_interrupt marker r = not (is_blank r.bytes) && is_one marker.digits
  where
    is_one : List ℕ → Bool
    is_one [] = true
    is_one (b ∷ []) = b == 49
    is_one (b ∷ c ∷ digits) = false

-- an item with this marker: the columns before it, and the rests from the marker on and after it
abbrev pub item_with : ParseOptions → Bool → ℕ → Rest → Rest → Marker → Option Taken
item_with options interrupting before from after marker =
    let is_break = options.constructs.thematic_break && is_rule from.bytes in
    let padding = item_padding after in
    let blank = is_blank after.bytes in
    let width = before + length marker.digits + 1 + padding + (if blank then 1 else 0) in
    if is_parted after.bytes && not is_break && (not interrupting || may_interrupt marker after)
    then Some (record { container = InItem marker.digits marker.byte width blank; rest = lose padding after })
    else None

abbrev pub item_by : ParseOptions → Bool → ℕ → Rest → Option Marker → Option Taken
item_by options interrupting before from None = None
item_by options interrupting before from (Some marker) =
    item_with options interrupting before from (following (length marker.digits + 1) from) marker

-- a small indent, a marker, and whitespace or the end of the line (CommonMark 5.2)
unfoldable pub opens_item : ParseOptions → Bool → Rest → Option Taken
opens_item options interrupting r =
    let from = after_indent r in
    if options.constructs.list_item && has_small_indent options r
    then item_by options interrupting (indent r) from (list_marker from.bytes)
    else None

-- a label, and the bytes after the bracket that ends it
pub record Labelled : Type 0 where
  pub label : List ℕ
  pub after : List ℕ

abbrev pub with_label_byte : ℕ → Option Labelled → Option Labelled
with_label_byte b None = None
with_label_byte b (Some l) = Some (record { label = b ∷ l.label; after = l.after })

-- a backslash takes one of these
abbrev pub is_label_mark : ℕ → Bool
is_label_mark b = (b == left_bracket) || (b == backslash) || (b == right_bracket)

-- the label up to the first `]` that no backslash takes; `escaped` says that a backslash comes before
abbrev pub footnote_label : Bool → List ℕ → Option Labelled
footnote_label escaped [] = None
footnote_label escaped (b ∷ bytes) =
    if escaped && is_label_mark b then with_label_byte b (footnote_label false bytes)
    else if b == right_bracket then Some (record { label = []; after = bytes })
    else if is_white b || (b == left_bracket) then None
    else with_label_byte b (footnote_label (b == backslash) bytes)

abbrev pub footnote_by : Rest → Option Labelled → Option Taken
footnote_by from None = None
footnote_by from (Some l) =
    if nat_le 1 (length l.label) && nat_le (length l.label) 999 && begins_with colon l.after
    then Some (record { container = InFootnote l.label; rest = after_indent (following (length l.label + 4) from) })
    else None

-- a small indent, `[^`, a label of 1 to 999 bytes, `]:`, and all whitespace after it (own choice, as on GitHub)
unfoldable pub opens_footnote : ParseOptions → Rest → Option Taken
opens_footnote options r =
    let from = after_indent r in
    if options.constructs.gfm_footnote_definition && has_small_indent options r
    && starts_with nat_eq from.bytes (left_bracket ∷ caret ∷ [])
    then footnote_by from (footnote_label false (drop 2 from.bytes))
    else None

-- the first container that opens here, if one does
abbrev pub opens : ParseOptions → Bool → Rest → Option Taken
opens options interrupting r =
    option_or (opens_quote options r) (option_or (opens_item options interrupting r) (opens_footnote options r))
