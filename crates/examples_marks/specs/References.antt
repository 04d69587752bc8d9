-- The shortcut references of a text part (CommonMark 6.3), as a forest over its text.
use Rattle.std.specs.Prelude.{ℕ, zero, suc, ◌+◌, ◌-◌, Bool, false, ◌&&◌, ◌||◌, ◌==◌}
use Rattle.std.specs.Prelude.{count_by, nat_le, not, if◌then◌else◌, List, [], ◌∷◌}
use Rattle.std.specs.Prelude.{length, map, Option, Some, None}
use Rattle.std.specs.List.{list_all, list_any}
use Rattle.std.specs.Str.{bytes_eq}
use Rattle.std.specs.String.{string_bytes}
use Rattle.md_engine.specs.declared.event.Event.{Event}
use Rattle.md_engine.specs.declared.event.Name.TheVariants as n
use Rattle.md_meaning.specs.Ascii.{backslash, left_bracket, right_bracket, space}
use Rattle.md_meaning.specs.Enclosed.{Closed, Open, Broken, enclosed, Enclosed}
use Rattle.md_meaning.specs.Label.{normal_form}
use Rattle.md_meaning.specs.Lines.{is_ending}
use Rattle.md_meaning.specs.Rest.{is_white}
use Rattle.md_events.specs.declared.inline.PartKind.{PartKind}
use Rattle.md_events.specs.declared.inline.PartKind.TheVariants as kind
use Rattle.md_events.specs.declared.labels.Labels.{Labels}
use Rattle.md_events.specs.Events.Inline.{Part}
use Rattle.md_events.specs.TextPart.{Document}
use Rattle.md_inline_events.specs.Forest.{Forest, nothing, over, part, piece}
use Rattle.md_inline_events.specs.Woven.{read_text, woven_events}
use Rattle.examples_marks.specs.declared.found.Found.{Found}
use Rattle.examples_marks.specs.declared.found.Found.TheVariants.{Text, Reference}

-- Labels.

-- a space, a tab or a byte that ends a line
abbrev pub is_gap : ℕ → Bool
is_gap b = is_white b || is_ending b

-- A label is not blank, and has at most 999 bytes beside the endings of its lines, as that of a definition.
abbrev pub is_label : List ℕ → Bool
is_label text = not (list_all is_gap text) && nat_le (count_by (λ b. not (is_ending b)) text) 999

-- a text on one line: where a line ends, a space parts words
abbrev pub unended : ℕ → ℕ
unended b = if is_ending b then space else b

abbrev pub on_one_line : List ℕ → List ℕ
on_one_line text = map unended text

-- the normal forms of the labels of all definitions of a document, as they are looked up
abbrev pub Forms : Type 0
Forms = List (List ℕ)

abbrev pub forms_of : Labels → Forms
forms_of labels = map string_bytes labels.definitions.forms.now

-- whether a normal form is listed
abbrev pub is_listed : Forms → List ℕ → Bool
is_listed forms form = list_any (λ listed. bytes_eq listed form) forms

-- whether a text is a label, and its normal form is that of a definition
abbrev pub is_defined : Forms → List ℕ → Bool
is_defined forms text = is_label text && is_listed forms (normal_form (on_one_line text ∷ []))

abbrev pub defined_len : Forms → Enclosed → Option ℕ
defined_len forms (Closed label following) = if is_defined forms label then Some (length label) else None
defined_len forms Open = None
defined_len forms Broken = None

-- How many bytes the label has whose `[` is before a text, up to the first `]` that no backslash takes; none if a `[`
-- is in it that none takes, or no definition has it.
abbrev pub label_len : Forms → List ℕ → Option ℕ
label_len forms text = defined_len forms (enclosed left_bracket right_bracket false text)

-- What is found at the front of a text: so many bytes of text, or a reference whose label has so many bytes. A
-- backslash
-- takes the byte after it, and a bracket that none takes opens a reference to a definition, or is text.

abbrev pub escaped : List ℕ → Found
escaped [] = Text 1
escaped (b ∷ text) = Text 2

abbrev pub bracket : Option ℕ → Found
bracket (Some len) = Reference len
bracket None = Text 1

abbrev pub found : Forms → ℕ → List ℕ → Found
found forms byte following =
    if byte == backslash then escaped following
    else if byte == left_bracket then bracket (label_len forms following)
    else Text 1

-- Forests.

-- a reference whose label has so many bytes, and what follows
abbrev pub reference : ℕ → Forest → Forest
reference len following =
    part n.Link (piece n.LabelMarker 0 (part n.LabelText (over n.Data len nothing) (piece n.LabelMarker 0 nothing)))
    following

-- A text from left to right: so many bytes of text are before it, and so many of its own are already taken.
abbrev pub references : Forms → ℕ → ℕ → List ℕ → Forest
references forms plain taken [] = over n.Data plain nothing
references forms plain (suc taken) (byte ∷ text) = references forms plain taken text
references forms plain zero (byte ∷ text) = elim (found forms byte text) [
  | Text len ↦ references forms (plain + len) (len - 1) text
  | Reference len ↦ over n.Data plain (reference len (references forms 0 (len + 1) text))
]

-- What the layer finds in the text of a part: its references; in a string there is text alone.
abbrev pub reference_forest : Forms → PartKind → List ℕ → Forest
reference_forest forms kind.Text text = references forms 0 0 text
reference_forest forms kind.String text = over n.Data (length text) nothing

-- What the layer answers for a part.
abbrev pub reference_events : Document → Part → List Event
reference_events document held =
    woven_events document.bytes held (reference_forest document.definitions held.kind (read_text document.bytes held))
