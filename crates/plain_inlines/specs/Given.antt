-- What the program is given: a text up to the first empty line, and lines that say what it is in.
use Rattle.std.specs.Prelude.{ℕ, ◌-◌, Bool, false, ◌&&◌, ◌||◌, ◌==◌, not, if◌then◌else◌, List, [], ◌∷◌, length, take}
use Rattle.std.specs.Prelude.{drop}
use Rattle.std.specs.List.{flat_map, list_any}
use Rattle.md_engine.specs.declared.configuration.Constructs.{Constructs}
use Rattle.md_engine.specs.declared.configuration.ParseOptions.{ParseOptions}
use Rattle.md_meaning.specs.Ascii.{caret, dollar, equals_sign, hyphen, line_feed, tilde}
use Rattle.md_meaning.specs.Bytes.{is_end}
use Rattle.md_meaning.specs.Label.{Labels, normal_form}
use Rattle.md_meaning.specs.Lines.{begins_with}
use Rattle.md_inlines.specs.declared.InlineConstructs.{InlineConstructs}
use Rattle.md_inlines.specs.declared.InlineOptions.{InlineOptions}
use Rattle.md_inlines.specs.declared.TheConstants.InlineConstructs.{COMMONMARK}

-- Whether the text ends here: before an empty line or the end, with a line ending before that.
abbrev pub ends_here : List ℕ → Bool
ends_here [] = false
ends_here (b ∷ rest) = (b == line_feed) && (is_end rest || begins_with line_feed rest)

-- the input from where its text ends
abbrev pub left : List ℕ → List ℕ
left [] = []
left (b ∷ rest) = if ends_here (b ∷ rest) then b ∷ rest else left rest

abbrev pub text_in : List ℕ → List ℕ
text_in input = take (length input - length (left input)) input

-- what follows the first empty line
abbrev pub further_in : List ℕ → List ℕ
further_in input = drop 2 (left input)

-- What its lines say.

abbrev pub is_marked : ℕ → List (List ℕ) → Bool
is_marked mark lines = list_any (begins_with mark) lines

abbrev pub label_in : ℕ → List ℕ → List (List ℕ)
label_in mark [] = []
label_in mark (b ∷ label) = if b == mark then normal_form (label ∷ []) ∷ [] else []

abbrev pub labels_in : ℕ → List (List ℕ) → List (List ℕ)
labels_in mark lines = flat_map (label_in mark) lines

abbrev pub with_labels : List (List ℕ) → List (List ℕ) → Labels
with_labels definitions footnotes = record { definitions = definitions; footnotes = footnotes }

abbrev pub labels_of : List (List ℕ) → Labels
labels_of lines = with_labels (labels_in equals_sign lines) (labels_in caret lines)

-- the text is that of the first paragraph of an item
abbrev pub is_first : List (List ℕ) → Bool
is_first lines = is_marked hyphen lines

-- The constructs of a set: what GFM adds inline comes with its tables and footnotes, and math with that of blocks.
abbrev pub inline_constructs : Constructs → InlineConstructs
inline_constructs on = record COMMONMARK {
  gfm_autolink_literal = on.gfm_table;
  gfm_footnote_call = on.gfm_footnote_definition;
  gfm_strikethrough = on.gfm_table;
  gfm_task_list_item = on.gfm_table;
  math_text = on.math_flow;
}

abbrev pub inline_options : ParseOptions → List (List ℕ) → InlineOptions
inline_options options lines = record {
  constructs = inline_constructs options.constructs;
  gfm_strikethrough_single_tilde = not (is_marked tilde lines);
  math_text_single_dollar = not (is_marked dollar lines);
}
