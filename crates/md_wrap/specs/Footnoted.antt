-- A whole text in a footnote definition; and the footnote law, by which it means that definition, with the tree of the
-- text in it.
use Rattle.std.specs.Prelude.{◌≡◌, ℕ, true, List, [], ◌∷◌}
use Rattle.std.specs.List.{concat}
use Rattle.md_engine.specs.declared.configuration.ParseOptions.{ParseOptions}
use Rattle.md_meaning.specs.Ascii.{caret, colon, left_bracket, right_bracket, space}
use Rattle.md_meaning.specs.Label.{labels}
use Rattle.md_meaning.specs.Lines.{full_lines_of}
use Rattle.md_meaning.specs.Meaning.{tree}
use Rattle.md_meaning.specs.Tree.{Blocks, End, Footnote, More}
use Rattle.md_meaning.specs.Wrapped.{IsItemable, prefixed}

-- the label `x`
abbrev pub x_label : List ℕ
x_label = 120 ∷ []

-- `[^x]: `
abbrev pub first_prefix : List ℕ
first_prefix = left_bracket ∷ caret ∷ 120 ∷ right_bracket ∷ colon ∷ space ∷ []

-- four spaces
abbrev pub further_prefix : List ℕ
further_prefix = space ∷ space ∷ space ∷ space ∷ []

-- `[^x]: ` before the first line, and four spaces before each other
abbrev pub footnoted : List ℕ → List ℕ
footnoted text = concat (prefixed first_prefix further_prefix (full_lines_of text))

-- The footnote law, of a text that the list law is about, whose tree has these blocks, and of that text with `[^x]: `
-- before its first line and four spaces before each other: it means one footnote definition with the label `x` and with
-- them in it, unchanged. It has the same labels of definitions, and of footnote definitions `x`, followed by the same.
abbrev pub NestsInFootnote : ParseOptions → List ℕ → List ℕ → Blocks → Type 0
NestsInFootnote options text footnote bs =
    options.constructs.gfm_footnote_definition ≡ true → IsItemable options text →
    (wraps : tree options footnote ≡ More (Footnote x_label bs) End)
    × (labels (tree options footnote) ≡ record (labels bs) { footnotes = x_label ∷ (labels bs).footnotes })

-- the second text is the first with `[^x]: ` before its first line and four spaces before each other, and nests as the
-- footnote law says
pub record IsFootnoteOf (options : ParseOptions) (text footnote : List ℕ) : Type 0 where
  pub bytes : footnote ≡ footnoted text
  pub nests : NestsInFootnote options text footnote (tree options text)
