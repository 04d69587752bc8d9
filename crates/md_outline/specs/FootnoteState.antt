-- What an outline shows of a container that begins: the line of its word, and after that of a footnote definition the
-- line of its label, which is empty until its text fills it.
use Rattle.std.specs.Prelude.{ℕ, ◌+◌, List, [], ◌∷◌, ◌++◌}
use Rattle.md_meaning.specs.declared.outline.Word.{Word}
use Rattle.md_meaning.specs.declared.outline.Word.TheVariants as word
use Rattle.md_meaning.specs.Outline.{Entry, entry, entry_with}
use Rattle.md_outline.specs.LinedState.{without_end}

abbrev pub container_lines : ℕ → Word → List Entry
container_lines depth word.Footnote = entry depth word.Footnote ∷ entry (depth + 1) word.Label ∷ []
container_lines depth w = entry depth w ∷ []

-- the text of the label, which is the last line that is shown
abbrev pub label_recorded : ℕ → List ℕ → List Entry → List Entry
label_recorded depth text lines = without_end lines ++ entry_with depth word.Label text ∷ []
