-- What an outline shows of the rows of a table that is at a depth: each cell begins with an empty line, which its text
-- fills, and the line of the table counts the cells of its head.
use Rattle.std.specs.Prelude.{ℕ, ◌+◌, List, [], ◌∷◌, ◌++◌}
use Rattle.md_meaning.specs.declared.outline.Word.{Word}
use Rattle.md_meaning.specs.declared.outline.Word.TheVariants as word
use Rattle.md_meaning.specs.Outline.{Entry, entry, entry_with}
use Rattle.md_meaning.specs.Rest.{trim}
use Rattle.md_outline.specs.LinedState.{without_end}

-- the word of a table that has one column more
abbrev pub counted_word : Word → Word
counted_word (word.Table columns) = word.Table (columns + 1)
counted_word w = w

-- a row begins,
abbrev pub with_row : ℕ → List Entry → List Entry
with_row depth lines = lines ++ entry (depth + 1) word.Row ∷ []

-- and a cell of it
abbrev pub with_cell : ℕ → List Entry → List Entry
with_cell depth lines = lines ++ entry ((depth + 1) + 1) word.Cell ∷ []

-- the text of that
abbrev pub cell_recorded : ℕ → List ℕ → List Entry → List Entry
cell_recorded depth text lines = without_end lines ++ entry_with ((depth + 1) + 1) word.Cell text ∷ []

-- the delimiter row: its line without outer whitespace
abbrev pub with_delimiter : ℕ → List ℕ → List Entry → List Entry
with_delimiter depth text lines = lines ++ entry_with (depth + 1) word.Delimiter (trim text) ∷ []
