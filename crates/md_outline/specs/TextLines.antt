-- The lines of a text, as an outline shows them.
use Rattle.std.specs.Prelude.{ℕ, ◌&&◌, ◌==◌, not, if◌then◌else◌, List, [], ◌∷◌, drop, take}
use Rattle.std.specs.List.{prefix_len}
use Rattle.md_meaning.specs.declared.outline.Word.{Word}
use Rattle.md_meaning.specs.declared.outline.Word.TheVariants as word
use Rattle.md_meaning.specs.Lines.{begins_with, is_ending}
use Rattle.md_meaning.specs.Outline.{Entry, entries, entry_with}
use Rattle.md_events.specs.Events.Spelled.{without_last}
use Rattle.md_meaning.specs.Texts.{split_lines, trim_each, trim_further}

-- how many bytes are before the first line ending
abbrev pub line_len : List ℕ → ℕ
line_len text = prefix_len (λ b. not (is_ending b)) text

-- what follows the line ending that comes first
abbrev pub after_ending : List ℕ → List ℕ
after_ending [] = []
after_ending (b ∷ bytes) = if (b == 13) && begins_with 10 bytes then drop 1 bytes else bytes

-- the lines of a text, which are at this depth, shown by a word
abbrev pub lines_as : Word → ℕ → List ℕ → List Entry
lines_as w depth text = entries depth w (trim_each (split_lines text))

-- those of them that have an ending
abbrev pub full_as : Word → ℕ → List ℕ → List Entry
full_as w depth text = entries depth w (trim_each (without_last (split_lines text)))

-- as lines of a block
abbrev pub text_entries : ℕ → List ℕ → List Entry
text_entries depth text = lines_as word.Line depth text

abbrev pub full_entries : ℕ → List ℕ → List Entry
full_entries depth text = full_as word.Line depth text

-- the lines of a text of which the first is shown as it is
abbrev pub first_as : Word → ℕ → List ℕ → List Entry
first_as w depth text = entries depth w (trim_further (split_lines text))

-- that line, and those after it that have an ending
abbrev pub first_full_as : Word → ℕ → List ℕ → List Entry
first_full_as w depth text =
    entry_with depth w (take (line_len text) text) ∷ full_as w depth (after_ending (drop (line_len text) text))
