-- A text that is a block of its own, and what an outline shows of it before its lines.
use Rattle.std.specs.Prelude.{ℕ, Bool, if◌then◌else◌, List, [], ◌∷◌}
use Rattle.md_meaning.specs.declared.outline.Word.TheVariants as word
use Rattle.md_meaning.specs.Outline.{Entry, entry}

-- its begin, if it is not shown yet
abbrev pub begin_entries : ℕ → Bool → List Entry
begin_entries depth is_shown = if is_shown then [] else entry depth word.Paragraph ∷ []
