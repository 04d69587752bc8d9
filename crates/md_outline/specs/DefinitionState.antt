-- What an outline shows of the parts of a definition: each begins with an empty line, which its text fills.
use Rattle.std.specs.Prelude.{ℕ, Bool, true, false, if◌then◌else◌, List, [], ◌∷◌, ◌++◌, Option, Some, None}
use Rattle.md_meaning.specs.declared.outline.Word.{Word}
use Rattle.md_meaning.specs.declared.outline.Word.TheVariants as word
use Rattle.md_meaning.specs.Outline.{Entry, entry_with}
use Rattle.md_outline.specs.LinedState.{without_end}
use Rattle.md_outline.specs.TextLines.{first_as, first_full_as, full_as, lines_as}
use Rattle.md_outline.specs.declared.outline.lined.Form.{Form}
use Rattle.md_outline.specs.declared.outline.lined.Form.TheVariants as form
use Rattle.md_outline.specs.declared.outline.lined.Lined.{Lined}

-- the word that shows the lines of the part that is read, if a definition is open: its label, and after that its title
abbrev pub part_of : Form → Bool → Option Word
part_of form.Definition is_recorded = Some (if is_recorded then word.Title else word.Label)
part_of _ is_recorded = None

abbrev pub part_word : Option Lined → Option Word
part_word None = None
part_word (Some lined) = part_of lined.form lined.is_fenced

-- its text ends, or what is left of it after a prefix: its last lines are shown
abbrev pub part_ended : Word → Bool → ℕ → List ℕ → List Entry → List Entry
part_ended w true depth text lines = lines ++ lines_as w depth text
part_ended w false depth text lines = without_end lines ++ first_as w depth text

-- a prefix begins in it: the lines in front are shown
abbrev pub part_parted : Word → Bool → ℕ → List ℕ → List Entry → List Entry
part_parted w true depth text lines = lines ++ full_as w depth text
part_parted w false depth text lines = without_end lines ++ first_full_as w depth text

-- the text of its destination
abbrev pub destination_recorded : ℕ → List ℕ → List Entry → List Entry
destination_recorded depth text lines = without_end lines ++ entry_with depth word.Destination text ∷ []
