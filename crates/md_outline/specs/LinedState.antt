-- What an outline shows of a leaf block of several lines that is open.
use Rattle.std.specs.Prelude.{ℕ, ◌+◌, ◌-◌, Bool, true, false, List, [], ◌∷◌, length, take, set, get_or, Option}
use Rattle.std.specs.Prelude.{Some, None, option_map}
use Rattle.md_meaning.specs.declared.outline.Word.{Word}
use Rattle.md_meaning.specs.declared.outline.Word.TheVariants as word
use Rattle.md_meaning.specs.Outline.{Entry, entry}
use Rattle.md_events.specs.Events.Spelled.{underline_depth}
use Rattle.md_outline.specs.declared.outline.lined.Form.{Form}
use Rattle.md_outline.specs.declared.outline.lined.Form.TheVariants as form
use Rattle.md_outline.specs.declared.outline.lined.Lined.{Lined}

-- how its lines come, by its word
abbrev pub form_of : Word → Form
form_of (word.Heading n) = form.Heading
form_of word.Definition = form.Definition
form_of (word.Table columns) = form.Table
form_of (word.Frontmatter marker) = form.Texts
form_of _ = form.Lines

abbrev pub is_heading : Form → Bool
is_heading form.Heading = true
is_heading _ = false

-- each is a line of its own, which a line ending opens
abbrev pub has_own_lines : Form → Bool
has_own_lines form.Lines = true
has_own_lines form.Texts = true
has_own_lines _ = false

-- the virtual spaces that a line is shown with, of those before it
abbrev pub spaces_of : Form → ℕ → ℕ
spaces_of form.Texts spaces = 0
spaces_of _ spaces = spaces

abbrev pub shown_spaces : Option Lined → ℕ → ℕ
shown_spaces None spaces = spaces
shown_spaces (Some lined) spaces = spaces_of lined.form spaces

-- it begins: indented code and HTML with their first line, and a definition with that of its label, which are empty yet
abbrev pub first_lines : ℕ → Word → List Entry
first_lines depth word.Code = entry depth word.Line ∷ []
first_lines depth word.Html = entry depth word.Line ∷ []
first_lines depth word.Definition = entry depth word.Label ∷ []
first_lines depth _ = []

abbrev pub begin_lines : ℕ → Word → List Entry
begin_lines depth w = entry depth w ∷ first_lines (depth + 1) w

-- it has said its label, or its delimiter row
abbrev pub now_recorded : Option Lined → Option Lined
now_recorded lined = option_map (λ (l : Lined). record l { is_fenced = true }) lined

-- its first fence, or its underline, has this marker
abbrev pub marked_word : ℕ → Word → Word
marked_word b (word.Fence marker closed) = word.Fence b closed
marked_word b (word.Heading n) = word.Heading (underline_depth b)
marked_word b (word.Frontmatter marker) = word.Frontmatter b
marked_word b w = w

-- a further fence closes it
abbrev pub closed_word : Word → Word
closed_word (word.Fence marker closed) = word.Fence marker true
closed_word (word.Math closed) = word.Math true
closed_word w = w

-- the line of its word is said that
abbrev pub with_head : (Word → Word) → ℕ → List Entry → List Entry
with_head f place lines =
    set lines place
    (record (get_or lines place (entry 0 word.Item)) { word = f (get_or lines place (entry 0 word.Item)).word })

-- without its last line
abbrev pub without_end : List Entry → List Entry
without_end lines = take (length lines - 1) lines

-- a line with its text
abbrev pub filled_line : ℕ → ℕ → List ℕ → Entry
filled_line depth spaces text = record { depth = depth; word = word.Line; spaces = spaces; text = text }
