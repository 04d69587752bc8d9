-- What is before the body of a text: a byte order mark, and frontmatter (own choice: CommonMark knows neither).
use Rattle.std.specs.Prelude.{ℕ, Bool, ◌&&◌, ◌==◌, nat_eq, if◌then◌else◌, List, [], ◌∷◌, map, drop, Option, Some, None}
use Rattle.std.specs.List.{starts_with, list_any, before_first, after_first}
use Rattle.md_engine.specs.declared.configuration.ParseOptions.{ParseOptions}
use Rattle.md_meaning.specs.Tree.{Block, Frontmatter}
use Rattle.md_meaning.specs.Lines.{lines_of}
use Rattle.md_meaning.specs.Rest.{Rest, is_blank, run_len}
use Rattle.md_meaning.specs.Ascii.{hyphen, plus}

-- the bytes EF BB BF at the start of the text
abbrev pub has_mark : List ℕ → Bool
has_mark text = starts_with nat_eq text (239 ∷ 187 ∷ 191 ∷ [])

abbrev pub without_mark : List ℕ → List ℕ
without_mark text = if has_mark text then drop 3 text else text

-- each byte of the mark is a column of the line after it (own choice)
abbrev pub first_column : List ℕ → ℕ
first_column text = if has_mark text then 3 else 0

-- exactly three of this byte, then spaces and tabs only
abbrev pub is_front_fence : ℕ → List ℕ → Bool
is_front_fence m line = (run_len m line == 3) && is_blank (drop 3 line)

-- the byte of the fence that this line is
abbrev pub front_marker : List ℕ → Option ℕ
front_marker line =
    if is_front_fence hyphen line then Some hyphen else if is_front_fence plus line then Some plus else None

-- the frontmatter of a text, and the lines after it
pub record Front : Type 0 where
  pub block : Block
  pub after : List (List ℕ)

-- the first later line with the same marker closes it, and without one there is none
abbrev pub front_by : Option ℕ → List (List ℕ) → Option Front
front_by None lines = None
front_by (Some m) lines =
    if list_any (is_front_fence m) lines
    then Some
    (record {
      block = Frontmatter m (before_first (is_front_fence m) lines);
      after = after_first (is_front_fence m) lines;
    })
    else None

unfoldable pub front_of : ParseOptions → List (List ℕ) → Option Front
front_of options [] = None
front_of options (line ∷ lines) = if options.constructs.frontmatter then front_by (front_marker line) lines else None

abbrev pub rest_at : ℕ → List ℕ → Rest
rest_at column line = record { column = column; spaces = 0; bytes = line }

-- lines, of which the first begins at this column
abbrev pub rests_at : ℕ → List (List ℕ) → List Rest
rests_at column [] = []
rests_at column (line ∷ lines) = rest_at column line ∷ map (rest_at 0) lines

-- the frontmatter if there is any, and the lines of the body
pub record Preamble : Type 0 where
  pub front : Option Block
  pub body : List Rest

abbrev pub preamble_by : ℕ → List (List ℕ) → Option Front → Preamble
preamble_by column lines None = record { front = None; body = rests_at column lines }
preamble_by column lines (Some f) = record { front = Some f.block; body = rests_at 0 f.after }

abbrev pub preamble : ParseOptions → List ℕ → Preamble
preamble options text =
    let lines = lines_of (without_mark text) in preamble_by (first_column text) lines (front_of options lines)
