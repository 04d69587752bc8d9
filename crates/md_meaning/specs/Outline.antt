-- The outline of a tree: its lines from the first to the last.
use Rattle.std.specs.Prelude.{ℕ, ◌+◌, List, [], ◌∷◌, ◌++◌, map, length, Option, Some, None}
use Rattle.md_meaning.specs.declared.alert.AlertKind.{AlertKind}
use Rattle.md_meaning.specs.declared.outline.OutlineLine.{OutlineLine}
use Rattle.md_meaning.specs.declared.outline.Word.{Word}
use Rattle.md_meaning.specs.declared.outline.Word.TheVariants as word
use Rattle.md_meaning.specs.Tree.{Line, Block, Frontmatter, Quote, ListOf, Item, Footnote, Heading, Bare, Code}
use Rattle.md_meaning.specs.Tree.{Html, Fence, Math, Definition, Paragraph, Table, Blocks, End, More}

-- a line of the outline; the virtual spaces and the text are those of `OutlineLine`
pub record Entry : Type 0 where
  pub depth : ℕ
  pub word : Word
  pub spaces : ℕ
  pub text : List ℕ

-- a line of the outline, without its place in the memory
abbrev pub entry_of : OutlineLine → Entry
entry_of line = record { depth = line.depth; word = line.word; spaces = line.spaces; text = line.text.now }

abbrev pub entries_of : List OutlineLine → List Entry
entries_of lines = map entry_of lines

-- a word without text
abbrev pub entry : ℕ → Word → Entry
entry depth w = record { depth = depth; word = w; spaces = 0; text = [] }

abbrev pub entry_with : ℕ → Word → List ℕ → Entry
entry_with depth w text = record { depth = depth; word = w; spaces = 0; text = text }

abbrev pub entries : ℕ → Word → List (List ℕ) → List Entry
entries depth w texts = map (entry_with depth w) texts

abbrev pub line_entry : ℕ → Line → Entry
line_entry depth l = record { depth = depth; word = word.Line; spaces = l.spaces; text = l.text }

abbrev pub line_entries : ℕ → List Line → List Entry
line_entries depth lines = map (line_entry depth) lines

abbrev pub part_entry : ℕ → Word → Option (List ℕ) → List Entry
part_entry depth w None = []
part_entry depth w (Some text) = entry_with depth w text ∷ []

abbrev pub title_entries : ℕ → Option (List (List ℕ)) → List Entry
title_entries depth None = []
title_entries depth (Some lines) = entries depth word.Title lines

abbrev pub row_entries : ℕ → List (List ℕ) → List Entry
row_entries depth cells = entry depth word.Row ∷ entries (depth + 1) word.Cell cells

abbrev pub rows_entries : ℕ → List (List (List ℕ)) → List Entry
rows_entries depth [] = []
rows_entries depth (cells ∷ rows) = row_entries depth cells ++ rows_entries depth rows

-- the head, the delimiter row, and the other rows; the delimiter row has as many columns as the head has cells
abbrev pub table_entries : ℕ → List ℕ → List (List (List ℕ)) → List Entry
table_entries depth delimiter [] = entry depth (word.Table 0) ∷ entry_with (depth + 1) word.Delimiter delimiter ∷ []
table_entries depth delimiter (head ∷ rows) =
    entry depth (word.Table (length head))
    ∷ (row_entries (depth + 1) head ++ entry_with (depth + 1) word.Delimiter delimiter
    ∷ rows_entries (depth + 1) rows)

abbrev pub quote_word : Option AlertKind → Word
quote_word None = word.Quote
quote_word (Some kind) = word.Alert kind

abbrev mutual
  pub block_entries : ℕ → Block → List Entry
  block_entries depth (Frontmatter marker lines) =
      entry depth (word.Frontmatter marker) ∷ entries (depth + 1) word.Line lines
  block_entries depth (Quote kind bs) = entry depth (quote_word kind) ∷ outline (depth + 1) bs
  block_entries depth (ListOf marker items) = entry depth (word.List marker) ∷ outline (depth + 1) items
  block_entries depth (Item marker digits bs) = entry depth word.Item ∷ outline (depth + 1) bs
  block_entries depth (Footnote label bs) =
      entry depth word.Footnote ∷ entry_with (depth + 1) word.Label label ∷ outline (depth + 1) bs
  block_entries depth (Heading n lines) = entry depth (word.Heading n) ∷ entries (depth + 1) word.Line lines
  block_entries depth (Bare w) = entry depth w ∷ []
  block_entries depth (Code lines) = entry depth word.Code ∷ line_entries (depth + 1) lines
  block_entries depth (Html lines) = entry depth word.Html ∷ line_entries (depth + 1) lines
  block_entries depth (Fence marker info meta lines closed) =
      entry depth (word.Fence marker closed)
      ∷ (part_entry (depth + 1) word.Info info ++ part_entry (depth + 1) word.Meta meta
      ++ line_entries (depth + 1) lines)
  block_entries depth (Math meta lines closed) =
      entry depth (word.Math closed) ∷ (part_entry (depth + 1) word.Meta meta ++ line_entries (depth + 1) lines)
  block_entries depth (Definition label destination title) =
      entry depth word.Definition
      ∷ (entries (depth + 1) word.Label label ++ entry_with (depth + 1) word.Destination destination
      ∷ title_entries (depth + 1) title)
  block_entries depth (Paragraph lines) = entry depth word.Paragraph ∷ entries (depth + 1) word.Line lines
  block_entries depth (Table delimiter rows) = table_entries depth delimiter rows

  -- the lines of the blocks, which are at this depth
  pub outline : ℕ → Blocks → List Entry
  outline depth End = []
  outline depth (More b bs) = block_entries depth b ++ outline depth bs
