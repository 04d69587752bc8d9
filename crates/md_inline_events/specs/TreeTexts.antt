-- The texts of a block tree: what is read of its paragraphs, its headings and its cells, in reading order.
use Rattle.std.specs.Prelude.{ℕ, Bool, true, ◌&&◌, ◌||◌, not, if◌then◌else◌, List, [], ◌∷◌, ◌++◌}
use Rattle.md_meaning.specs.Ascii.{line_feed}
use Rattle.md_meaning.specs.Lines.{without_ending}
use Rattle.md_meaning.specs.Rest.{is_blank, trim_end}
use Rattle.md_meaning.specs.Texts.{split_lines, trim_each}
use Rattle.md_meaning.specs.Tree.{Block, Blocks, End, Footnote, Heading, Item, ListOf, More, Paragraph, Quote, Table}
use Rattle.md_events.specs.declared.inline.Chunk.{Chunk}
use Rattle.md_events.specs.Events.Inline.{Part, chunk_text, is_none}
use Rattle.md_events.specs.Events.PieceRules.{is_in_line}
use Rattle.md_inline_events.specs.Woven.{is_text, read_text}

-- lines as one text: a line feed between them, and no spaces and tabs after the last
abbrev pub joined : List (List ℕ) → List ℕ
joined [] = []
joined (line ∷ []) = trim_end line
joined (line ∷ next ∷ lines) = line ++ line_feed ∷ joined (next ∷ lines)

-- the text of a leaf with these lines, if it has any
abbrev pub lines_text : List (List ℕ) → List (List ℕ)
lines_text [] = []
lines_text (line ∷ lines) = joined (line ∷ lines) ∷ []

-- the text of a cell, if it has one
abbrev pub cell_text : List ℕ → List (List ℕ)
cell_text [] = []
cell_text (b ∷ cell) = lines_text (trim_each (split_lines (b ∷ cell)))

abbrev pub row_texts : List (List ℕ) → List (List ℕ)
row_texts [] = []
row_texts (cell ∷ cells) = cell_text cell ++ row_texts cells

abbrev pub rows_texts : List (List (List ℕ)) → List (List ℕ)
rows_texts [] = []
rows_texts (row ∷ rows) = row_texts row ++ rows_texts rows

abbrev mutual
  -- the texts of a block, and those of blocks, also within containers
  pub block_texts : Block → List (List ℕ)
  block_texts (Quote kind blocks) = tree_texts blocks
  block_texts (ListOf marker items) = tree_texts items
  block_texts (Item marker digits blocks) = tree_texts blocks
  block_texts (Footnote label blocks) = tree_texts blocks
  block_texts (Heading depth lines) = lines_text lines
  block_texts (Paragraph lines) = lines_text lines
  block_texts (Table delimiter rows) = rows_texts rows
  block_texts block = []

  pub tree_texts : Blocks → List (List ℕ)
  tree_texts End = []
  tree_texts (More block blocks) = block_texts block ++ tree_texts blocks

-- The texts of text parts, as an inline layer reads them: those of paragraphs, headings and cells, in order.
abbrev pub part_texts : List ℕ → List Part → List (List ℕ)
part_texts bytes [] = []
part_texts bytes (part ∷ parts) =
    if is_text part.kind then read_text bytes part ∷ part_texts bytes parts else part_texts bytes parts

-- Whether the chunks of a text part are as in a paragraph, a heading or a cell: none is a blank line, and the last has
-- no line ending.
abbrev pub are_filled : List ℕ → List Chunk → Bool
are_filled bytes [] = true
are_filled bytes (chunk ∷ chunks) =
    not (is_blank (without_ending (chunk_text bytes chunk)))
    && (not (is_none chunks) || is_in_line (chunk_text bytes chunk)) && are_filled bytes chunks

abbrev pub is_filled_part : List ℕ → Part → Bool
is_filled_part bytes part = not (is_text part.kind) || are_filled bytes part.chunks
