-- Tables (GFM 4.10), as a leaf on one line that continues the one before it: a delimiter row continues text, whose last
-- line it makes a head, and with that it becomes a table; a row of the body continues a table.
use Rattle.std.specs.Prelude.{ℕ, Bool, true, false, ◌&&◌, List, [], ◌∷◌, ◌++◌, reverse}
use Rattle.md_engine.specs.declared.configuration.ParseOptions.{ParseOptions}
use Rattle.md_engine.specs.declared.state.Name.TheVariants as s
use Rattle.md_engine.specs.declared.state.flow.State.TheVariants as flow
use Rattle.md_engine.specs.declared.state.gfm_table.State.TheVariants as its
use Rattle.md_engine.specs.declared.tokenizer.held_leaf.HeldLeaf.{HeldLeaf}
use Rattle.md_engine.specs.declared.tokenizer.held_leaf.HeldLeaf.TheVariants as held_leaf
use Rattle.md_meaning.specs.Leaves.{LeafResult, Finished, Opened}
use Rattle.md_meaning.specs.Rest.{Rest, has_small_indent, trim}
use Rattle.md_meaning.specs.State.{ParagraphLine, Leaf, OpenParagraph, OpenTable}
use Rattle.md_meaning.specs.Table.{delimiter_columns, row_cells}
use Rattle.md_meaning.specs.Tree.{Table}
use Rattle.md_tables.specs.GfmTable.{may_begin, may_head}
use Rattle.md_tables.specs.GfmTableLine.{are_columns, table_adds, table_line, table_takes}
use Rattle.md_tables.specs.GfmTableRule.{table_at}
use Rattle.proof_frame.specs.LineLeaf.{LineLeaf}

-- the leaves that it continues
abbrev pub may_be_table : HeldLeaf → Bool
may_be_table (held_leaf.Text text) = true
may_be_table held_leaf.Table = true
may_be_table _ = false

-- whether the line is a delimiter row with as many cells as the last line of the text has as a head, or a further row
abbrev pub starts_table : ParseOptions → HeldLeaf → Rest → Bool
starts_table options (held_leaf.Text text) r =
    may_head options text && has_small_indent options r && are_columns (delimiter_columns (trim r.bytes)) text.columns
starts_table options held_leaf.Table r = true
starts_table options _ r = false

-- the cells of the first of these lines
abbrev pub first_cells : List ParagraphLine → List (List ℕ)
first_cells [] = []
first_cells (k ∷ lines) = row_cells k.text

-- what the open leaf becomes with it
abbrev pub table_becomes : Leaf → Rest → LeafResult
table_becomes (OpenParagraph lines) r = Opened (OpenTable (trim r.bytes) (first_cells (reverse lines) ∷ []))
table_becomes (OpenTable delimiter rows) r = Opened (OpenTable delimiter (rows ++ row_cells r.bytes ∷ []))
table_becomes leaf r = Finished (Table [] [])

-- By itself it is no table: what it is with the lines around it shows when they are joined, so its block and its events
-- after that are not asked.
abbrev pub table_leaf : LineLeaf
table_leaf = record {
  start = s.GfmTable its.Start;
  before = flow.BeforeGfmTable;
  ends = false;
  stays_blank = false;
  further = may_be_table;
  asked = λ on. true;
  heads = true;
  may_begin = λ on white b. may_begin on b;
  trial = table_at;
  takes = table_takes;
  adds = table_adds;
  keeps = λ options on cells p. held_leaf.Table;
  starts = starts_table;
  holds = λ options on r. held_leaf.Table;
  becomes = λ options open_leaf r. table_becomes open_leaf r;
  block = λ r. Table (trim r.bytes) [];
  added = λ options on line p. table_line on line p;
  unread = λ line p. [];
  done = λ bytes line p. [];
}
