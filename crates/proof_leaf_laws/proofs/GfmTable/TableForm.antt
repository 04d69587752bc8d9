-- A whole table by its lines (GFM 4.10): the line of text that is its head, the delimiter row, and the rows of its
-- body, each with its cells, and the head and the body around them.
use Rattle.std.proofs.Common.{◌≡◌, ℕ, ◌+◌, ◌<◌, true, false, List, [], ◌∷◌, ◌++◌}
use Rattle.std.specs.Prelude.{Some}
use Rattle.md_engine.specs.declared.event.Event.{Event}
use Rattle.md_engine.specs.declared.event.Name.TheVariants as n
use Rattle.md_engine.specs.declared.event.Point.{Point}
use Rattle.md_engine.specs.declared.tokenizer.held_leaf.HeldLeaf.TheVariants as held_leaf
use Rattle.md_meaning.specs.Rest.{Rest, is_blank, trim}
use Rattle.md_meaning.specs.Table.{delimiter_columns, row_cells}
use Rattle.md_meaning.specs.Tree.{Block, Table}
use Rattle.md_events.specs.Events.Nested.{around}
use Rattle.md_tables.specs.DelimiterCells.{delimiter_events}
use Rattle.md_tables.specs.GfmTableLine.{are_columns, delimiter_line, table_line}
use Rattle.md_tables.specs.RowCells as cells
use Rattle.proof_frame.specs.RestLine.{rest_line}
use Rattle.proof_frame.specs.Row.{Row, ending_events, last_row, row_line}
use Rattle.proof_frame.proofs.FrontFacts.{LinePrefix}
use Rattle.proof_frame.proofs.LeafFacts.{LineAt}
use Rattle.md_events.proofs.FeedLines.{IsEnding}

-- Its events.

-- a row of cells, by what is said of their texts
abbrev pub row_part : (Point → Point → List Event) → List ℕ → Row → List Event
row_part said bytes row =
    around n.GfmTableRow row.first row.end (cells.row_events said (row_line bytes row) row.first)

-- the delimiter row
abbrev pub delimiter_part : List ℕ → Row → List Event
delimiter_part bytes row =
    around n.GfmTableDelimiterRow row.first row.end (delimiter_events (row_line bytes row) row.first)

-- between two lines: the ending of the one, and what is before the other
abbrev pub gap_events : Row → Row → List Event
gap_events row next = ending_events n.LineEnding row ++ next.front

-- the head and the delimiter row
abbrev pub head_events : (Point → Point → List Event) → List ℕ → Row → Row → List Event
head_events said bytes row next = row_part said bytes row ++ (gap_events row next ++ delimiter_part bytes next)

-- rows after a line
abbrev pub rows_after : (Point → Point → List Event) → List ℕ → Row → List Row → List Event
rows_after said bytes row [] = []
rows_after said bytes row (next ∷ rows) =
    gap_events row next ++ (row_part said bytes next ++ rows_after said bytes next rows)

-- the body, if there is one
abbrev pub body_after : (Point → Point → List Event) → List ℕ → Row → List Row → List Event
body_after said bytes row [] = []
body_after said bytes row (next ∷ rows) =
    gap_events row next
    ++ around n.GfmTableBody next.first (last_row next rows).end
    (row_part said bytes next ++ rows_after said bytes next rows)

-- what is in the table
abbrev pub table_inside : (Point → Point → List Event) → List ℕ → Row → Row → List Row → List Event
table_inside said bytes row next rows =
    around n.GfmTableHead row.first next.end (head_events said bytes row next) ++ body_after said bytes next rows

abbrev pub table_events : (Point → Point → List Event) → List ℕ → Row → Row → List Row → List Event
table_events said bytes row next rows =
    around n.GfmTable row.first (last_row next rows).end (table_inside said bytes row next rows)

-- Its lines.

-- a line on which something is, where it is
pub record IsFilledLine (bytes : List ℕ) (row : Row) : Type 0 where
  pub rest : Rest
  pub at : LineAt bytes rest (rest_line rest) row.first row.end
  pub column : row.first.column ≡ rest.column + 1
  pub filled : is_blank rest.bytes ≡ false

-- between two lines are an ending, and prefixes of the containers that continue
pub record IsGap (bytes : List ℕ) (row next : Row) : Type 0 where
  pub following : Point
  pub after : row.after ≡ Some following
  pub ending : IsEnding bytes row.end following
  pub front : LinePrefix bytes [] following next.first next.front

-- a row of the body, after a line
pub record IsBodyRow (bytes : List ℕ) (row next : Row) : Type 0 where
  pub gap : IsGap bytes row next
  pub line : IsFilledLine bytes next
  pub inside : next.inside ≡ table_line held_leaf.Table (row_line bytes next) next.first

abbrev pub AreBodyRows : List ℕ → Row → List Row → Type 0
AreBodyRows bytes row [] = Unit {0}
AreBodyRows bytes row (next ∷ rows) = IsBodyRow bytes row next × AreBodyRows bytes next rows

pub record IsTable (bytes : List ℕ) (row next : Row) (rows : List Row) : Type 0 where
  pub head : IsFilledLine bytes row
  pub gap : IsGap bytes row next
  pub delimiter : IsFilledLine bytes next
  -- it has as many cells as it is asked for
  pub columns : ℕ
  pub some : 0 < columns
  pub asked : are_columns (delimiter_columns (trim (row_line bytes next))) columns ≡ true
  pub inside : next.inside ≡ delimiter_line (row_line bytes next) next.first
  pub body : AreBodyRows bytes next rows

-- The block.

abbrev pub rows_cells : List ℕ → List Row → List (List (List ℕ))
rows_cells bytes [] = []
rows_cells bytes (row ∷ rows) = row_cells (row_line bytes row) ∷ rows_cells bytes rows

abbrev pub table_block : List ℕ → Row → Row → List Row → Block
table_block bytes row next rows =
    Table (trim (row_line bytes next)) (row_cells (row_line bytes row) ∷ rows_cells bytes rows)
