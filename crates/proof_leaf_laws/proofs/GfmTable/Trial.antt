-- The trial of a line of a table takes it to its end, or refuses it.
use Rattle.std.proofs.Common.{◌≡◌, ℕ, ◌≤◌, Bool, true, false, List, length, arith}
use Rattle.md_engine.specs.declared.configuration.ParseOptions.{ParseOptions}
use Rattle.md_engine.specs.declared.tokenizer.held_leaf.HeldLeaf.{HeldLeaf}
use Rattle.md_engine.specs.declared.tokenizer.held_leaf.HeldLeaf.TheVariants as held_leaf
use Rattle.md_engine.specs.declared.tokenizer.held_leaf.OpenText.{OpenText}
use Rattle.md_engine.specs.Meaning.{Cell, Here, Refuses}
use Rattle.md_events.specs.Ahead.{begins_white, line_bytes, white_rest}
use Rattle.md_events.specs.Spaces.{IsRest, small_indent}
use Rattle.md_events.proofs.RestCells.{white-length}
use Rattle.md_tables.specs.DelimiterRule as delimiter
use Rattle.md_tables.specs.DelimiterRule.{delimiter_at}
use Rattle.md_tables.specs.GfmTable.{may_head}
use Rattle.md_tables.specs.GfmTableRule.{head_at, table_at, table_by}
use Rattle.md_tables.specs.RowRule as row
use Rattle.md_tables.specs.declared.row.Row.TheVariants.{Body}
use Rattle.md_tables.proofs.GfmTableWhole as whole
use Rattle.proof_leaf_laws.specs.Leaf.GfmTable.{table_leaf}
use Rattle.proof_frame.proofs.FromEnding.{from_ending-again}
use Rattle.proof_frame.proofs.LeafLaws.{Shrinks, cond-shrinks, whole_line}
use Rattle.md_containers.proofs.QuoteCells.{ending-shorter}

-- A line is taken, and a table is open after it,
pub table-took : (options : ParseOptions) (cells : List Cell) (h : Here) → IsRest h.scratch →
    table_leaf.takes options h.flags.leaf cells ≡ true →
    table_leaf.trial options cells h ≡
    whole_line (table_leaf.adds options h.flags.leaf cells h.point) held_leaf.Table false cells h
table-took options cells h is e = whole.table-took options cells h is e

-- or refused, and all is left as it was.
pub table-refused : (options : ParseOptions) (cells : List Cell) (h : Here) → IsRest h.scratch →
    table_leaf.takes options h.flags.leaf cells ≡ false → table_leaf.trial options cells h ≡ Refuses h.scratch h.flags
table-refused options cells h is e = whole.table-refused options cells h is e

-- What is left of it is no longer than it was, and begins with its ending.

-- of a delimiter row after its indent
in_row-shrinks : (n : ℕ) (cells : List Cell) (h : Here) → length cells ≤ n →
    Shrinks n (delimiter.in_row delimiter.Apart delimiter.Front cells h)
unfolding delimiter.in_row
in_row-shrinks n cells h le =
    cond-shrinks n (delimiter.fits delimiter.Front h.scratch (line_bytes cells)) _ _
    (let less = ending-shorter cells in omega arith, from_ending-again cells) tt

delimiter-shrinks : (options : ParseOptions) (cells : List Cell) (h : Here) →
    Shrinks (length cells) (delimiter_at options cells h)
unfolding delimiter_at
delimiter-shrinks options cells h =
    cond-shrinks (length cells) (begins_white cells) _ _
    (in_row-shrinks (length cells) (white_rest (small_indent options) cells) _
    (white-length (small_indent options) cells))
    (in_row-shrinks (length cells) cells _ (omega arith))

head-shrinks : (options : ParseOptions) (text : OpenText) (x : Bool) (cells : List Cell) (h : Here) →
    Shrinks (length cells) (head_at options text x cells h)
head-shrinks options text true cells h = delimiter-shrinks options cells _
head-shrinks options text false cells h = tt

-- of a further row
row-shrinks : (cells : List Cell) (h : Here) → Shrinks (length cells) (row.in_row Body row.Apart cells h)
unfolding row.in_row
row-shrinks cells h = (ending-shorter cells, from_ending-again cells)

-- of either
pub table-shrinks : (options : ParseOptions) (cells : List Cell) (h : Here) →
    Shrinks (length cells) (table_leaf.trial options cells h)
unfolding table_at
table-shrinks options cells h = go h.flags.leaf
  where
    go : (on : HeldLeaf) → Shrinks (length cells) (table_by options on cells h)
    go (held_leaf.Text text) = head-shrinks options text (may_head options text) cells h
    go held_leaf.Table = row-shrinks cells _
    go _ = tt
