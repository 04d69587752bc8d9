-- A delimiter row with its cells, by the bytes of its line (GFM 4.10).
--
-- It is cut as any row. A cell holds its dashes, with a colon perhaps on either side, and whitespace around them.
use Rattle.std.specs.Prelude.{ℕ, List, [], ◌∷◌}
use Rattle.md_engine.specs.declared.event.Event.{Event}
use Rattle.md_engine.specs.declared.event.Name.TheVariants as n
use Rattle.md_engine.specs.declared.event.Point.{Point}
use Rattle.md_events.specs.Events.Nested.{around}
use Rattle.md_events.specs.Events.Places.{past_text}
use Rattle.md_tables.specs.DelimiterRule.{Apart}
pub use Rattle.md_tables.specs.GfmTableLine.{delimiter_runs}
use Rattle.md_tables.specs.RowCells.{row_by}

-- the dashes and colons of a cell
abbrev pub value_part : List ℕ → Point → List Event
value_part [] p = []
value_part (b ∷ bs) p =
    around n.GfmTableDelimiterCellValue p (past_text (b ∷ bs) p) (delimiter_runs Apart (b ∷ bs) p)

-- a delimiter row on a line, with the whitespace before it
abbrev pub delimiter_events : List ℕ → Point → List Event
delimiter_events line p = row_by n.GfmTableDelimiterCell value_part line p
