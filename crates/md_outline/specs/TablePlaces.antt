-- Tables as an outline can show them (GFM 4.10): a head row, after that the delimiter row, and then further rows. A row
-- has its cells one after the other, and a cell has one text at the most. Line endings and container prefixes are
-- between the rows; a line ending in the text of a cell is a part of it.
--
-- Where in a table one is, and what may be there, is a matter of the roles of the events alone.
use Rattle.std.specs.Prelude.{Option, Some, None}
use Rattle.md_engine.specs.declared.event.Kind.{Kind}
use Rattle.md_engine.specs.declared.event.Kind.TheVariants.{Enter, Exit}
use Rattle.md_events.specs.Events.Spelled.{AsCell, AsDelimiter, ContainerRole, IsCell, IsEnding, IsPrefix, IsQuiet}
use Rattle.md_events.specs.Events.Spelled.{IsQuoteMarker, IsRow, OfTable, LeafRole, Role, TextRole}

-- The rows of a table that have cells.
pub data Row : Type 0 where
  HeadRow : Row
  BodyRow : Row

-- Where in a table one is.
pub data TablePlace : Type 0 where
  -- before its head row
  AtHead : TablePlace
  -- in a row, between its cells
  InRow : Row → TablePlace
  -- in a cell of it: before its text, in that, and after it
  AtCell : Row → TablePlace
  InCell : Row → TablePlace
  AfterCell : Row → TablePlace
  -- after the head row, before the delimiter row, and in that
  AfterHead : TablePlace
  InDelimiter : TablePlace
  -- after the delimiter row, or after a further row
  AfterRow : TablePlace

abbrev pub after_row : Row → TablePlace
after_row HeadRow = AfterHead
after_row BodyRow = AfterRow

-- where one is after an event, if still in the table
abbrev pub spot_by : TablePlace → Kind → Role → Option TablePlace
spot_by spot kind IsQuiet = Some spot
spot_by spot kind IsQuoteMarker = Some spot
spot_by AtHead Enter IsRow = Some (InRow HeadRow)
spot_by (InRow row) Enter IsCell = Some (AtCell row)
spot_by (InRow row) Exit IsRow = Some (after_row row)
spot_by (AtCell row) Enter (TextRole x) = Some (InCell row)
spot_by (AtCell row) Exit IsCell = Some (InRow row)
spot_by (InCell row) Exit (TextRole x) = Some (AfterCell row)
spot_by (AfterCell row) Exit IsCell = Some (InRow row)
spot_by AfterHead Enter (TextRole x) = Some InDelimiter
spot_by InDelimiter Exit (TextRole x) = Some AfterRow
spot_by AfterRow Enter IsRow = Some (InRow BodyRow)
spot_by AfterRow Exit (LeafRole x) = None
spot_by spot kind x = Some spot

-- what may be there; no container begins or ends in a table
abbrev pub MayBe : TablePlace → Kind → Role → Type 0
MayBe spot kind IsQuiet = Unit {0}
MayBe spot kind IsQuoteMarker = Unit {0}
MayBe spot kind (ContainerRole shape) = ⊥
MayBe AtHead Enter IsRow = Unit {0}
MayBe (InRow row) Enter IsCell = Unit {0}
MayBe (InRow row) Exit IsRow = Unit {0}
MayBe (AtCell row) Enter (TextRole AsCell) = Unit {0}
MayBe (AtCell row) Exit IsCell = Unit {0}
MayBe (InCell row) kind IsEnding = Unit {0}
MayBe (InCell row) Exit (TextRole AsCell) = Unit {0}
MayBe (AfterCell row) Exit IsCell = Unit {0}
MayBe AfterHead kind IsPrefix = Unit {0}
MayBe AfterHead kind IsEnding = Unit {0}
MayBe AfterHead Enter (TextRole AsDelimiter) = Unit {0}
MayBe InDelimiter Exit (TextRole AsDelimiter) = Unit {0}
MayBe AfterRow kind IsPrefix = Unit {0}
MayBe AfterRow kind IsEnding = Unit {0}
MayBe AfterRow Enter IsRow = Unit {0}
MayBe AfterRow Exit (LeafRole OfTable) = Unit {0}
MayBe spot kind x = ⊥
