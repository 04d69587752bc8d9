-- The states of tables are and end in any table of states that has them.
use Rattle.std.proofs.Common.{◌≡◌, Bool, true, false, refl, arith, ap}
use Rattle.md_engine.specs.declared.state.Name.{Name as StateName}
use Rattle.md_engine.specs.declared.state.Name.TheVariants as n
use Rattle.md_engine.specs.declared.state.gfm_table.State.{State as TableState}
use Rattle.md_engine.specs.declared.state.gfm_table.State.TheVariants as its
use Rattle.md_engine.specs.declared.state.State.TheVariants.{Nok}
use Rattle.md_engine.specs.declared.tokenizer.held_leaf.HeldLeaf.{HeldLeaf}
use Rattle.md_engine.specs.declared.tokenizer.held_leaf.HeldLeaf.TheVariants as held_leaf
use Rattle.md_engine.specs.declared.tokenizer.held_leaf.OpenText.{OpenText}
use Rattle.md_engine.specs.Scheme.{Fits, Scheme, after_all, of_owners, position, seen}
use Rattle.md_engine.specs.World.{World, looks}
use Rattle.md_engine.proofs.Falls.{later}
use Rattle.md_engine.proofs.Local.{refuses, turns}
use Rattle.md_engine.proofs.Points.{stays}
use Rattle.md_events.specs.Spaces.{IsRest, rest_ready}
use Rattle.md_events.proofs.SpacesTermination.{Does, WhiteFits, rest-size}
use Rattle.md_tables.specs.Delimiter.{IsOfDelimiter, delimiter_scheme, uncounted}
use Rattle.md_tables.specs.Delimiter.IsOfDelimiter.{Before, CellAfter, CellBefore, Filler, LeftAfter}
use Rattle.md_tables.specs.Delimiter.IsOfDelimiter.{Refused, RightAfter, Start, ValueBefore}
use Rattle.md_tables.specs.GfmTable.{asking_columns, begins_code, head_code, head_row_start_transition, may_head}
use Rattle.md_tables.specs.GfmTable.{start_code, table_owner, table_scheme, table_transition}
use Rattle.md_tables.specs.Row.{is_text, name_at, piece, row_scheme}
use Rattle.md_tables.specs.declared.row.Place.{Place}
use Rattle.md_tables.specs.declared.row.Place.TheVariants as place
use Rattle.md_tables.specs.declared.row.Row.{Row}
use Rattle.md_tables.specs.declared.row.Row.TheVariants.{Head, Body}
use Rattle.md_tables.proofs.DelimiterTermination.{DelimiterFits, delimiter_terminates}
use Rattle.md_tables.proofs.RowTermination.{RowFits, low, row_terminates}

pub record TableFits (T : Scheme) : Type 1 where
  pub white : WhiteFits T
  pub each : (state : TableState) → Fits T table_scheme (n.GfmTable state)

-- a table of states that has those of tables has those of each part
part-fits : (T : Scheme) (name : StateName) → Fits T (of_owners table_owner) name → Fits T (table_owner name) name
part-fits T name f = record { ready = f.ready; level = f.level; rank = f.rank; tries = f.tries }

row-fits : (T : Scheme) (r : Row) → TableFits T → RowFits T r
row-fits T r has = record { white = has.white; each = each r }
  where
    each : (r : Row) (p : Place) → Fits T row_scheme (name_at r p)
    each Head place.Start = part-fits T _ (has.each its.HeadRowBefore)
    each Head place.Break = part-fits T _ (has.each its.HeadRowBreak)
    each Head place.Data = part-fits T _ (has.each its.HeadRowData)
    each Head place.Escape = part-fits T _ (has.each its.HeadRowEscape)
    each Head place.CellBefore = part-fits T _ (has.each its.HeadRowCellBefore)
    each Body place.Start = part-fits T _ (has.each its.BodyRowStart)
    each Body place.Break = part-fits T _ (has.each its.BodyRowBreak)
    each Body place.Data = part-fits T _ (has.each its.BodyRowData)
    each Body place.Escape = part-fits T _ (has.each its.BodyRowEscape)
    each Body place.CellBefore = part-fits T _ (has.each its.BodyRowCellBefore)

delimiter-fits : (T : Scheme) → TableFits T → DelimiterFits T
delimiter-fits T has = record {
  white = has.white;
  each = λ state is. each state is (has.each state);
}
  where
    each : (state : TableState) → IsOfDelimiter state → Fits T table_scheme (n.GfmTable state) →
        Fits T delimiter_scheme (n.GfmTable state)
    each _ Start f = part-fits T _ f
    each _ Before f = part-fits T _ f
    each _ CellBefore f = part-fits T _ f
    each _ ValueBefore f = part-fits T _ f
    each _ LeftAfter f = part-fits T _ f
    each _ Filler f = part-fits T _ f
    each _ RightAfter f = part-fits T _ f
    each _ CellAfter f = part-fits T _ f
    each _ Refused f = part-fits T _ f

-- Before a row.

refused_ends : (T : Scheme) (w : World) → rest_ready (position w) (after_all T w.frames) →
    Does T (n.GfmTable its.Start) w (record { to = Nok; world = w })
refused_ends T w r = (refuses T _ w _ _ w.events w.scratch r.1 r.0, refl)

head_ends : (T : Scheme) (w : World) (text : OpenText) (x : Bool) → TableFits T →
    rest_ready (position w) (after_all T w.frames) → Does T (n.GfmTable its.Start) w (head_code w text x)
head_ends T w text true has r = (
  turns T table_scheme (n.GfmTable its.Start) (n.GfmTable its.HeadDelimiterStart) w w.events
      (asking_columns text.columns w.scratch) (has.each its.Start) (has.each its.HeadDelimiterStart) (
        record { size = omega (arith, rest-size w.scratch r.0); rest = ap uncounted r.0 },
        later IsRest IsRest (position w) (after_all T w.frames) w.point (asking_columns text.columns w.scratch)
            (stays w.setting.limit w.point) r.1,
      ) (omega arith) (omega arith),
  refl,
)
head_ends T w text false has r = refused_ends T w r

start_ends : (T : Scheme) (w : World) (leaf : HeldLeaf) → TableFits T → rest_ready (position w) (after_all T w.frames) →
    Does T (n.GfmTable its.Start) w (start_code w leaf)
start_ends T w (held_leaf.Text text) has r = head_ends T w text (may_head w.setting.options text) has r
start_ends T w held_leaf.Table has r = (
  turns T table_scheme (n.GfmTable its.Start) (n.GfmTable its.BodyRowStart) w w.events w.scratch (has.each its.Start)
      (has.each its.BodyRowStart) (
        r.0,
        later IsRest IsRest (position w) (after_all T w.frames) w.point w.scratch (stays w.setting.limit w.point) r.1,
      )
      (omega arith) (omega arith),
  refl,
)
start_ends T w _ has r = refused_ends T w r

begins_ends : (T : Scheme) (w : World) (x : Bool) → TableFits T → rest_ready (position w) (after_all T w.frames) →
    Does T (n.GfmTable its.Start) w (begins_code w x)
begins_ends T w true has r = start_ends T w w.flags.leaf has r
begins_ends T w false has r = refused_ends T w r

-- after the indent of a head
row_start_ends : (T : Scheme) (w : World) → TableFits T → rest_ready (position w) (after_all T w.frames) →
    Does T (n.GfmTable its.HeadRowStart) w (head_row_start_transition w)
row_start_ends T w has r = (
  turns T row_scheme (n.GfmTable its.HeadRowStart) (n.GfmTable its.HeadRowBreak) w w.events w.scratch
      (part-fits T _ (has.each its.HeadRowStart)) (part-fits T _ (has.each its.HeadRowBreak)) r (omega arith)
      (low (is_text (piece (seen (position w))))),
  refl,
)

-- each state of a table
pub table_terminates : (T : Scheme) (state : TableState) (w : World) → TableFits T → w.current ≡ looks w →
    table_scheme.ready (n.GfmTable state) (position w) (after_all T w.frames) →
    Does T (n.GfmTable state) w (table_transition state w)
table_terminates T its.Start w has c r = begins_ends T w _ has r
table_terminates T its.HeadRowBefore w has c r = row_terminates T Head place.Start w (row-fits T Head has) c r
table_terminates T its.HeadRowStart w has c r = row_start_ends T w has r
table_terminates T its.HeadRowBreak w has c r = row_terminates T Head place.Break w (row-fits T Head has) c r
table_terminates T its.HeadRowData w has c r = row_terminates T Head place.Data w (row-fits T Head has) c r
table_terminates T its.HeadRowEscape w has c r = row_terminates T Head place.Escape w (row-fits T Head has) c r
table_terminates T its.HeadRowCellBefore w has c r = row_terminates T Head place.CellBefore w (row-fits T Head has) c r
table_terminates T its.HeadDelimiterStart w has c r = delimiter_terminates T _ w Start (delimiter-fits T has) c r
table_terminates T its.HeadDelimiterBefore w has c r = delimiter_terminates T _ w Before (delimiter-fits T has) c r
table_terminates T its.HeadDelimiterCellBefore w has c r =
    delimiter_terminates T _ w CellBefore (delimiter-fits T has) c r
table_terminates T its.HeadDelimiterValueBefore w has c r =
    delimiter_terminates T _ w ValueBefore (delimiter-fits T has) c r
table_terminates T its.HeadDelimiterLeftAlignmentAfter w has c r =
    delimiter_terminates T _ w LeftAfter (delimiter-fits T has) c r
table_terminates T its.HeadDelimiterFiller w has c r = delimiter_terminates T _ w Filler (delimiter-fits T has) c r
table_terminates T its.HeadDelimiterRightAlignmentAfter w has c r =
    delimiter_terminates T _ w RightAfter (delimiter-fits T has) c r
table_terminates T its.HeadDelimiterCellAfter w has c r =
    delimiter_terminates T _ w CellAfter (delimiter-fits T has) c r
table_terminates T its.HeadDelimiterNok w has c r = delimiter_terminates T _ w Refused (delimiter-fits T has) c r
table_terminates T its.BodyRowStart w has c r = row_terminates T Body place.Start w (row-fits T Body has) c r
table_terminates T its.BodyRowBreak w has c r = row_terminates T Body place.Break w (row-fits T Body has) c r
table_terminates T its.BodyRowData w has c r = row_terminates T Body place.Data w (row-fits T Body has) c r
table_terminates T its.BodyRowEscape w has c r = row_terminates T Body place.Escape w (row-fits T Body has) c r
table_terminates T its.BodyRowCellBefore w has c r = row_terminates T Body place.CellBefore w (row-fits T Body has) c r
