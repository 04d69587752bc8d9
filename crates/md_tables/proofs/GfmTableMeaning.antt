-- Each state of a table takes one step of its rule.
use Rattle.std.proofs.Common.{◌≡◌, Bool, true, false, List, refl, sym, ◌∙◌}
use Rattle.md_engine.specs.declared.configuration.ParseOptions.{ParseOptions}
use Rattle.md_engine.specs.declared.state.Name.TheVariants as n
use Rattle.md_engine.specs.declared.state.gfm_table.State.{State as TableState}
use Rattle.md_engine.specs.declared.state.gfm_table.State.TheVariants as its
use Rattle.md_engine.specs.declared.state.State.{State}
use Rattle.md_engine.specs.declared.state.State.TheVariants.{Next}
use Rattle.md_engine.specs.declared.tokenizer.held_leaf.HeldLeaf.{HeldLeaf}
use Rattle.md_engine.specs.declared.tokenizer.held_leaf.HeldLeaf.TheVariants as held_leaf
use Rattle.md_engine.specs.declared.tokenizer.held_leaf.OpenText.{OpenText}
use Rattle.md_engine.specs.Meaning.{Behaviour, Cell, Feed, Here, Steps, proceeds, here}
use Rattle.md_engine.specs.Scheme.{After, Position, position}
use Rattle.md_engine.specs.World.{World}
use Rattle.md_engine.specs.Sees.{Sees}
use Rattle.md_engine.proofs.StepOf.{passes, steps-as}
use Rattle.md_tables.specs.Delimiter.{IsOfDelimiter}
use Rattle.md_tables.specs.Delimiter.IsOfDelimiter.{Before, CellAfter, CellBefore, Filler, LeftAfter}
use Rattle.md_tables.specs.Delimiter.IsOfDelimiter.{Refused, RightAfter, Start, ValueBefore}
use Rattle.md_tables.specs.DelimiterRule.{HasDelimiter, delimiter_behaves}
use Rattle.md_tables.specs.GfmTable.{TableInvariant, begins_code, head_code, may_begin, may_head, start_code}
use Rattle.md_tables.specs.GfmTable.{table_scheme, table_transition}
use Rattle.md_tables.specs.GfmTableRule.{HasTable, TableMeans, head_at, table_at, table_behaves, table_by}
use Rattle.md_tables.specs.Row.{name_at}
use Rattle.md_tables.specs.RowRule.{HasRow, row_behaves}
use Rattle.md_tables.specs.declared.row.Place.{Place}
use Rattle.md_tables.specs.declared.row.Place.TheVariants as place
use Rattle.md_tables.specs.declared.row.Row.{Row}
use Rattle.md_tables.specs.declared.row.Row.TheVariants.{Head, Body}
use Rattle.md_events.specs.Look.{looks_after, may_with}
use Rattle.md_events.specs.Spaces.{IsRest}
use Rattle.md_events.proofs.LookLemmas.{refused-first}
use Rattle.md_tables.proofs.DelimiterMeaning.{delimiter_steps}
use Rattle.md_tables.proofs.GfmTableLook.{table-looked}
use Rattle.md_tables.proofs.GfmTableWhole.{table-refused}
use Rattle.md_tables.proofs.RowMeaning.{row_means}

-- a behaviour that has tables has their rows
has-row : (B : Behaviour) (options : ParseOptions) (r : Row) → HasTable B options → HasRow B r
has-row B options r has = record { white = has.white; each = each r }
  where
    each : (r : Row) (p : Place) (cells : List Cell) (h : Here) → B (name_at r p) cells h ≡ row_behaves r p cells h
    each Head place.Start = has.each its.HeadRowBefore
    each Head place.Break = has.each its.HeadRowBreak
    each Head place.Data = has.each its.HeadRowData
    each Head place.Escape = has.each its.HeadRowEscape
    each Head place.CellBefore = has.each its.HeadRowCellBefore
    each Body place.Start = has.each its.BodyRowStart
    each Body place.Break = has.each its.BodyRowBreak
    each Body place.Data = has.each its.BodyRowData
    each Body place.Escape = has.each its.BodyRowEscape
    each Body place.CellBefore = has.each its.BodyRowCellBefore

-- and their delimiter rows
has-delimiter : (B : Behaviour) (options : ParseOptions) → HasTable B options → HasDelimiter B options
has-delimiter B options has = record {
  white = has.white;
  each = λ state is cells h. has.each state cells h ∙ same state is cells h;
}
  where
    same : (state : TableState) → IsOfDelimiter state → (cells : List Cell) (h : Here) →
        table_behaves options state cells h ≡ delimiter_behaves options state cells h
    same _ Start cells h = refl
    same _ Before cells h = refl
    same _ CellBefore cells h = refl
    same _ ValueBefore cells h = refl
    same _ LeftAfter cells h = refl
    same _ Filler cells h = refl
    same _ RightAfter cells h = refl
    same _ CellAfter cells h = refl
    same _ Refused cells h = refl

-- Before a row.

head_means : (B : Behaviour) (feed : Feed) (w : World) (text : OpenText) (x : Bool) → HasTable B w.setting.options →
    proceeds B (Next (n.GfmTable its.Start)) (feed w.point) (here w) ≡
    head_at w.setting.options text x (feed w.point) (here w) →
    Steps B feed (Next (n.GfmTable its.Start)) w (head_code w text x).to (head_code w text x).world
head_means B feed w text true has e =
    passes B feed _ _ w (head_code w text true).world refl refl (e ∙ sym (has.each its.HeadDelimiterStart _ _))
head_means B feed w text false has e = passes B feed _ _ w w refl refl e

start_means : (B : Behaviour) (feed : Feed) (w : World) (leaf : HeldLeaf) → HasTable B w.setting.options →
    proceeds B (Next (n.GfmTable its.Start)) (feed w.point) (here w) ≡
    table_by w.setting.options leaf (feed w.point) (here w) →
    Steps B feed (Next (n.GfmTable its.Start)) w (start_code w leaf).to (start_code w leaf).world
start_means B feed w (held_leaf.Text text) has e =
    head_means B feed w text (may_head w.setting.options text) has e
start_means B feed w held_leaf.Table has e =
    passes B feed _ _ w w refl refl (e ∙ sym (has.each its.BodyRowStart _ _))
start_means B feed w _ has e = passes B feed _ _ w w refl refl e

-- where none may begin by what is first after the indent, the rule refuses
begins_means : (B : Behaviour) (feed : Feed) (w : World) (x : Bool) → HasTable B w.setting.options → Sees feed w →
    IsRest w.scratch → may_with (may_begin w.flags.leaf) (looks_after w) ≡ x →
    Steps B feed (Next (n.GfmTable its.Start)) w (begins_code w x).to (begins_code w x).world
unfolding table_at
begins_means B feed w true has s is e = start_means B feed w w.flags.leaf has (has.each its.Start _ _)
begins_means B feed w false has s is e =
    let first = refused-first (may_begin w.flags.leaf) feed w s e in
    passes B feed _ _ w w refl refl
    (has.each its.Start _ _
    ∙ table-refused w.setting.options (feed w.point) (here w) is
    (table-looked w.setting.options w.flags.leaf (feed w.point) first.0 first.1 first.2))

-- each state of a table takes one step of what it means
table_steps : (B : Behaviour) (feed : Feed) (state : TableState) (w : World) → HasTable B w.setting.options →
    Sees feed w → TableInvariant (n.GfmTable state) (position w) →
    Steps B feed (Next (n.GfmTable state)) w (table_transition state w).to (table_transition state w).world
table_steps B feed its.Start w has s at = begins_means B feed w _ has s at refl
table_steps B feed its.HeadRowBefore w has s at = row_means B feed Head place.Start w (has-row B _ Head has) s at
table_steps B feed its.HeadRowStart w has s at =
    passes B feed _ _ w w refl refl (has.each its.HeadRowStart _ _ ∙ sym (has.each its.HeadRowBreak _ _))
table_steps B feed its.HeadRowBreak w has s at = row_means B feed Head place.Break w (has-row B _ Head has) s at
table_steps B feed its.HeadRowData w has s at = row_means B feed Head place.Data w (has-row B _ Head has) s at
table_steps B feed its.HeadRowEscape w has s at = row_means B feed Head place.Escape w (has-row B _ Head has) s at
table_steps B feed its.HeadRowCellBefore w has s at =
    row_means B feed Head place.CellBefore w (has-row B _ Head has) s at
table_steps B feed its.HeadDelimiterStart w has s at =
    delimiter_steps B feed _ w Start (has-delimiter B _ has) s at
table_steps B feed its.HeadDelimiterBefore w has s at =
    delimiter_steps B feed _ w Before (has-delimiter B _ has) s at
table_steps B feed its.HeadDelimiterCellBefore w has s at =
    delimiter_steps B feed _ w CellBefore (has-delimiter B _ has) s at
table_steps B feed its.HeadDelimiterValueBefore w has s at =
    delimiter_steps B feed _ w ValueBefore (has-delimiter B _ has) s at
table_steps B feed its.HeadDelimiterLeftAlignmentAfter w has s at =
    delimiter_steps B feed _ w LeftAfter (has-delimiter B _ has) s at
table_steps B feed its.HeadDelimiterFiller w has s at =
    delimiter_steps B feed _ w Filler (has-delimiter B _ has) s at
table_steps B feed its.HeadDelimiterRightAlignmentAfter w has s at =
    delimiter_steps B feed _ w RightAfter (has-delimiter B _ has) s at
table_steps B feed its.HeadDelimiterCellAfter w has s at =
    delimiter_steps B feed _ w CellAfter (has-delimiter B _ has) s at
table_steps B feed its.HeadDelimiterNok w has s at =
    delimiter_steps B feed _ w Refused (has-delimiter B _ has) s at
table_steps B feed its.BodyRowStart w has s at = row_means B feed Body place.Start w (has-row B _ Body has) s at
table_steps B feed its.BodyRowBreak w has s at = row_means B feed Body place.Break w (has-row B _ Body has) s at
table_steps B feed its.BodyRowData w has s at = row_means B feed Body place.Data w (has-row B _ Body has) s at
table_steps B feed its.BodyRowEscape w has s at = row_means B feed Body place.Escape w (has-row B _ Body has) s at
table_steps B feed its.BodyRowCellBefore w has s at =
    row_means B feed Body place.CellBefore w (has-row B _ Body has) s at

-- where a state is ready, what it needs holds
ready-holds : (state : TableState) (x : Position) (K : After) → table_scheme.ready (n.GfmTable state) x K →
    TableInvariant (n.GfmTable state) x
ready-holds its.Start x K at = at.0
ready-holds its.HeadRowBefore x K at = at.0
ready-holds its.HeadRowStart x K at = at.0
ready-holds its.HeadRowBreak x K at = at.0
ready-holds its.HeadRowData x K at = at.0
ready-holds its.HeadRowEscape x K at = at.0
ready-holds its.HeadRowCellBefore x K at = at.0
ready-holds its.HeadDelimiterStart x K at = at.0
ready-holds its.HeadDelimiterBefore x K at = at.0
ready-holds its.HeadDelimiterCellBefore x K at = at.0
ready-holds its.HeadDelimiterValueBefore x K at = at.0
ready-holds its.HeadDelimiterLeftAlignmentAfter x K at = at.0
ready-holds its.HeadDelimiterFiller x K at = at.0
ready-holds its.HeadDelimiterRightAlignmentAfter x K at = at.0
ready-holds its.HeadDelimiterCellAfter x K at = at.0
ready-holds its.HeadDelimiterNok x K at = at.0
ready-holds its.BodyRowStart x K at = at.0
ready-holds its.BodyRowBreak x K at = at.0
ready-holds its.BodyRowData x K at = at.0
ready-holds its.BodyRowEscape x K at = at.0
ready-holds its.BodyRowCellBefore x K at = at.0

-- and so where its attempts end as they have to
pub table_means : (B : Behaviour) (feed : Feed) (state : TableState) (w : World) (K : After) →
    HasTable B w.setting.options → Sees feed w → table_scheme.ready (n.GfmTable state) (position w) K →
    Steps B feed (Next (n.GfmTable state)) w (table_transition state w).to (table_transition state w).world
table_means B feed state w K has s at = table_steps B feed state w has s (ready-holds state (position w) K at)

-- what answers as the transition of a state does means what the state means
pub table_rule : (state : TableState) (w new : World) (to : State) → to ≡ (table_transition state w).to →
    new ≡ (table_transition state w).world → TableMeans state w to new
unfolding TableMeans
table_rule state w new to e k at B feed has s =
    steps-as B feed _ _ to w _ new e k (table_steps B feed state w has s at)
