-- The rule of a line of a table, as what is left of it at each state (GFM 4.10).
use Rattle.std.specs.Prelude.{◌≡◌, Bool, true, false, List}
use Rattle.md_engine.specs.declared.configuration.ParseOptions.{ParseOptions}
use Rattle.md_engine.specs.declared.state.Name.TheVariants as n
use Rattle.md_engine.specs.declared.state.gfm_table.State.{State as TableState}
use Rattle.md_engine.specs.declared.state.gfm_table.State.TheVariants as its
use Rattle.md_engine.specs.declared.state.State.{State}
use Rattle.md_engine.specs.declared.tokenizer.held_leaf.HeldLeaf.{HeldLeaf}
use Rattle.md_engine.specs.declared.tokenizer.held_leaf.HeldLeaf.TheVariants as held_leaf
use Rattle.md_engine.specs.declared.tokenizer.held_leaf.OpenText.{OpenText}
use Rattle.md_engine.specs.Meaning.{Behaviour, Cell, Here, Outcome, Refuses}
use Rattle.md_engine.specs.Scheme.{position}
use Rattle.md_engine.specs.Sees.{IsStep}
use Rattle.md_engine.specs.World.{World}
use Rattle.md_events.specs.Ahead.{HasWhite}
use Rattle.md_tables.specs.DelimiterRule.{delimiter_at, delimiter_behaves}
use Rattle.md_tables.specs.GfmTable.{TableInvariant, asking_columns, may_head, table_transition}
use Rattle.md_tables.specs.RowRule.{row_behaves}
use Rattle.md_tables.specs.declared.row.Place.TheVariants as place
use Rattle.md_tables.specs.declared.row.Row.TheVariants.{Head, Body}
use Rattle.md_events.specs.States.{IsState, IsSureState}
use Rattle.md_engine.specs.declared.tokenizer.Tokenizer.{Tokenizer}
use Rattle.md_engine.specs.Full.{IsFull}

-- a delimiter row, where the last line of the text may be a head
abbrev pub head_at : ParseOptions → OpenText → Bool → List Cell → Here → Outcome
head_at options text true cells h =
    delimiter_at options cells (record h { scratch = asking_columns text.columns h.scratch })
head_at options text false cells h = Refuses h.scratch h.flags

-- by the leaf that the line meets
abbrev pub table_by : ParseOptions → HeldLeaf → List Cell → Here → Outcome
table_by options (held_leaf.Text text) cells h = head_at options text (may_head options text) cells h
table_by options held_leaf.Table cells h = row_behaves Body place.Start cells h
table_by options _ cells h = Refuses h.scratch h.flags

-- the whole rule
unfoldable pub table_at : ParseOptions → List Cell → Here → Outcome
table_at options cells h = table_by options h.flags.leaf cells h

-- what is left at each state
abbrev pub table_behaves : ParseOptions → TableState → List Cell → Here → Outcome
table_behaves options its.Start cells h = table_at options cells h
table_behaves options its.HeadRowBefore cells h = row_behaves Head place.Start cells h
table_behaves options its.HeadRowStart cells h = row_behaves Head place.Break cells h
table_behaves options its.HeadRowBreak cells h = row_behaves Head place.Break cells h
table_behaves options its.HeadRowData cells h = row_behaves Head place.Data cells h
table_behaves options its.HeadRowEscape cells h = row_behaves Head place.Escape cells h
table_behaves options its.HeadRowCellBefore cells h = row_behaves Head place.CellBefore cells h
table_behaves options its.BodyRowStart cells h = row_behaves Body place.Start cells h
table_behaves options its.BodyRowBreak cells h = row_behaves Body place.Break cells h
table_behaves options its.BodyRowData cells h = row_behaves Body place.Data cells h
table_behaves options its.BodyRowEscape cells h = row_behaves Body place.Escape cells h
table_behaves options its.BodyRowCellBefore cells h = row_behaves Body place.CellBefore cells h
table_behaves options state cells h = delimiter_behaves options state cells h

pub record HasTable (B : Behaviour) (options : ParseOptions) : Type 0 where
  pub white : HasWhite B
  pub each : (state : TableState) (cells : List Cell) (h : Here) →
      B (n.GfmTable state) cells h ≡ table_behaves options state cells h

-- what a state of a table means: where what it needs holds, its call is one step of the rule
unfoldable pub TableMeans : TableState → World → State → World → Type 0
TableMeans state old to new =
    TableInvariant (n.GfmTable state) (position old) →
    IsStep (λ B. HasTable B old.setting.options) (n.GfmTable state) to old new

-- what a state of a table promises
abbrev pub IsTableState : TableState → World → State → Tokenizer → Type 0
IsTableState state old answer new = IsState (table_transition state old) (TableMeans state old) (IsFull new) answer new

-- the same of a state that wants no memory
abbrev pub IsSureTableState : TableState → World → State → Tokenizer → Type 0
IsSureTableState state old answer new = IsSureState (table_transition state old) (TableMeans state old) answer new
