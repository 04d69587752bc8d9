-- Tables (GFM 4.10), a line at a time: what their states do.
--
-- A line that meets text may be a delimiter row, which makes the last line of the text a head; one that meets a table
-- may be one more row of it.
use Rattle.std.specs.Prelude.{◌≡◌, ◌<◌, refl, ℕ, Bool, true, false, ◌&&◌, ◌||◌, ◌==◌, nat_lt}
use Rattle.md_engine.specs.declared.configuration.ParseOptions.{ParseOptions}
use Rattle.md_engine.specs.declared.state.Name.{Name as StateName}
use Rattle.md_engine.specs.declared.state.Name.TheVariants as n
use Rattle.md_engine.specs.declared.state.gfm_table.State.{State as TableState}
use Rattle.md_engine.specs.declared.state.gfm_table.State.TheVariants as its
use Rattle.md_engine.specs.declared.state.State.{State}
use Rattle.md_engine.specs.declared.state.State.TheVariants.{Next, Nok, Retry}
use Rattle.md_engine.specs.declared.tokenizer.Scratch.{Scratch}
use Rattle.md_engine.specs.declared.tokenizer.held_leaf.HeldLeaf.{HeldLeaf}
use Rattle.md_engine.specs.declared.tokenizer.held_leaf.HeldLeaf.TheVariants as held_leaf
use Rattle.md_engine.specs.declared.tokenizer.held_leaf.OpenText.{OpenText}
use Rattle.md_engine.specs.Run.{reading}
use Rattle.md_engine.specs.Scheme.{Position, Scheme, nowhere, of_owners, ranked}
use Rattle.md_engine.specs.World.{World}
use Rattle.md_meaning.specs.Ascii.{colon, hyphen, pipe}
use Rattle.md_meaning.specs.Rest.{is_small}
use Rattle.md_events.specs.Look.{looks_after, may_with}
use Rattle.md_events.specs.Spaces.{IsRest, rest_ready}
use Rattle.md_events.specs.Transition.{Transition}
use Rattle.md_tables.specs.Delimiter.{DelimiterNeeds, IsCounting, delimiter_scheme, delimiter_transition}
use Rattle.md_tables.specs.Row.{row_scheme, row_transition}
use Rattle.md_tables.specs.declared.row.Place.TheVariants as place
use Rattle.md_tables.specs.declared.row.Row.TheVariants.{Head, Body}

-- whether the last line of this text may be the head of a table: it has cells, and a small indent
abbrev pub may_head : ParseOptions → OpenText → Bool
may_head options text = options.constructs.gfm_table && nat_lt 0 text.columns && is_small options text.indent

-- whether a line of a table may begin where the line meets this leaf, by what is first after its indent
abbrev pub may_begin : HeldLeaf → ℕ → Bool
may_begin (held_leaf.Text text) b = nat_lt 0 text.columns && (b == hyphen || b == colon || b == pipe)
may_begin held_leaf.Table b = true
may_begin _ b = false

-- so many cells are asked of the delimiter row
abbrev pub asking_columns : ℕ → Scratch → Scratch
asking_columns columns s = record s { columns_wanted = columns }

-- where the last line of a text may be a head, its delimiter row begins
abbrev pub head_code : World → OpenText → Bool → Transition
head_code w text true = record {
  to = Retry (n.GfmTable its.HeadDelimiterStart);
  world = record w { scratch = asking_columns text.columns w.scratch };
}
head_code w text false = record { to = Nok; world = w }

-- by the leaf that the line meets
abbrev pub start_code : World → HeldLeaf → Transition
start_code w (held_leaf.Text text) = head_code w text (may_head w.setting.options text)
start_code w held_leaf.Table = record { to = Retry (n.GfmTable its.BodyRowStart); world = w }
start_code w _ = record { to = Nok; world = w }

-- by whether a line of a table may begin here: elsewhere none is looked for
abbrev pub begins_code : World → Bool → Transition
begins_code w true = start_code w w.flags.leaf
begins_code w false = record { to = Nok; world = w }

abbrev pub start_transition : World → Transition
start_transition w = begins_code w (may_with (may_begin w.flags.leaf) (looks_after w))

-- after the indent of a head its first part begins
abbrev pub head_row_start_transition : World → Transition
head_row_start_transition w = record { to = Retry (n.GfmTable its.HeadRowBreak); world = w }

-- all of them
abbrev pub table_transition : TableState → World → Transition
table_transition its.Start w = start_transition w
table_transition its.HeadRowBefore w = row_transition Head place.Start w
table_transition its.HeadRowStart w = head_row_start_transition w
table_transition its.HeadRowBreak w = row_transition Head place.Break w
table_transition its.HeadRowData w = row_transition Head place.Data w
table_transition its.HeadRowEscape w = row_transition Head place.Escape w
table_transition its.HeadRowCellBefore w = row_transition Head place.CellBefore w
table_transition its.BodyRowStart w = row_transition Body place.Start w
table_transition its.BodyRowBreak w = row_transition Body place.Break w
table_transition its.BodyRowData w = row_transition Body place.Data w
table_transition its.BodyRowEscape w = row_transition Body place.Escape w
table_transition its.BodyRowCellBefore w = row_transition Body place.CellBefore w
table_transition state w = delimiter_transition state w

abbrev pub TableNeeds : StateName → World → Type 0
TableNeeds name w = DelimiterNeeds name w

-- what holds at each state of a table
abbrev pub TableInvariant : StateName → Position → Type 0
TableInvariant (n.GfmTable its.HeadDelimiterStart) x = IsCounting x
TableInvariant (n.GfmTable its.HeadDelimiterBefore) x = IsCounting x
TableInvariant (n.GfmTable its.HeadDelimiterCellBefore) x = IsCounting x
TableInvariant (n.GfmTable its.HeadDelimiterValueBefore) x = IsCounting x
TableInvariant (n.GfmTable its.HeadDelimiterLeftAlignmentAfter) x = IsCounting x
TableInvariant (n.GfmTable its.HeadDelimiterFiller) x = IsCounting x
TableInvariant (n.GfmTable its.HeadDelimiterRightAlignmentAfter) x = IsCounting x
TableInvariant (n.GfmTable its.HeadDelimiterCellAfter) x = IsCounting x
TableInvariant (n.GfmTable its.HeadDelimiterNok) x = IsCounting x
TableInvariant _ x = IsRest x.scratch

-- Before a row a table is at rest.
abbrev pub start_scheme : Scheme
start_scheme = record {
  ready = λ name x K. rest_ready x K;
  level = λ name. 1;
  rank = λ name x. ranked 6 refl;
  tries = λ name. ranked 0 refl;
}

-- which part of a table has each state
abbrev pub part_scheme : TableState → Scheme
part_scheme its.Start = start_scheme
part_scheme its.HeadRowBefore = row_scheme
part_scheme its.HeadRowStart = row_scheme
part_scheme its.HeadRowBreak = row_scheme
part_scheme its.HeadRowData = row_scheme
part_scheme its.HeadRowEscape = row_scheme
part_scheme its.HeadRowCellBefore = row_scheme
part_scheme its.BodyRowStart = row_scheme
part_scheme its.BodyRowBreak = row_scheme
part_scheme its.BodyRowData = row_scheme
part_scheme its.BodyRowEscape = row_scheme
part_scheme its.BodyRowCellBefore = row_scheme
part_scheme _ = delimiter_scheme

abbrev pub table_owner : StateName → Scheme
table_owner (n.GfmTable state) = part_scheme state
table_owner _ = nowhere

abbrev pub table_scheme : Scheme
table_scheme = of_owners table_owner

-- An answer names the state that is called next: one that stays at what is here, or one after what was taken, where
-- more is there and is seen then.
pub data AnswersWith (to : State) (name : StateName) (w : World) : World → Type 0 where
  ThatStays : to ≡ Retry name → AnswersWith to name w w
  ThatTook : to ≡ Next name → w.point.index < w.setting.limit → AnswersWith to name w (reading w)
