-- Each state of the head of a table keeps what its table needs, and takes one step of what it means.
use Rattle.std.proofs.Common.{◌≡◌, ◌≢◌, Bool, List, Option, Some, None, IfSome, refl, subst, sym}
use Rattle.md_engine.specs.declared.state.Name.{Name as StateName}
use Rattle.md_engine.specs.declared.state.Name.TheVariants as n
use Rattle.md_engine.specs.declared.state.gfm_table.State.TheVariants as its
use Rattle.md_engine.specs.declared.state.State.{State}
use Rattle.md_engine.specs.declared.state.State.TheVariants.{Error, Next}
use Rattle.md_engine.specs.declared.stay.Stay.{Stay}
use Rattle.md_engine.specs.Going.{SeesOn}
use Rattle.md_engine.specs.Meaning.{Cell, Feed, Here, Steps}
use Rattle.md_engine.specs.Run.{RunsHere, reading}
use Rattle.md_engine.specs.Scheme.{Fits, valid}
use Rattle.md_engine.specs.Situation.{MeansAt, KeepsValid}
use Rattle.md_engine.specs.Staying.{StaysOn}
use Rattle.md_engine.specs.World.{Setting, World, looks}
use Rattle.md_engine.proofs.Local.{fits}
use Rattle.md_engine.proofs.Loops.{call-runs, call-sees}
use Rattle.md_engine.specs.Sees.{Sees}
use Rattle.md_engine.proofs.StepOf.{sees, steps-as}
use Rattle.md_engine.proofs.Walks.{EachKeeps, Within}
use Rattle.md_events.specs.Ahead.{HasWhite}
use Rattle.md_events.specs.Stays.{TakesEach}
use Rattle.md_events.proofs.SpacesTermination.{Does, WhiteFits, does-fall, does-remain}
use Rattle.md_events.proofs.SpacesTermination.{does-setting, does-valid, white_terminates}
use Rattle.md_events.proofs.StaysLemmas.{stays-on}
use Rattle.md_events.proofs.WhiteMeaning.{white_means}
use Rattle.md_tables.specs.HeadStates.{HeadStep, head_behaves, head_owner, head_scheme, head_transition}
use Rattle.md_tables.specs.Row.{name_at, row_scheme, row_transition}
use Rattle.md_tables.specs.RowRule.{HasRow, row_behaves}
use Rattle.md_tables.specs.RowWords.{RowStep}
use Rattle.md_tables.specs.RowWords.RowStep.{OfRow, OfWhite}
use Rattle.md_tables.specs.declared.row.Place.{Place}
use Rattle.md_tables.specs.declared.row.Place.TheVariants as place
use Rattle.md_tables.specs.declared.row.Row.TheVariants.{Head}
use Rattle.md_tables.proofs.RowTermination.{RowFits, row_terminates}
use Rattle.md_tables.proofs.RowMeaning.{row_means}

-- The table has a head row, and whitespace.

white_fits : WhiteFits head_scheme
white_fits = record { each = λ state. fits head_owner (n.SpaceOrTab state) }

row_fits : RowFits head_scheme Head
row_fits = record { white = white_fits; each = at }
  where
    at : (p : Place) → Fits head_scheme row_scheme (name_at Head p)
    at place.Start = fits head_owner (name_at Head place.Start)
    at place.Break = fits head_owner (name_at Head place.Break)
    at place.Data = fits head_owner (name_at Head place.Data)
    at place.Escape = fits head_owner (name_at Head place.Escape)
    at place.CellBefore = fits head_owner (name_at Head place.CellBefore)

pub head_terminates : (name : StateName) (w : World) → w.current ≡ looks w → valid head_scheme w (Next name) →
    Does head_scheme name w (head_transition name w)
head_terminates (n.GfmTable its.HeadRowBefore) w c r = row_terminates head_scheme Head place.Start w row_fits c r
head_terminates (n.GfmTable its.HeadRowBreak) w c r = row_terminates head_scheme Head place.Break w row_fits c r
head_terminates (n.GfmTable its.HeadRowData) w c r = row_terminates head_scheme Head place.Data w row_fits c r
head_terminates (n.GfmTable its.HeadRowEscape) w c r = row_terminates head_scheme Head place.Escape w row_fits c r
head_terminates (n.GfmTable its.HeadRowCellBefore) w c r =
    row_terminates head_scheme Head place.CellBefore w row_fits c r
head_terminates (n.SpaceOrTab state) w c r = white_terminates head_scheme state w white_fits c r
head_terminates name w c r = absurd r

-- What is left at each state is what these say.

has_white : HasWhite head_behaves
has_white = record { each = λ _ _ _. refl }

has_row : HasRow head_behaves Head
has_row = record { white = has_white; each = at }
  where
    at : (p : Place) (cells : List Cell) (h : Here) → head_behaves (name_at Head p) cells h ≡ row_behaves Head p cells h
    at place.Start cells h = refl
    at place.Break cells h = refl
    at place.Data cells h = refl
    at place.Escape cells h = refl
    at place.CellBefore cells h = refl

head_means : (feed : Feed) (name : StateName) (w : World) → Sees feed w → valid head_scheme w (Next name) →
    Steps head_behaves feed (Next name) w (head_transition name w).to (head_transition name w).world
head_means feed (n.GfmTable its.HeadRowBefore) w s at = row_means head_behaves feed Head place.Start w has_row s at.0
head_means feed (n.GfmTable its.HeadRowBreak) w s at = row_means head_behaves feed Head place.Break w has_row s at.0
head_means feed (n.GfmTable its.HeadRowData) w s at = row_means head_behaves feed Head place.Data w has_row s at.0
head_means feed (n.GfmTable its.HeadRowEscape) w s at = row_means head_behaves feed Head place.Escape w has_row s at.0
head_means feed (n.GfmTable its.HeadRowCellBefore) w s at =
    row_means head_behaves feed Head place.CellBefore w has_row s at.0
head_means feed (n.SpaceOrTab state) w s at = white_means head_behaves feed state w has_white s
head_means feed name w s at = absurd at

-- each state of the head takes one step of what it means
pub head_table_means : (under : Setting) (is_end : Bool) → MeansAt HeadStep head_scheme under head_behaves is_end
head_table_means under is_end feed name w to new f called step =
    steps-as head_behaves feed (Next name) _ to (reading w) _ new step.to_is step.new_is
    (head_means feed name (reading w) (sees feed w is_end f called.may) called.valid)

-- and reaches where the table is
pub head_keeps_valid : KeepsValid HeadStep head_scheme
head_keeps_valid name w to new at step =
    does-valid head_scheme name (reading w) (head_transition name (reading w)) to new step.to_is step.new_is
    (head_terminates name (reading w) refl at)

-- what only takes stays
pub head-stays : (name : StateName) (o : Option Stay) → IfSome o (λ k. TakesEach k name (head_transition name)) →
    IfSome o (λ k. StaysOn HeadStep head_scheme name k)
head-stays name None h = tt
head-stays name (Some k) h =
    stays-on HeadStep head_scheme name k (head_transition name)
    (λ w to new e k. record { to_is = e; new_is = k }) (head_terminates name) h

-- what a call of a row does a call of this table does
pub row-heads : (name : StateName) (w : World) (to : State) (new : World) → RowStep Head name w to new →
    HeadStep name w to new
row-heads name w to new (OfRow p named to_is new_is) =
    subst (λ (x : StateName). HeadStep x w to new) (sym named) (at p to_is new_is)
  where
    at : (q : Place) → to ≡ (row_transition Head q w).to → new ≡ (row_transition Head q w).world →
        HeadStep (name_at Head q) w to new
    at place.Start e k = record { to_is = e; new_is = k }
    at place.Break e k = record { to_is = e; new_is = k }
    at place.Data e k = record { to_is = e; new_is = k }
    at place.Escape e k = record { to_is = e; new_is = k }
    at place.CellBefore e k = record { to_is = e; new_is = k }
row-heads name w to new (OfWhite state named to_is new_is) =
    subst (λ (x : StateName). HeadStep x w to new) (sym named) (record { to_is = to_is; new_is = new_is })

-- what each call keeps
pub head-keeps : EachKeeps HeadStep head_scheme
head-keeps name w to new seen at step =
    let does = head_terminates name w seen at in (
      does-valid head_scheme name w (head_transition name w) to new step.to_is step.new_is does,
      does-fall head_scheme name w (head_transition name w) to new step.to_is step.new_is does,
    )

-- one call of a state is a run
pub head-called : (name : StateName) (w : World) (to : State) (new : World) → w.current ≡ looks w →
    valid head_scheme w (Next name) → Within w → to ≢ Error → to ≡ (head_transition name w).to →
    new ≡ (head_transition name w).world →
    RunsHere HeadStep name w to new × SeesOn to w new
head-called name w to new seen at within fine to_is new_is =
    let does = head_terminates name w seen at in
    let same : new.setting ≡ w.setting = does-setting head_scheme name w _ _ new_is does in (
      call-runs HeadStep name w to new (record { to_is = to_is; new_is = new_is }) fine same within,
      call-sees to w new (does-remain head_scheme name w _ to new to_is new_is does) same seen,
    )
