-- The states by which the head of a table is read (GFM 4.10): those of a head row, and of whitespace.
use Rattle.std.specs.Prelude.{◌≡◌, List, Option, Some, None}
use Rattle.md_engine.specs.declared.state.Name.{Name as StateName}
use Rattle.md_engine.specs.declared.state.Name.TheVariants as n
use Rattle.md_engine.specs.declared.state.gfm_table.State.{State as TableState}
use Rattle.md_engine.specs.declared.state.State.{State}
use Rattle.md_engine.specs.declared.state.State.TheVariants.{Nok}
use Rattle.md_engine.specs.Meaning.{Behaviour, Cell, Here, Outcome, Refuses}
use Rattle.md_engine.specs.Scheme.{Scheme, nowhere, of_owners}
use Rattle.md_engine.specs.World.{World}
use Rattle.md_events.specs.Ahead.{white_behaves}
use Rattle.md_events.specs.Spaces.{white_scheme, white_transition}
use Rattle.md_events.specs.Transition.{Transition}
use Rattle.md_tables.specs.Row.{name_at, place_of, row_scheme, row_transition}
use Rattle.md_tables.specs.RowRule.{row_behaves}
use Rattle.md_tables.specs.declared.row.Place.{Place}
use Rattle.md_tables.specs.declared.row.Place.TheVariants as place
use Rattle.md_tables.specs.declared.row.Row.TheVariants.{Head}

-- where in the head a state is
abbrev pub head_place : TableState → Option Place
head_place state = place_of Head state

abbrev pub scheme_at : Option Place → Scheme
scheme_at None = nowhere
scheme_at (Some p) = row_scheme

abbrev pub head_owner : StateName → Scheme
head_owner (n.GfmTable state) = scheme_at (head_place state)
head_owner (n.SpaceOrTab state) = white_scheme
head_owner _ = nowhere

abbrev pub head_scheme : Scheme
head_scheme = of_owners head_owner

abbrev pub transition_at : Option Place → World → Transition
transition_at None w = record { to = Nok; world = w }
transition_at (Some p) w = row_transition Head p w

abbrev pub head_transition : StateName → World → Transition
head_transition (n.GfmTable state) w = transition_at (head_place state) w
head_transition (n.SpaceOrTab state) w = white_transition state w
head_transition _ w = record { to = Nok; world = w }

-- what a call of a state does, where there is memory
pub record HeadStep (name : StateName) (w : World) (to : State) (new : World) : Type 0 where
  pub to_is : to ≡ (head_transition name w).to
  pub new_is : new ≡ (head_transition name w).world

-- what is left at each state
abbrev pub behaves_at : Option Place → List Cell → Here → Outcome
behaves_at None cells h = Refuses h.scratch h.flags
behaves_at (Some p) cells h = row_behaves Head p cells h

abbrev pub head_behaves : Behaviour
head_behaves (n.GfmTable state) cells h = behaves_at (head_place state) cells h
head_behaves (n.SpaceOrTab state) cells h = white_behaves state cells h
head_behaves _ cells h = Refuses h.scratch h.flags

-- the state before the head
abbrev pub head_start : StateName
head_start = name_at Head place.Start
