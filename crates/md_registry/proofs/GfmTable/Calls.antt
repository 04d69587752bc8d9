-- Calls of the states of a table, several at once, are calls of the table of flow.
use Rattle.std.proofs.Common.{◌≡◌, ◌≢◌, ◌<◌, ◌⊎◌, ap, inl, inr, refl, subst, sym}
use Rattle.md_engine.specs.declared.state.Name.{Name as StateName}
use Rattle.md_engine.specs.declared.state.State.{State}
use Rattle.md_engine.specs.declared.state.State.TheVariants.{Error, Next, Retry}
use Rattle.md_engine.specs.Going.{SeesOn}
use Rattle.md_engine.specs.Run.{RunsHere, plain, reading}
use Rattle.md_engine.specs.Scheme.{valid, work}
use Rattle.md_engine.specs.World.{World, looks}
use Rattle.md_engine.proofs.Loops.{ArrivedHere, arrived-first, arrived-on, arrived-runs, arrived-stays, not_error}
use Rattle.md_engine.proofs.Walks.{here-keeps}
use Rattle.md_leaves.proofs.HeadingCalls.{sees-from}
use Rattle.md_tables.specs.GfmTable.{AnswersWith}
use Rattle.md_tables.specs.GfmTable.AnswersWith.{ThatStays, ThatTook}
use Rattle.md_tables.specs.Row.{name_at, row_transition}
use Rattle.md_tables.specs.RowWords.{RowStep}
use Rattle.md_tables.specs.RowWords.RowStep.{OfRow, OfWhite}
use Rattle.md_tables.specs.declared.row.Place.{Place}
use Rattle.md_tables.specs.declared.row.Place.TheVariants as place
use Rattle.md_tables.specs.declared.row.Row.TheVariants.{Body}
use Rattle.md_registry.specs.States.{FlowStep, flow_table_scheme}
use Rattle.md_registry.proofs.FlowCalls.{flow-keeps}

pub row-flows : (name : StateName) (w : World) (to : State)
    (new : World) → RowStep Body name w to new → FlowStep name w to new
row-flows name w to new (OfRow p named to_is new_is) =
    subst (λ (x : StateName). FlowStep x w to new) (sym named) (at p to_is new_is)
  where
    at : (q : Place) → to ≡ (row_transition Body q w).to → new ≡ (row_transition Body q w).world →
        FlowStep (name_at Body q) w to new
    at place.Start e k = record { to_is = e; new_is = k }
    at _ e k = record { to_is = e; new_is = k }
row-flows name w to new (OfWhite state named to_is new_is) =
    subst (λ (x : StateName). FlowStep x w to new) (sym named) (record { to_is = to_is; new_is = new_is })

-- From a state of flow one has reached another, where its table is and sees what is here.
pub record IsValid (first : StateName) (old : World) (name : StateName)
    (w : World) : Type 0 where
  pub arrived : ArrivedHere FlowStep first old name w
  pub current : w.current ≡ looks w
  pub valid : valid flow_table_scheme w (Next name)
  pub may : (w.point ≡ old.point) ⊎ (w.point.index < w.setting.limit)

pub is_valid-first : (first : StateName) (w : World) →
    w.current ≡ looks w → valid flow_table_scheme w (Next first) → IsValid first w first w
is_valid-first first w seen at = record {
  arrived = arrived-first FlowStep first w;
  current = seen;
  valid = at;
  may = inl refl;
}

-- it is called, and left with what it answers,
pub is_valid-leaves : (first : StateName) (old : World) (name : StateName)
    (w : World) (to : State) (new : World) →
    IsValid first old name w → RunsHere FlowStep name w to new → SeesOn to w new →
    RunsHere FlowStep first old to new × SeesOn to old new
is_valid-leaves first old name w to new h runs sees =
    let kept = here-keeps FlowStep flow_table_scheme name w to new flow-keeps h.current h.valid
    runs in (
      λ is_end. arrived-runs FlowStep is_end first name old w to new (h.arrived is_end) (runs is_end),
      sees-from to old w new sees kept.2 h.may,
    )

-- or continues with the state that it answers
pub is_valid-proceeds : (first : StateName) (old : World) (name : StateName)
    (w : World) (to : State) (u : World) (next : StateName) (new : World) →
    IsValid first old name w → RunsHere FlowStep name w to u → SeesOn to w u →
    AnswersWith to next u new →
    IsValid first old next new ×
    (work flow_table_scheme new (Next next) < work flow_table_scheme w (Next name))
is_valid-proceeds first old name w to u next _ h runs sees (ThatStays e) =
    let there : RunsHere FlowStep name w (Retry next) u =
    subst (λ (x : State). RunsHere FlowStep name w x u) e runs in
    let here : SeesOn (Retry next) w u = subst (λ (x : State). SeesOn x w u) e sees in
    let kept = here-keeps FlowStep flow_table_scheme name w (Retry next) u flow-keeps h.current
    h.valid there in
    let on = sees-from (Retry next) old w u here kept.2 h.may in (
      record {
        arrived = arrived-stays FlowStep first name next old w u h.arrived there here kept.2;
        current = here.0;
        valid = kept.0;
        may = on.1;
      },
      kept.1,
    )
is_valid-proceeds first old name w to u next _ h runs sees (ThatTook e lt) =
    let there : RunsHere FlowStep name w (Next next) u =
    subst (λ (x : State). RunsHere FlowStep name w x u) e runs in
    let kept = here-keeps FlowStep flow_table_scheme name w (Next next) u flow-keeps h.current
    h.valid there in (
      record {
        arrived =
            λ is_end. arrived-on FlowStep is_end first next old u (reading u)
            (arrived-runs FlowStep is_end first name old w (Next next) u (h.arrived is_end) (there is_end))
            (inr lt) refl;
        current = refl;
        valid = kept.0;
        may = inr lt;
      },
      kept.1,
    )

pub answers-fine : (to : State) (name : StateName) (w new : World) → AnswersWith to name w new → to ≢ Error
answers-fine to name w _ (ThatStays e) = not_error to name (ap plain e)
answers-fine to name w _ (ThatTook e lt) = not_error to name (ap plain e)
