-- The start of a container after a small indent, which accepts only after the point where it begins, is and ends in any
-- table that has its states.
use Rattle.std.proofs.Common.{◌<◌, ◌≤◌, Bool, true, false, refl, arith}
use Rattle.md_engine.specs.declared.event.Name.{Name}
use Rattle.md_engine.specs.declared.state.Name.{Name as StateName}
use Rattle.md_engine.specs.Scheme.{After, Fits, Scheme, Position, after_all, position}
use Rattle.md_engine.specs.World.{World}
use Rattle.md_engine.proofs.Falls.{passing_at}
use Rattle.md_engine.proofs.Local.{refuses_later, turns}
use Rattle.md_leaves.specs.LeafStart.{start_code}
use Rattle.md_events.specs.Spaces.{IsRest, later_ready, small_indent}
use Rattle.md_events.specs.Transition.{entered}
use Rattle.md_events.proofs.SpacesTermination.{Does, WhiteFits, rest-calm, rest-none, white_try_later}

-- a table has both states: the next one asks no more than the first, and ranks below it
pub record FitsLaterStart (T own : Scheme) (start next : StateName) : Type 1 where
  pub white : WhiteFits T
  pub start_fits : Fits T own start
  pub next_fits : Fits T own next
  pub ready : (x : Position) (K : After) → later_ready x K → own.ready next x K
  pub level : own.level next ≤ own.level start
  pub some : 0 < own.level start
  pub falls : (x : Position) → (own.rank next x).number < (own.tries next).number
  pub tries : (x : Position) → (own.tries next).number < (own.rank start x).number

pub good-later_start : (T own : Scheme) (name : Name) (start next : StateName) (w : World) (x y : Bool) →
    FitsLaterStart T own start next → later_ready (position w) (after_all T w.frames) →
    Does T start w (start_code name next w x y)
good-later_start T own name start next w false y has r = (refuses_later T _ w _ _ w.events w.scratch r.1 r.0, refl)
good-later_start T own name start next w true true has r =
    white_try_later T own start next w (entered w name).events w.scratch 0 (small_indent w.setting.options) IsRest
    IsRest has.white has.start_fits has.next_fits (rest-none w.scratch r.0) (λ some. rest-calm w.scratch r.0) r.1
    (λ q t up way. has.ready _ _ (rest-calm w.scratch r.0, passing_at _ _ (position w) _ q t _ up way r.1)) has.level
    has.some (λ t up. has.falls _) (has.tries _)
good-later_start T own name start next w true false has r = (
  turns T own start next w (entered w name).events w.scratch has.start_fits has.next_fits (has.ready _ _ r) has.level
      (let a = has.falls (position w) in let b = has.tries (position w) in omega (arith, a, b)),
  refl,
)
