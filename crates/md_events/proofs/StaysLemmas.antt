-- States of a table that stay.
use Rattle.std.proofs.Common.{◌≡◌, refl, ap, sym}
use Rattle.md_engine.specs.declared.state.Name.{Name as StateName}
use Rattle.md_engine.specs.declared.state.State.{State}
use Rattle.md_engine.specs.declared.state.State.TheVariants.{Next}
use Rattle.md_engine.specs.declared.stay.Stay.{Stay}
use Rattle.md_engine.specs.Run.{Step, reading}
use Rattle.md_engine.specs.Scheme.{Scheme, valid}
use Rattle.md_engine.specs.Staying.{StaysOn, stayed}
use Rattle.md_engine.specs.World.{World, looks}
use Rattle.md_events.specs.Stays.{TakesEach}
use Rattle.md_events.specs.Transition.{Transition}
use Rattle.md_events.proofs.SpacesTermination.{Does, does-valid}

-- a state stays in a table where it only takes and counts, by what it does there
pub stays-on : (T : Step) (S : Scheme) (n : StateName) (k : Stay) (t : World → Transition) →
    ((w : World) (to : State) (new : World) → to ≡ (t w).to → new ≡ (t w).world → T n w to new) →
    ((w : World) → w.current ≡ looks w → valid S w (Next n) → Does S n w (t w)) → TakesEach k n t → StaysOn T S n k
stays-on T S n k t steps does each = record {
  step = λ w b e h.
      let is : t (reading w) ≡ record { to = Next n; world = stayed k w } = each (reading w) b e h in
      steps (reading w) (Next n) (stayed k w) (sym (ap (λ (a : Transition). a.to) is))
      (sym (ap (λ (a : Transition). a.world) is));
  ready = λ w b e h at.
      let is : t (reading w) ≡ record { to = Next n; world = stayed k w } = each (reading w) b e h in
      does-valid S n (reading w) (t (reading w)) (Next n) (stayed k w) (sym (ap (λ (a : Transition). a.to) is))
      (sym (ap (λ (a : Transition). a.world) is)) (does (reading w) refl at);
}
