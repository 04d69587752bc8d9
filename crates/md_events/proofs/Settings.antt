-- The setting of a tokenizer stays, whatever is read.
use Rattle.std.proofs.Common.{◌≡◌, Bool, true, false, List, [], Option, refl, ap, ◌∙◌}
use Rattle.md_engine.specs.declared.resolve.name.Name.{Name as ResolveName}
use Rattle.md_engine.specs.declared.state.State.{State}
use Rattle.md_engine.specs.Found.{Found}
use Rattle.md_engine.specs.Run.{Flushes, Resolution, Resolved, ResolvedIf, Step}
use Rattle.md_engine.specs.Run.Resolved.{More, NoneYet}
use Rattle.md_engine.specs.World.{World}
use Rattle.md_engine.proofs.Keeps.{runs-setting}

-- a call of a resolver keeps it
pub record KeepsResolving (R : Resolution) : Type 0 where
  pub setting : (n : ResolveName) (w : World) (found : Option Found) (new : World) → R n w found new →
      new.setting ≡ w.setting

resolved-setting : (R : Resolution) (w : World) (names : List ResolveName) (found : Found) (v : World) →
    KeepsResolving R → Resolved R w names found v → v.setting ≡ w.setting
resolved-setting R w names found v keeps NoneYet = refl
resolved-setting R w names found v keeps (More ns n f m v' v'' r step) =
    keeps.setting n v' m v'' step ∙ resolved-setting R w ns f v' keeps r

pub flushes-setting : (T : Step) (R : Resolution) (from : State) (old : World) (resolve : Bool) (found : Found)
    (new : World) →
    KeepsResolving R → Flushes T R from old resolve found new → new.setting ≡ old.setting
flushes-setting T R from old resolve found new kept h =
    go resolve h.resolved ∙ runs-setting T true from old h.end h.at h.runs
  where
    go : (b : Bool) → ResolvedIf R b h.at found new → new.setting ≡ h.at.setting
    go true r = resolved-setting R (record h.at { resolvers = [] }) _ _ _ kept r
    go false r = ap (λ (x : World). x.setting) r.0
