-- A run from where a table is keeps what the tokenizer becomes.
use Rattle.std.proofs.Common.{◌≡◌, Bool, refl, sym, ◌∙◌, ap, subst}
use Rattle.md_engine.specs.declared.state.State.{State}
use Rattle.md_engine.specs.declared.state.State.TheVariants.{Next}
use Rattle.md_engine.specs.Meaning.{Behaviour, Feed, Follows, whole_outcome}
use Rattle.md_engine.specs.Run.{Runs, Step, plain, reading}
use Rattle.md_engine.specs.Run.Runs.{Stays, ThenCalls, ThenLeaves}
use Rattle.md_engine.specs.Scheme.{Scheme, valid}
use Rattle.md_engine.specs.Situation.{IsCalled, MeansAt, KeepsValid}
use Rattle.md_engine.specs.World.{Setting, World}
use Rattle.md_engine.proofs.Falls.{leaves_valid}
use Rattle.md_engine.proofs.Keeps.{leaves-keep, plain-same, runs-setting, steps-keep}

pub runs-mean : (T : Step) (S : Scheme) (B : Behaviour) (is_end : Bool) (feed : Feed) (s : State) (w : World) →
    MeansAt T S w.setting B is_end → KeepsValid T S → Follows feed w.setting is_end → valid S w (plain s) →
    (s' : State) (w' : World) → Runs T is_end s w s' w' →
    (whole_outcome B feed s w ≡ whole_outcome B feed s' w') × valid S w' (plain s')
runs-mean T S B is_end feed s w m on f at s' w' Stays = (refl, at)
runs-mean T S B is_end feed s w m on f at s' w' (ThenLeaves t v t' v' r l) =
    let before = runs-mean T S B is_end feed s w m on f at t v r in
    (before.0 ∙ leaves-keep B feed t t' v v' l, leaves_valid S v v' t t' l before.1)
runs-mean T S B is_end feed s w m on f at s' w' (ThenCalls t v t' v' r c) =
    let before = runs-mean T S B is_end feed s w m on f at t v r in
    let P : Setting → Type 0 = λ x. Follows feed x is_end in
    let Q : State → Type 0 = λ x. valid S v x in
    let here' : valid S v (Next c.name) = subst Q c.names before.1 in
    let kept : v.setting ≡ w.setting = runs-setting T is_end s w t v r in
    let called : IsCalled S w.setting is_end c.name v = record {
      may = c.may;
      setting = kept;
      valid = here';
    } in (
      before.0 ∙ sym (plain-same B feed v t) ∙ ap (λ (x : State). whole_outcome B feed x v) c.names
          ∙ steps-keep B feed (Next c.name) t' (reading v) v' c.within
          (m feed c.name v t' v' (subst P (sym kept) f) called c.step),
      on c.name v t' v' here' c.step,
    )
