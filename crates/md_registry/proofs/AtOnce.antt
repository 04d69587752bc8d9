-- Prefixes that are taken at once are what the states of containers take.
use Rattle.std.proofs.Common.{◌≡◌, Bool, true, false, Option, Some, None, refl, sym, ◌∙◌, ap, subst}
use Rattle.md_registry.specs.Registry.{bars_containers, continues_with, may_continue, opener_front, openers}
use Rattle.md_registry.specs.Flow.{following_all, existing_after_transition, existing_before_code}
use Rattle.md_registry.specs.Flow.{existing_before_transition, trial_code}
use Rattle.md_engine.specs.declared.state.Name.TheVariants as n
use Rattle.md_engine.specs.declared.state.document.State.TheVariants as document
use Rattle.md_engine.specs.declared.state.State.{State}
use Rattle.md_engine.specs.declared.state.State.TheVariants.{Retry}
use Rattle.md_engine.specs.declared.tokenizer.container.Container.{Container}
use Rattle.md_engine.specs.declared.tokenizer.container.name.ContainerKind.{ContainerKind}
use Rattle.md_engine.specs.Run.{Remains}
use Rattle.md_engine.specs.World.{World, looks}
use Rattle.md_engine.proofs.Loops.{ArrivedAt}
use Rattle.md_engine.proofs.Walks.{Within, then-stays}
use Rattle.md_events.specs.Spaces.{ends_line}
use Rattle.md_events.specs.Look.{looks_after, may_with}
use Rattle.md_events.specs.Transition.{Transition, tried}
use Rattle.md_registry.specs.AtOnce.{ContinuesAtOnce, HasPrefix, asking_by, asking_next, prefix_taken}
use Rattle.md_registry.specs.LineFlags.{asking, next_container}
use Rattle.md_registry.specs.States.{FlowStep}
use Rattle.md_registry.proofs.PlainLaws.{TookPrefix, after-it, others}
use Rattle.md_registry.proofs.Registry.{plain-laws}

-- a container that continues at once is tried
tries : (w : World) (c : Container) (k : ContainerKind) → HasPrefix c k w → w.current ≡ looks w →
    trial_code (continues_with k) (n.Document document.ContainerExistingAfter) (n.Document (opener_front openers))
    (asking c w) (may_with (may_continue k) (looks_after w)) ≡
    record { to = Retry (continues_with k); world = tried (asking c w) after-it others }
tries w c k is seen =
    ap
    (trial_code (continues_with k) (n.Document document.ContainerExistingAfter) (n.Document (opener_front openers))
    (asking c w)) ((plain-laws k).may w c is seen)

-- so is the next one, where that continues at once
pub asked : (w : World) → (at_once : ContinuesAtOnce w) → asking_next w ≡ asking at_once.held w
asked w at_once = ap (λ (o : Option Container). asking_by o w) at_once.next

begins : (w : World) → w.current ≡ looks w → (at_once : ContinuesAtOnce w) →
    existing_before_transition w ≡
    record { to = Retry (continues_with at_once.held.kind); world = tried (asking at_once.held w) after-it others }
begins w seen at_once =
    ap (λ (x : Bool). existing_before_code w x (next_container w.flags))
    ((plain-laws at_once.held.kind).not_end w at_once.held at_once.prefix seen)
    ∙ ap (existing_before_code w false) at_once.next
    ∙ tries w at_once.held at_once.held.kind at_once.prefix seen

-- so the one that is asked has its prefix here
abbrev pub AskedHas : World → Type 0
AskedHas w = HasPrefix w.flags.asked w.flags.asked.kind w

pub asked-prefix : (w : World) → (at_once : ContinuesAtOnce w) → AskedHas (asking_next w)
asked-prefix w at_once =
    subst AskedHas (sym (asked w at_once))
    ((plain-laws at_once.held.kind).asked w at_once.held at_once.held at_once.prefix)

-- the prefix of the one that is asked was taken
abbrev pub asked_taken : World → World
asked_taken w = prefix_taken w.flags.asked w.flags.asked.kind w

pub took-prefix : (w u : World) → (at_once : ContinuesAtOnce w) → u ≡ asked_taken (asking_next w) → TookPrefix w u
took-prefix w u at_once e =
    let a : World = asking at_once.held w in
    let is = (plain-laws at_once.held.kind).took a at_once.held
    ((plain-laws at_once.held.kind).asked w at_once.held at_once.held at_once.prefix) in
    let P : World → Type 0 = λ x. TookPrefix w x in
    subst P (sym (e ∙ ap asked_taken (asked w at_once)))
    (record { seen = is.seen; inside = is.inside; less = is.less })

-- one more container continues
pub proceeds-on : (is_end : Bool) (s : State) (v w u : World) →
    ArrivedAt FlowStep is_end s v (n.Document document.ContainerExistingBefore) w → w.current ≡ looks w →
    Within w → ContinuesAtOnce w → u ≡ asked_taken (asking_next w) → Within u →
    ArrivedAt FlowStep is_end s v (n.Document document.ContainerExistingBefore)
    (existing_after_transition u).world
proceeds-on is_end s v w u arrived seen within at_once e within_u =
    let T = FlowStep in
    let c : Container = at_once.held in
    let a : World = asking c w in
    let begun : World = tried a after-it others in
    let is = begins w seen at_once in
    let first = then-stays T is_end s v (n.Document document.ContainerExistingBefore) (continues_with c.kind)
    w begun arrived
    (record { to_is = sym (ap (λ (x : Transition). x.to) is); new_is = sym (ap (λ (x : Transition). x.world) is) }) refl
    within refl seen in
    let following = (plain-laws c.kind).runs is_end s v a c first seen within
    ((plain-laws c.kind).asked w c c at_once.prefix) refl in
    let same : u ≡ prefix_taken c c.kind a = e ∙ ap asked_taken (asked w at_once) in
    let there =
    subst (λ (x : World). ArrivedAt T is_end s v (n.Document document.ContainerExistingAfter) x) (sym same) following in
    then-stays T is_end s v (n.Document document.ContainerExistingAfter) (n.Document document.ContainerExistingBefore) u
    (existing_after_transition u).world there (record { to_is = refl; new_is = refl }) refl within_u refl
    (took-prefix w u at_once e).seen

-- What a single call leaves.
existing-code-remains : (w : World) (ends : Bool) (o : Option Container) →
    Remains (existing_before_code w ends o).to w (existing_before_code w ends o).world ×
    ((existing_before_code w ends o).world.setting ≡ w.setting)
existing-code-remains w true o = ((refl, refl), refl)
existing-code-remains w false None = following (bars_containers w.flags.leaf)
  where
    following : (x : Bool) →
        Remains (Retry (n.Document (following_all x))) w w × (w.setting ≡ w.setting)
    following true = ((refl, refl), refl)
    following false = ((refl, refl), refl)
existing-code-remains w false (Some c) = go (may_with (may_continue c.kind) (looks_after w))
  where
    a : Bool → Transition
    a x = trial_code (continues_with c.kind) (n.Document document.ContainerExistingAfter)
        (n.Document (opener_front openers)) (asking c w) x

    go : (x : Bool) → Remains (a x).to w (a x).world × ((a x).world.setting ≡ w.setting)
    go true = ((refl, refl), refl)
    go false = ((refl, refl), refl)

pub existing-remains : (w : World) →
    Remains (existing_before_transition w).to w (existing_before_transition w).world ×
    ((existing_before_transition w).world.setting ≡ w.setting)
existing-remains w = existing-code-remains w (ends_line w.current) (next_container w.flags)
