-- Where a container is tried, or an open one is asked, the tokenizer is as their first states require.
use Rattle.std.proofs.Common.{◌≡◌, ℕ, zero, suc, ◌≤◌, Bool, true, false, List, [], ◌∷◌, ◌++◌, length, Option, Some, None}
use Rattle.std.proofs.Common.{refl, sym, ap, ◌∙◌, subst, append-nil, arith}
use Rattle.std.specs.Prelude.{slice_get}
use Rattle.std.proofs.lemmas.Option.{slice_get_past}
use Rattle.md_engine.specs.declared.state.Name.{Name as StateName}
use Rattle.md_engine.specs.declared.state.Name.TheVariants as s
use Rattle.md_engine.specs.declared.state.document.State.{State as DocumentState}
use Rattle.md_engine.specs.declared.state.document.State.TheVariants as document
use Rattle.md_engine.specs.declared.state.State.{State}
use Rattle.md_engine.specs.declared.state.State.TheVariants.{Next, Retry}
use Rattle.md_engine.specs.declared.tokenizer.container.Container.{Container as Held}
use Rattle.md_engine.specs.declared.tokenizer.container.name.ContainerKind.{ContainerKind}
use Rattle.md_engine.specs.declared.tokenizer.container.name.ContainerKind.TheVariants as kind
use Rattle.md_engine.specs.declared.tokenizer.held_leaf.HeldLeaf.{HeldLeaf}
use Rattle.md_engine.specs.Meaning.{Feed}
use Rattle.md_engine.specs.Run.{Calls, plain, reading}
use Rattle.md_engine.specs.Scheme.{state_level, valid}
use Rattle.md_engine.specs.World.{Setting, World, container_of, looks}
use Rattle.md_events.specs.Spaces.{IsRest, ends_line}
use Rattle.md_flow.specs.LineRule.{IsHeldAs, further_state, opener_state}
use Rattle.md_meaning.specs.State.{Container, InFootnote, InItem, InQuote}
use Rattle.md_registry.specs.Flow.{existing_before_code, trial_code}
use Rattle.md_registry.specs.LineFlags.{asking, next_container}
use Rattle.md_registry.specs.Registry.{MatchesContainer, container_rules, continues_with, opens_with}
use Rattle.md_registry.specs.States.{FlowStep, flow_table_scheme, flow_transition}
use Rattle.proof_frame.specs.ContainerNames.{IsOf}
use Rattle.proof_rows.proofs.FlowHeld.{IsNext, open-length, open-next}
use Rattle.proof_rows.specs.Valid.{AreOpen}
use Rattle.markdown_blocks.specs.Fed.{before_opener}
use Rattle.markdown_blocks.proofs.FlowTries.{called-low}
use Rattle.markdown_blocks.proofs.LeafTried.{called-flow}
use Rattle.markdown_blocks.proofs.LineMet.{Asks, Between, HasAsked, HasOpened, InFlow, IsAsking, IsInLeaf, IsOpening}
use Rattle.markdown_blocks.proofs.LineMet.{OnLine, is_between}

-- One that may open.

-- where it is tried, it is asked for at this column
pub record IsTriedOpener (k : ContainerKind) (w new : World) : Type 0 where
  pub asked : new.flags.asked ≡ container_of k
  pub column : new.flags.asked_column ≡ new.point.column
  pub scratch : new.scratch ≡ w.scratch

no-opener : (k : ContainerKind) (d : DocumentState) → s.Document d ≡ opener_state k → ⊥
no-opener kind.BlockQuote d e = cc
no-opener kind.ListItem d e = cc
no-opener kind.GfmFootnoteDefinition d e = cc

opener-trial : (k : ContainerKind) (w : World) (ok d : DocumentState) (may : Bool) →
    let x = trial_code (opens_with k) (s.Document ok) (s.Document d) (asking (container_of k) w) may in
    x.to ≡ Retry (opener_state k) → IsTriedOpener k w x.world
opener-trial k w ok d true to = record { asked = refl; column = refl; scratch = refl }
opener-trial k w ok d false to =
    let same : s.Document d ≡ opener_state k = let e = to in cc in absurd (no-opener k d same)

opener-leads : (k : ContainerKind) (w : World) → (flow_transition (before_opener k) w).to ≡ Retry (opener_state k) →
    IsTriedOpener k w (flow_transition (before_opener k) w).world
opener-leads kind.BlockQuote w to = opener-trial kind.BlockQuote w _ _ _ to
opener-leads kind.ListItem w to = opener-trial kind.ListItem w _ _ _ to
opener-leads kind.GfmFootnoteDefinition w to = opener-trial kind.GfmFootnoteDefinition w _ _ _ to

pub opener-tried : (k : ContainerKind) (t : State) (v : World) (t' : State) (v' : World) →
    (c : Calls FlowStep true t v t' v') → c.name ≡ before_opener k → t' ≡ Retry (opener_state k) →
    IsTriedOpener k (reading v) v'
opener-tried k t v t' v' c name to =
    let P : StateName → Type 0 = λ m. FlowStep m (reading v) t' v' in
    let step : FlowStep (before_opener k) (reading v) t' v' = subst P name c.step in
    subst (IsTriedOpener k (reading v)) (sym step.new_is) (opener-leads k (reading v) (sym step.to_is ∙ to))

pub opener-rest : (k : ContainerKind) (v : World) → valid flow_table_scheme v (Next (before_opener k)) →
    IsRest v.scratch
opener-rest kind.BlockQuote v at = at.0.0
opener-rest kind.ListItem v at = at.0.0
opener-rest kind.GfmFootnoteDefinition v at = at.0.0

-- An open one.

-- it is held as it is, and asked by the state of its kind
held-by : (k : ContainerKind) (c : Container) (held : Held) → IsOf k c → (container_rules k).holds held c →
    IsHeldAs c held × (further_state c ≡ continues_with k)
held-by kind.BlockQuote (InQuote alert) held is h = (h, refl)
held-by kind.BlockQuote (InItem digits marker zero blank) held is h = absurd (cc)
held-by kind.BlockQuote (InItem digits marker (suc w) blank) held is h = absurd (cc)
held-by kind.BlockQuote (InFootnote label) held is h = absurd (cc)
held-by kind.ListItem (InQuote alert) held is h = absurd (cc)
held-by kind.ListItem (InItem digits marker width blank) held is h = (h, refl)
held-by kind.ListItem (InFootnote label) held is h = absurd (cc)
held-by kind.GfmFootnoteDefinition (InQuote alert) held is h = absurd (cc)
held-by kind.GfmFootnoteDefinition (InItem digits marker zero blank) held is h = absurd (cc)
held-by kind.GfmFootnoteDefinition (InItem digits marker (suc w) blank) held is h = absurd (cc)
held-by kind.GfmFootnoteDefinition (InFootnote label) held is h = (h, refl)

-- the next that is asked is open
next-open : (ks : List Held) (n : ℕ) (done cs : List Container) → AreOpen ks (done ++ cs) → n ≡ length done →
    (k : Held) → slice_get ks n ≡ Some k → (c : Container) × MatchesContainer k c
next-open ks n done [] are at k found =
    let all = open-length ks (done ++ []) are in
    let same : length (done ++ []) ≡ length done = ap length (append-nil done) in
    let past : slice_get ks n ≡ None = slice_get_past ks n (omega (arith, all, same, at)) in
    let bad : Some k ≡ None = sym found ∙ past in cc
next-open ks n done (c ∷ cs) are at k found =
    let first : IsNext ks done c cs = open-next ks done c cs are in
    let one : Some k ≡ Some first.held = sym found ∙ ap (λ (i : ℕ). slice_get ks i) at ∙ first.found in
    let same : first.held ≡ k = cc in
    (c, subst (λ (h : Held). MatchesContainer h c) same first.is)

-- where it is asked, it is held so, and asked for at this column
pub record IsTriedFurther (c : Container) (w new : World) : Type 0 where
  pub container : Container
  pub state : further_state container ≡ further_state c
  pub held : IsHeldAs container new.flags.asked
  pub column : new.flags.asked_column ≡ new.point.column
  pub scratch : new.scratch ≡ w.scratch

no-further : (c : Container) (d : DocumentState) → s.Document d ≡ further_state c → ⊥
no-further (InQuote alert) d e = cc
no-further (InItem digits marker width blank) d e = cc
no-further (InFootnote label) d e = cc

other-further : (c : Container) (d : DocumentState) (w new : World) → Retry (s.Document d) ≡ Retry (further_state c) →
    IsTriedFurther c w new
other-further c d w new to =
    let same : s.Document d ≡ further_state c = let e = to in cc in absurd (no-further c d same)

asks-further : (c : Container) (v : World) (done cs : List Container) → AreOpen v.flags.containers (done ++ cs) →
    v.flags.continued ≡ length done → (ends : Bool) (o : Option Held) → next_container v.flags ≡ o →
    let x = existing_before_code (reading v) ends o in
    x.to ≡ Retry (further_state c) → IsTriedFurther c (reading v) x.world
asks-further c v done cs are at true o found to = other-further c _ _ _ to
asks-further c v done cs are at false None found to = other-further c _ _ _ to
asks-further c v done cs are at false (Some k) found to = go _ to
  where
    next : (d : Container) × MatchesContainer k d
    next = next-open v.flags.containers v.flags.continued done cs are at k found

    held : IsHeldAs next.0 k × (further_state next.0 ≡ continues_with k.kind)
    held = held-by k.kind next.0 k next.1.0 next.1.1

    go : (may : Bool) →
        let x = trial_code (continues_with k.kind) (s.Document document.ContainerExistingAfter)
        (s.Document document.ContainerNewBefore) (asking k (reading v)) may in
        x.to ≡ Retry (further_state c) → IsTriedFurther c (reading v) x.world
    go true e =
        let same : continues_with k.kind ≡ further_state c = let f = e in cc in
        record { container = next.0; state = held.1 ∙ same; held = held.0; column = refl; scratch = refl }
    go false e = other-further c document.ContainerNewBefore _ _ e

pub further-tried : (under : Setting) (feed : Feed) (still : HeldLeaf) (t : State) (v : World) (t' : State)
    (v' : World) → OnLine under feed still t v → (call : Calls FlowStep true t v t' v') →
    call.name ≡ s.Document document.ContainerExistingBefore → (c : Container) → t' ≡ Retry (further_state c) →
    IsTriedFurther c (reading v) v'
further-tried under feed still t v t' v' on call name c to = go on
  where
    P : StateName → Type 0
    P m = FlowStep m (reading v) t' v'

    step : FlowStep (s.Document document.ContainerExistingBefore) (reading v) t' v'
    step = subst P name call.step

    at : plain t ≡ Next (s.Document document.ContainerExistingBefore)
    at = call.names ∙ ap (λ (m : StateName). Next m) name

    high : state_level flow_table_scheme t ≤ 2 → IsTriedFurther c (reading v) v'
    high low =
        let le = called-low t (s.Document document.ContainerExistingBefore) at low in absurd (omega (arith, le))

    between : (d : DocumentState) → plain t ≡ Next (s.Document d) → is_between d ≡ true →
        IsTriedFurther c (reading v) v'
    between document.ContainerExistingBefore named is = cc
    between d named is = let bad = sym at ∙ named in cc

    go : OnLine under feed still t v → IsTriedFurther c (reading v) v'
    go (Asks done cs named frames are continued keeps) =
        subst (IsTriedFurther c (reading v)) (sym step.new_is)
        (asks-further c v done cs are continued (ends_line (looks v)) (next_container v.flags) refl
        (sym step.to_is ∙ to))
    go (HasAsked done cs named frames are continued keeps) = let bad = sym at ∙ named in cc
    go (Between d named is frames meets) = between d named is
    go (HasOpened named frames blank) = let bad = sym at ∙ named in cc
    go (IsAsking a) = high a.tries.low
    go (IsOpening a) = high a.tries.low
    go (IsInLeaf a) = high a.tries.low
    go (InFlow is frames meets) =
        let bad : false ≡ true = called-flow t (s.Document document.ContainerExistingBefore) at is in cc
