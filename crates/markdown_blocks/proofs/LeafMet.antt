-- Where a leaf is tried on a line that is followed: what the line has met there, and what the call leads to.
use Rattle.std.proofs.Common.{◌≡◌, ◌⊎◌, inl, inr, ℕ, ◌≤◌, true, false, refl, sym, ap, ◌∙◌, subst, arith}
use Rattle.std.specs.Prelude.{Option, Some}
use Rattle.md_engine.specs.declared.state.Name.{Name as StateName}
use Rattle.md_engine.specs.declared.state.Name.TheVariants as s
use Rattle.md_engine.specs.declared.state.document.State.{State as DocumentState}
use Rattle.md_engine.specs.declared.state.document.State.TheVariants as document
use Rattle.md_engine.specs.declared.state.flow.State.TheVariants as flow
use Rattle.md_engine.specs.declared.state.State.{State}
use Rattle.md_engine.specs.declared.state.State.TheVariants.{Next, Retry}
use Rattle.md_engine.specs.declared.tokenizer.held_leaf.HeldLeaf.{HeldLeaf}
use Rattle.md_engine.specs.Meaning.{Feed}
use Rattle.md_engine.specs.Run.{Calls, plain, reading}
use Rattle.md_engine.specs.Scheme.{state_level}
use Rattle.md_engine.specs.Sees.{Sees}
use Rattle.md_engine.specs.World.{Setting, World, looks}
use Rattle.md_flow.specs.LineRule.{first_state}
use Rattle.md_registry.specs.FlowRule.{feeds}
use Rattle.md_registry.specs.States.{FlowStep, flow_table_scheme, flow_transition}
use Rattle.proof_frame.specs.LeafName.{LeafName}
use Rattle.markdown_blocks.specs.Fed.{tries_leaf}
use Rattle.markdown_blocks.proofs.FlowTries.{called-low}
use Rattle.markdown_blocks.proofs.LeafTried.{FlowLeads, HasMetAt, IsTriedAt, first-seen, flow-leads, is_flow, is_past}
use Rattle.markdown_blocks.proofs.LeafTried.{leads-tried, met-named}
use Rattle.markdown_blocks.proofs.LineMet.{Asks, Between, HasAsked, HasOpened, InFlow, IsAsking, IsInLeaf, IsOpening}
use Rattle.markdown_blocks.proofs.LineMet.{OnLine, is_between}
use Rattle.markdown_blocks.proofs.LinesFed.{none-or-ending}

-- All states that try one are of flow, take no ending, and are higher than what they try
pub tries-flow : (name : StateName) → tries_leaf name ≡ true → is_flow name ≡ true
tries-flow (s.Flow state) e = refl
tries-flow (s.Document document.FlowInside) e = refl
tries-flow (s.Document state) e = cc
tries-flow name e = cc

pub tries-none : (name : StateName) (o : Option ℕ) → tries_leaf name ≡ true → feeds name o ≡ 0
tries-none name o e = go (none-or-ending name o)
  where
    go : (feeds name o ≡ 0) ⊎ ((name ≡ s.Document document.FlowEnd) × (o ≡ Some 10)) → feeds name o ≡ 0
    go (inl none) = none
    go (inr ending) = let bad : false ≡ true = ap tries_leaf (sym ending.0) ∙ e in cc

tries-high : (name : StateName) → tries_leaf name ≡ true → flow_table_scheme.level name ≤ 2 → ⊥
tries-high (s.Flow flow.Start) e low = absurd (omega (arith, low))
tries-high (s.Flow state) e low = absurd (omega (arith, low))
tries-high (s.Document document.FlowInside) e low = absurd (omega (arith, low))
tries-high (s.Document state) e low = cc
tries-high name e low = cc

between-other : (d : DocumentState) → is_between d ≡ true → tries_leaf (s.Document d) ≡ true → ⊥
between-other document.ContainersAfter is e = cc
between-other document.ContainerNewBefore is e = cc
between-other document.ContainerNewBeforeNotBlockQuote is e = cc
between-other document.ContainerNewBeforeNotList is e = cc
between-other d is e = cc

-- what the line has met there
pub met-there : (under : Setting) (feed : Feed) (still : HeldLeaf) (t : State) (v : World) → OnLine under feed still t v →
    (name : StateName) → plain t ≡ Next name → tries_leaf name ≡ true →
    (is_past name ≡ true) ⊎ HasMetAt under.options (feed v.point) name v.flags still
met-there under feed still t v on name to tries = go on
  where
    Met : Type 0
    Met = (is_past name ≡ true) ⊎ HasMetAt under.options (feed v.point) name v.flags still

    P : StateName → Type 0
    P m = tries_leaf m ≡ true

    -- no other state is called here
    other : (d : DocumentState) → plain t ≡ Next (s.Document d) → (tries_leaf (s.Document d) ≡ true → ⊥) → Met
    other d named not = let same : name ≡ s.Document d = let e = to in cc in absurd (not (subst P same tries))

    low : state_level flow_table_scheme t ≤ 2 → Met
    low le = absurd (tries-high name tries (called-low t name to le))

    go : OnLine under feed still t v → Met
    go (Asks done cs named frames are continued keeps) = other document.ContainerExistingBefore named (λ e. cc)
    go (HasAsked done cs named frames are continued keeps) = other document.ContainerExistingAfter named (λ e. cc)
    go (Between d named is frames meets) = other d named (between-other d is)
    go (HasOpened named frames blank) = other document.ContainerNewAfter named (λ e. cc)
    go (IsAsking a) = low a.tries.low
    go (IsOpening a) = low a.tries.low
    go (IsInLeaf a) = low a.tries.low
    go (InFlow is frames meets) = met-named under.options (feed v.point) t name v.flags still to meets

-- and what a call leads to
pub flow-led : (under : Setting) (feed : Feed) (still : HeldLeaf) (t : State) (v : World) (t' : State) (v' : World) →
    OnLine under feed still t v → Sees feed (reading v) → (c : Calls FlowStep true t v t' v') →
    tries_leaf c.name ≡ true → FlowLeads under.options feed still (reading v) (flow_transition c.name (reading v))
flow-led under feed still t v t' v' on seen c tries =
    flow-leads under.options feed still c.name (reading v) (tries-flow c.name tries)
    (tries-none c.name (looks v) tries) (first-seen feed (reading v) seen)
    (met-there under feed still t v on c.name c.names tries)

pub leaf-tried : (under : Setting) (feed : Feed) (still : HeldLeaf) (t : State) (v : World) (t' : State) (v' : World) →
    OnLine under feed still t v → Sees feed (reading v) → (c : Calls FlowStep true t v t' v') →
    tries_leaf c.name ≡ true → (l : LeafName) → t' ≡ Retry (first_state l) → IsTriedAt l (reading v) v' still
leaf-tried under feed still t v t' v' on seen c tries l to =
    subst (λ (w : World). IsTriedAt l (reading v) w still) (sym c.step.new_is)
    (leads-tried under.options feed still (reading v) (flow_transition c.name (reading v)) l
    (flow-led under feed still t v t' v' on seen c tries) (sym c.step.to_is ∙ to))
