-- Each state of flow takes one step of what flow means.
use Rattle.md_registry.proofs.FlowSteps.{following_ending, containers_means, ending_left, leaves_means}
use Rattle.md_registry.specs.FlowRule.{FlowInvariant, IsContinued, feeds, HasFlow, flow_at, line_ended}
use Rattle.std.proofs.Common.{◌≡◌, inl, inr, Bool, List, [], Some, refl, sym, ◌∙◌, ap, subst}
use Rattle.md_engine.specs.declared.state.Name.{Name as StateName}
use Rattle.md_engine.specs.declared.state.Name.TheVariants as n
use Rattle.md_engine.specs.declared.state.document.State.{State as DocumentState}
use Rattle.md_engine.specs.declared.state.document.State.TheVariants as document
use Rattle.md_engine.specs.declared.state.flow.State.{State as FlowState}
use Rattle.md_engine.specs.declared.state.flow.State.TheVariants as flow
use Rattle.md_engine.specs.declared.state.State.{State}
use Rattle.md_engine.specs.declared.state.State.TheVariants.{Next}
use Rattle.md_engine.specs.Meaning.{Behaviour, Cell, Feed, Steps, proceeds, here}
use Rattle.md_engine.specs.Run.{reading}
use Rattle.md_engine.specs.Scheme.{valid}
use Rattle.md_engine.specs.Situation.{MeansAt, KeepsValid}
use Rattle.md_engine.specs.World.{Setting, World, closed, looks}
use Rattle.md_engine.specs.Sees.{Sees, ahead}
use Rattle.md_engine.proofs.StepOf.{outermost-frames, sees, steps-as}
use Rattle.md_content.proofs.ContentMeaning.{chunk_means}
use Rattle.md_leaves.proofs.BlankMeaning.{blank_means}
use Rattle.md_events.specs.Transition.{Transition}
use Rattle.md_events.proofs.SpacesTermination.{does-valid}
use Rattle.md_events.proofs.WhiteMeaning.{white_means}
use Rattle.md_registry.specs.Document.{document_own_transition}
use Rattle.md_registry.specs.Flow.{flow_end_code}
use Rattle.proof_frame.specs.Rule.{Rule}
use Rattle.md_registry.specs.LineFlags as flags
use Rattle.md_registry.specs.States.{FlowStep, flow_behaves, flow_behaves_by, flow_table_scheme, flow_transition}
use Rattle.md_registry.proofs.FlowLemmas.{flow_by_line}
use Rattle.md_registry.proofs.States.{flow_terminates}
use Rattle.md_registry.proofs.Registry.{construct-steps}
use Rattle.md_flow.proofs.LineRule.Lines.{flow_has}

-- where the table is at a state, the state has what it needs
flow-needs : (state : FlowState) (w : World) → valid flow_table_scheme w (Next (n.Flow state)) → FlowInvariant state w
flow-needs flow.BlankLineBefore w at = tt
flow-needs flow.BeforeContent w at = tt
flow-needs flow.BlankLineAfter w at = tt
flow-needs flow.LeafAfter w at = tt
flow-needs flow.After w at = tt
flow-needs _ w at = at.0.0

containers_at : (feed : Feed) (next : Rule) (state : DocumentState) (w : World) →
    HasFlow (flow_behaves_by w.setting.bytes w.setting.options next) w.setting.options next → Sees feed w →
    valid flow_table_scheme w (Next (n.Document state)) →
    IsContinued (flow_behaves_by w.setting.bytes w.setting.options next) next (feeds (n.Document state) w.current) →
    Steps (flow_behaves_by w.setting.bytes w.setting.options next) feed (Next (n.Document state)) w
    (document_own_transition state w).to (document_own_transition state w).world
containers_at feed next state w has s at on = go state at on
  where
    B : Behaviour
    B = flow_behaves_by w.setting.bytes w.setting.options next

    go : (state : DocumentState) → valid flow_table_scheme w (Next (n.Document state)) →
        IsContinued B next (feeds (n.Document state) w.current) →
        Steps B feed (Next (n.Document state)) w (document_own_transition state w).to
        (document_own_transition state w).world
    go document.Start at on = absurd at
    go document.BeforeFrontmatter at on = absurd at
    go document.ContainerNewBeforeNotFootnoteDefinition at on = absurd at
    go document.ContainerNewAfter at on =
        containers_means B feed next document.ContainerNewAfter w has s
        (outermost-frames flow_table_scheme w.frames at.1) on (λ x. cc) (λ x. cc)
    go document.FlowEnd at on =
        containers_means B feed next document.FlowEnd w has s (outermost-frames flow_table_scheme w.frames at.1) on
        (λ x. cc) (λ x. cc)
    go document.ContainerExistingBefore at on =
        containers_means B feed next document.ContainerExistingBefore w has s at.0.0 on (λ x. cc) (λ x. cc)
    go document.ContainerNewBefore at on =
        containers_means B feed next document.ContainerNewBefore w has s at.0.0 on (λ x. cc) (λ x. cc)
    go document.ContainerNewBeforeNotBlockQuote at on =
        containers_means B feed next document.ContainerNewBeforeNotBlockQuote w has s at.0.0 on (λ x. cc) (λ x. cc)
    go document.ContainerNewBeforeNotList at on =
        containers_means B feed next document.ContainerNewBeforeNotList w has s at.0.0 on (λ x. cc) (λ x. cc)
    go document.ContainerExistingAfter at on =
        containers_means B feed next document.ContainerExistingAfter w has s tt on (λ x. cc) (λ x. cc)
    go document.ContainersAfter at on =
        containers_means B feed next document.ContainersAfter w has s tt on (λ x. cc) (λ x. cc)
    go document.FlowInside at on =
        containers_means B feed next document.FlowInside w has s tt on (λ x. cc) (λ x. cc)

-- each state takes one step of what it means
each_means : (feed : Feed) (next : Rule) (name : StateName) (w : World) →
    Sees feed w → w.current ≡ looks w → valid flow_table_scheme w (Next name) →
    IsContinued (flow_behaves_by w.setting.bytes w.setting.options next) next (feeds name w.current) →
    Steps (flow_behaves_by w.setting.bytes w.setting.options next) feed (Next name) w
    (flow_transition name w).to
    (flow_transition name w).world
each_means feed next name w s c at on = go name at on
  where
    B : Behaviour
    B = flow_behaves_by w.setting.bytes w.setting.options next

    has : HasFlow B w.setting.options next
    has = flow_has w.setting.bytes w.setting.options next

    go : (name : StateName) → valid flow_table_scheme w (Next name) → IsContinued B next (feeds name w.current) →
        Steps B feed (Next name) w (flow_transition name w).to (flow_transition name w).world
    go (n.BlankLine state) at on = blank_means B feed state w has.blank s at.0
    go (n.Content state) at on =
        chunk_means B feed state w _ (record { each = λ _ _ _. refl }) s c at
    go (n.Document state) at on = containers_at feed next state w has s at on
    go (n.Flow state) at on = leaves_means B feed next state w has s (flow-needs state w at)
    go (n.SpaceOrTab state) at on = white_means B feed state w has.blank.white s
    go name at on = construct-steps feed next name w s c at

-- whatever follows after the line, a call that takes no ending is one step of what flow means
pub flow-steps-by : (feed : Feed) (next : Rule) (name : StateName)
    (w : World) →
    Sees feed w → w.current ≡ looks w → valid flow_table_scheme w (Next name) → feeds name w.current ≡ 0 →
    Steps (flow_behaves_by w.setting.bytes w.setting.options next) feed (Next name) w
    (flow_transition name w).to
    (flow_transition name w).world
flow-steps-by feed next name w s c at none = each_means feed next name w s c at (inl none)

-- an ending is taken with no attempt around, and then the rule continues
pub record Takes (next : Rule) (feed : Feed) (w : World) (to : State) (new : World) : Type 0 where
  pub frames : w.frames ≡ []
  pub to_is : to ≡ Next (n.Document document.ContainerExistingBefore)
  pub still : new.frames ≡ []
  pub is_continued : proceeds (flow_behaves_by w.setting.bytes w.setting.options next)
      (Next (n.Document document.FlowEnd))
      (feed w.point) (here w) ≡
      next (feed new.point) (here new)

pub ending-taken : (feed : Feed) (next : Rule) (w : World) → Sees feed w →
    valid flow_table_scheme w (Next (n.Document document.FlowEnd)) → w.current ≡ Some 10 →
    Takes next feed w (flow_transition (n.Document document.FlowEnd) w).to
    (flow_transition (n.Document document.FlowEnd) w).world
ending-taken feed next w s at is = subst P (sym (ap (flow_end_code v) is)) taken_here
  where
    v : World
    v = closed w (flags.kept_containers w.flags) w.flags.line_end

    P : Transition → Type 0
    P x = Takes next feed w x.to x.world

    none : w.frames ≡ []
    none = outermost-frames flow_table_scheme w.frames at.1

    taken_here : Takes next feed w (Next (n.Document document.ContainerExistingBefore)) (following_ending v)
    taken_here = record {
      frames = none;
      to_is = refl;
      still = none;
      is_continued =
          ap (λ (x : List Cell). line_ended next x (here w)) (s.next ∙ ap (ahead feed w) is)
          ∙ ending_left feed v next 10 refl;
    }

-- each state of flow takes one step of what flow means: after a line all further lines follow
pub flow_table_means : (under : Setting) (is_end : Bool) →
    MeansAt FlowStep flow_table_scheme under (flow_behaves under.bytes under.options) is_end
flow_table_means under is_end feed name w to new f called step =
    steps-as (flow_behaves under.bytes under.options) feed (Next name) _ to (reading w) _ new step.to_is step.new_is
    (rw (sym called.setting)
    (each_means feed (flow_at w.setting.options) name (reading w)
    (sees feed w is_end f called.may) refl called.valid (inr (flow_by_line w.setting.options))))

-- and reaches where the table is
pub flow_keeps_valid : KeepsValid FlowStep flow_table_scheme
flow_keeps_valid name w to new at step =
    does-valid flow_table_scheme name (reading w)
    (flow_transition name (reading w)) to new step.to_is step.new_is
    (flow_terminates name (reading w) refl at)
