-- Each state of the document takes one step of what the document means.
use Rattle.std.proofs.Common.{◌≡◌, Bool, false, List, length, take, refl, sym, ap, arith}
use Rattle.std.proofs.lemmas.List.{take_all}
use Rattle.md_engine.specs.declared.configuration.ParseOptions.{ParseOptions}
use Rattle.md_engine.specs.declared.event.Event.{Event}
use Rattle.md_engine.specs.declared.state.Name.{Name as StateName}
use Rattle.md_engine.specs.declared.state.Name.TheVariants as n
use Rattle.md_engine.specs.declared.state.document.State.{State as DocumentState}
use Rattle.md_engine.specs.declared.state.document.State.TheVariants as document
use Rattle.md_engine.specs.declared.state.State.TheVariants.{Next, Ok}
use Rattle.md_engine.specs.declared.state.State.{State}
use Rattle.md_engine.specs.declared.tokenizer.Frame.{Frame}
use Rattle.md_engine.specs.Meaning.{Accepts, Fails, Feed, Outcome, Refuses, Steps, proceeds, here, resume}
use Rattle.md_engine.specs.Run.{reading}
use Rattle.md_engine.specs.Scheme.{valid}
use Rattle.md_engine.specs.Situation.{MeansAt, KeepsValid}
use Rattle.md_engine.specs.World.{Setting, World, looks}
use Rattle.md_engine.specs.Sees.{Sees}
use Rattle.md_engine.proofs.StepOf.{begins_only, sees, steps-as}
use Rattle.md_containers.specs.FrontmatterRule.{HasFront, front_at}
use Rattle.md_containers.proofs.FrontmatterMeaning.{front_means}
use Rattle.md_leaves.specs.BomRule.{HasBom, bom_at}
use Rattle.md_leaves.proofs.BomMeaning.{bom_means}
use Rattle.md_events.specs.Ahead.{HasWhite}
use Rattle.md_events.proofs.SpacesTermination.{does-valid}
use Rattle.md_events.proofs.WhiteMeaning.{white_means}
use Rattle.md_registry.specs.Document.{DocumentStep, before_frontmatter_transition, document_own_transition}
use Rattle.md_registry.specs.Document.{document_table_scheme, document_transition, start_transition}
use Rattle.proof_leaf_laws.specs.DocumentRule.{document_behaves}
use Rattle.proof_frame.specs.Rule.{tried}
use Rattle.md_registry.proofs.DocumentStates.{document_terminates}

has_bom : (options : ParseOptions) → HasBom (document_behaves options)
has_bom options = record { each = λ _ _ _. refl }

has_white : (options : ParseOptions) → HasWhite (document_behaves options)
has_white options = record { each = λ _ _ _. refl }

has_front : (options : ParseOptions) → HasFront (document_behaves options) options
has_front options = record { white = has_white options; each = λ _ _ _. refl }

-- an attempt that was begun here, which continues with this either way
abbrev frame_to : State → World → Frame
frame_to following w =
    record { ok = following; nok = following; is_check = false; events_len = length w.events; point = w.point }

-- what it becomes
resumed : (options : ParseOptions) (feed : Feed) (following : State) (w : World) (o : Outcome) →
    tried o (λ rest k. proceeds (document_behaves options) following rest k)
    (λ s g. proceeds (document_behaves options) following (feed w.point) (record (here w) { scratch = s; flags = g })) ≡
    resume (document_behaves options) feed w.events (frame_to following w) o
resumed options feed following w (Accepts h rest) = refl
resumed options feed following w (Refuses s g) =
    let back : take (length w.events) w.events ≡ w.events = take_all (length w.events) w.events (omega arith) in
    sym
    (ap
    (λ (x : List Event).
    proceeds (document_behaves options) following (feed w.point)
    (record { events = x; point = w.point; scratch = s; flags = g })) back)
resumed options feed following w Fails = refl

-- the states before the lines
abbrev pub IsFront : DocumentState → Type 0
IsFront document.Start = Unit {0}
IsFront document.BeforeFrontmatter = Unit {0}
IsFront _ = ⊥

pub own_means : (options : ParseOptions) (feed : Feed) (state : DocumentState) (w : World) →
    IsFront state →
    Steps (document_behaves options) feed (Next (n.Document state)) w (document_own_transition state w).to
    (document_own_transition state w).world
own_means options feed document.Start w at =
    let following = Next (n.Document document.BeforeFrontmatter) in
    begins_only (document_behaves options) feed _ _ w (start_transition w).world (frame_to following w) refl refl
    (resumed options feed following w (bom_at (feed w.point) (here w)))
own_means options feed document.BeforeFrontmatter w at =
    begins_only (document_behaves options) feed _ _ w (before_frontmatter_transition w).world (frame_to Ok w) refl refl
    (resumed options feed Ok w (front_at options (feed w.point) (here w)))
own_means options feed state w at = absurd at

front-at : (state : DocumentState) (w : World) → valid document_table_scheme w (Next (n.Document state)) →
    IsFront state
front-at document.Start w at = tt
front-at document.BeforeFrontmatter w at = tt
front-at _ w at = absurd at

document_means : (feed : Feed) (name : StateName) (w : World) → Sees feed w → w.current ≡ looks w →
    valid document_table_scheme w (Next name) →
    Steps (document_behaves w.setting.options) feed (Next name) w (document_transition name w).to
    (document_transition name w).world
document_means feed (n.Bom state) w s c at =
    bom_means (document_behaves w.setting.options) feed state w _ (has_bom w.setting.options) s at
document_means feed (n.Frontmatter state) w s c at =
    front_means (document_behaves w.setting.options) feed state w (has_front w.setting.options) s
document_means feed (n.SpaceOrTab state) w s c at =
    white_means (document_behaves w.setting.options) feed state w (has_white w.setting.options) s
document_means feed (n.Document state) w s c at =
    own_means w.setting.options feed state w (front-at state w at)
document_means feed name w s c at = absurd at

-- each state of the document takes one step of what the document means
pub document_table_means : (under : Setting) (is_end : Bool) →
    MeansAt DocumentStep document_table_scheme under (document_behaves under.options) is_end
document_table_means under is_end feed name w to new f called step =
    steps-as (document_behaves under.options) feed (Next name) _ to (reading w) _ new step.to_is step.new_is
    (rw (sym called.setting)
    (document_means feed name (reading w) (sees feed w is_end f called.may) refl called.valid))

-- and reaches where the table is
pub document_keeps_valid : KeepsValid DocumentStep document_table_scheme
document_keeps_valid name w to new at step =
    does-valid document_table_scheme name (reading w)
    (document_transition name (reading w)) to new step.to_is step.new_is (document_terminates name (reading w) refl at)
