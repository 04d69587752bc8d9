-- The table of flow: which construct has each state, what each does, and what is left at it.
use Rattle.std.specs.Prelude.{◌≡◌, ℕ, Bool, true, false, List, Option, Some, None}
use Rattle.md_engine.specs.declared.state.Name.{Name as StateName}
use Rattle.md_engine.specs.declared.state.Name.TheVariants as s
use Rattle.md_engine.specs.declared.state.document.State.{State as DocumentState}
use Rattle.md_engine.specs.declared.state.document.State.TheVariants as document
use Rattle.md_engine.specs.declared.state.flow.State.{State as FlowState}
use Rattle.md_engine.specs.declared.state.flow.State.TheVariants as flow
use Rattle.md_engine.specs.declared.state.State.{State}
use Rattle.md_engine.specs.declared.tokenizer.container.name.ContainerKind.{ContainerKind}
use Rattle.md_engine.specs.declared.configuration.ParseOptions.{ParseOptions}
use Rattle.md_engine.specs.Meaning.{Behaviour}
use Rattle.md_engine.specs.Scheme.{Scheme, nowhere, of_owners}
use Rattle.md_engine.specs.World.{World}
use Rattle.md_content.specs.Chunks.{chunk_scheme, chunk_transition}
use Rattle.md_leaves.specs.Blank.{blank_scheme, blank_transition}
use Rattle.md_content.specs.ChunkRule.{chunk_behaves}
use Rattle.md_leaves.specs.BlankRule.{blank_behaves}
use Rattle.md_events.specs.Ahead.{white_behaves}
use Rattle.md_events.specs.Spaces.{white_scheme, white_transition}
use Rattle.md_events.specs.Transition.{Transition}
use Rattle.md_registry.specs.Document.{document_own_transition}
use Rattle.md_registry.specs.Flow.{flow_own_transition, flow_scheme}
use Rattle.proof_frame.specs.Rule.{Rule}
use Rattle.md_registry.specs.FlowRule.{containers_behave, flow_at, leaves_behave}
use Rattle.proof_frame.specs.LeafName.{LeafName}
use Rattle.md_registry.specs.Registry.{construct_behaves, construct_owner, construct_transition, opener_at, tried_at}

-- a container is tried at this state, or none
abbrev pub opener_owner : Option ContainerKind → Scheme
opener_owner None = nowhere
opener_owner (Some k) = flow_scheme

-- the states before the lines are in the table of the document; no tokenizer is at those that are not built
abbrev pub containers_owner : DocumentState → Scheme
containers_owner document.ContainerExistingBefore = flow_scheme
containers_owner document.ContainerExistingAfter = flow_scheme
containers_owner document.ContainerNewAfter = flow_scheme
containers_owner document.ContainersAfter = flow_scheme
containers_owner document.FlowInside = flow_scheme
containers_owner document.FlowEnd = flow_scheme
containers_owner state = opener_owner (opener_at state)

-- nor at those before leaves that are not built
abbrev pub leaf_owner : Option LeafName → Scheme
leaf_owner None = nowhere
leaf_owner (Some l) = flow_scheme

abbrev pub leaves_owner : FlowState → Scheme
leaves_owner flow.Start = flow_scheme
leaves_owner flow.BlankLineBefore = flow_scheme
leaves_owner flow.BeforeContent = flow_scheme
leaves_owner flow.BlankLineAfter = flow_scheme
leaves_owner flow.LeafAfter = flow_scheme
leaves_owner flow.After = flow_scheme
leaves_owner state = leaf_owner (tried_at state)

abbrev pub flow_owner : StateName → Scheme
flow_owner (s.BlankLine state) = blank_scheme
flow_owner (s.Content state) = chunk_scheme
flow_owner (s.Document state) = containers_owner state
flow_owner (s.Flow state) = leaves_owner state
flow_owner (s.SpaceOrTab state) = white_scheme
flow_owner name = construct_owner name

-- the states of flow and of what it is made of; all others are those of constructs
abbrev pub is_flow_own : StateName → Bool
is_flow_own (s.BlankLine state) = true
is_flow_own (s.Content state) = true
is_flow_own (s.Document state) = true
is_flow_own (s.Flow state) = true
is_flow_own (s.SpaceOrTab state) = true
is_flow_own name = false

abbrev pub flow_table_scheme : Scheme
flow_table_scheme = of_owners flow_owner

abbrev pub flow_transition : StateName → World → Transition
flow_transition (s.BlankLine state) w = blank_transition state w
flow_transition (s.Content state) w = chunk_transition state w
flow_transition (s.Document state) w = document_own_transition state w
flow_transition (s.Flow state) w = flow_own_transition state w
flow_transition (s.SpaceOrTab state) w = white_transition state w
flow_transition name w = construct_transition name w

-- what a call of a state does, where there is memory
pub record FlowStep (name : StateName) (w : World) (to : State)
    (new : World) : Type 0 where
  pub to_is : to ≡ (flow_transition name w).to
  pub new_is : new ≡ (flow_transition name w).world

-- what is left at each state, where this is the text, by a rule for what follows after the line,
abbrev pub flow_behaves_by : List ℕ → ParseOptions → Rule → Behaviour
flow_behaves_by bytes options next (s.BlankLine state) cells h = blank_behaves state cells h
flow_behaves_by bytes options next (s.Content state) cells h = chunk_behaves bytes state cells h
flow_behaves_by bytes options next (s.Document state) cells h = containers_behave options next state cells h
flow_behaves_by bytes options next (s.Flow state) cells h = leaves_behave options next state cells h
flow_behaves_by bytes options next (s.SpaceOrTab state) cells h = white_behaves state cells h
flow_behaves_by bytes options next name cells h = construct_behaves bytes options name cells h

-- where all further lines follow after it
abbrev pub flow_behaves : List ℕ → ParseOptions → Behaviour
flow_behaves bytes options = flow_behaves_by bytes options (flow_at options)
