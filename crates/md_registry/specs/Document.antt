-- The front of a document: a byte order mark and frontmatter, and then its lines.
use Rattle.std.specs.Prelude.{◌≡◌, refl, ℕ, List}
use Rattle.md_engine.specs.declared.configuration.ParseOptions.{ParseOptions}
use Rattle.md_engine.specs.declared.state.Name.{Name as StateName}
use Rattle.md_engine.specs.declared.state.Name.TheVariants as s
use Rattle.md_engine.specs.declared.state.bom.State.TheVariants as bom
use Rattle.md_engine.specs.declared.state.document.State.{State as DocumentState}
use Rattle.md_engine.specs.declared.state.document.State.TheVariants as document
use Rattle.md_engine.specs.declared.state.frontmatter.State.TheVariants as front
use Rattle.md_engine.specs.declared.state.State.{State}
use Rattle.md_engine.specs.declared.state.State.TheVariants.{Ok, Nok, Next, Retry}
use Rattle.md_engine.specs.Scheme.{Rank, Scheme, Position, nowhere, of_owners, ranked}
use Rattle.md_engine.specs.World.{World}
use Rattle.md_containers.specs.Frontmatter.{front_scheme, front_transition}
use Rattle.md_leaves.specs.Bom.{bom_scheme, bom_transition}
use Rattle.md_events.specs.Spaces.{rest_ready, white_scheme, white_transition}
use Rattle.md_events.specs.Transition.{Transition, tried}
use Rattle.md_registry.specs.Flow.{containers_after_transition, existing_after_transition, existing_before_transition}
use Rattle.md_registry.specs.Flow.{flow_end_transition, new_after_transition, inside_transition, opener_transition}
use Rattle.proof_leaf_laws.specs.Front.{body_point, front_events}
use Rattle.md_registry.specs.Registry.{opener_at}

-- States.

abbrev pub start_transition : World → Transition
start_transition w =
    record {
      to = Retry (s.Bom bom.Start);
      world = tried w (Next (s.Document document.BeforeFrontmatter)) (Next (s.Document document.BeforeFrontmatter));
    }

-- whether there is frontmatter or not, the lines follow
abbrev pub before_frontmatter_transition : World → Transition
before_frontmatter_transition w = record { to = Retry (s.Frontmatter front.Start); world = tried w Ok Ok }

-- after the last container that may open, where none does: the containers of the line are all there
abbrev pub none_opens_transition : World → Transition
none_opens_transition w = record { to = Retry (s.Document document.ContainersAfter); world = w }

-- each state with what it does, where there is memory: before the lines, and between the containers of a line; those of
-- blocks that are not built refuse
abbrev pub document_own_transition : DocumentState → World → Transition
document_own_transition document.Start w = start_transition w
document_own_transition document.BeforeFrontmatter w = before_frontmatter_transition w
document_own_transition document.ContainerExistingBefore w = existing_before_transition w
document_own_transition document.ContainerExistingAfter w = existing_after_transition w
document_own_transition document.ContainerNewAfter w = new_after_transition w
document_own_transition document.ContainersAfter w = containers_after_transition w
document_own_transition document.FlowInside w = inside_transition w
document_own_transition document.FlowEnd w = flow_end_transition w
document_own_transition document.ContainerNewBeforeNotFootnoteDefinition w = none_opens_transition w
document_own_transition state w = opener_transition (opener_at state) w

abbrev pub document_rank : StateName → Position → Rank
document_rank (s.Document document.Start) x = ranked 3 refl
document_rank _ x = ranked 1 refl

abbrev pub document_scheme : Scheme
document_scheme =
    record { ready = λ n x K. rest_ready x K; level = λ n. 3; rank = document_rank; tries = λ n. ranked 2 refl }

-- The table: which construct has each state, and what each does.

-- the states of its lines are in the table of flow
abbrev pub front_owner : DocumentState → Scheme
front_owner document.Start = document_scheme
front_owner document.BeforeFrontmatter = document_scheme
front_owner _ = nowhere

abbrev pub document_owner : StateName → Scheme
document_owner (s.Bom state) = bom_scheme
document_owner (s.Frontmatter state) = front_scheme
document_owner (s.SpaceOrTab state) = white_scheme
document_owner (s.Document state) = front_owner state
document_owner _ = nowhere

abbrev pub document_table_scheme : Scheme
document_table_scheme = of_owners document_owner

abbrev pub document_transition : StateName → World → Transition
document_transition (s.Bom state) w = bom_transition state w
document_transition (s.Frontmatter state) w = front_transition state w
document_transition (s.SpaceOrTab state) w = white_transition state w
document_transition (s.Document state) w = document_own_transition state w
document_transition _ w = record { to = Nok; world = w }

-- what a call of a state does, where there is memory
pub record DocumentStep (name : StateName) (w : World) (to : State) (new : World) : Type 0 where
  pub to_is : to ≡ (document_transition name w).to
  pub new_is : new ≡ (document_transition name w).world

-- What it reads.

-- the front of a text was read: its mark and its frontmatter
pub record ReadsFront (bytes : List ℕ) (options : ParseOptions) (new : World) : Type 0 where
  pub events : new.events ≡ front_events options bytes
  pub point : new.point ≡ body_point options bytes
  pub bytes_are : new.setting.bytes ≡ bytes
