-- The table of content: which construct has each state, what each does, and what is left at it.
use Rattle.std.specs.Prelude.{◌≡◌}
use Rattle.md_engine.specs.declared.configuration.ParseOptions.{ParseOptions}
use Rattle.md_engine.specs.declared.state.Name.{Name as StateName}
use Rattle.md_engine.specs.declared.state.Name.TheVariants as n
use Rattle.md_engine.specs.declared.state.content.State.TheVariants as content
use Rattle.md_engine.specs.declared.state.State.{State}
use Rattle.md_engine.specs.declared.state.State.TheVariants.{Nok}
use Rattle.md_engine.specs.Meaning.{Behaviour, Refuses}
use Rattle.md_engine.specs.Scheme.{Scheme, nowhere, of_owners}
use Rattle.md_engine.specs.World.{World}
use Rattle.md_content.specs.Definitions.{definitions_scheme, definitions_transition}
use Rattle.md_content.specs.DefinitionsRule.{definitions_behave}
use Rattle.md_content.specs.Paragraph.{paragraph_scheme, paragraph_transition}
use Rattle.md_content.specs.ParagraphRule.{paragraph_behaves}
use Rattle.md_link_definitions.specs.Definition.{definition_scheme, definition_transition}
use Rattle.md_link_definitions.specs.DefinitionRule.{definition_behaves}
use Rattle.md_link_definitions.specs.Destination.{destination_scheme, destination_transition}
use Rattle.md_link_definitions.specs.DestinationRule.{destination_behaves}
use Rattle.md_link_definitions.specs.Gap.{gap_scheme, gap_transition}
use Rattle.md_link_definitions.specs.GapRule.{gap_behaves}
use Rattle.md_link_definitions.specs.Label.{label_scheme, label_transition}
use Rattle.md_link_definitions.specs.LabelRule.{label_behaves}
use Rattle.md_link_definitions.specs.Title.{title_scheme, title_transition}
use Rattle.md_link_definitions.specs.TitleRule.{title_behaves}
use Rattle.md_events.specs.Ahead.{white_behaves}
use Rattle.md_events.specs.Spaces.{white_scheme, white_transition}
use Rattle.md_events.specs.Transition.{Transition}

abbrev pub content_owner : StateName → Scheme
content_owner (n.Content state) = definitions_scheme
content_owner (n.Definition state) = definition_scheme
content_owner (n.Destination state) = destination_scheme
content_owner (n.Label state) = label_scheme
content_owner (n.Paragraph state) = paragraph_scheme
content_owner (n.SpaceOrTab state) = white_scheme
content_owner (n.SpaceOrTabEol state) = gap_scheme
content_owner (n.Title state) = title_scheme
content_owner _ = nowhere

abbrev pub content_scheme : Scheme
content_scheme = of_owners content_owner

abbrev pub content_transition : StateName → World → Transition
content_transition (n.Content state) w = definitions_transition state w
content_transition (n.Definition state) w = definition_transition state w
content_transition (n.Destination state) w = destination_transition state w
content_transition (n.Label state) w = label_transition state w
content_transition (n.Paragraph state) w = paragraph_transition state w
content_transition (n.SpaceOrTab state) w = white_transition state w
content_transition (n.SpaceOrTabEol state) w = gap_transition state w
content_transition (n.Title state) w = title_transition state w
content_transition _ w = record { to = Nok; world = w }

-- what a call of a state does, where there is memory
pub record ContentStep (name : StateName) (w : World) (to : State) (new : World) : Type 0 where
  pub to_is : to ≡ (content_transition name w).to
  pub new_is : new ≡ (content_transition name w).world

-- what is left at each state of content
abbrev pub content_behaves : ParseOptions → Behaviour
content_behaves options (n.Content state) cells h = definitions_behave options state cells h
content_behaves options (n.Definition state) cells h = definition_behaves options state cells h
content_behaves options (n.Destination state) cells h = destination_behaves state cells h
content_behaves options (n.Label state) cells h = label_behaves state cells h
content_behaves options (n.Paragraph state) cells h = paragraph_behaves state cells h
content_behaves options (n.SpaceOrTab state) cells h = white_behaves state cells h
content_behaves options (n.SpaceOrTabEol state) cells h = gap_behaves state cells h
content_behaves options (n.Title state) cells h = title_behaves state cells h
content_behaves options _ cells h = Refuses h.scratch h.flags

-- the state before a part
abbrev pub content_start : StateName
content_start = n.Content content.DefinitionBefore
