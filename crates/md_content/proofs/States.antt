-- Each state of content keeps what its table needs, and takes one step of what it means.
use Rattle.std.proofs.Common.{◌≡◌, Bool, refl, sym}
use Rattle.md_engine.specs.declared.state.Name.{Name as StateName}
use Rattle.md_engine.specs.declared.state.Name.TheVariants as n
use Rattle.md_engine.specs.declared.state.State.TheVariants.{Next}
use Rattle.md_engine.specs.Meaning.{Feed, Steps}
use Rattle.md_engine.specs.declared.configuration.ParseOptions.{ParseOptions}
use Rattle.md_engine.specs.Run.{reading}
use Rattle.md_engine.specs.Scheme.{after_all, valid}
use Rattle.md_engine.specs.Situation.{MeansAt, KeepsValid}
use Rattle.md_engine.specs.World.{Setting, World, looks}
use Rattle.md_engine.proofs.Local.{fits}
use Rattle.md_engine.specs.Sees.{Sees}
use Rattle.md_engine.proofs.StepOf.{sees, steps-as}
use Rattle.md_engine.proofs.Walks.{EachKeeps}
use Rattle.md_content.specs.DefinitionsRule.{HasDefinitions}
use Rattle.md_content.specs.ParagraphRule.{HasParagraph}
use Rattle.md_content.specs.States.{ContentStep, content_behaves, content_owner, content_scheme, content_transition}
use Rattle.md_content.proofs.DefinitionsTermination.{DefinitionsFits, definitions_terminates}
use Rattle.md_content.proofs.DefinitionsMeaning.{definitions_means}
use Rattle.md_content.proofs.ParagraphTermination.{ParagraphFits, paragraph_terminates}
use Rattle.md_content.proofs.ParagraphMeaning.{paragraph_means}
use Rattle.md_link_definitions.specs.DefinitionRule.{HasDefinition}
use Rattle.md_link_definitions.specs.DestinationRule.{HasDestination}
use Rattle.md_link_definitions.specs.GapRule.{HasGap}
use Rattle.md_link_definitions.specs.LabelRule.{HasLabel}
use Rattle.md_link_definitions.specs.TitleRule.{HasTitle}
use Rattle.md_link_definitions.proofs.DefinitionTermination.{DefinitionFits, definition_terminates}
use Rattle.md_link_definitions.proofs.DefinitionMeaning.{definition_means}
use Rattle.md_link_definitions.proofs.DestinationTermination.{DestinationFits, destination_terminates}
use Rattle.md_link_definitions.proofs.DestinationMeaning.{destination_means}
use Rattle.md_link_definitions.proofs.GapTermination.{GapFits, gap_terminates}
use Rattle.md_link_definitions.proofs.GapMeaning.{gap_means}
use Rattle.md_link_definitions.proofs.LabelTermination.{LabelFits, label_terminates}
use Rattle.md_link_definitions.proofs.LabelMeaning.{label_means}
use Rattle.md_link_definitions.proofs.TitleTermination.{TitleFits, title_terminates}
use Rattle.md_link_definitions.proofs.TitleMeaning.{title_means}
use Rattle.md_events.specs.Ahead.{HasWhite}
use Rattle.md_events.proofs.SpacesTermination.{Does, WhiteFits, does-fall, does-valid, white_terminates}
use Rattle.md_events.proofs.WhiteMeaning.{white_means}

-- The table has each construct.

white_fits : WhiteFits content_scheme
white_fits = record { each = λ state. fits content_owner (n.SpaceOrTab state) }

gap_fits : GapFits content_scheme
gap_fits = record { white = white_fits; each = λ state. fits content_owner (n.SpaceOrTabEol state) }

label_fits : LabelFits content_scheme
label_fits = record { each = λ state. fits content_owner (n.Label state) }

destination_fits : DestinationFits content_scheme
destination_fits = record { each = λ state. fits content_owner (n.Destination state) }

title_fits : TitleFits content_scheme
title_fits = record { each = λ state. fits content_owner (n.Title state) }

definition_fits : DefinitionFits content_scheme
definition_fits = record {
  gap = gap_fits;
  label = label_fits;
  destination = destination_fits;
  title = title_fits;
  each = λ state. fits content_owner (n.Definition state);
}

paragraph_fits : ParagraphFits content_scheme
paragraph_fits = record { each = λ state. fits content_owner (n.Paragraph state) }

definitions_fits : DefinitionsFits content_scheme
definitions_fits = record {
  definition = definition_fits;
  paragraph = paragraph_fits;
  each = λ state. fits content_owner (n.Content state);
}

pub content_terminates : (name : StateName) (w : World) → w.current ≡ looks w → valid content_scheme w (Next name) →
    Does content_scheme name w (content_transition name w)
content_terminates (n.Content state) w c r = definitions_terminates content_scheme state w definitions_fits c r
content_terminates (n.Definition state) w c r = definition_terminates content_scheme state w definition_fits c r
content_terminates (n.Destination state) w c r = destination_terminates content_scheme state w destination_fits c r
content_terminates (n.Label state) w c r = label_terminates content_scheme state w label_fits c r
content_terminates (n.Paragraph state) w c r = paragraph_terminates content_scheme state w paragraph_fits c r
content_terminates (n.SpaceOrTab state) w c r = white_terminates content_scheme state w white_fits c r
content_terminates (n.SpaceOrTabEol state) w c r = gap_terminates content_scheme state w gap_fits c r
content_terminates (n.Title state) w c r = title_terminates content_scheme state w title_fits c r
content_terminates name w c r = absurd r

-- each call keeps what the table needs
pub content-keeps : EachKeeps ContentStep content_scheme
content-keeps name w to new seen at step =
    let does = content_terminates name w seen at in (
      does-valid content_scheme name w (content_transition name w) to new step.to_is step.new_is does,
      does-fall content_scheme name w (content_transition name w) to new step.to_is step.new_is does,
    )

-- What is left at each state is what the constructs say.

has_white : (options : ParseOptions) → HasWhite (content_behaves options)
has_white options = record { each = λ _ _ _. refl }

has_gap : (options : ParseOptions) → HasGap (content_behaves options)
has_gap options = record { white = has_white options; each = λ _ _ _. refl }

has_label : (options : ParseOptions) → HasLabel (content_behaves options)
has_label options = record { each = λ _ _ _. refl }

has_destination : (options : ParseOptions) → HasDestination (content_behaves options)
has_destination options = record { each = λ _ _ _. refl }

has_title : (options : ParseOptions) → HasTitle (content_behaves options)
has_title options = record { each = λ _ _ _. refl }

has_definition : (options : ParseOptions) → HasDefinition (content_behaves options) options
has_definition options = record {
  gap = has_gap options;
  label = has_label options;
  destination = has_destination options;
  title = has_title options;
  each = λ _ _ _. refl;
}

has_paragraph : (options : ParseOptions) → HasParagraph (content_behaves options)
has_paragraph options = record { each = λ _ _ _. refl }

has_definitions : (options : ParseOptions) → HasDefinitions (content_behaves options) options
has_definitions options = record {
  definition = has_definition options;
  paragraph = has_paragraph options;
  each = λ _ _ _. refl;
}

content_means : (feed : Feed) (name : StateName) (w : World) → Sees feed w → valid content_scheme w (Next name) →
    Steps (content_behaves w.setting.options) feed (Next name) w (content_transition name w).to
    (content_transition name w).world
content_means feed (n.Content state) w s at =
    definitions_means (content_behaves w.setting.options) feed state w (after_all content_scheme w.frames)
    (has_definitions w.setting.options) s at
content_means feed (n.Definition state) w s at =
    definition_means (content_behaves w.setting.options) feed state w (after_all content_scheme w.frames)
    (has_definition w.setting.options) s at
content_means feed (n.Destination state) w s at =
    destination_means (content_behaves w.setting.options) feed state w (after_all content_scheme w.frames)
    (has_destination w.setting.options) s at
content_means feed (n.Label state) w s at =
    label_means (content_behaves w.setting.options) feed state w (after_all content_scheme w.frames)
    (has_label w.setting.options) s at
content_means feed (n.Paragraph state) w s at =
    paragraph_means (content_behaves w.setting.options) feed state w (has_paragraph w.setting.options) s
content_means feed (n.SpaceOrTab state) w s at =
    white_means (content_behaves w.setting.options) feed state w (has_white w.setting.options) s
content_means feed (n.SpaceOrTabEol state) w s at =
    gap_means (content_behaves w.setting.options) feed state w (after_all content_scheme w.frames)
    (has_gap w.setting.options) s at
content_means feed (n.Title state) w s at =
    title_means (content_behaves w.setting.options) feed state w (after_all content_scheme w.frames)
    (has_title w.setting.options) s at
content_means feed name w s at = absurd at

-- each state of content takes one step of what it means
pub content_table_means : (under : Setting) (is_end : Bool) →
    MeansAt ContentStep content_scheme under (content_behaves under.options) is_end
content_table_means under is_end feed name w to new f called step =
    steps-as (content_behaves under.options) feed (Next name) _ to (reading w) _ new step.to_is step.new_is
    (rw (sym called.setting) (content_means feed name (reading w) (sees feed w is_end f called.may) called.valid))

-- and reaches where the table is
pub content_keeps_valid : KeepsValid ContentStep content_scheme
content_keeps_valid name w to new at step = (content-keeps name (reading w) to new refl at step).0
