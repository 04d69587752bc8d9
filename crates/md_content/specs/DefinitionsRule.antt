-- What is left of a text at each state before its paragraph (CommonMark 4.7 and 4.8).
use Rattle.std.specs.Prelude.{◌≡◌, if◌then◌else◌, List, [], ◌++◌}
use Rattle.md_engine.specs.declared.configuration.ParseOptions.{ParseOptions}
use Rattle.md_engine.specs.declared.state.Name.TheVariants as n
use Rattle.md_engine.specs.declared.state.content.State.{State as ContentState}
use Rattle.md_engine.specs.declared.state.content.State.TheVariants as its
use Rattle.md_engine.specs.declared.state.State.{State}
use Rattle.md_engine.specs.Meaning.{Accepts, Behaviour, Cell, Here, Outcome, Refuses}
use Rattle.md_engine.specs.Sees.{IsStep}
use Rattle.md_engine.specs.World.{World}
use Rattle.md_content.specs.ContentRule.{following_definition, content_over}
use Rattle.md_content.specs.ParagraphRule.{HasParagraph}
use Rattle.md_link_definitions.specs.DefinitionRule.{HasDefinition}
use Rattle.md_events.specs.Ahead.{point_after}
use Rattle.md_events.specs.Look.{first_seen}
use Rattle.md_events.specs.Spaces.{IsRest, ends_line}
use Rattle.md_content.specs.Definitions.{definitions_transition}
use Rattle.md_events.specs.States.{IsState}
use Rattle.md_engine.specs.declared.tokenizer.Tokenizer.{Tokenizer}
use Rattle.md_engine.specs.Full.{IsFull}

-- the content of all that is left
unfoldable pub content_at : ParseOptions → List Cell → Here → Outcome
content_at options cells h =
    Accepts
    (record h { events = h.events ++ content_over options cells h.point; point = point_after cells h.point })
    []

-- after a definition, where its line ends
unfoldable pub after_definition : ParseOptions → List Cell → Here → Outcome
after_definition options cells h =
    if ends_line (first_seen cells)
    then Accepts
    (record h {
      events = h.events ++ following_definition (content_over options) cells h.point;
      point = point_after cells h.point;
    })
    []
    else Refuses h.scratch h.flags

-- what is left at each state
abbrev pub definitions_behave : ParseOptions → ContentState → List Cell → Here → Outcome
definitions_behave options its.DefinitionBefore cells h = content_at options cells h
definitions_behave options its.DefinitionAfter cells h = after_definition options cells h
definitions_behave options _ cells h = Refuses h.scratch h.flags

pub record HasDefinitions (B : Behaviour) (options : ParseOptions) : Type 0 where
  pub definition : HasDefinition B options
  pub paragraph : HasParagraph B
  pub each : (state : ContentState) (cells : List Cell) (h : Here) →
      B (n.Content state) cells h ≡ definitions_behave options state cells h

-- what a state before a paragraph means: at rest, its call is one step of the rule
unfoldable pub DefinitionsMeans : ContentState → World → State → World → Type 0
DefinitionsMeans state old to new =
    IsRest old.scratch → IsStep (λ B. HasDefinitions B old.setting.options) (n.Content state) to old new

-- what a state of content, as it is cut into definitions and a paragraph promises
abbrev pub IsDefinitionsState : ContentState → World → State → Tokenizer → Type 0
IsDefinitionsState state old answer new =
    IsState (definitions_transition state old) (DefinitionsMeans state old) (IsFull new) answer new
