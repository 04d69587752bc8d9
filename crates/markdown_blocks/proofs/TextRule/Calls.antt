-- What calls of the first states of text leave: of a line, and of the lines of a text.
use Rattle.std.proofs.Common.{◌≡◌, ℕ, List, [], ◌∷◌, ◌++◌, refl, sym, ap, ap₂, ◌∙◌, subst₂}
use Rattle.std.proofs.Common.{append_assoc}
use Rattle.std.specs.Prelude.{Some}
use Rattle.md_content.specs.ChunkRule.{ChunkMeans, HasChunk, chunk_at, inside_chunk, longer}
use Rattle.md_content.specs.Chunks.{content_link}
use Rattle.md_content.specs.DefinitionsRule.{HasDefinitions}
use Rattle.md_content.specs.ParagraphRule.{HasParagraph, ParagraphMeans}
use Rattle.md_content.specs.States.{content_behaves}
use Rattle.md_engine.specs.declared.configuration.ParseOptions.{ParseOptions}
use Rattle.md_engine.specs.declared.state.Name.TheVariants as n
use Rattle.md_engine.specs.declared.state.State.{State}
use Rattle.md_engine.specs.declared.state.content.State.TheVariants as content
use Rattle.md_engine.specs.declared.state.definition.State.TheVariants as definition
use Rattle.md_engine.specs.declared.state.paragraph.State.TheVariants as paragraph
use Rattle.md_engine.specs.declared.event.Name.TheVariants as parts
use Rattle.md_engine.specs.declared.event.Point.{Point}
use Rattle.md_engine.specs.Meaning.{Accepts, Behaviour, Cell, Feed, Here, here}
use Rattle.md_engine.specs.World.{World}
use Rattle.md_events.specs.Ahead.{from_ending, line_end}
use Rattle.md_events.specs.Events.Nested.{enter_link, exit}
use Rattle.md_events.specs.Exact.Places.{TextLine, line_end as end_of, place}
use Rattle.md_events.specs.Exact.Rows.{FirstText, Row}
use Rattle.md_flow.proofs.LineRule.Leaf.{next-begins, next-end, next-stop, steps-leave}
use Rattle.md_flow.proofs.LineRule.Lines.{flow_has}
use Rattle.md_flow.specs.LineRule.{IsNext, IsTaken}
use Rattle.md_link_definitions.specs.OpenText.{text_following}
use Rattle.md_link_definitions.specs.WholeCells.{rest_here, whole_line}
use Rattle.md_meaning.specs.Rest.{Rest}
use Rattle.md_registry.specs.States.{flow_behaves_by}
use Rattle.md_link_definitions.specs.DefinitionRule.{DefinitionMeans, HasDefinition}
use Rattle.markdown_blocks.specs.TextCalls.{ChunkLine, DefinitionLines, ParagraphLines}
use Rattle.markdown_blocks.specs.TextRule.{AreAhead, IsDefined, IsParagraphTaken, is_defined}
use Rattle.markdown_blocks.proofs.TextRule.Definition.{definition-left}
use Rattle.markdown_blocks.proofs.TextRule.Lines.{AreNext}
use Rattle.markdown_blocks.proofs.TextRule.Paragraph.{paragraph-left}
use Rattle.markdown_blocks.proofs.TextRule.Texts.{left-next}
use Rattle.proof_exact_lines.proofs.BeginsAt.{begins-place}
use Rattle.proof_frame.specs.Rule.{Rule}

-- A line of text.

chunk_has : (bytes : List ℕ) (options : ParseOptions) (next : Rule) →
    HasChunk (flow_behaves_by bytes options next) bytes
chunk_has bytes options next = record { each = λ _ _ _. refl }

-- where it has been taken to its end
abbrev past_chunk : List Cell → Here → Here
past_chunk cells h =
    let p = line_end cells h.point in
    record h {
      events = (h.events ++ enter_link parts.Content h.point content_link ∷ []) ++ exit parts.Content p ∷ [];
      point = p;
      flags = record h.flags {
        leaf = text_following h.flags.leaf (longer (rest_here h.point []) (whole_line h.point cells));
      };
    }

chunk-whole : (cells : List Cell) (h : Here) → chunk_at cells h ≡ Accepts (past_chunk cells h) (from_ending cells)
unfolding chunk_at inside_chunk
chunk-whole cells h = refl

chunk-left : (options : ParseOptions) (text : List ℕ) (line : TextLine) (r : Rest) (cells stop : List Cell) (h : Here) →
    IsNext text line r h.point cells stop → IsTaken options line r stop h (chunk_at cells h) (Some FirstText)
chunk-left options text line r cells stop h is = record {
  events = enter_link parts.Content h.point content_link ∷ exit parts.Content (line_end cells h.point) ∷ [];
  are =
      ap₂ (λ (a b : Point). enter_link parts.Content a content_link ∷ exit parts.Content b ∷ [])
      (sym (begins-place line r h.point (next-begins text line r h.point cells stop is))) end;
  to = past_chunk cells h;
  accepts = chunk-whole cells h ∙ ap (Accepts (past_chunk cells h)) (next-stop text line r h.point cells stop is);
  added =
      append_assoc h.events (enter_link parts.Content h.point content_link ∷ [])
      (exit parts.Content (line_end cells h.point) ∷ []);
  point = end;
}
  where
    end : line_end cells h.point ≡ place line (end_of line)
    end = next-end text line r h.point cells stop is

pub chunk_line : (old new : World) (to : State) → ChunkMeans content.ChunkStart old to new → ChunkLine old to new
unfolding ChunkLine ChunkMeans
chunk_line old new to means next = (
  flow_has bytes options next,
  λ feed line r stop s rest is.
      steps-leave B feed (n.Content content.ChunkStart) old new to
      (λ o. IsTaken options line r stop (here old) o (Some FirstText))
      (means rest B feed (chunk_has bytes options next) s)
      (chunk-left options bytes line r (feed old.point) stop (here old) is),
)
  where
    bytes : List ℕ
    bytes = old.setting.bytes

    options : ParseOptions
    options = old.setting.options

    B : Behaviour
    B = flow_behaves_by bytes options next

-- Definitions and paragraphs.

-- what is left at each state of the table is what the constructs say
definition_has : (options : ParseOptions) → HasDefinition (content_behaves options) options
definition_has options = record {
  gap = record { white = record { each = λ _ _ _. refl }; each = λ _ _ _. refl };
  label = record { each = λ _ _ _. refl };
  destination = record { each = λ _ _ _. refl };
  title = record { each = λ _ _ _. refl };
  each = λ _ _ _. refl;
}

paragraph_has : (options : ParseOptions) → HasParagraph (content_behaves options)
paragraph_has options = record { each = λ _ _ _. refl }

content_has : (options : ParseOptions) → HasDefinitions (content_behaves options) options
content_has options =
    record { definition = definition_has options; paragraph = paragraph_has options; each = λ _ _ _. refl }

-- lines that are ahead are next where the tokenizer is
next-here : (w : World) (feed : Feed) (row : Row) (rows : List Row) → AreAhead feed w row rows →
    AreNext w.setting.bytes (row ∷ rows) w.point (feed w.point)
next-here w feed row rows ahead =
    subst₂ (AreNext w.setting.bytes (row ∷ rows)) (sym ahead.at) (sym ahead.cells)
    (left-next w.setting.options w.setting.bytes ahead.built ahead.small row rows ahead.left)

pub definition_lines : (old new : World) (to : State) → DefinitionMeans definition.Start old to new →
    DefinitionLines old to new
unfolding DefinitionLines DefinitionMeans
definition_lines old new to means = (
  content_has options,
  λ feed row rows ahead.
      steps-leave B feed (n.Definition definition.Start) old new to
      (λ o. IsDefined (row ∷ rows) (here old) o (is_defined options (row ∷ rows)))
      (means ahead.rest B feed (definition_has options) ahead.sees)
      (definition-left options old.setting.bytes (row ∷ rows) (feed old.point) (here old) ahead.rest
      (next-here old feed row rows ahead)),
)
  where
    options : ParseOptions
    options = old.setting.options

    B : Behaviour
    B = content_behaves options

pub paragraph_lines : (old new : World) (to : State) → ParagraphMeans paragraph.Start old to new →
    ParagraphLines old to new
unfolding ParagraphLines ParagraphMeans
paragraph_lines old new to means = (
  content_has options,
  λ feed row rows ahead.
      steps-leave B feed (n.Paragraph paragraph.Start) old new to (IsParagraphTaken (row ∷ rows) (here old))
      (means B feed (paragraph_has options) ahead.sees)
      (paragraph-left old.setting.bytes (row ∷ rows) (feed old.point) (here old)
      (next-here old feed row rows ahead)),
)
  where
    options : ParseOptions
    options = old.setting.options

    B : Behaviour
    B = content_behaves options
