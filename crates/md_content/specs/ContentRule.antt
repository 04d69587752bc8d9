-- The rule of content (CommonMark 4.7 and 4.8): definitions at the front of its lines, and a paragraph of what remains.
use Rattle.std.specs.Prelude.{ℕ, zero, suc, if◌then◌else◌, List, [], ◌∷◌, ◌++◌, length, Option, Some, None}
use Rattle.md_engine.specs.declared.configuration.ParseOptions.{ParseOptions}
use Rattle.md_engine.specs.declared.event.Event.{Event}
use Rattle.md_engine.specs.declared.event.Name.TheVariants as n
use Rattle.md_engine.specs.declared.event.Point.{Point}
use Rattle.md_engine.specs.Meaning.{Cell}
use Rattle.md_content.specs.ParagraphRule.{paragraph_over}
use Rattle.md_link_definitions.specs.DefinitionRule.{DefinitionParts, definition_end, definition_events}
use Rattle.md_link_definitions.specs.DefinitionRule.{definition_parts, definition_rest}
use Rattle.md_events.specs.Events.Nested.{pair}

-- the definition that these cells begin with, if definitions are on
abbrev pub definition_in : ParseOptions → List Cell → Option DefinitionParts
definition_in options cells = if options.constructs.definition then definition_parts cells else None

-- after a definition: its line ending, and the content of the lines after that
abbrev pub following_definition : (List Cell → Point → List Event) → List Cell → Point → List Event
following_definition more [] p = []
following_definition more (c ∷ cs) p = pair n.LineEnding p c.after ++ more cs c.after

abbrev pub content_by : Option DefinitionParts → (List Cell → Point → List Event) → List Cell → Point → List Event
content_by None more cells p = paragraph_over cells p
content_by (Some d) more cells p =
    definition_events d p ++ following_definition more (definition_rest d) (definition_end d)

-- of at most so many definitions
abbrev pub content_of : ParseOptions → ℕ → List Cell → Point → List Event
content_of options zero cells p = paragraph_over cells p
content_of options (suc n) cells p = content_by (definition_in options cells) (content_of options n) cells p

-- the content of these cells, from a point on: each definition takes a cell at least
unfoldable pub content_over : ParseOptions → List Cell → Point → List Event
content_over options cells p = content_of options (length cells) cells p
