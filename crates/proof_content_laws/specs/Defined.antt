-- Definitions at the front of a text (CommonMark 4.7).
use Rattle.std.specs.Prelude.{List}
use Rattle.md_engine.specs.declared.configuration.ParseOptions.{ParseOptions}
use Rattle.md_engine.specs.declared.event.Event.{Event}
use Rattle.md_link_definitions.specs.DefinitionRule.{DefinitionParts, definition_events}
use Rattle.md_meaning.specs.State.{Leaf, OpenParagraph, cut, texts, then_definitions}
use Rattle.md_meaning.specs.Tree.{Blocks}
use Rattle.proof_frame.specs.Laid.{laid}
use Rattle.proof_frame.specs.Row.{Row, breaks_of}

-- blocks, with those at the front of an open text after them
abbrev pub then_front : ParseOptions → Blocks → Leaf → Blocks
then_front options bs (OpenParagraph lines) = then_definitions bs (cut options (texts lines)).0
then_front options bs _ = bs

-- a definition over these lines, before its text parts are read
abbrev pub defined_unread : DefinitionParts → Row → List Row → List Event
defined_unread d row rows = laid (breaks_of row rows) (definition_events d row.first)
