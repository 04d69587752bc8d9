-- How an outline meets blocks: what the roles of event names mean to it, and what it knows of an open leaf block.
--
-- A new block has its clauses in two files, here and in `outline/role.rt`, and `RoleLemmas` goes by this table; what an
-- outline knows and shows of a block is in files of its own (as `HeadingState`).
--
-- - A container that is shown by a word: `is_plain` and `shown_as` here, `role_of` in code.
--   A list is shown with the marker of its first item, which its line is said later: so it is `is_shown` alone, and has
--   `mark` in code, and `ListsBegin` and `ListLemmas`. A footnote definition is shown with its label, whose line is
--   said its text later: so it has `FootnoteState`, a stage of `ListsBegin`, and `FootnoteLemmas`. A quote is shown
--   with its kind, which a marker before its blocks gives it: so it has `AlertState` and `AlertLemmas`.
-- - A leaf block: the same, and what is known of it: `leaf_of` and `is_known` here, `Leaf` with `noted` and `push_leaf`
--   in code. One of which nothing is known but its word has no clause of its own (`OfBare`, `Leaf::Bare`).
-- - A leaf block of several lines (`has_lines`): `is_unlisted` and `shown_as` here, `role_of` in code; its lines are
--   shown as they come (`LinedState`), where they may (`LinesAllowed`), and `LinedLemmas` has what is proved of it. A
--   setext heading is one, whose lines are those of its text, shown as those of a paragraph (`TitledLemmas`), and so is
--   a definition, whose lines are those of its label, its destination and its title (`DefinedLemmas`), and a table,
--   whose lines are those of its rows and their cells (`TableSpots`, `TableState`, `TabledLemmas`). Frontmatter is one
--   whose lines are shown without virtual spaces.
-- - A text that shows a leaf block something: the same, and `recorded_as` here, `Note` in code.
use Rattle.std.specs.Prelude.{ℕ, Bool, true, false, List, None}
use Rattle.md_meaning.specs.declared.outline.Word.TheVariants as word
use Rattle.md_meaning.specs.Outline.{Entry, block_entries, quote_word}
use Rattle.md_events.specs.Events.Spelled.{AsCell, AsDelimiter, AsDestination, AsDigits, AsFootnoteLabel, AsHeading}
use Rattle.md_events.specs.Events.Spelled.{AsInfo, AsItemMarker, AsLabel, AsLine, AsMarkers, AsMeta, AsParagraph}
use Rattle.md_events.specs.Events.Spelled.{AsTitle, BareLeaf, FootnoteShape, HeadingAtxLeaf, ContainerRole, IsCell}
use Rattle.md_events.specs.Events.Spelled.{IsEnding, IsFence, IsPrefix, IsQuiet, IsQuoteMarker, IsRow, IsTitle}
use Rattle.md_events.specs.Events.Spelled.{ItemShape, LeafKind, OfBare, OfCode, OfDefinition, OfFence, OfFrontmatter}
use Rattle.md_events.specs.Events.Spelled.{OfHeadingAtx, OfHeadingSetext, OfHtml, OfMath, OfTable, OpenLeaf, LeafRole}
use Rattle.md_events.specs.Events.Spelled.{OrderedShape, QuoteShape, TextRole, UnorderedShape, block_of}
use Rattle.md_events.specs.Events.Spelled as spelled
use Rattle.md_events.specs.Events.Recorded.{OfItself, recorded_in}
pub use Rattle.md_events.specs.Events.Recorded.{is_recorded}
use Rattle.md_outline.specs.HeadingDepths.{fitted}
use Rattle.md_outline.specs.HeadingState.{heading_of}
use Rattle.md_outline.specs.declared.outline.role.Leaf.{Leaf}
use Rattle.md_outline.specs.declared.outline.role.Leaf.TheVariants as leaf
use Rattle.md_outline.specs.declared.outline.role.Note.{Note}
use Rattle.md_outline.specs.declared.outline.role.Note.TheVariants as note
use Rattle.md_outline.specs.declared.outline.role.Purpose.TheVariants as purpose
use Rattle.md_outline.specs.declared.outline.role.Role.{Role}
use Rattle.md_outline.specs.declared.outline.role.Role.TheVariants as role

-- the roles of leaf blocks that have their word alone, ATX headings without their texts, paragraphs, block quotes, items
-- and footnote definitions, and of what the tree does not show
abbrev pub is_plain : spelled.Role → Bool
is_plain (ContainerRole (QuoteShape kind)) = true
is_plain (ContainerRole (ItemShape marker digits)) = true
is_plain (ContainerRole (FootnoteShape label)) = true
is_plain IsPrefix = true
is_plain (LeafRole (OfBare word)) = true
is_plain (LeafRole OfHeadingAtx) = true
is_plain (TextRole AsParagraph) = true
is_plain (TextRole AsMarkers) = true
is_plain (TextRole AsDigits) = true
is_plain (TextRole AsItemMarker) = true
is_plain (TextRole AsFootnoteLabel) = true
is_plain IsEnding = true
is_plain IsQuoteMarker = true
is_plain IsQuiet = true
is_plain _ = false

-- the plain ones, and those of lists
abbrev pub is_listed : spelled.Role → Bool
is_listed (ContainerRole OrderedShape) = true
is_listed (ContainerRole UnorderedShape) = true
is_listed x = is_plain x

-- the leaf blocks of several lines that an outline shows
abbrev pub has_lines : LeafKind → Bool
has_lines OfCode = true
has_lines OfFence = true
has_lines OfMath = true
has_lines OfHtml = true
has_lines OfHeadingSetext = true
has_lines OfDefinition = true
has_lines OfTable = true
has_lines OfFrontmatter = true
has_lines _ = false

-- the plain ones, and those of such leaf blocks, their parts, and the texts of headings, definitions and tables: all
-- that are shown, but those of lists
abbrev pub is_unlisted : spelled.Role → Bool
is_unlisted (LeafRole OfCode) = true
is_unlisted (LeafRole OfFence) = true
is_unlisted (LeafRole OfMath) = true
is_unlisted (LeafRole OfHtml) = true
is_unlisted (LeafRole OfHeadingSetext) = true
is_unlisted (LeafRole OfDefinition) = true
is_unlisted (LeafRole OfTable) = true
is_unlisted (LeafRole OfFrontmatter) = true
is_unlisted IsFence = true
is_unlisted IsTitle = true
is_unlisted IsRow = true
is_unlisted IsCell = true
is_unlisted (TextRole AsHeading) = true
is_unlisted (TextRole AsLine) = true
is_unlisted (TextRole AsInfo) = true
is_unlisted (TextRole AsMeta) = true
is_unlisted (TextRole AsLabel) = true
is_unlisted (TextRole AsDestination) = true
is_unlisted (TextRole AsTitle) = true
is_unlisted (TextRole AsCell) = true
is_unlisted (TextRole AsDelimiter) = true
is_unlisted x = is_plain x

-- all that an outline shows
abbrev pub is_shown : spelled.Role → Bool
is_shown (ContainerRole OrderedShape) = true
is_shown (ContainerRole UnorderedShape) = true
is_shown x = is_unlisted x

-- the texts that are blocks of their own
abbrev pub is_block : spelled.Purpose → Bool
is_block purpose = elim (recorded_in purpose) [ OfItself ↦ true | _ ↦ false ]

-- the texts that prefixes may part: these, those of headings, and the labels and titles of definitions
abbrev pub may_part : spelled.Purpose → Bool
may_part AsHeading = true
may_part AsLabel = true
may_part AsTitle = true
may_part purpose = is_block purpose

-- what the events of a name mean to an outline
abbrev pub shown_as : spelled.Role → Role
shown_as (ContainerRole (QuoteShape kind)) = role.Container (quote_word kind)
shown_as (ContainerRole OrderedShape) = role.List
shown_as (ContainerRole UnorderedShape) = role.List
shown_as (ContainerRole (ItemShape marker digits)) = role.Container word.Item
shown_as (ContainerRole (FootnoteShape label)) = role.Container word.Footnote
shown_as IsPrefix = role.Prefix
shown_as (LeafRole (OfBare word)) = role.Leaf (leaf.Bare word)
shown_as (LeafRole OfHeadingAtx) = role.Leaf (leaf.Heading (record { markers = None; text = None }))
shown_as (TextRole AsParagraph) = role.Text purpose.Block
shown_as (TextRole AsMarkers) = role.Text purpose.Markers
shown_as (TextRole AsHeading) = role.Text purpose.Title
shown_as (TextRole AsDigits) = role.Text purpose.Digits
shown_as (TextRole AsItemMarker) = role.Text purpose.Marker
shown_as (TextRole AsFootnoteLabel) = role.Text purpose.FootnoteLabel
shown_as (LeafRole OfCode) = role.Lined word.Code
shown_as (LeafRole OfFence) = role.Lined (word.Fence 0 false)
shown_as (LeafRole OfMath) = role.Lined (word.Math false)
shown_as (LeafRole OfHtml) = role.Lined word.Html
shown_as (LeafRole OfHeadingSetext) = role.Lined (word.Heading 0)
shown_as (LeafRole OfDefinition) = role.Lined word.Definition
shown_as (LeafRole OfTable) = role.Lined (word.Table 0)
shown_as (LeafRole OfFrontmatter) = role.Lined (word.Frontmatter 0)
shown_as IsFence = role.Fence
shown_as IsTitle = role.Title
shown_as IsRow = role.Row
shown_as IsCell = role.Cell
shown_as (TextRole AsInfo) = role.Text (purpose.Part word.Info)
shown_as (TextRole AsMeta) = role.Text (purpose.Part word.Meta)
shown_as (TextRole AsLine) = role.Text purpose.Line
shown_as (TextRole AsLabel) = role.Text purpose.Label
shown_as (TextRole AsDestination) = role.Text purpose.Destination
shown_as (TextRole AsTitle) = role.Text purpose.DefinitionTitle
shown_as (TextRole AsCell) = role.Text purpose.Cell
shown_as (TextRole AsDelimiter) = role.Text purpose.Delimiter
shown_as IsEnding = role.Ending
shown_as IsQuoteMarker = role.QuoteMarker
shown_as _ = role.Quiet

-- whether the tree cuts a text at the point of such an event: not at that of a line ending or of a marker of a quote,
-- nor of what it does not show
abbrev pub is_seen : Role → Bool
is_seen role.Ending = false
is_seen role.QuoteMarker = false
is_seen role.Quiet = false
is_seen _ = true

-- what is known of a leaf block, as the tree has it
abbrev pub leaf_of : Leaf → OpenLeaf
leaf_of (leaf.Bare word) = BareLeaf word
leaf_of (leaf.Heading heading) = HeadingAtxLeaf (heading_of heading)

-- the leaf blocks that are shown as they end, with what is known of them by then
abbrev pub is_known : OpenLeaf → Bool
is_known (BareLeaf word) = true
is_known (HeadingAtxLeaf heading) = true
is_known _ = false

-- what a text shows a leaf block, as the tree reads it
abbrev pub recorded_as : Note → spelled.Purpose
recorded_as note.Markers = AsMarkers
recorded_as note.Title = AsHeading

abbrev pub noted : Note → List ℕ → OpenLeaf → OpenLeaf
noted x text leaf = spelled.noted (recorded_as x) (record { spaces = 0; text = text }) leaf

-- the lines of a leaf block that ends here
abbrev pub leaf_entries : ℕ → OpenLeaf → List Entry
leaf_entries depth leaf = block_entries depth (fitted (block_of leaf))
