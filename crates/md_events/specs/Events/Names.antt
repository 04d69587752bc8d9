-- All that is said of a name of events: one row a name, in the order of `Name`.
--
-- `role`, `inside`, `piece_rule`, `on_line` and their neighbours read a field of a row.
use Prim.Native.String.{String}
use Rattle.std.specs.Prelude.{ℕ, Bool, true, false, List, [], ◌∷◌, Option, Some, None, codes}
use Rattle.md_engine.specs.declared.event.Name.{Name}
use Rattle.md_engine.specs.declared.event.Name.TheVariants as n
use Rattle.md_events.specs.declared.inline.PartKind.{PartKind}
use Rattle.md_events.specs.declared.inline.PartKind.TheVariants as k
use Rattle.md_meaning.specs.Ascii.{backtick, dollar, hash, hyphen, space, tab}
use Rattle.md_meaning.specs.Rest.{is_blank}
use Rattle.md_meaning.specs.declared.outline.Word.{Word}
use Rattle.md_meaning.specs.declared.outline.Word.TheVariants as word
use Rattle.md_events.specs.Events.Roles.{AsCell, AsDelimiter, AsDestination, AsDigits, AsFootnoteLabel, AsHeading}
use Rattle.md_events.specs.Events.Roles.{AsInfo, AsItemMarker, AsLabel, AsLine, AsMarkers, AsMeta, AsParagraph, AsTitle}
use Rattle.md_events.specs.Events.Roles.{ContainerRole, FootnoteShape, IsCell, IsEnding, IsFence, IsPrefix, IsQuiet}
use Rattle.md_events.specs.Events.Roles.{IsQuoteMarker, IsRow, IsTitle, ItemShape, LeafKind, LeafRole, OfBare, OfCode}
use Rattle.md_events.specs.Events.Roles.{OfDefinition, OfFence, OfFrontmatter, OfHeadingAtx, OfHeadingSetext, OfHtml}
use Rattle.md_events.specs.Events.Roles.{OfMath, OfTable, OrderedShape, Purpose, QuoteShape, Role, Shape, TextRole}
use Rattle.md_events.specs.Events.Roles.{UnorderedShape}
use Rattle.md_events.specs.Events.PieceRules.{is_address, is_break_run, is_byte_order_mark, is_character, is_code_fence}
use Rattle.md_events.specs.Events.PieceRules.{is_escaped, is_frontmatter_sequence, is_in_line, is_item_value}
use Rattle.md_events.specs.Events.PieceRules.{is_line_ending, is_one_of, is_quote_marker, is_run}
use Rattle.md_events.specs.Events.PieceRules.{is_strikethrough_sequence, is_strong_sequence, is_underline}
use Rattle.md_events.specs.Events.Words.{Expression, Many, Nothing, One, Then, line_break, next_line, one, optional}
use Rattle.md_events.specs.Events.Words.{prefixes, some, white}

-- What a name says of the line on which it is.
pub data OnLine : Type 0 where
  -- a leaf block begins or ends
  IsLeaf : OnLine
  -- an ending, of a blank line or of another
  Ends : Bool → OnLine
  IsOther : OnLine

pub record NameFacts : Type 0 where
  -- as it is spelled in the library
  pub text : String
  -- what its events mean for the tree
  pub role : Role
  -- what an inline layer may find there, where it is the name of a text part
  pub part : Option PartKind
  -- what may be in it, where this is in text parts
  pub inside : Expression → Expression
  -- the bytes that it may be over, where it is the name of a piece
  pub piece : Option (List ℕ → Bool)
  -- whether it may begin within a tab, as what a cut tab leaves of the line
  pub begins_in_tab : Bool
  -- whether it may end within a tab, as an indent and the whitespace of a prefix do
  pub ends_in_tab : Bool
  -- what it says of the line
  pub line : OnLine
  -- whether it belongs to a container prefix, which may be between two chunks of a part
  pub is_prefix : Bool
  -- whether an inline layer may give it inside a text part: the others are names of blocks and of their parts
  pub is_inline : Bool

-- Rows that are alike.

-- of which nothing more is said
abbrev pub plain : String → NameFacts
plain text = record {
  text = text;
  role = IsQuiet;
  part = None;
  inside = λ read. Nothing;
  piece = None;
  begins_in_tab = false;
  ends_in_tab = false;
  line = IsOther;
  is_prefix = false;
  is_inline = false;
}

-- a part that holds others
abbrev pub part_with : String → Expression → NameFacts
part_with text inside = record (plain text) { inside = λ read. inside }

-- one that means something of its own
abbrev pub part_as : String → Role → Expression → NameFacts
part_as text role inside = record (part_with text inside) { role = role }

abbrev pub container : String → Shape → Expression → NameFacts
container text shape inside = part_as text (ContainerRole shape) inside

abbrev pub leaf : String → LeafKind → Expression → NameFacts
leaf text kind inside = record (part_as text (LeafRole kind) inside) { line = IsLeaf }

-- whose slice is a text of its block, and which an inline layer reads
abbrev pub text_part : String → PartKind → Purpose → NameFacts
text_part text kind purpose = record (plain text) {
  role = TextRole purpose;
  part = Some kind;
  inside = λ read. read;
}

abbrev pub piece : String → (List ℕ → Bool) → NameFacts
piece text rule = record (plain text) { piece = Some rule }

-- a piece that is a text of its block
abbrev pub text_piece : String → Purpose → (List ℕ → Bool) → NameFacts
text_piece text purpose rule = record (piece text rule) { role = TextRole purpose }

-- a line of a block, or a piece of one
abbrev pub line_piece : String → NameFacts
line_piece text = text_piece text AsLine is_in_line

-- of an inline layer alone
abbrev pub inline_part : String → NameFacts
inline_part text = record (plain text) { is_inline = true }

abbrev pub inline_piece : String → (List ℕ → Bool) → NameFacts
inline_piece text rule = record (piece text rule) { is_inline = true }

-- The blocks of a container.

abbrev pub block : Expression
block =
    One
    (n.BlockQuote ∷ n.ListOrdered ∷ n.ListUnordered ∷ n.GfmFootnoteDefinition ∷ n.HeadingAtx ∷ n.HeadingSetext
    ∷ n.ThematicBreak ∷ n.CodeIndented ∷ n.CodeFenced ∷ n.MathFlow ∷ n.HtmlFlow ∷ n.Definition ∷ n.Paragraph
    ∷ n.GfmTable ∷ [])

-- after a block: two blocks never are on one line
abbrev pub after_block : Expression
after_block = Many (Then line_break (optional block))

-- the blocks of a container, with the line endings between them
abbrev pub blocks : Expression
blocks = Then (Then prefixes (optional block)) after_block

-- The rows.
abbrev pub facts : Name → NameFacts
-- frontmatter: a fence, lines, and a fence
facts n.Frontmatter =
    leaf "Frontmatter" OfFrontmatter
    (Then (one n.FrontmatterFence) (Then (Many (Then (one n.LineEnding) (optional (one n.FrontmatterChunk))))
    (Then (one n.LineEnding) (one n.FrontmatterFence))))
facts n.FrontmatterFence = part_as "FrontmatterFence" IsFence (Then (one n.FrontmatterSequence) white)
facts n.FrontmatterSequence = text_piece "FrontmatterSequence" AsMarkers is_frontmatter_sequence
facts n.FrontmatterChunk = line_piece "FrontmatterChunk"
-- a block quote, with its first prefix
facts n.BlockQuote = container "BlockQuote" (QuoteShape None) (Then white (Then (one n.BlockQuotePrefix) blocks))
facts n.BlockQuotePrefix =
    record (part_as "BlockQuotePrefix" IsPrefix
    (Then (one n.BlockQuoteMarker) (Then white (optional (Then white (Then (one n.BlockQuoteMarker) white))))))
    { is_prefix = true }
facts n.BlockQuoteMarker =
    record (piece "BlockQuoteMarker" is_quote_marker) { role = IsQuoteMarker; is_prefix = true }
-- lists: items, and line endings between them
facts n.ListOrdered =
    container "ListOrdered" OrderedShape (Then (one n.ListItem) (Many (Then (some line_break) (one n.ListItem))))
facts n.ListUnordered =
    container "ListUnordered" UnorderedShape (Then (one n.ListItem) (Many (Then (some line_break) (one n.ListItem))))
facts n.ListItem = container "ListItem" (ItemShape 0 []) (Then white (Then (one n.ListItemPrefix) blocks))
facts n.ListItemPrefix =
    part_with "ListItemPrefix" (Then (optional (one n.ListItemValue)) (Then (one n.ListItemMarker) white))
facts n.ListItemValue = text_piece "ListItemValue" AsDigits is_item_value
facts n.ListItemMarker = text_piece "ListItemMarker" AsItemMarker (is_one_of (codes "*+-.)"))
-- a footnote definition
facts n.GfmFootnoteDefinition =
    container "GfmFootnoteDefinition" (FootnoteShape [])
    (Then white (Then (one n.GfmFootnoteDefinitionPrefix) blocks))
facts n.GfmFootnoteDefinitionPrefix =
    part_with "GfmFootnoteDefinitionPrefix"
    (Then (one n.GfmFootnoteDefinitionLabel) (Then (one n.DefinitionMarker) white))
facts n.GfmFootnoteDefinitionLabel =
    part_with "GfmFootnoteDefinitionLabel"
    (Then (one n.GfmFootnoteDefinitionLabelMarker) (Then (one n.GfmFootnoteDefinitionMarker)
    (Then (one n.GfmFootnoteDefinitionLabelString) (one n.GfmFootnoteDefinitionLabelMarker))))
facts n.GfmFootnoteDefinitionLabelMarker = piece "GfmFootnoteDefinitionLabelMarker" (is_one_of (codes "[]"))
facts n.GfmFootnoteDefinitionMarker = piece "GfmFootnoteDefinitionMarker" (is_one_of (codes "^"))
facts n.GfmFootnoteDefinitionLabelString = text_part "GfmFootnoteDefinitionLabelString" k.String AsFootnoteLabel
-- an ATX heading: its opening sequence, its text, and its closing sequence
facts n.HeadingAtx =
    leaf "HeadingAtx" OfHeadingAtx
    (Then white (Then (one n.HeadingAtxSequence) (Then white (Then (optional (one n.HeadingAtxText)) (Then white
    (Then (optional (one n.HeadingAtxSequence)) white))))))
facts n.HeadingAtxSequence = text_piece "HeadingAtxSequence" AsMarkers (is_run 1 hash)
facts n.HeadingAtxText = text_part "HeadingAtxText" k.Text AsHeading
-- a setext heading: its text, and on the next line its underline
facts n.HeadingSetext =
    leaf "HeadingSetext" OfHeadingSetext
    (Then (one n.HeadingSetextText) (Then next_line (one n.HeadingSetextUnderline)))
facts n.HeadingSetextText = text_part "HeadingSetextText" k.Text AsHeading
facts n.HeadingSetextUnderline =
    part_with "HeadingSetextUnderline" (Then white (Then (one n.HeadingSetextUnderlineSequence) white))
facts n.HeadingSetextUnderlineSequence = text_piece "HeadingSetextUnderlineSequence" AsMarkers is_underline
-- a thematic break
facts n.ThematicBreak =
    leaf "ThematicBreak" (OfBare word.Break) (Then white (some (Then (one n.ThematicBreakSequence) white)))
facts n.ThematicBreakSequence = piece "ThematicBreakSequence" is_break_run
-- indented code: its indent and its lines, of which the first is not empty
facts n.CodeIndented =
    leaf "CodeIndented" OfCode
    (Then (one n.SpaceOrTab) (Then (one n.CodeFlowChunk)
    (Many (Then next_line (optional (one n.CodeFlowChunk))))))
-- fenced code: a fence, lines, and a fence if it is closed
facts n.CodeFenced =
    leaf "CodeFenced" OfFence
    (Then (one n.CodeFencedFence) (Then (Many (Then next_line (optional (one n.CodeFlowChunk))))
    (optional (Then next_line (one n.CodeFencedFence)))))
facts n.CodeFencedFence =
    part_as "CodeFencedFence" IsFence
    (Then (one n.CodeFencedFenceSequence) (Then white (optional (Then (one n.CodeFencedFenceInfo)
    (optional (Then (one n.SpaceOrTab) (optional (one n.CodeFencedFenceMeta))))))))
facts n.CodeFencedFenceSequence = text_piece "CodeFencedFenceSequence" AsMarkers is_code_fence
facts n.CodeFencedFenceInfo = text_part "CodeFencedFenceInfo" k.String AsInfo
facts n.CodeFencedFenceMeta = text_part "CodeFencedFenceMeta" k.String AsMeta
facts n.CodeFlowChunk = record (line_piece "CodeFlowChunk") { begins_in_tab = true }
-- math
facts n.MathFlow =
    leaf "MathFlow" OfMath
    (Then (one n.MathFlowFence) (Then (Many (Then next_line (optional (one n.MathFlowChunk))))
    (optional (Then next_line (one n.MathFlowFence)))))
facts n.MathFlowFence =
    part_as "MathFlowFence" IsFence
    (Then (one n.MathFlowFenceSequence) (Then white (optional (one n.MathFlowFenceMeta))))
facts n.MathFlowFenceSequence = text_piece "MathFlowFenceSequence" AsMarkers (is_run 2 dollar)
facts n.MathFlowFenceMeta = text_part "MathFlowFenceMeta" k.String AsMeta
facts n.MathFlowChunk = record (line_piece "MathFlowChunk") { begins_in_tab = true }
-- HTML: lines, of which the first may be two pieces
facts n.HtmlFlow =
    leaf "HtmlFlow" OfHtml
    (Then (one n.HtmlFlowData) (Then (optional (one n.HtmlFlowData))
    (Many (Then next_line (optional (one n.HtmlFlowData))))))
facts n.HtmlFlowData = record (line_piece "HtmlFlowData") { begins_in_tab = true }
-- a definition: a label, a destination, and perhaps a title
facts n.Definition =
    leaf "Definition" OfDefinition
    (Then (one n.DefinitionLabel) (Then (one n.DefinitionMarker) (Then white (Then (optional next_line)
    (Then (one n.DefinitionDestination) (Then white (optional (Then (optional next_line)
    (Then (one n.DefinitionTitle) white)))))))))
facts n.DefinitionLabel =
    part_with "DefinitionLabel"
    (Then (one n.DefinitionLabelMarker) (Then (one n.DefinitionLabelString) (one n.DefinitionLabelMarker)))
facts n.DefinitionLabelMarker = piece "DefinitionLabelMarker" (is_one_of (codes "[]"))
facts n.DefinitionLabelString = text_part "DefinitionLabelString" k.String AsLabel
facts n.DefinitionMarker = piece "DefinitionMarker" (is_one_of (codes ":"))
facts n.DefinitionDestination =
    part_with "DefinitionDestination" (One (n.DefinitionDestinationLiteral ∷ n.DefinitionDestinationRaw ∷ []))
facts n.DefinitionDestinationLiteral =
    part_with "DefinitionDestinationLiteral"
    (Then (one n.DefinitionDestinationLiteralMarker)
    (Then (optional (one n.DefinitionDestinationString)) (one n.DefinitionDestinationLiteralMarker)))
facts n.DefinitionDestinationLiteralMarker = piece "DefinitionDestinationLiteralMarker" (is_one_of (codes "<>"))
facts n.DefinitionDestinationRaw = part_with "DefinitionDestinationRaw" (one n.DefinitionDestinationString)
facts n.DefinitionDestinationString = text_part "DefinitionDestinationString" k.String AsDestination
facts n.DefinitionTitle =
    part_as "DefinitionTitle" IsTitle
    (Then (one n.DefinitionTitleMarker)
    (Then (optional (one n.DefinitionTitleString)) (one n.DefinitionTitleMarker)))
facts n.DefinitionTitleMarker = piece "DefinitionTitleMarker" (is_one_of (codes "\"'()"))
facts n.DefinitionTitleString = text_part "DefinitionTitleString" k.String AsTitle
-- a paragraph
facts n.Paragraph = record (text_part "Paragraph" k.Text AsParagraph) { line = IsLeaf }
-- a table: its head, its delimiter row, and perhaps rows after them
facts n.GfmTable =
    leaf "GfmTable" OfTable (Then (one n.GfmTableHead) (optional (Then next_line (one n.GfmTableBody))))
facts n.GfmTableHead =
    part_with "GfmTableHead" (Then (one n.GfmTableRow) (Then next_line (one n.GfmTableDelimiterRow)))
facts n.GfmTableBody = part_with "GfmTableBody" (Then (one n.GfmTableRow) (Many (Then next_line (one n.GfmTableRow))))
facts n.GfmTableRow = part_as "GfmTableRow" IsRow (Then white (Then (some (one n.GfmTableCell)) white))
facts n.GfmTableCell =
    part_as "GfmTableCell" IsCell
    (Then (optional (one n.GfmTableCellDivider)) (Then white
    (Then (optional (Then (one n.GfmTableCellText) white)) (optional (one n.GfmTableCellDivider)))))
facts n.GfmTableCellDivider = piece "GfmTableCellDivider" (is_one_of (codes "|"))
facts n.GfmTableCellText = text_part "GfmTableCellText" k.Text AsCell
facts n.GfmTableDelimiterRow =
    part_as "GfmTableDelimiterRow" (TextRole AsDelimiter)
    (Then white (Then (some (one n.GfmTableDelimiterCell)) white))
facts n.GfmTableDelimiterCell =
    part_with "GfmTableDelimiterCell"
    (Then (optional (one n.GfmTableCellDivider)) (Then white (Then (one n.GfmTableDelimiterCellValue)
    (Then white (optional (one n.GfmTableCellDivider))))))
facts n.GfmTableDelimiterCellValue =
    part_with "GfmTableDelimiterCellValue"
    (Then (optional (one n.GfmTableDelimiterMarker))
    (Then (one n.GfmTableDelimiterFiller) (optional (one n.GfmTableDelimiterMarker))))
facts n.GfmTableDelimiterMarker = piece "GfmTableDelimiterMarker" (is_one_of (codes ":"))
facts n.GfmTableDelimiterFiller = piece "GfmTableDelimiterFiller" (is_run 1 hyphen)
-- between these
facts n.ByteOrderMark = piece "ByteOrderMark" is_byte_order_mark
facts n.SpaceOrTab =
    record (piece "SpaceOrTab" is_blank)
    { begins_in_tab = true; ends_in_tab = true; is_prefix = true; is_inline = true }
facts n.LineEnding =
    record (piece "LineEnding" is_line_ending) { role = IsEnding; line = Ends false; is_inline = true }
facts n.BlankLineEnding = record (piece "BlankLineEnding" is_line_ending) { line = Ends true }
-- what is read later, until it is
facts n.Content = plain "Content"
facts n.Data = record (piece "Data" is_in_line) { begins_in_tab = true; is_inline = true }
-- a link, its brackets, and the text between them
facts n.Link = inline_part "Link"
facts n.LabelMarker = inline_piece "LabelMarker" (is_one_of (codes "[]"))
facts n.LabelText = inline_part "LabelText"
-- an image, and what else a label has
facts n.Image = inline_part "Image"
facts n.Label = inline_part "Label"
facts n.LabelLink = inline_part "LabelLink"
facts n.LabelImage = inline_part "LabelImage"
facts n.LabelImageMarker = inline_piece "LabelImageMarker" (is_one_of (codes "!"))
facts n.LabelEnd = inline_part "LabelEnd"
-- the call of a footnote
facts n.GfmFootnoteCall = inline_part "GfmFootnoteCall"
facts n.GfmFootnoteCallLabel = inline_part "GfmFootnoteCallLabel"
facts n.GfmFootnoteCallMarker = inline_piece "GfmFootnoteCallMarker" (is_one_of (codes "^"))
-- where a link leads
facts n.Resource = inline_part "Resource"
facts n.ResourceMarker = inline_piece "ResourceMarker" (is_one_of (codes "()"))
facts n.ResourceDestination = inline_part "ResourceDestination"
facts n.ResourceDestinationLiteral = inline_part "ResourceDestinationLiteral"
facts n.ResourceDestinationLiteralMarker = inline_piece "ResourceDestinationLiteralMarker" (is_one_of (codes "<>"))
facts n.ResourceDestinationRaw = inline_part "ResourceDestinationRaw"
facts n.ResourceDestinationString = inline_part "ResourceDestinationString"
facts n.ResourceTitle = inline_part "ResourceTitle"
facts n.ResourceTitleMarker = inline_piece "ResourceTitleMarker" (is_one_of (codes "\"'()"))
facts n.ResourceTitleString = inline_part "ResourceTitleString"
-- the label of a definition after a label
facts n.Reference = inline_part "Reference"
facts n.ReferenceMarker = inline_piece "ReferenceMarker" (is_one_of (codes "[]"))
facts n.ReferenceString = inline_part "ReferenceString"
-- emphasis, strong emphasis and strikethrough
facts n.Emphasis = inline_part "Emphasis"
facts n.EmphasisSequence = inline_piece "EmphasisSequence" (is_one_of (codes "*_"))
facts n.EmphasisText = inline_part "EmphasisText"
facts n.Strong = inline_part "Strong"
facts n.StrongSequence = inline_piece "StrongSequence" is_strong_sequence
facts n.StrongText = inline_part "StrongText"
facts n.GfmStrikethrough = inline_part "GfmStrikethrough"
facts n.GfmStrikethroughSequence = inline_piece "GfmStrikethroughSequence" is_strikethrough_sequence
facts n.GfmStrikethroughText = inline_part "GfmStrikethroughText"
-- code, math and HTML in a text
facts n.CodeText = inline_part "CodeText"
facts n.CodeTextSequence = inline_piece "CodeTextSequence" (is_run 1 backtick)
facts n.CodeTextData = inline_piece "CodeTextData" is_in_line
facts n.MathText = inline_part "MathText"
facts n.MathTextSequence = inline_piece "MathTextSequence" (is_run 1 dollar)
facts n.MathTextData = inline_piece "MathTextData" is_in_line
facts n.HtmlText = inline_part "HtmlText"
facts n.HtmlTextData = inline_piece "HtmlTextData" is_in_line
-- autolinks, in angle brackets and without them
facts n.Autolink = inline_part "Autolink"
facts n.AutolinkMarker = inline_piece "AutolinkMarker" (is_one_of (codes "<>"))
facts n.AutolinkProtocol = inline_piece "AutolinkProtocol" is_address
facts n.AutolinkEmail = inline_piece "AutolinkEmail" is_address
facts n.GfmAutolinkLiteralEmail = inline_piece "GfmAutolinkLiteralEmail" is_address
facts n.GfmAutolinkLiteralMailto = inline_piece "GfmAutolinkLiteralMailto" is_address
facts n.GfmAutolinkLiteralProtocol = inline_piece "GfmAutolinkLiteralProtocol" is_address
facts n.GfmAutolinkLiteralWww = inline_piece "GfmAutolinkLiteralWww" is_address
facts n.GfmAutolinkLiteralXmpp = inline_piece "GfmAutolinkLiteralXmpp" is_address
-- escapes, and references to characters
facts n.CharacterEscape = inline_part "CharacterEscape"
facts n.CharacterEscapeMarker = inline_piece "CharacterEscapeMarker" (is_one_of (codes "\\"))
facts n.CharacterEscapeValue = inline_piece "CharacterEscapeValue" is_escaped
facts n.CharacterReference = inline_part "CharacterReference"
facts n.CharacterReferenceMarker = inline_piece "CharacterReferenceMarker" (is_one_of (codes "&"))
facts n.CharacterReferenceMarkerNumeric = inline_piece "CharacterReferenceMarkerNumeric" (is_one_of (codes "#"))
facts n.CharacterReferenceMarkerHexadecimal =
    inline_piece "CharacterReferenceMarkerHexadecimal" (is_one_of (codes "xX"))
facts n.CharacterReferenceValue = inline_piece "CharacterReferenceValue" is_character
facts n.CharacterReferenceMarkerSemi = inline_piece "CharacterReferenceMarkerSemi" (is_one_of (codes ";"))
-- hard line breaks: a backslash, or two spaces at least
facts n.HardBreakEscape = inline_piece "HardBreakEscape" (is_one_of (codes "\\"))
facts n.HardBreakTrailing = inline_piece "HardBreakTrailing" (is_run 2 space)
-- the check of a task item
facts n.GfmTaskListItemCheck = inline_part "GfmTaskListItemCheck"
facts n.GfmTaskListItemMarker = inline_piece "GfmTaskListItemMarker" (is_one_of (codes "[]"))
facts n.GfmTaskListItemValueChecked = inline_piece "GfmTaskListItemValueChecked" (is_one_of (codes "xX"))
facts n.GfmTaskListItemValueUnchecked = inline_piece "GfmTaskListItemValueUnchecked" (is_one_of (space ∷ tab ∷ []))

-- a name, as it is spelled in the library
abbrev pub name_text : Name → List ℕ
name_text name = codes (facts name).text

-- of a leaf block of which nothing is known but its word: its name, and that of a run of its markers
abbrev pub bare_names : Word → Option (Name × Name)
bare_names word.Break = Some (n.ThematicBreak, n.ThematicBreakSequence)
bare_names _ = None
