use Rattle.std.proofs.Common.{refl}
use Rattle.md_events.proofs.names.text_of.Goals as goal

pub returns-in-Frontmatter : goal.returns-in-Frontmatter
returns-in-Frontmatter c = rw c.in-Frontmatter.is refl

pub returns-in-FrontmatterFence : goal.returns-in-FrontmatterFence
returns-in-FrontmatterFence c = rw c.in-FrontmatterFence.is refl

pub returns-in-FrontmatterSequence : goal.returns-in-FrontmatterSequence
returns-in-FrontmatterSequence c = rw c.in-FrontmatterSequence.is refl

pub returns-in-FrontmatterChunk : goal.returns-in-FrontmatterChunk
returns-in-FrontmatterChunk c = rw c.in-FrontmatterChunk.is refl

pub returns-in-BlockQuote : goal.returns-in-BlockQuote
returns-in-BlockQuote c = rw c.in-BlockQuote.is refl

pub returns-in-BlockQuotePrefix : goal.returns-in-BlockQuotePrefix
returns-in-BlockQuotePrefix c = rw c.in-BlockQuotePrefix.is refl

pub returns-in-BlockQuoteMarker : goal.returns-in-BlockQuoteMarker
returns-in-BlockQuoteMarker c = rw c.in-BlockQuoteMarker.is refl

pub returns-in-ListOrdered : goal.returns-in-ListOrdered
returns-in-ListOrdered c = rw c.in-ListOrdered.is refl

pub returns-in-ListUnordered : goal.returns-in-ListUnordered
returns-in-ListUnordered c = rw c.in-ListUnordered.is refl

pub returns-in-ListItem : goal.returns-in-ListItem
returns-in-ListItem c = rw c.in-ListItem.is refl

pub returns-in-ListItemPrefix : goal.returns-in-ListItemPrefix
returns-in-ListItemPrefix c = rw c.in-ListItemPrefix.is refl

pub returns-in-ListItemValue : goal.returns-in-ListItemValue
returns-in-ListItemValue c = rw c.in-ListItemValue.is refl

pub returns-in-ListItemMarker : goal.returns-in-ListItemMarker
returns-in-ListItemMarker c = rw c.in-ListItemMarker.is refl

pub returns-in-GfmFootnoteDefinition : goal.returns-in-GfmFootnoteDefinition
returns-in-GfmFootnoteDefinition c = rw c.in-GfmFootnoteDefinition.is refl

pub returns-in-GfmFootnoteDefinitionPrefix : goal.returns-in-GfmFootnoteDefinitionPrefix
returns-in-GfmFootnoteDefinitionPrefix c = rw c.in-GfmFootnoteDefinitionPrefix.is refl

pub returns-in-GfmFootnoteDefinitionLabel : goal.returns-in-GfmFootnoteDefinitionLabel
returns-in-GfmFootnoteDefinitionLabel c = rw c.in-GfmFootnoteDefinitionLabel.is refl

pub returns-in-GfmFootnoteDefinitionLabelMarker : goal.returns-in-GfmFootnoteDefinitionLabelMarker
returns-in-GfmFootnoteDefinitionLabelMarker c = rw c.in-GfmFootnoteDefinitionLabelMarker.is refl

pub returns-in-GfmFootnoteDefinitionMarker : goal.returns-in-GfmFootnoteDefinitionMarker
returns-in-GfmFootnoteDefinitionMarker c = rw c.in-GfmFootnoteDefinitionMarker.is refl

pub returns-in-GfmFootnoteDefinitionLabelString : goal.returns-in-GfmFootnoteDefinitionLabelString
returns-in-GfmFootnoteDefinitionLabelString c = rw c.in-GfmFootnoteDefinitionLabelString.is refl

pub returns-in-HeadingAtx : goal.returns-in-HeadingAtx
returns-in-HeadingAtx c = rw c.in-HeadingAtx.is refl

pub returns-in-HeadingAtxSequence : goal.returns-in-HeadingAtxSequence
returns-in-HeadingAtxSequence c = rw c.in-HeadingAtxSequence.is refl

pub returns-in-HeadingAtxText : goal.returns-in-HeadingAtxText
returns-in-HeadingAtxText c = rw c.in-HeadingAtxText.is refl

pub returns-in-HeadingSetext : goal.returns-in-HeadingSetext
returns-in-HeadingSetext c = rw c.in-HeadingSetext.is refl

pub returns-in-HeadingSetextText : goal.returns-in-HeadingSetextText
returns-in-HeadingSetextText c = rw c.in-HeadingSetextText.is refl

pub returns-in-HeadingSetextUnderline : goal.returns-in-HeadingSetextUnderline
returns-in-HeadingSetextUnderline c = rw c.in-HeadingSetextUnderline.is refl

pub returns-in-HeadingSetextUnderlineSequence : goal.returns-in-HeadingSetextUnderlineSequence
returns-in-HeadingSetextUnderlineSequence c = rw c.in-HeadingSetextUnderlineSequence.is refl

pub returns-in-ThematicBreak : goal.returns-in-ThematicBreak
returns-in-ThematicBreak c = rw c.in-ThematicBreak.is refl

pub returns-in-ThematicBreakSequence : goal.returns-in-ThematicBreakSequence
returns-in-ThematicBreakSequence c = rw c.in-ThematicBreakSequence.is refl

pub returns-in-CodeIndented : goal.returns-in-CodeIndented
returns-in-CodeIndented c = rw c.in-CodeIndented.is refl

pub returns-in-CodeFenced : goal.returns-in-CodeFenced
returns-in-CodeFenced c = rw c.in-CodeFenced.is refl

pub returns-in-CodeFencedFence : goal.returns-in-CodeFencedFence
returns-in-CodeFencedFence c = rw c.in-CodeFencedFence.is refl

pub returns-in-CodeFencedFenceSequence : goal.returns-in-CodeFencedFenceSequence
returns-in-CodeFencedFenceSequence c = rw c.in-CodeFencedFenceSequence.is refl

pub returns-in-CodeFencedFenceInfo : goal.returns-in-CodeFencedFenceInfo
returns-in-CodeFencedFenceInfo c = rw c.in-CodeFencedFenceInfo.is refl

pub returns-in-CodeFencedFenceMeta : goal.returns-in-CodeFencedFenceMeta
returns-in-CodeFencedFenceMeta c = rw c.in-CodeFencedFenceMeta.is refl

pub returns-in-CodeFlowChunk : goal.returns-in-CodeFlowChunk
returns-in-CodeFlowChunk c = rw c.in-CodeFlowChunk.is refl

pub returns-in-MathFlow : goal.returns-in-MathFlow
returns-in-MathFlow c = rw c.in-MathFlow.is refl

pub returns-in-MathFlowFence : goal.returns-in-MathFlowFence
returns-in-MathFlowFence c = rw c.in-MathFlowFence.is refl

pub returns-in-MathFlowFenceSequence : goal.returns-in-MathFlowFenceSequence
returns-in-MathFlowFenceSequence c = rw c.in-MathFlowFenceSequence.is refl

pub returns-in-MathFlowFenceMeta : goal.returns-in-MathFlowFenceMeta
returns-in-MathFlowFenceMeta c = rw c.in-MathFlowFenceMeta.is refl

pub returns-in-MathFlowChunk : goal.returns-in-MathFlowChunk
returns-in-MathFlowChunk c = rw c.in-MathFlowChunk.is refl

pub returns-in-HtmlFlow : goal.returns-in-HtmlFlow
returns-in-HtmlFlow c = rw c.in-HtmlFlow.is refl

pub returns-in-HtmlFlowData : goal.returns-in-HtmlFlowData
returns-in-HtmlFlowData c = rw c.in-HtmlFlowData.is refl

pub returns-in-Definition : goal.returns-in-Definition
returns-in-Definition c = rw c.in-Definition.is refl

pub returns-in-DefinitionLabel : goal.returns-in-DefinitionLabel
returns-in-DefinitionLabel c = rw c.in-DefinitionLabel.is refl

pub returns-in-DefinitionLabelMarker : goal.returns-in-DefinitionLabelMarker
returns-in-DefinitionLabelMarker c = rw c.in-DefinitionLabelMarker.is refl

pub returns-in-DefinitionLabelString : goal.returns-in-DefinitionLabelString
returns-in-DefinitionLabelString c = rw c.in-DefinitionLabelString.is refl

pub returns-in-DefinitionMarker : goal.returns-in-DefinitionMarker
returns-in-DefinitionMarker c = rw c.in-DefinitionMarker.is refl

pub returns-in-DefinitionDestination : goal.returns-in-DefinitionDestination
returns-in-DefinitionDestination c = rw c.in-DefinitionDestination.is refl

pub returns-in-DefinitionDestinationLiteral : goal.returns-in-DefinitionDestinationLiteral
returns-in-DefinitionDestinationLiteral c = rw c.in-DefinitionDestinationLiteral.is refl

pub returns-in-DefinitionDestinationLiteralMarker : goal.returns-in-DefinitionDestinationLiteralMarker
returns-in-DefinitionDestinationLiteralMarker c = rw c.in-DefinitionDestinationLiteralMarker.is refl

pub returns-in-DefinitionDestinationRaw : goal.returns-in-DefinitionDestinationRaw
returns-in-DefinitionDestinationRaw c = rw c.in-DefinitionDestinationRaw.is refl

pub returns-in-DefinitionDestinationString : goal.returns-in-DefinitionDestinationString
returns-in-DefinitionDestinationString c = rw c.in-DefinitionDestinationString.is refl

pub returns-in-DefinitionTitle : goal.returns-in-DefinitionTitle
returns-in-DefinitionTitle c = rw c.in-DefinitionTitle.is refl

pub returns-in-DefinitionTitleMarker : goal.returns-in-DefinitionTitleMarker
returns-in-DefinitionTitleMarker c = rw c.in-DefinitionTitleMarker.is refl

pub returns-in-DefinitionTitleString : goal.returns-in-DefinitionTitleString
returns-in-DefinitionTitleString c = rw c.in-DefinitionTitleString.is refl

pub returns-in-Paragraph : goal.returns-in-Paragraph
returns-in-Paragraph c = rw c.in-Paragraph.is refl

pub returns-in-GfmTable : goal.returns-in-GfmTable
returns-in-GfmTable c = rw c.in-GfmTable.is refl

pub returns-in-GfmTableHead : goal.returns-in-GfmTableHead
returns-in-GfmTableHead c = rw c.in-GfmTableHead.is refl

pub returns-in-GfmTableBody : goal.returns-in-GfmTableBody
returns-in-GfmTableBody c = rw c.in-GfmTableBody.is refl

pub returns-in-GfmTableRow : goal.returns-in-GfmTableRow
returns-in-GfmTableRow c = rw c.in-GfmTableRow.is refl

pub returns-in-GfmTableCell : goal.returns-in-GfmTableCell
returns-in-GfmTableCell c = rw c.in-GfmTableCell.is refl

pub returns-in-GfmTableCellDivider : goal.returns-in-GfmTableCellDivider
returns-in-GfmTableCellDivider c = rw c.in-GfmTableCellDivider.is refl

pub returns-in-GfmTableCellText : goal.returns-in-GfmTableCellText
returns-in-GfmTableCellText c = rw c.in-GfmTableCellText.is refl

pub returns-in-GfmTableDelimiterRow : goal.returns-in-GfmTableDelimiterRow
returns-in-GfmTableDelimiterRow c = rw c.in-GfmTableDelimiterRow.is refl

pub returns-in-GfmTableDelimiterCell : goal.returns-in-GfmTableDelimiterCell
returns-in-GfmTableDelimiterCell c = rw c.in-GfmTableDelimiterCell.is refl

pub returns-in-GfmTableDelimiterCellValue : goal.returns-in-GfmTableDelimiterCellValue
returns-in-GfmTableDelimiterCellValue c = rw c.in-GfmTableDelimiterCellValue.is refl

pub returns-in-GfmTableDelimiterMarker : goal.returns-in-GfmTableDelimiterMarker
returns-in-GfmTableDelimiterMarker c = rw c.in-GfmTableDelimiterMarker.is refl

pub returns-in-GfmTableDelimiterFiller : goal.returns-in-GfmTableDelimiterFiller
returns-in-GfmTableDelimiterFiller c = rw c.in-GfmTableDelimiterFiller.is refl

pub returns-in-ByteOrderMark : goal.returns-in-ByteOrderMark
returns-in-ByteOrderMark c = rw c.in-ByteOrderMark.is refl

pub returns-in-SpaceOrTab : goal.returns-in-SpaceOrTab
returns-in-SpaceOrTab c = rw c.in-SpaceOrTab.is refl

pub returns-in-LineEnding : goal.returns-in-LineEnding
returns-in-LineEnding c = rw c.in-LineEnding.is refl

pub returns-in-BlankLineEnding : goal.returns-in-BlankLineEnding
returns-in-BlankLineEnding c = rw c.in-BlankLineEnding.is refl

pub returns-in-Content : goal.returns-in-Content
returns-in-Content c = rw c.in-Content.is refl

pub returns-in-Data : goal.returns-in-Data
returns-in-Data c = rw c.in-Data.is refl

pub returns-in-Link : goal.returns-in-Link
returns-in-Link c = rw c.in-Link.is refl

pub returns-in-LabelMarker : goal.returns-in-LabelMarker
returns-in-LabelMarker c = rw c.in-LabelMarker.is refl

pub returns-in-LabelText : goal.returns-in-LabelText
returns-in-LabelText c = rw c.in-LabelText.is refl

pub returns-in-Image : goal.returns-in-Image
returns-in-Image c = rw c.in-Image.is refl

pub returns-in-Label : goal.returns-in-Label
returns-in-Label c = rw c.in-Label.is refl

pub returns-in-LabelLink : goal.returns-in-LabelLink
returns-in-LabelLink c = rw c.in-LabelLink.is refl

pub returns-in-LabelImage : goal.returns-in-LabelImage
returns-in-LabelImage c = rw c.in-LabelImage.is refl

pub returns-in-LabelImageMarker : goal.returns-in-LabelImageMarker
returns-in-LabelImageMarker c = rw c.in-LabelImageMarker.is refl

pub returns-in-LabelEnd : goal.returns-in-LabelEnd
returns-in-LabelEnd c = rw c.in-LabelEnd.is refl

pub returns-in-GfmFootnoteCall : goal.returns-in-GfmFootnoteCall
returns-in-GfmFootnoteCall c = rw c.in-GfmFootnoteCall.is refl

pub returns-in-GfmFootnoteCallLabel : goal.returns-in-GfmFootnoteCallLabel
returns-in-GfmFootnoteCallLabel c = rw c.in-GfmFootnoteCallLabel.is refl

pub returns-in-GfmFootnoteCallMarker : goal.returns-in-GfmFootnoteCallMarker
returns-in-GfmFootnoteCallMarker c = rw c.in-GfmFootnoteCallMarker.is refl

pub returns-in-Resource : goal.returns-in-Resource
returns-in-Resource c = rw c.in-Resource.is refl

pub returns-in-ResourceMarker : goal.returns-in-ResourceMarker
returns-in-ResourceMarker c = rw c.in-ResourceMarker.is refl

pub returns-in-ResourceDestination : goal.returns-in-ResourceDestination
returns-in-ResourceDestination c = rw c.in-ResourceDestination.is refl

pub returns-in-ResourceDestinationLiteral : goal.returns-in-ResourceDestinationLiteral
returns-in-ResourceDestinationLiteral c = rw c.in-ResourceDestinationLiteral.is refl

pub returns-in-ResourceDestinationLiteralMarker : goal.returns-in-ResourceDestinationLiteralMarker
returns-in-ResourceDestinationLiteralMarker c = rw c.in-ResourceDestinationLiteralMarker.is refl

pub returns-in-ResourceDestinationRaw : goal.returns-in-ResourceDestinationRaw
returns-in-ResourceDestinationRaw c = rw c.in-ResourceDestinationRaw.is refl

pub returns-in-ResourceDestinationString : goal.returns-in-ResourceDestinationString
returns-in-ResourceDestinationString c = rw c.in-ResourceDestinationString.is refl

pub returns-in-ResourceTitle : goal.returns-in-ResourceTitle
returns-in-ResourceTitle c = rw c.in-ResourceTitle.is refl

pub returns-in-ResourceTitleMarker : goal.returns-in-ResourceTitleMarker
returns-in-ResourceTitleMarker c = rw c.in-ResourceTitleMarker.is refl

pub returns-in-ResourceTitleString : goal.returns-in-ResourceTitleString
returns-in-ResourceTitleString c = rw c.in-ResourceTitleString.is refl

pub returns-in-Reference : goal.returns-in-Reference
returns-in-Reference c = rw c.in-Reference.is refl

pub returns-in-ReferenceMarker : goal.returns-in-ReferenceMarker
returns-in-ReferenceMarker c = rw c.in-ReferenceMarker.is refl

pub returns-in-ReferenceString : goal.returns-in-ReferenceString
returns-in-ReferenceString c = rw c.in-ReferenceString.is refl

pub returns-in-Emphasis : goal.returns-in-Emphasis
returns-in-Emphasis c = rw c.in-Emphasis.is refl

pub returns-in-EmphasisSequence : goal.returns-in-EmphasisSequence
returns-in-EmphasisSequence c = rw c.in-EmphasisSequence.is refl

pub returns-in-EmphasisText : goal.returns-in-EmphasisText
returns-in-EmphasisText c = rw c.in-EmphasisText.is refl

pub returns-in-Strong : goal.returns-in-Strong
returns-in-Strong c = rw c.in-Strong.is refl

pub returns-in-StrongSequence : goal.returns-in-StrongSequence
returns-in-StrongSequence c = rw c.in-StrongSequence.is refl

pub returns-in-StrongText : goal.returns-in-StrongText
returns-in-StrongText c = rw c.in-StrongText.is refl

pub returns-in-GfmStrikethrough : goal.returns-in-GfmStrikethrough
returns-in-GfmStrikethrough c = rw c.in-GfmStrikethrough.is refl

pub returns-in-GfmStrikethroughSequence : goal.returns-in-GfmStrikethroughSequence
returns-in-GfmStrikethroughSequence c = rw c.in-GfmStrikethroughSequence.is refl

pub returns-in-GfmStrikethroughText : goal.returns-in-GfmStrikethroughText
returns-in-GfmStrikethroughText c = rw c.in-GfmStrikethroughText.is refl

pub returns-in-CodeText : goal.returns-in-CodeText
returns-in-CodeText c = rw c.in-CodeText.is refl

pub returns-in-CodeTextSequence : goal.returns-in-CodeTextSequence
returns-in-CodeTextSequence c = rw c.in-CodeTextSequence.is refl

pub returns-in-CodeTextData : goal.returns-in-CodeTextData
returns-in-CodeTextData c = rw c.in-CodeTextData.is refl

pub returns-in-MathText : goal.returns-in-MathText
returns-in-MathText c = rw c.in-MathText.is refl

pub returns-in-MathTextSequence : goal.returns-in-MathTextSequence
returns-in-MathTextSequence c = rw c.in-MathTextSequence.is refl

pub returns-in-MathTextData : goal.returns-in-MathTextData
returns-in-MathTextData c = rw c.in-MathTextData.is refl

pub returns-in-HtmlText : goal.returns-in-HtmlText
returns-in-HtmlText c = rw c.in-HtmlText.is refl

pub returns-in-HtmlTextData : goal.returns-in-HtmlTextData
returns-in-HtmlTextData c = rw c.in-HtmlTextData.is refl

pub returns-in-Autolink : goal.returns-in-Autolink
returns-in-Autolink c = rw c.in-Autolink.is refl

pub returns-in-AutolinkMarker : goal.returns-in-AutolinkMarker
returns-in-AutolinkMarker c = rw c.in-AutolinkMarker.is refl

pub returns-in-AutolinkProtocol : goal.returns-in-AutolinkProtocol
returns-in-AutolinkProtocol c = rw c.in-AutolinkProtocol.is refl

pub returns-in-AutolinkEmail : goal.returns-in-AutolinkEmail
returns-in-AutolinkEmail c = rw c.in-AutolinkEmail.is refl

pub returns-in-GfmAutolinkLiteralEmail : goal.returns-in-GfmAutolinkLiteralEmail
returns-in-GfmAutolinkLiteralEmail c = rw c.in-GfmAutolinkLiteralEmail.is refl

pub returns-in-GfmAutolinkLiteralMailto : goal.returns-in-GfmAutolinkLiteralMailto
returns-in-GfmAutolinkLiteralMailto c = rw c.in-GfmAutolinkLiteralMailto.is refl

pub returns-in-GfmAutolinkLiteralProtocol : goal.returns-in-GfmAutolinkLiteralProtocol
returns-in-GfmAutolinkLiteralProtocol c = rw c.in-GfmAutolinkLiteralProtocol.is refl

pub returns-in-GfmAutolinkLiteralWww : goal.returns-in-GfmAutolinkLiteralWww
returns-in-GfmAutolinkLiteralWww c = rw c.in-GfmAutolinkLiteralWww.is refl

pub returns-in-GfmAutolinkLiteralXmpp : goal.returns-in-GfmAutolinkLiteralXmpp
returns-in-GfmAutolinkLiteralXmpp c = rw c.in-GfmAutolinkLiteralXmpp.is refl

pub returns-in-CharacterEscape : goal.returns-in-CharacterEscape
returns-in-CharacterEscape c = rw c.in-CharacterEscape.is refl

pub returns-in-CharacterEscapeMarker : goal.returns-in-CharacterEscapeMarker
returns-in-CharacterEscapeMarker c = rw c.in-CharacterEscapeMarker.is refl

pub returns-in-CharacterEscapeValue : goal.returns-in-CharacterEscapeValue
returns-in-CharacterEscapeValue c = rw c.in-CharacterEscapeValue.is refl

pub returns-in-CharacterReference : goal.returns-in-CharacterReference
returns-in-CharacterReference c = rw c.in-CharacterReference.is refl

pub returns-in-CharacterReferenceMarker : goal.returns-in-CharacterReferenceMarker
returns-in-CharacterReferenceMarker c = rw c.in-CharacterReferenceMarker.is refl

pub returns-in-CharacterReferenceMarkerNumeric : goal.returns-in-CharacterReferenceMarkerNumeric
returns-in-CharacterReferenceMarkerNumeric c = rw c.in-CharacterReferenceMarkerNumeric.is refl

pub returns-in-CharacterReferenceMarkerHexadecimal : goal.returns-in-CharacterReferenceMarkerHexadecimal
returns-in-CharacterReferenceMarkerHexadecimal c = rw c.in-CharacterReferenceMarkerHexadecimal.is refl

pub returns-in-CharacterReferenceValue : goal.returns-in-CharacterReferenceValue
returns-in-CharacterReferenceValue c = rw c.in-CharacterReferenceValue.is refl

pub returns-in-CharacterReferenceMarkerSemi : goal.returns-in-CharacterReferenceMarkerSemi
returns-in-CharacterReferenceMarkerSemi c = rw c.in-CharacterReferenceMarkerSemi.is refl

pub returns-in-HardBreakEscape : goal.returns-in-HardBreakEscape
returns-in-HardBreakEscape c = rw c.in-HardBreakEscape.is refl

pub returns-in-HardBreakTrailing : goal.returns-in-HardBreakTrailing
returns-in-HardBreakTrailing c = rw c.in-HardBreakTrailing.is refl

pub returns-in-GfmTaskListItemCheck : goal.returns-in-GfmTaskListItemCheck
returns-in-GfmTaskListItemCheck c = rw c.in-GfmTaskListItemCheck.is refl

pub returns-in-GfmTaskListItemMarker : goal.returns-in-GfmTaskListItemMarker
returns-in-GfmTaskListItemMarker c = rw c.in-GfmTaskListItemMarker.is refl

pub returns-in-GfmTaskListItemValueChecked : goal.returns-in-GfmTaskListItemValueChecked
returns-in-GfmTaskListItemValueChecked c = rw c.in-GfmTaskListItemValueChecked.is refl

pub returns-in-GfmTaskListItemValueUnchecked : goal.returns-in-GfmTaskListItemValueUnchecked
returns-in-GfmTaskListItemValueUnchecked c = rw c.in-GfmTaskListItemValueUnchecked.is refl
