-- Small texts in which leaf blocks meet, each with its exact list.
use Rattle.std.proofs.Common.{◌≡◌, ℕ, List, [], ◌∷◌, ◌++◌, codes, refl}
use Rattle.md_engine.specs.declared.configuration.TheConstants.ParseOptions as given
use Rattle.md_engine.specs.declared.event.Event.{Event}
use Rattle.md_engine.specs.declared.event.Name.TheVariants as n
use Rattle.md_meaning.specs.Html.{begins_raw, begins_basic, after_value, after_assignment, after_attribute}
use Rattle.md_meaning.specs.Html.{ends_opening, begins_complete, kind_after, html_kind, html_ends, is_raw_name}
use Rattle.md_meaning.specs.Html.{is_basic_name, is_raw_end}
use Rattle.md_meaning.specs.Enclosed.{enclosed, enclosed_lines}
use Rattle.md_meaning.specs.Definition.{label_at, balanced, destination_at, title_at, definition_at, cut_at_most}
use Rattle.md_meaning.specs.Definition.{cut_definitions}
use Rattle.md_meaning.specs.Table.{pieces, row_cells, delimiter_columns, is_head}
use Rattle.md_meaning.specs.State.{shut_paragraph}
use Rattle.md_meaning.specs.Preamble.{front_of}
use Rattle.md_meaning.specs.Alert.{alert_at}
use Rattle.md_meaning.specs.Containers.{quote_taken, item_continues, footnote_continues, opens_quote, opens_item}
use Rattle.md_meaning.specs.Containers.{opens_footnote}
use Rattle.md_meaning.specs.Leaves.{break_at, heading_at, code_at, code_continued, fence_at, fence_continued, html_at}
use Rattle.md_meaning.specs.Leaves.{html_continued, starts, table_continued, underline_depth, underlined, table_at}
use Rattle.md_meaning.specs.Step.{fresh_line, text_line, all_continued, stopped}
use Rattle.md_events.specs.Events.Nested.{around, pair}
use Rattle.md_events.specs.Exact.Blocks.{exact}
use Rattle.md_events.proofs.EventRowParts.{at, chunk, string_chunk}

-- "[a]: b\n===\n"
abbrev setext_refused_text : List ℕ
setext_refused_text = codes "[a]: b" ++ 10 ∷ codes "===" ++ 10 ∷ []

abbrev setext_refused_events : List Event
setext_refused_events =
    around n.Definition (at 1 1 0) (at 1 7 6)
    (around n.DefinitionLabel (at 1 1 0) (at 1 4 3)
    (pair n.DefinitionLabelMarker (at 1 1 0) (at 1 2 1)
    ++ around n.DefinitionLabelString (at 1 2 1) (at 1 3 2)
    (string_chunk (at 1 2 1) (at 1 3 2))
    ++ pair n.DefinitionLabelMarker (at 1 3 2) (at 1 4 3))
    ++ pair n.DefinitionMarker (at 1 4 3) (at 1 5 4)
    ++ pair n.SpaceOrTab (at 1 5 4) (at 1 6 5)
    ++ around n.DefinitionDestination (at 1 6 5) (at 1 7 6)
    (around n.DefinitionDestinationRaw (at 1 6 5) (at 1 7 6)
    (around n.DefinitionDestinationString (at 1 6 5) (at 1 7 6)
    (string_chunk (at 1 6 5) (at 1 7 6)))))
    ++ pair n.LineEnding (at 1 7 6) (at 2 1 7)
    ++ around n.Paragraph (at 2 1 7) (at 2 4 10)
    (chunk (at 2 1 7) (at 2 4 10))
    ++ pair n.LineEnding (at 2 4 10) (at 3 1 11)

-- "[a]: b\n[c]:\n  <d>  \n"e" f"
abbrev three_definitions_text : List ℕ
three_definitions_text =
    codes "[a]: b" ++ 10 ∷ codes "[c]:" ++ 10 ∷ codes "  <d>  " ++ 10 ∷ 34 ∷ codes "e" ++ 34 ∷ codes " f"

abbrev three_definitions_events : List Event
three_definitions_events =
    around n.Definition (at 1 1 0) (at 1 7 6)
    (around n.DefinitionLabel (at 1 1 0) (at 1 4 3)
    (pair n.DefinitionLabelMarker (at 1 1 0) (at 1 2 1)
    ++ around n.DefinitionLabelString (at 1 2 1) (at 1 3 2)
    (string_chunk (at 1 2 1) (at 1 3 2))
    ++ pair n.DefinitionLabelMarker (at 1 3 2) (at 1 4 3))
    ++ pair n.DefinitionMarker (at 1 4 3) (at 1 5 4)
    ++ pair n.SpaceOrTab (at 1 5 4) (at 1 6 5)
    ++ around n.DefinitionDestination (at 1 6 5) (at 1 7 6)
    (around n.DefinitionDestinationRaw (at 1 6 5) (at 1 7 6)
    (around n.DefinitionDestinationString (at 1 6 5) (at 1 7 6)
    (string_chunk (at 1 6 5) (at 1 7 6)))))
    ++ pair n.LineEnding (at 1 7 6) (at 2 1 7)
    ++ around n.Definition (at 2 1 7) (at 3 8 19)
    (around n.DefinitionLabel (at 2 1 7) (at 2 4 10)
    (pair n.DefinitionLabelMarker (at 2 1 7) (at 2 2 8)
    ++ around n.DefinitionLabelString (at 2 2 8) (at 2 3 9)
    (string_chunk (at 2 2 8) (at 2 3 9))
    ++ pair n.DefinitionLabelMarker (at 2 3 9) (at 2 4 10))
    ++ pair n.DefinitionMarker (at 2 4 10) (at 2 5 11)
    ++ pair n.LineEnding (at 2 5 11) (at 3 1 12)
    ++ pair n.SpaceOrTab (at 3 1 12) (at 3 3 14)
    ++ around n.DefinitionDestination (at 3 3 14) (at 3 6 17)
    (around n.DefinitionDestinationLiteral (at 3 3 14) (at 3 6 17)
    (pair n.DefinitionDestinationLiteralMarker (at 3 3 14) (at 3 4 15)
    ++ around n.DefinitionDestinationString (at 3 4 15) (at 3 5 16)
    (string_chunk (at 3 4 15) (at 3 5 16))
    ++ pair n.DefinitionDestinationLiteralMarker (at 3 5 16) (at 3 6 17)))
    ++ pair n.SpaceOrTab (at 3 6 17) (at 3 8 19))
    ++ pair n.LineEnding (at 3 8 19) (at 4 1 20)
    ++ around n.Paragraph (at 4 1 20) (at 4 6 25)
    (chunk (at 4 1 20) (at 4 6 25))

-- "<!-- a\n\n-->\n<div>\n\n<b>\nx"
abbrev html_kinds_text : List ℕ
html_kinds_text =
    codes "<!-- a" ++ 10 ∷ 10 ∷ codes "-->" ++ 10 ∷ codes "<div>" ++ 10 ∷ 10 ∷ codes "<b>" ++ 10 ∷ codes "x"

abbrev html_kinds_events : List Event
html_kinds_events =
    around n.HtmlFlow (at 1 1 0) (at 3 4 11)
    (pair n.HtmlFlowData (at 1 1 0) (at 1 7 6)
    ++ pair n.LineEnding (at 1 7 6) (at 2 1 7)
    ++ pair n.LineEnding (at 2 1 7) (at 3 1 8)
    ++ pair n.HtmlFlowData (at 3 1 8) (at 3 4 11))
    ++ pair n.LineEnding (at 3 4 11) (at 4 1 12)
    ++ around n.HtmlFlow (at 4 1 12) (at 4 6 17)
    (pair n.HtmlFlowData (at 4 1 12) (at 4 6 17))
    ++ pair n.LineEnding (at 4 6 17) (at 5 1 18)
    ++ pair n.BlankLineEnding (at 5 1 18) (at 6 1 19)
    ++ around n.HtmlFlow (at 6 1 19) (at 7 2 24)
    (pair n.HtmlFlowData (at 6 1 19) (at 6 4 22)
    ++ pair n.LineEnding (at 6 4 22) (at 7 1 23)
    ++ pair n.HtmlFlowData (at 7 1 23) (at 7 2 24))

-- "a\rb\r\n\r\nc\n"
abbrev endings_text : List ℕ
endings_text = codes "a" ++ 13 ∷ codes "b" ++ 13 ∷ 10 ∷ 13 ∷ 10 ∷ codes "c" ++ 10 ∷ []

abbrev endings_events : List Event
endings_events =
    around n.Paragraph (at 1 1 0) (at 2 2 3)
    (chunk (at 1 1 0) (at 2 1 2)
    ++ chunk (at 2 1 2) (at 2 2 3))
    ++ pair n.LineEnding (at 2 2 3) (at 3 1 5)
    ++ pair n.BlankLineEnding (at 3 1 5) (at 4 1 7)
    ++ around n.Paragraph (at 4 1 7) (at 4 2 8)
    (chunk (at 4 1 7) (at 4 2 8))
    ++ pair n.LineEnding (at 4 2 8) (at 5 1 9)

-- "a\n- - -\n---\nb\n--"
abbrev break_or_underline_text : List ℕ
break_or_underline_text = codes "a" ++ 10 ∷ codes "- - -" ++ 10 ∷ codes "---" ++ 10 ∷ codes "b" ++ 10 ∷ codes "--"

abbrev break_or_underline_events : List Event
break_or_underline_events =
    around n.Paragraph (at 1 1 0) (at 1 2 1)
    (chunk (at 1 1 0) (at 1 2 1))
    ++ pair n.LineEnding (at 1 2 1) (at 2 1 2)
    ++ around n.ThematicBreak (at 2 1 2) (at 2 6 7)
    (pair n.ThematicBreakSequence (at 2 1 2) (at 2 2 3)
    ++ pair n.SpaceOrTab (at 2 2 3) (at 2 3 4)
    ++ pair n.ThematicBreakSequence (at 2 3 4) (at 2 4 5)
    ++ pair n.SpaceOrTab (at 2 4 5) (at 2 5 6)
    ++ pair n.ThematicBreakSequence (at 2 5 6) (at 2 6 7))
    ++ pair n.LineEnding (at 2 6 7) (at 3 1 8)
    ++ around n.ThematicBreak (at 3 1 8) (at 3 4 11)
    (pair n.ThematicBreakSequence (at 3 1 8) (at 3 4 11))
    ++ pair n.LineEnding (at 3 4 11) (at 4 1 12)
    ++ around n.HeadingSetext (at 4 1 12) (at 5 3 16)
    (around n.HeadingSetextText (at 4 1 12) (at 4 2 13)
    (chunk (at 4 1 12) (at 4 2 13))
    ++ pair n.LineEnding (at 4 2 13) (at 5 1 14)
    ++ around n.HeadingSetextUnderline (at 5 1 14) (at 5 3 16)
    (pair n.HeadingSetextUnderlineSequence (at 5 1 14) (at 5 3 16)))

-- "    a\n      \nb"
abbrev white_after_code_text : List ℕ
white_after_code_text = codes "    a" ++ 10 ∷ codes "      " ++ 10 ∷ codes "b"

abbrev white_after_code_events : List Event
white_after_code_events =
    around n.CodeIndented (at 1 1 0) (at 1 6 5)
    (pair n.SpaceOrTab (at 1 1 0) (at 1 5 4)
    ++ pair n.CodeFlowChunk (at 1 5 4) (at 1 6 5))
    ++ pair n.LineEnding (at 1 6 5) (at 2 1 6)
    ++ pair n.SpaceOrTab (at 2 1 6) (at 2 5 10)
    ++ pair n.SpaceOrTab (at 2 5 10) (at 2 7 12)
    ++ pair n.BlankLineEnding (at 2 7 12) (at 3 1 13)
    ++ around n.Paragraph (at 3 1 13) (at 3 2 14)
    (chunk (at 3 1 13) (at 3 2 14))

-- "(mark)---\na\n\n--- \n# b"
abbrev frontmatter_mark_text : List ℕ
frontmatter_mark_text = 239 ∷ 187 ∷ 191 ∷ codes "---" ++ 10 ∷ codes "a" ++ 10 ∷ 10 ∷ codes "--- " ++ 10 ∷ codes "# b"

abbrev frontmatter_mark_events : List Event
frontmatter_mark_events =
    pair n.ByteOrderMark (at 1 1 0) (at 1 4 3)
    ++ around n.Frontmatter (at 1 4 3) (at 4 5 14)
    (around n.FrontmatterFence (at 1 4 3) (at 1 7 6)
    (pair n.FrontmatterSequence (at 1 4 3) (at 1 7 6))
    ++ pair n.LineEnding (at 1 7 6) (at 2 1 7)
    ++ pair n.FrontmatterChunk (at 2 1 7) (at 2 2 8)
    ++ pair n.LineEnding (at 2 2 8) (at 3 1 9)
    ++ pair n.LineEnding (at 3 1 9) (at 4 1 10)
    ++ around n.FrontmatterFence (at 4 1 10) (at 4 5 14)
    (pair n.FrontmatterSequence (at 4 1 10) (at 4 4 13)
    ++ pair n.SpaceOrTab (at 4 4 13) (at 4 5 14)))
    ++ pair n.LineEnding (at 4 5 14) (at 5 1 15)
    ++ around n.HeadingAtx (at 5 1 15) (at 5 4 18)
    (pair n.HeadingAtxSequence (at 5 1 15) (at 5 2 16)
    ++ pair n.SpaceOrTab (at 5 2 16) (at 5 3 17)
    ++ around n.HeadingAtxText (at 5 3 17) (at 5 4 18)
    (chunk (at 5 3 17) (at 5 4 18)))

-- "---\na"
abbrev open_front_text : List ℕ
open_front_text = codes "---" ++ 10 ∷ codes "a"

abbrev open_front_events : List Event
open_front_events =
    around n.ThematicBreak (at 1 1 0) (at 1 4 3)
    (pair n.ThematicBreakSequence (at 1 1 0) (at 1 4 3))
    ++ pair n.LineEnding (at 1 4 3) (at 2 1 4)
    ++ around n.Paragraph (at 2 1 4) (at 2 2 5)
    (chunk (at 2 1 4) (at 2 2 5))

-- "+++\na\n+++\n```\nb"
abbrev plus_front_text : List ℕ
plus_front_text = codes "+++" ++ 10 ∷ codes "a" ++ 10 ∷ codes "+++" ++ 10 ∷ codes "```" ++ 10 ∷ codes "b"

abbrev plus_front_events : List Event
plus_front_events =
    around n.Frontmatter (at 1 1 0) (at 3 4 9)
    (around n.FrontmatterFence (at 1 1 0) (at 1 4 3)
    (pair n.FrontmatterSequence (at 1 1 0) (at 1 4 3))
    ++ pair n.LineEnding (at 1 4 3) (at 2 1 4)
    ++ pair n.FrontmatterChunk (at 2 1 4) (at 2 2 5)
    ++ pair n.LineEnding (at 2 2 5) (at 3 1 6)
    ++ around n.FrontmatterFence (at 3 1 6) (at 3 4 9)
    (pair n.FrontmatterSequence (at 3 1 6) (at 3 4 9)))
    ++ pair n.LineEnding (at 3 4 9) (at 4 1 10)
    ++ around n.CodeFenced (at 4 1 10) (at 5 2 15)
    (around n.CodeFencedFence (at 4 1 10) (at 4 4 13)
    (pair n.CodeFencedFenceSequence (at 4 1 10) (at 4 4 13))
    ++ pair n.LineEnding (at 4 4 13) (at 5 1 14)
    ++ pair n.CodeFlowChunk (at 5 1 14) (at 5 2 15))

-- "```\r\na\r\n```\r\n"
abbrev pair_fence_text : List ℕ
pair_fence_text = codes "```" ++ 13 ∷ 10 ∷ codes "a" ++ 13 ∷ 10 ∷ codes "```" ++ 13 ∷ 10 ∷ []

abbrev pair_fence_events : List Event
pair_fence_events =
    around n.CodeFenced (at 1 1 0) (at 3 4 11)
    (around n.CodeFencedFence (at 1 1 0) (at 1 4 3)
    (pair n.CodeFencedFenceSequence (at 1 1 0) (at 1 4 3))
    ++ pair n.LineEnding (at 1 4 3) (at 2 1 5)
    ++ pair n.CodeFlowChunk (at 2 1 5) (at 2 2 6)
    ++ pair n.LineEnding (at 2 2 6) (at 3 1 8)
    ++ around n.CodeFencedFence (at 3 1 8) (at 3 4 11)
    (pair n.CodeFencedFenceSequence (at 3 1 8) (at 3 4 11)))
    ++ pair n.LineEnding (at 3 4 11) (at 4 1 13)

-- "~~~\n```\n~~~~\n"
abbrev other_fence_text : List ℕ
other_fence_text = codes "~~~" ++ 10 ∷ codes "```" ++ 10 ∷ codes "~~~~" ++ 10 ∷ []

abbrev other_fence_events : List Event
other_fence_events =
    around n.CodeFenced (at 1 1 0) (at 3 5 12)
    (around n.CodeFencedFence (at 1 1 0) (at 1 4 3)
    (pair n.CodeFencedFenceSequence (at 1 1 0) (at 1 4 3))
    ++ pair n.LineEnding (at 1 4 3) (at 2 1 4)
    ++ pair n.CodeFlowChunk (at 2 1 4) (at 2 4 7)
    ++ pair n.LineEnding (at 2 4 7) (at 3 1 8)
    ++ around n.CodeFencedFence (at 3 1 8) (at 3 5 12)
    (pair n.CodeFencedFenceSequence (at 3 1 8) (at 3 5 12)))
    ++ pair n.LineEnding (at 3 5 12) (at 4 1 13)

-- "[a]: b\nc|d\n-|-"
abbrev definition_and_table_text : List ℕ
definition_and_table_text = codes "[a]: b" ++ 10 ∷ codes "c|d" ++ 10 ∷ codes "-|-"

abbrev definition_and_table_events : List Event
definition_and_table_events =
    around n.Definition (at 1 1 0) (at 1 7 6)
    (around n.DefinitionLabel (at 1 1 0) (at 1 4 3)
    (pair n.DefinitionLabelMarker (at 1 1 0) (at 1 2 1)
    ++ around n.DefinitionLabelString (at 1 2 1) (at 1 3 2)
    (string_chunk (at 1 2 1) (at 1 3 2))
    ++ pair n.DefinitionLabelMarker (at 1 3 2) (at 1 4 3))
    ++ pair n.DefinitionMarker (at 1 4 3) (at 1 5 4)
    ++ pair n.SpaceOrTab (at 1 5 4) (at 1 6 5)
    ++ around n.DefinitionDestination (at 1 6 5) (at 1 7 6)
    (around n.DefinitionDestinationRaw (at 1 6 5) (at 1 7 6)
    (around n.DefinitionDestinationString (at 1 6 5) (at 1 7 6)
    (string_chunk (at 1 6 5) (at 1 7 6)))))
    ++ pair n.LineEnding (at 1 7 6) (at 2 1 7)
    ++ around n.GfmTable (at 2 1 7) (at 3 4 14)
    (around n.GfmTableHead (at 2 1 7) (at 3 4 14)
    (around n.GfmTableRow (at 2 1 7) (at 2 4 10)
    (around n.GfmTableCell (at 2 1 7) (at 2 2 8)
    (around n.GfmTableCellText (at 2 1 7) (at 2 2 8)
    (chunk (at 2 1 7) (at 2 2 8)))
    ++ around n.GfmTableCell (at 2 2 8) (at 2 4 10)
    (pair n.GfmTableCellDivider (at 2 2 8) (at 2 3 9)
    ++ around n.GfmTableCellText (at 2 3 9) (at 2 4 10)
    (chunk (at 2 3 9) (at 2 4 10))))
    ++ pair n.LineEnding (at 2 4 10) (at 3 1 11)
    ++ around n.GfmTableDelimiterRow (at 3 1 11) (at 3 4 14)
    (around n.GfmTableDelimiterCell (at 3 1 11) (at 3 2 12)
    (around n.GfmTableDelimiterCellValue (at 3 1 11) (at 3 2 12)
    (pair n.GfmTableDelimiterFiller (at 3 1 11) (at 3 2 12)))
    ++ around n.GfmTableDelimiterCell (at 3 2 12) (at 3 4 14)
    (pair n.GfmTableCellDivider (at 3 2 12) (at 3 3 13)
    ++ around n.GfmTableDelimiterCellValue (at 3 3 13) (at 3 4 14)
    (pair n.GfmTableDelimiterFiller (at 3 3 13) (at 3 4 14))))))

-- "[a]: b\nc\n="
abbrev definition_and_heading_text : List ℕ
definition_and_heading_text = codes "[a]: b" ++ 10 ∷ codes "c" ++ 10 ∷ codes "="

abbrev definition_and_heading_events : List Event
definition_and_heading_events =
    around n.Definition (at 1 1 0) (at 1 7 6)
    (around n.DefinitionLabel (at 1 1 0) (at 1 4 3)
    (pair n.DefinitionLabelMarker (at 1 1 0) (at 1 2 1)
    ++ around n.DefinitionLabelString (at 1 2 1) (at 1 3 2)
    (string_chunk (at 1 2 1) (at 1 3 2))
    ++ pair n.DefinitionLabelMarker (at 1 3 2) (at 1 4 3))
    ++ pair n.DefinitionMarker (at 1 4 3) (at 1 5 4)
    ++ pair n.SpaceOrTab (at 1 5 4) (at 1 6 5)
    ++ around n.DefinitionDestination (at 1 6 5) (at 1 7 6)
    (around n.DefinitionDestinationRaw (at 1 6 5) (at 1 7 6)
    (around n.DefinitionDestinationString (at 1 6 5) (at 1 7 6)
    (string_chunk (at 1 6 5) (at 1 7 6)))))
    ++ pair n.LineEnding (at 1 7 6) (at 2 1 7)
    ++ around n.HeadingSetext (at 2 1 7) (at 3 2 10)
    (around n.HeadingSetextText (at 2 1 7) (at 2 2 8)
    (chunk (at 2 1 7) (at 2 2 8))
    ++ pair n.LineEnding (at 2 2 8) (at 3 1 9)
    ++ around n.HeadingSetextUnderline (at 3 1 9) (at 3 2 10)
    (pair n.HeadingSetextUnderlineSequence (at 3 1 9) (at 3 2 10)))

-- "a\n    b\n\n    c"
abbrev code_after_text_text : List ℕ
code_after_text_text = codes "a" ++ 10 ∷ codes "    b" ++ 10 ∷ 10 ∷ codes "    c"

abbrev code_after_text_events : List Event
code_after_text_events =
    around n.Paragraph (at 1 1 0) (at 2 6 7)
    (chunk (at 1 1 0) (at 2 1 2)
    ++ chunk (at 2 1 2) (at 2 6 7))
    ++ pair n.LineEnding (at 2 6 7) (at 3 1 8)
    ++ pair n.BlankLineEnding (at 3 1 8) (at 4 1 9)
    ++ around n.CodeIndented (at 4 1 9) (at 4 6 14)
    (pair n.SpaceOrTab (at 4 1 9) (at 4 5 13)
    ++ pair n.CodeFlowChunk (at 4 5 13) (at 4 6 14))

-- "a\n<b>\n<div>"
abbrev html_and_text_text : List ℕ
html_and_text_text = codes "a" ++ 10 ∷ codes "<b>" ++ 10 ∷ codes "<div>"

abbrev html_and_text_events : List Event
html_and_text_events =
    around n.Paragraph (at 1 1 0) (at 2 4 5)
    (chunk (at 1 1 0) (at 2 1 2)
    ++ chunk (at 2 1 2) (at 2 4 5))
    ++ pair n.LineEnding (at 2 4 5) (at 3 1 6)
    ++ around n.HtmlFlow (at 3 1 6) (at 3 6 11)
    (pair n.HtmlFlowData (at 3 1 6) (at 3 6 11))

-- "[a]: b 'c\n d'\n[e]: f (g)\n[h]: i "j\n\n"
abbrev titles_text : List ℕ
titles_text =
    codes "[a]: b 'c" ++ 10 ∷ codes " d'" ++ 10 ∷ codes "[e]: f (g)" ++ 10 ∷ codes "[h]: i " ++ 34 ∷ codes "j"
    ++ 10 ∷ 10 ∷ []

abbrev titles_events : List Event
titles_events =
    around n.Definition (at 1 1 0) (at 2 4 13)
    (around n.DefinitionLabel (at 1 1 0) (at 1 4 3)
    (pair n.DefinitionLabelMarker (at 1 1 0) (at 1 2 1)
    ++ around n.DefinitionLabelString (at 1 2 1) (at 1 3 2)
    (string_chunk (at 1 2 1) (at 1 3 2))
    ++ pair n.DefinitionLabelMarker (at 1 3 2) (at 1 4 3))
    ++ pair n.DefinitionMarker (at 1 4 3) (at 1 5 4)
    ++ pair n.SpaceOrTab (at 1 5 4) (at 1 6 5)
    ++ around n.DefinitionDestination (at 1 6 5) (at 1 7 6)
    (around n.DefinitionDestinationRaw (at 1 6 5) (at 1 7 6)
    (around n.DefinitionDestinationString (at 1 6 5) (at 1 7 6)
    (string_chunk (at 1 6 5) (at 1 7 6))))
    ++ pair n.SpaceOrTab (at 1 7 6) (at 1 8 7)
    ++ around n.DefinitionTitle (at 1 8 7) (at 2 4 13)
    (pair n.DefinitionTitleMarker (at 1 8 7) (at 1 9 8)
    ++ around n.DefinitionTitleString (at 1 9 8) (at 2 3 12)
    (string_chunk (at 1 9 8) (at 2 1 10)
    ++ string_chunk (at 2 1 10) (at 2 3 12))
    ++ pair n.DefinitionTitleMarker (at 2 3 12) (at 2 4 13)))
    ++ pair n.LineEnding (at 2 4 13) (at 3 1 14)
    ++ around n.Definition (at 3 1 14) (at 3 11 24)
    (around n.DefinitionLabel (at 3 1 14) (at 3 4 17)
    (pair n.DefinitionLabelMarker (at 3 1 14) (at 3 2 15)
    ++ around n.DefinitionLabelString (at 3 2 15) (at 3 3 16)
    (string_chunk (at 3 2 15) (at 3 3 16))
    ++ pair n.DefinitionLabelMarker (at 3 3 16) (at 3 4 17))
    ++ pair n.DefinitionMarker (at 3 4 17) (at 3 5 18)
    ++ pair n.SpaceOrTab (at 3 5 18) (at 3 6 19)
    ++ around n.DefinitionDestination (at 3 6 19) (at 3 7 20)
    (around n.DefinitionDestinationRaw (at 3 6 19) (at 3 7 20)
    (around n.DefinitionDestinationString (at 3 6 19) (at 3 7 20)
    (string_chunk (at 3 6 19) (at 3 7 20))))
    ++ pair n.SpaceOrTab (at 3 7 20) (at 3 8 21)
    ++ around n.DefinitionTitle (at 3 8 21) (at 3 11 24)
    (pair n.DefinitionTitleMarker (at 3 8 21) (at 3 9 22)
    ++ around n.DefinitionTitleString (at 3 9 22) (at 3 10 23)
    (string_chunk (at 3 9 22) (at 3 10 23))
    ++ pair n.DefinitionTitleMarker (at 3 10 23) (at 3 11 24)))
    ++ pair n.LineEnding (at 3 11 24) (at 4 1 25)
    ++ around n.Paragraph (at 4 1 25) (at 4 10 34)
    (chunk (at 4 1 25) (at 4 10 34))
    ++ pair n.LineEnding (at 4 10 34) (at 5 1 35)
    ++ pair n.BlankLineEnding (at 5 1 35) (at 6 1 36)

-- "|a\n|-\nb\n# c"
abbrev one_pipe_text : List ℕ
one_pipe_text = codes "|a" ++ 10 ∷ codes "|-" ++ 10 ∷ codes "b" ++ 10 ∷ codes "# c"

abbrev one_pipe_events : List Event
one_pipe_events =
    around n.GfmTable (at 1 1 0) (at 3 2 7)
    (around n.GfmTableHead (at 1 1 0) (at 2 3 5)
    (around n.GfmTableRow (at 1 1 0) (at 1 3 2)
    (around n.GfmTableCell (at 1 1 0) (at 1 3 2)
    (pair n.GfmTableCellDivider (at 1 1 0) (at 1 2 1)
    ++ around n.GfmTableCellText (at 1 2 1) (at 1 3 2)
    (chunk (at 1 2 1) (at 1 3 2))))
    ++ pair n.LineEnding (at 1 3 2) (at 2 1 3)
    ++ around n.GfmTableDelimiterRow (at 2 1 3) (at 2 3 5)
    (around n.GfmTableDelimiterCell (at 2 1 3) (at 2 3 5)
    (pair n.GfmTableCellDivider (at 2 1 3) (at 2 2 4)
    ++ around n.GfmTableDelimiterCellValue (at 2 2 4) (at 2 3 5)
    (pair n.GfmTableDelimiterFiller (at 2 2 4) (at 2 3 5)))))
    ++ pair n.LineEnding (at 2 3 5) (at 3 1 6)
    ++ around n.GfmTableBody (at 3 1 6) (at 3 2 7)
    (around n.GfmTableRow (at 3 1 6) (at 3 2 7)
    (around n.GfmTableCell (at 3 1 6) (at 3 2 7)
    (around n.GfmTableCellText (at 3 1 6) (at 3 2 7)
    (chunk (at 3 1 6) (at 3 2 7))))))
    ++ pair n.LineEnding (at 3 2 7) (at 4 1 8)
    ++ around n.HeadingAtx (at 4 1 8) (at 4 4 11)
    (pair n.HeadingAtxSequence (at 4 1 8) (at 4 2 9)
    ++ pair n.SpaceOrTab (at 4 2 9) (at 4 3 10)
    ++ around n.HeadingAtxText (at 4 3 10) (at 4 4 11)
    (chunk (at 4 3 10) (at 4 4 11)))

-- "(mark)\ta"
abbrev mark_columns_text : List ℕ
mark_columns_text = 239 ∷ 187 ∷ 191 ∷ 9 ∷ codes "a"

abbrev mark_columns_events : List Event
mark_columns_events =
    pair n.ByteOrderMark (at 1 1 0) (at 1 4 3)
    ++ around n.Paragraph (at 1 4 3) (at 1 6 5)
    (chunk (at 1 4 3) (at 1 6 5))

record AreTexts : Type 0 where
  setext_refused : exact given.ALL setext_refused_text ≡ setext_refused_events
  three_definitions : exact given.ALL three_definitions_text ≡ three_definitions_events
  html_kinds : exact given.ALL html_kinds_text ≡ html_kinds_events
  endings : exact given.ALL endings_text ≡ endings_events
  break_or_underline : exact given.ALL break_or_underline_text ≡ break_or_underline_events
  white_after_code : exact given.ALL white_after_code_text ≡ white_after_code_events
  frontmatter_mark : exact given.ALL frontmatter_mark_text ≡ frontmatter_mark_events
  open_front : exact given.ALL open_front_text ≡ open_front_events
  plus_front : exact given.ALL plus_front_text ≡ plus_front_events
  pair_fence : exact given.ALL pair_fence_text ≡ pair_fence_events
  other_fence : exact given.ALL other_fence_text ≡ other_fence_events
  definition_and_table : exact given.ALL definition_and_table_text ≡ definition_and_table_events
  definition_and_heading : exact given.ALL definition_and_heading_text ≡ definition_and_heading_events
  code_after_text : exact given.ALL code_after_text_text ≡ code_after_text_events
  html_and_text : exact given.ALL html_and_text_text ≡ html_and_text_events
  titles : exact given.ALL titles_text ≡ titles_events
  one_pipe : exact given.ALL one_pipe_text ≡ one_pipe_events
  mark_columns : exact given.ALL mark_columns_text ≡ mark_columns_events

are-exact : AreTexts
unfolding begins_raw begins_basic after_value after_assignment after_attribute ends_opening begins_complete kind_after
    html_kind html_ends is_raw_name is_basic_name is_raw_end enclosed enclosed_lines label_at balanced destination_at
    title_at definition_at cut_at_most cut_definitions pieces row_cells delimiter_columns is_head shut_paragraph
    front_of alert_at quote_taken item_continues footnote_continues opens_quote opens_item opens_footnote break_at
    heading_at code_at code_continued fence_at fence_continued html_at html_continued starts table_continued
    underline_depth
    underlined table_at fresh_line text_line all_continued stopped
are-exact = record {
  setext_refused = refl;
  three_definitions = refl;
  html_kinds = refl;
  endings = refl;
  break_or_underline = refl;
  white_after_code = refl;
  frontmatter_mark = refl;
  open_front = refl;
  plus_front = refl;
  pair_fence = refl;
  other_fence = refl;
  definition_and_table = refl;
  definition_and_heading = refl;
  code_after_text = refl;
  html_and_text = refl;
  titles = refl;
  one_pipe = refl;
  mark_columns = refl;
}
