-- Small texts of containers over more lines, each with its exact list.
use Rattle.std.proofs.Common.{◌≡◌, ℕ, List, [], ◌∷◌, ◌++◌, codes, refl}
use Rattle.md_engine.specs.declared.configuration.TheConstants.ParseOptions as given
use Rattle.md_engine.specs.declared.event.Event.{Event}
use Rattle.md_engine.specs.declared.event.Name.TheVariants as n
use Rattle.md_meaning.specs.Html.{begins_raw, begins_basic, after_value, after_assignment, after_attribute}
use Rattle.md_meaning.specs.Html.{ends_opening, begins_complete, kind_after, html_kind, html_ends, is_raw_name}
use Rattle.md_meaning.specs.Html.{is_basic_name, is_raw_end}
use Rattle.md_meaning.specs.Enclosed.{enclosed, enclosed_lines}
use Rattle.md_meaning.specs.Definition.{label_at, balanced, destination_at, title_at, definition_at, cut_at_most}
use Rattle.md_meaning.specs.Definition.{cut_definitions}
use Rattle.md_meaning.specs.Table.{pieces, row_cells, delimiter_columns, is_head}
use Rattle.md_meaning.specs.State.{shut_paragraph}
use Rattle.md_meaning.specs.Preamble.{front_of}
use Rattle.md_meaning.specs.Alert.{alert_at}
use Rattle.md_meaning.specs.Containers.{quote_taken, item_continues, footnote_continues, opens_quote, opens_item}
use Rattle.md_meaning.specs.Containers.{opens_footnote}
use Rattle.md_meaning.specs.Leaves.{break_at, heading_at, code_at, code_continued, fence_at, fence_continued, html_at}
use Rattle.md_meaning.specs.Leaves.{html_continued, starts, table_continued, underline_depth, underlined, table_at}
use Rattle.md_meaning.specs.Step.{fresh_line, text_line, all_continued, stopped}
use Rattle.md_events.specs.Events.Nested.{around, pair}
use Rattle.md_events.specs.Exact.Blocks.{exact}
use Rattle.md_events.proofs.EventRowParts.{at, within_tab, chunk, string_chunk}
use Rattle.md_events.proofs.ContainerRows.{blank_code_text, blank_code_events, cut_html_text, cut_html_events}

-- "- a\n- b\n\n+ c\n+\n\n+ d"
abbrev two_lists_text : List ℕ
two_lists_text = codes "- a" ++ 10 ∷ codes "- b" ++ 10 ∷ 10 ∷ codes "+ c" ++ 10 ∷ codes "+" ++ 10 ∷ 10 ∷ codes "+ d"

abbrev two_lists_events : List Event
two_lists_events =
    around n.ListUnordered (at 1 1 0) (at 3 1 8)
    (around n.ListItem (at 1 1 0) (at 1 4 3)
    (around n.ListItemPrefix (at 1 1 0) (at 1 3 2)
    (pair n.ListItemMarker (at 1 1 0) (at 1 2 1)
    ++ pair n.SpaceOrTab (at 1 2 1) (at 1 3 2))
    ++ around n.Paragraph (at 1 3 2) (at 1 4 3)
    (chunk (at 1 3 2) (at 1 4 3)))
    ++ pair n.LineEnding (at 1 4 3) (at 2 1 4)
    ++ around n.ListItem (at 2 1 4) (at 3 1 8)
    (around n.ListItemPrefix (at 2 1 4) (at 2 3 6)
    (pair n.ListItemMarker (at 2 1 4) (at 2 2 5)
    ++ pair n.SpaceOrTab (at 2 2 5) (at 2 3 6))
    ++ around n.Paragraph (at 2 3 6) (at 2 4 7)
    (chunk (at 2 3 6) (at 2 4 7))
    ++ pair n.LineEnding (at 2 4 7) (at 3 1 8)))
    ++ pair n.BlankLineEnding (at 3 1 8) (at 4 1 9)
    ++ around n.ListUnordered (at 4 1 9) (at 7 4 19)
    (around n.ListItem (at 4 1 9) (at 4 4 12)
    (around n.ListItemPrefix (at 4 1 9) (at 4 3 11)
    (pair n.ListItemMarker (at 4 1 9) (at 4 2 10)
    ++ pair n.SpaceOrTab (at 4 2 10) (at 4 3 11))
    ++ around n.Paragraph (at 4 3 11) (at 4 4 12)
    (chunk (at 4 3 11) (at 4 4 12)))
    ++ pair n.LineEnding (at 4 4 12) (at 5 1 13)
    ++ around n.ListItem (at 5 1 13) (at 5 2 14)
    (around n.ListItemPrefix (at 5 1 13) (at 5 2 14)
    (pair n.ListItemMarker (at 5 1 13) (at 5 2 14)))
    ++ pair n.BlankLineEnding (at 5 2 14) (at 6 1 15)
    ++ pair n.BlankLineEnding (at 6 1 15) (at 7 1 16)
    ++ around n.ListItem (at 7 1 16) (at 7 4 19)
    (around n.ListItemPrefix (at 7 1 16) (at 7 3 18)
    (pair n.ListItemMarker (at 7 1 16) (at 7 2 17)
    ++ pair n.SpaceOrTab (at 7 2 17) (at 7 3 18))
    ++ around n.Paragraph (at 7 3 18) (at 7 4 19)
    (chunk (at 7 3 18) (at 7 4 19))))

-- "1. a\n\n   - b\n\n\n2. c\n2) d"
abbrev lists_apart_text : List ℕ
lists_apart_text = codes "1. a" ++ 10 ∷ 10 ∷ codes "   - b" ++ 10 ∷ 10 ∷ 10 ∷ codes "2. c" ++ 10 ∷ codes "2) d"

abbrev lists_apart_events : List Event
lists_apart_events =
    around n.ListOrdered (at 1 1 0) (at 6 5 19)
    (around n.ListItem (at 1 1 0) (at 5 1 14)
    (around n.ListItemPrefix (at 1 1 0) (at 1 4 3)
    (pair n.ListItemValue (at 1 1 0) (at 1 2 1)
    ++ pair n.ListItemMarker (at 1 2 1) (at 1 3 2)
    ++ pair n.SpaceOrTab (at 1 3 2) (at 1 4 3))
    ++ around n.Paragraph (at 1 4 3) (at 1 5 4)
    (chunk (at 1 4 3) (at 1 5 4))
    ++ pair n.LineEnding (at 1 5 4) (at 2 1 5)
    ++ pair n.BlankLineEnding (at 2 1 5) (at 3 1 6)
    ++ pair n.SpaceOrTab (at 3 1 6) (at 3 4 9)
    ++ around n.ListUnordered (at 3 4 9) (at 5 1 14)
    (around n.ListItem (at 3 4 9) (at 5 1 14)
    (around n.ListItemPrefix (at 3 4 9) (at 3 6 11)
    (pair n.ListItemMarker (at 3 4 9) (at 3 5 10)
    ++ pair n.SpaceOrTab (at 3 5 10) (at 3 6 11))
    ++ around n.Paragraph (at 3 6 11) (at 3 7 12)
    (chunk (at 3 6 11) (at 3 7 12))
    ++ pair n.LineEnding (at 3 7 12) (at 4 1 13)
    ++ pair n.BlankLineEnding (at 4 1 13) (at 5 1 14))))
    ++ pair n.BlankLineEnding (at 5 1 14) (at 6 1 15)
    ++ around n.ListItem (at 6 1 15) (at 6 5 19)
    (around n.ListItemPrefix (at 6 1 15) (at 6 4 18)
    (pair n.ListItemValue (at 6 1 15) (at 6 2 16)
    ++ pair n.ListItemMarker (at 6 2 16) (at 6 3 17)
    ++ pair n.SpaceOrTab (at 6 3 17) (at 6 4 18))
    ++ around n.Paragraph (at 6 4 18) (at 6 5 19)
    (chunk (at 6 4 18) (at 6 5 19))))
    ++ pair n.LineEnding (at 6 5 19) (at 7 1 20)
    ++ around n.ListOrdered (at 7 1 20) (at 7 5 24)
    (around n.ListItem (at 7 1 20) (at 7 5 24)
    (around n.ListItemPrefix (at 7 1 20) (at 7 4 23)
    (pair n.ListItemValue (at 7 1 20) (at 7 2 21)
    ++ pair n.ListItemMarker (at 7 2 21) (at 7 3 22)
    ++ pair n.SpaceOrTab (at 7 3 22) (at 7 4 23))
    ++ around n.Paragraph (at 7 4 23) (at 7 5 24)
    (chunk (at 7 4 23) (at 7 5 24))))

-- "> a\n\n> b\nc\n\n"
abbrev left_quote_text : List ℕ
left_quote_text = codes "> a" ++ 10 ∷ 10 ∷ codes "> b" ++ 10 ∷ codes "c" ++ 10 ∷ 10 ∷ []

abbrev left_quote_events : List Event
left_quote_events =
    around n.BlockQuote (at 1 1 0) (at 1 4 3)
    (around n.BlockQuotePrefix (at 1 1 0) (at 1 3 2)
    (pair n.BlockQuoteMarker (at 1 1 0) (at 1 2 1)
    ++ pair n.SpaceOrTab (at 1 2 1) (at 1 3 2))
    ++ around n.Paragraph (at 1 3 2) (at 1 4 3)
    (chunk (at 1 3 2) (at 1 4 3)))
    ++ pair n.LineEnding (at 1 4 3) (at 2 1 4)
    ++ pair n.BlankLineEnding (at 2 1 4) (at 3 1 5)
    ++ around n.BlockQuote (at 3 1 5) (at 4 2 10)
    (around n.BlockQuotePrefix (at 3 1 5) (at 3 3 7)
    (pair n.BlockQuoteMarker (at 3 1 5) (at 3 2 6)
    ++ pair n.SpaceOrTab (at 3 2 6) (at 3 3 7))
    ++ around n.Paragraph (at 3 3 7) (at 4 2 10)
    (chunk (at 3 3 7) (at 4 1 9)
    ++ chunk (at 4 1 9) (at 4 2 10)))
    ++ pair n.LineEnding (at 4 2 10) (at 5 1 11)
    ++ pair n.BlankLineEnding (at 5 1 11) (at 6 1 12)

-- "> # a\nb"
abbrev quote_heading_text : List ℕ
quote_heading_text = codes "> # a" ++ 10 ∷ codes "b"

abbrev quote_heading_events : List Event
quote_heading_events =
    around n.BlockQuote (at 1 1 0) (at 1 6 5)
    (around n.BlockQuotePrefix (at 1 1 0) (at 1 3 2)
    (pair n.BlockQuoteMarker (at 1 1 0) (at 1 2 1)
    ++ pair n.SpaceOrTab (at 1 2 1) (at 1 3 2))
    ++ around n.HeadingAtx (at 1 3 2) (at 1 6 5)
    (pair n.HeadingAtxSequence (at 1 3 2) (at 1 4 3)
    ++ pair n.SpaceOrTab (at 1 4 3) (at 1 5 4)
    ++ around n.HeadingAtxText (at 1 5 4) (at 1 6 5)
    (chunk (at 1 5 4) (at 1 6 5))))
    ++ pair n.LineEnding (at 1 6 5) (at 2 1 6)
    ++ around n.Paragraph (at 2 1 6) (at 2 2 7)
    (chunk (at 2 1 6) (at 2 2 7))

-- "> x\n> a|b\n> :-:|-\n>  1 \\| 2 |\ny"
abbrev table_after_text_text : List ℕ
table_after_text_text =
    codes "> x" ++ 10 ∷ codes "> a|b" ++ 10 ∷ codes "> :-:|-" ++ 10 ∷ codes ">  1 " ++ 92 ∷ codes "| 2 |"
    ++ 10 ∷ codes "y"

abbrev table_after_text_events : List Event
table_after_text_events =
    around n.BlockQuote (at 1 1 0) (at 4 12 29)
    (around n.BlockQuotePrefix (at 1 1 0) (at 1 3 2)
    (pair n.BlockQuoteMarker (at 1 1 0) (at 1 2 1)
    ++ pair n.SpaceOrTab (at 1 2 1) (at 1 3 2))
    ++ around n.Paragraph (at 1 3 2) (at 1 4 3)
    (chunk (at 1 3 2) (at 1 4 3))
    ++ pair n.LineEnding (at 1 4 3) (at 2 1 4)
    ++ around n.BlockQuotePrefix (at 2 1 4) (at 2 3 6)
    (pair n.BlockQuoteMarker (at 2 1 4) (at 2 2 5)
    ++ pair n.SpaceOrTab (at 2 2 5) (at 2 3 6))
    ++ around n.GfmTable (at 2 3 6) (at 4 12 29)
    (around n.GfmTableHead (at 2 3 6) (at 3 8 17)
    (around n.GfmTableRow (at 2 3 6) (at 2 6 9)
    (around n.GfmTableCell (at 2 3 6) (at 2 4 7)
    (around n.GfmTableCellText (at 2 3 6) (at 2 4 7)
    (chunk (at 2 3 6) (at 2 4 7)))
    ++ around n.GfmTableCell (at 2 4 7) (at 2 6 9)
    (pair n.GfmTableCellDivider (at 2 4 7) (at 2 5 8)
    ++ around n.GfmTableCellText (at 2 5 8) (at 2 6 9)
    (chunk (at 2 5 8) (at 2 6 9))))
    ++ pair n.LineEnding (at 2 6 9) (at 3 1 10)
    ++ around n.BlockQuotePrefix (at 3 1 10) (at 3 3 12)
    (pair n.BlockQuoteMarker (at 3 1 10) (at 3 2 11)
    ++ pair n.SpaceOrTab (at 3 2 11) (at 3 3 12))
    ++ around n.GfmTableDelimiterRow (at 3 3 12) (at 3 8 17)
    (around n.GfmTableDelimiterCell (at 3 3 12) (at 3 6 15)
    (around n.GfmTableDelimiterCellValue (at 3 3 12) (at 3 6 15)
    (pair n.GfmTableDelimiterMarker (at 3 3 12) (at 3 4 13)
    ++ pair n.GfmTableDelimiterFiller (at 3 4 13) (at 3 5 14)
    ++ pair n.GfmTableDelimiterMarker (at 3 5 14) (at 3 6 15)))
    ++ around n.GfmTableDelimiterCell (at 3 6 15) (at 3 8 17)
    (pair n.GfmTableCellDivider (at 3 6 15) (at 3 7 16)
    ++ around n.GfmTableDelimiterCellValue (at 3 7 16) (at 3 8 17)
    (pair n.GfmTableDelimiterFiller (at 3 7 16) (at 3 8 17)))))
    ++ pair n.LineEnding (at 3 8 17) (at 4 1 18)
    ++ around n.BlockQuotePrefix (at 4 1 18) (at 4 3 20)
    (pair n.BlockQuoteMarker (at 4 1 18) (at 4 2 19)
    ++ pair n.SpaceOrTab (at 4 2 19) (at 4 3 20))
    ++ around n.GfmTableBody (at 4 3 20) (at 4 12 29)
    (around n.GfmTableRow (at 4 3 20) (at 4 12 29)
    (pair n.SpaceOrTab (at 4 3 20) (at 4 4 21)
    ++ around n.GfmTableCell (at 4 4 21) (at 4 12 29)
    (around n.GfmTableCellText (at 4 4 21) (at 4 10 27)
    (chunk (at 4 4 21) (at 4 10 27))
    ++ pair n.SpaceOrTab (at 4 10 27) (at 4 11 28)
    ++ pair n.GfmTableCellDivider (at 4 11 28) (at 4 12 29))))))
    ++ pair n.LineEnding (at 4 12 29) (at 5 1 30)
    ++ around n.Paragraph (at 5 1 30) (at 5 2 31)
    (chunk (at 5 1 30) (at 5 2 31))

-- "- a\n\n\tb\n      \n\nc"
abbrev code_after_text : List ℕ
code_after_text = codes "- a" ++ 10 ∷ 10 ∷ 9 ∷ codes "b" ++ 10 ∷ codes "      " ++ 10 ∷ 10 ∷ codes "c"

abbrev code_after_events : List Event
code_after_events =
    around n.ListUnordered (at 1 1 0) (at 5 1 15)
    (around n.ListItem (at 1 1 0) (at 5 1 15)
    (around n.ListItemPrefix (at 1 1 0) (at 1 3 2)
    (pair n.ListItemMarker (at 1 1 0) (at 1 2 1)
    ++ pair n.SpaceOrTab (at 1 2 1) (at 1 3 2))
    ++ around n.Paragraph (at 1 3 2) (at 1 4 3)
    (chunk (at 1 3 2) (at 1 4 3))
    ++ pair n.LineEnding (at 1 4 3) (at 2 1 4)
    ++ pair n.BlankLineEnding (at 2 1 4) (at 3 1 5)
    ++ pair n.SpaceOrTab (at 3 1 5) (within_tab 3 3 5 2)
    ++ around n.Paragraph (within_tab 3 3 5 2) (at 3 6 7)
    (chunk (within_tab 3 3 5 2) (at 3 6 7))
    ++ pair n.LineEnding (at 3 6 7) (at 4 1 8)
    ++ pair n.SpaceOrTab (at 4 1 8) (at 4 3 10)
    ++ pair n.SpaceOrTab (at 4 3 10) (at 4 7 14)
    ++ pair n.BlankLineEnding (at 4 7 14) (at 5 1 15)))
    ++ pair n.BlankLineEnding (at 5 1 15) (at 6 1 16)
    ++ around n.Paragraph (at 6 1 16) (at 6 2 17)
    (chunk (at 6 1 16) (at 6 2 17))

-- "1) ~~~~ x  y \n     z\n   ~~~~~ \n   w"
abbrev closed_fence_text : List ℕ
closed_fence_text = codes "1) ~~~~ x  y " ++ 10 ∷ codes "     z" ++ 10 ∷ codes "   ~~~~~ " ++ 10 ∷ codes "   w"

abbrev closed_fence_events : List Event
closed_fence_events =
    around n.ListOrdered (at 1 1 0) (at 4 5 35)
    (around n.ListItem (at 1 1 0) (at 4 5 35)
    (around n.ListItemPrefix (at 1 1 0) (at 1 4 3)
    (pair n.ListItemValue (at 1 1 0) (at 1 2 1)
    ++ pair n.ListItemMarker (at 1 2 1) (at 1 3 2)
    ++ pair n.SpaceOrTab (at 1 3 2) (at 1 4 3))
    ++ around n.CodeFenced (at 1 4 3) (at 3 10 30)
    (around n.CodeFencedFence (at 1 4 3) (at 1 14 13)
    (pair n.CodeFencedFenceSequence (at 1 4 3) (at 1 8 7)
    ++ pair n.SpaceOrTab (at 1 8 7) (at 1 9 8)
    ++ around n.CodeFencedFenceInfo (at 1 9 8) (at 1 10 9)
    (string_chunk (at 1 9 8) (at 1 10 9))
    ++ pair n.SpaceOrTab (at 1 10 9) (at 1 12 11)
    ++ around n.CodeFencedFenceMeta (at 1 12 11) (at 1 14 13)
    (string_chunk (at 1 12 11) (at 1 14 13)))
    ++ pair n.LineEnding (at 1 14 13) (at 2 1 14)
    ++ pair n.SpaceOrTab (at 2 1 14) (at 2 4 17)
    ++ pair n.CodeFlowChunk (at 2 4 17) (at 2 7 20)
    ++ pair n.LineEnding (at 2 7 20) (at 3 1 21)
    ++ pair n.SpaceOrTab (at 3 1 21) (at 3 4 24)
    ++ around n.CodeFencedFence (at 3 4 24) (at 3 10 30)
    (pair n.CodeFencedFenceSequence (at 3 4 24) (at 3 9 29)
    ++ pair n.SpaceOrTab (at 3 9 29) (at 3 10 30)))
    ++ pair n.LineEnding (at 3 10 30) (at 4 1 31)
    ++ pair n.SpaceOrTab (at 4 1 31) (at 4 4 34)
    ++ around n.Paragraph (at 4 4 34) (at 4 5 35)
    (chunk (at 4 4 34) (at 4 5 35))))

-- "-\ta\n\n\tb\n"
abbrev tab_item_text : List ℕ
tab_item_text = codes "-" ++ 9 ∷ codes "a" ++ 10 ∷ 10 ∷ 9 ∷ codes "b" ++ 10 ∷ []

abbrev tab_item_events : List Event
tab_item_events =
    around n.ListUnordered (at 1 1 0) (at 4 1 8)
    (around n.ListItem (at 1 1 0) (at 4 1 8)
    (around n.ListItemPrefix (at 1 1 0) (at 1 5 2)
    (pair n.ListItemMarker (at 1 1 0) (at 1 2 1)
    ++ pair n.SpaceOrTab (at 1 2 1) (at 1 5 2))
    ++ around n.Paragraph (at 1 5 2) (at 1 6 3)
    (chunk (at 1 5 2) (at 1 6 3))
    ++ pair n.LineEnding (at 1 6 3) (at 2 1 4)
    ++ pair n.BlankLineEnding (at 2 1 4) (at 3 1 5)
    ++ pair n.SpaceOrTab (at 3 1 5) (at 3 5 6)
    ++ around n.Paragraph (at 3 5 6) (at 3 6 7)
    (chunk (at 3 5 6) (at 3 6 7))
    ++ pair n.LineEnding (at 3 6 7) (at 4 1 8)))

-- "[^a]:\n    b\n[^c]: d\n\n      e\nf"
abbrev footnote_lines_text : List ℕ
footnote_lines_text =
    codes "[^a]:" ++ 10 ∷ codes "    b" ++ 10 ∷ codes "[^c]: d" ++ 10 ∷ 10 ∷ codes "      e" ++ 10 ∷ codes "f"

abbrev footnote_lines_events : List Event
footnote_lines_events =
    around n.GfmFootnoteDefinition (at 1 1 0) (at 2 6 11)
    (around n.GfmFootnoteDefinitionPrefix (at 1 1 0) (at 1 6 5)
    (around n.GfmFootnoteDefinitionLabel (at 1 1 0) (at 1 5 4)
    (pair n.GfmFootnoteDefinitionLabelMarker (at 1 1 0) (at 1 2 1)
    ++ pair n.GfmFootnoteDefinitionMarker (at 1 2 1) (at 1 3 2)
    ++ around n.GfmFootnoteDefinitionLabelString (at 1 3 2) (at 1 4 3)
    (string_chunk (at 1 3 2) (at 1 4 3))
    ++ pair n.GfmFootnoteDefinitionLabelMarker (at 1 4 3) (at 1 5 4))
    ++ pair n.DefinitionMarker (at 1 5 4) (at 1 6 5))
    ++ pair n.BlankLineEnding (at 1 6 5) (at 2 1 6)
    ++ pair n.SpaceOrTab (at 2 1 6) (at 2 5 10)
    ++ around n.Paragraph (at 2 5 10) (at 2 6 11)
    (chunk (at 2 5 10) (at 2 6 11)))
    ++ pair n.LineEnding (at 2 6 11) (at 3 1 12)
    ++ around n.GfmFootnoteDefinition (at 3 1 12) (at 6 2 30)
    (around n.GfmFootnoteDefinitionPrefix (at 3 1 12) (at 3 7 18)
    (around n.GfmFootnoteDefinitionLabel (at 3 1 12) (at 3 5 16)
    (pair n.GfmFootnoteDefinitionLabelMarker (at 3 1 12) (at 3 2 13)
    ++ pair n.GfmFootnoteDefinitionMarker (at 3 2 13) (at 3 3 14)
    ++ around n.GfmFootnoteDefinitionLabelString (at 3 3 14) (at 3 4 15)
    (string_chunk (at 3 3 14) (at 3 4 15))
    ++ pair n.GfmFootnoteDefinitionLabelMarker (at 3 4 15) (at 3 5 16))
    ++ pair n.DefinitionMarker (at 3 5 16) (at 3 6 17)
    ++ pair n.SpaceOrTab (at 3 6 17) (at 3 7 18))
    ++ around n.Paragraph (at 3 7 18) (at 3 8 19)
    (chunk (at 3 7 18) (at 3 8 19))
    ++ pair n.LineEnding (at 3 8 19) (at 4 1 20)
    ++ pair n.BlankLineEnding (at 4 1 20) (at 5 1 21)
    ++ pair n.SpaceOrTab (at 5 1 21) (at 5 5 25)
    ++ around n.Paragraph (at 5 5 25) (at 6 2 30)
    (chunk (at 5 5 25) (at 6 1 29)
    ++ chunk (at 6 1 29) (at 6 2 30)))

-- "a\n2. b\n1. c\n2. d\n"
abbrev interrupts_text : List ℕ
interrupts_text = codes "a" ++ 10 ∷ codes "2. b" ++ 10 ∷ codes "1. c" ++ 10 ∷ codes "2. d" ++ 10 ∷ []

abbrev interrupts_events : List Event
interrupts_events =
    around n.Paragraph (at 1 1 0) (at 2 5 6)
    (chunk (at 1 1 0) (at 2 1 2)
    ++ chunk (at 2 1 2) (at 2 5 6))
    ++ pair n.LineEnding (at 2 5 6) (at 3 1 7)
    ++ around n.ListOrdered (at 3 1 7) (at 5 1 17)
    (around n.ListItem (at 3 1 7) (at 3 5 11)
    (around n.ListItemPrefix (at 3 1 7) (at 3 4 10)
    (pair n.ListItemValue (at 3 1 7) (at 3 2 8)
    ++ pair n.ListItemMarker (at 3 2 8) (at 3 3 9)
    ++ pair n.SpaceOrTab (at 3 3 9) (at 3 4 10))
    ++ around n.Paragraph (at 3 4 10) (at 3 5 11)
    (chunk (at 3 4 10) (at 3 5 11)))
    ++ pair n.LineEnding (at 3 5 11) (at 4 1 12)
    ++ around n.ListItem (at 4 1 12) (at 5 1 17)
    (around n.ListItemPrefix (at 4 1 12) (at 4 4 15)
    (pair n.ListItemValue (at 4 1 12) (at 4 2 13)
    ++ pair n.ListItemMarker (at 4 2 13) (at 4 3 14)
    ++ pair n.SpaceOrTab (at 4 3 14) (at 4 4 15))
    ++ around n.Paragraph (at 4 4 15) (at 4 5 16)
    (chunk (at 4 4 15) (at 4 5 16))
    ++ pair n.LineEnding (at 4 5 16) (at 5 1 17)))

-- ">  [a]: b\n>   [c]: d \n> e"
abbrev indented_definitions_text : List ℕ
indented_definitions_text = codes ">  [a]: b" ++ 10 ∷ codes ">   [c]: d " ++ 10 ∷ codes "> e"

abbrev indented_definitions_events : List Event
indented_definitions_events =
    around n.BlockQuote (at 1 1 0) (at 3 4 25)
    (around n.BlockQuotePrefix (at 1 1 0) (at 1 3 2)
    (pair n.BlockQuoteMarker (at 1 1 0) (at 1 2 1)
    ++ pair n.SpaceOrTab (at 1 2 1) (at 1 3 2))
    ++ pair n.SpaceOrTab (at 1 3 2) (at 1 4 3)
    ++ around n.Definition (at 1 4 3) (at 1 10 9)
    (around n.DefinitionLabel (at 1 4 3) (at 1 7 6)
    (pair n.DefinitionLabelMarker (at 1 4 3) (at 1 5 4)
    ++ around n.DefinitionLabelString (at 1 5 4) (at 1 6 5)
    (string_chunk (at 1 5 4) (at 1 6 5))
    ++ pair n.DefinitionLabelMarker (at 1 6 5) (at 1 7 6))
    ++ pair n.DefinitionMarker (at 1 7 6) (at 1 8 7)
    ++ pair n.SpaceOrTab (at 1 8 7) (at 1 9 8)
    ++ around n.DefinitionDestination (at 1 9 8) (at 1 10 9)
    (around n.DefinitionDestinationRaw (at 1 9 8) (at 1 10 9)
    (around n.DefinitionDestinationString (at 1 9 8) (at 1 10 9)
    (string_chunk (at 1 9 8) (at 1 10 9)))))
    ++ pair n.LineEnding (at 1 10 9) (at 2 1 10)
    ++ around n.BlockQuotePrefix (at 2 1 10) (at 2 3 12)
    (pair n.BlockQuoteMarker (at 2 1 10) (at 2 2 11)
    ++ pair n.SpaceOrTab (at 2 2 11) (at 2 3 12))
    ++ pair n.SpaceOrTab (at 2 3 12) (at 2 5 14)
    ++ around n.Definition (at 2 5 14) (at 2 12 21)
    (around n.DefinitionLabel (at 2 5 14) (at 2 8 17)
    (pair n.DefinitionLabelMarker (at 2 5 14) (at 2 6 15)
    ++ around n.DefinitionLabelString (at 2 6 15) (at 2 7 16)
    (string_chunk (at 2 6 15) (at 2 7 16))
    ++ pair n.DefinitionLabelMarker (at 2 7 16) (at 2 8 17))
    ++ pair n.DefinitionMarker (at 2 8 17) (at 2 9 18)
    ++ pair n.SpaceOrTab (at 2 9 18) (at 2 10 19)
    ++ around n.DefinitionDestination (at 2 10 19) (at 2 11 20)
    (around n.DefinitionDestinationRaw (at 2 10 19) (at 2 11 20)
    (around n.DefinitionDestinationString (at 2 10 19) (at 2 11 20)
    (string_chunk (at 2 10 19) (at 2 11 20))))
    ++ pair n.SpaceOrTab (at 2 11 20) (at 2 12 21))
    ++ pair n.LineEnding (at 2 12 21) (at 3 1 22)
    ++ around n.BlockQuotePrefix (at 3 1 22) (at 3 3 24)
    (pair n.BlockQuoteMarker (at 3 1 22) (at 3 2 23)
    ++ pair n.SpaceOrTab (at 3 2 23) (at 3 3 24))
    ++ around n.Paragraph (at 3 3 24) (at 3 4 25)
    (chunk (at 3 3 24) (at 3 4 25)))

record AreLists : Type 0 where
  blank_code : exact given.ALL blank_code_text ≡ blank_code_events
  cut_html : exact given.ALL cut_html_text ≡ cut_html_events
  two_lists : exact given.ALL two_lists_text ≡ two_lists_events
  lists_apart : exact given.ALL lists_apart_text ≡ lists_apart_events
  left_quote : exact given.ALL left_quote_text ≡ left_quote_events
  quote_heading : exact given.ALL quote_heading_text ≡ quote_heading_events
  table_after_text : exact given.ALL table_after_text_text ≡ table_after_text_events
  code_after : exact given.ALL code_after_text ≡ code_after_events
  closed_fence : exact given.ALL closed_fence_text ≡ closed_fence_events
  tab_item : exact given.ALL tab_item_text ≡ tab_item_events
  footnote_lines : exact given.ALL footnote_lines_text ≡ footnote_lines_events
  interrupts : exact given.ALL interrupts_text ≡ interrupts_events
  indented_definitions : exact given.ALL indented_definitions_text ≡ indented_definitions_events

are-exact : AreLists
unfolding begins_raw begins_basic after_value after_assignment after_attribute ends_opening begins_complete kind_after
    html_kind html_ends is_raw_name is_basic_name is_raw_end enclosed enclosed_lines label_at balanced destination_at
    title_at definition_at cut_at_most cut_definitions pieces row_cells delimiter_columns is_head shut_paragraph
    front_of alert_at quote_taken item_continues footnote_continues opens_quote opens_item opens_footnote break_at
    heading_at code_at code_continued fence_at fence_continued html_at html_continued starts table_continued
    underline_depth
    underlined table_at fresh_line text_line all_continued stopped
are-exact = record {
  blank_code = refl;
  cut_html = refl;
  two_lists = refl;
  lists_apart = refl;
  left_quote = refl;
  quote_heading = refl;
  table_after_text = refl;
  code_after = refl;
  closed_fence = refl;
  tab_item = refl;
  footnote_lines = refl;
  interrupts = refl;
  indented_definitions = refl;
}
