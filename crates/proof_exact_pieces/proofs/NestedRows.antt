-- Small texts of leaf blocks in containers, each with its exact list.
use Rattle.std.proofs.Common.{◌≡◌, ℕ, List, [], ◌∷◌, ◌++◌, codes, refl}
use Rattle.md_engine.specs.declared.configuration.TheConstants.ParseOptions as given
use Rattle.md_engine.specs.declared.event.Event.{Event}
use Rattle.md_engine.specs.declared.event.Name.TheVariants as n
use Rattle.md_meaning.specs.Html.{begins_raw, begins_basic, after_value, after_assignment, after_attribute}
use Rattle.md_meaning.specs.Html.{ends_opening, begins_complete, kind_after, html_kind, html_ends, is_raw_name}
use Rattle.md_meaning.specs.Html.{is_basic_name, is_raw_end}
use Rattle.md_meaning.specs.Enclosed.{enclosed, enclosed_lines}
use Rattle.md_meaning.specs.Definition.{label_at, balanced, destination_at, title_at, definition_at, cut_at_most}
use Rattle.md_meaning.specs.Definition.{cut_definitions}
use Rattle.md_meaning.specs.Table.{pieces, row_cells, delimiter_columns, is_head}
use Rattle.md_meaning.specs.State.{shut_paragraph}
use Rattle.md_meaning.specs.Preamble.{front_of}
use Rattle.md_meaning.specs.Alert.{alert_at}
use Rattle.md_meaning.specs.Containers.{quote_taken, item_continues, footnote_continues, opens_quote, opens_item}
use Rattle.md_meaning.specs.Containers.{opens_footnote}
use Rattle.md_meaning.specs.Leaves.{break_at, heading_at, code_at, code_continued, fence_at, fence_continued, html_at}
use Rattle.md_meaning.specs.Leaves.{html_continued, starts, table_continued, underline_depth, underlined, table_at}
use Rattle.md_meaning.specs.Step.{fresh_line, text_line, all_continued, stopped}
use Rattle.md_events.specs.Events.Nested.{around, pair}
use Rattle.md_events.specs.Exact.Blocks.{exact}
use Rattle.md_events.proofs.EventRowParts.{at, chunk, string_chunk}

-- "> - a\n> - b\n>\n>   c\n"
abbrev items_in_quote_text : List ℕ
items_in_quote_text = codes "> - a" ++ 10 ∷ codes "> - b" ++ 10 ∷ codes ">" ++ 10 ∷ codes ">   c" ++ 10 ∷ []

abbrev items_in_quote_events : List Event
items_in_quote_events =
    around n.BlockQuote (at 1 1 0) (at 4 6 19)
    (around n.BlockQuotePrefix (at 1 1 0) (at 1 3 2)
    (pair n.BlockQuoteMarker (at 1 1 0) (at 1 2 1)
    ++ pair n.SpaceOrTab (at 1 2 1) (at 1 3 2))
    ++ around n.ListUnordered (at 1 3 2) (at 4 6 19)
    (around n.ListItem (at 1 3 2) (at 1 6 5)
    (around n.ListItemPrefix (at 1 3 2) (at 1 5 4)
    (pair n.ListItemMarker (at 1 3 2) (at 1 4 3)
    ++ pair n.SpaceOrTab (at 1 4 3) (at 1 5 4))
    ++ around n.Paragraph (at 1 5 4) (at 1 6 5)
    (chunk (at 1 5 4) (at 1 6 5)))
    ++ pair n.LineEnding (at 1 6 5) (at 2 1 6)
    ++ around n.BlockQuotePrefix (at 2 1 6) (at 2 3 8)
    (pair n.BlockQuoteMarker (at 2 1 6) (at 2 2 7)
    ++ pair n.SpaceOrTab (at 2 2 7) (at 2 3 8))
    ++ around n.ListItem (at 2 3 8) (at 4 6 19)
    (around n.ListItemPrefix (at 2 3 8) (at 2 5 10)
    (pair n.ListItemMarker (at 2 3 8) (at 2 4 9)
    ++ pair n.SpaceOrTab (at 2 4 9) (at 2 5 10))
    ++ around n.Paragraph (at 2 5 10) (at 2 6 11)
    (chunk (at 2 5 10) (at 2 6 11))
    ++ pair n.LineEnding (at 2 6 11) (at 3 1 12)
    ++ around n.BlockQuotePrefix (at 3 1 12) (at 3 2 13)
    (pair n.BlockQuoteMarker (at 3 1 12) (at 3 2 13))
    ++ pair n.BlankLineEnding (at 3 2 13) (at 4 1 14)
    ++ around n.BlockQuotePrefix (at 4 1 14) (at 4 3 16)
    (pair n.BlockQuoteMarker (at 4 1 14) (at 4 2 15)
    ++ pair n.SpaceOrTab (at 4 2 15) (at 4 3 16))
    ++ pair n.SpaceOrTab (at 4 3 16) (at 4 5 18)
    ++ around n.Paragraph (at 4 5 18) (at 4 6 19)
    (chunk (at 4 5 18) (at 4 6 19)))))
    ++ pair n.LineEnding (at 4 6 19) (at 5 1 20)

-- "- > a\nb\n> c"
abbrev quote_in_item_text : List ℕ
quote_in_item_text = codes "- > a" ++ 10 ∷ codes "b" ++ 10 ∷ codes "> c"

abbrev quote_in_item_events : List Event
quote_in_item_events =
    around n.ListUnordered (at 1 1 0) (at 2 2 7)
    (around n.ListItem (at 1 1 0) (at 2 2 7)
    (around n.ListItemPrefix (at 1 1 0) (at 1 3 2)
    (pair n.ListItemMarker (at 1 1 0) (at 1 2 1)
    ++ pair n.SpaceOrTab (at 1 2 1) (at 1 3 2))
    ++ around n.BlockQuote (at 1 3 2) (at 2 2 7)
    (around n.BlockQuotePrefix (at 1 3 2) (at 1 5 4)
    (pair n.BlockQuoteMarker (at 1 3 2) (at 1 4 3)
    ++ pair n.SpaceOrTab (at 1 4 3) (at 1 5 4))
    ++ around n.Paragraph (at 1 5 4) (at 2 2 7)
    (chunk (at 1 5 4) (at 2 1 6)
    ++ chunk (at 2 1 6) (at 2 2 7)))))
    ++ pair n.LineEnding (at 2 2 7) (at 3 1 8)
    ++ around n.BlockQuote (at 3 1 8) (at 3 4 11)
    (around n.BlockQuotePrefix (at 3 1 8) (at 3 3 10)
    (pair n.BlockQuoteMarker (at 3 1 8) (at 3 2 9)
    ++ pair n.SpaceOrTab (at 3 2 9) (at 3 3 10))
    ++ around n.Paragraph (at 3 3 10) (at 3 4 11)
    (chunk (at 3 3 10) (at 3 4 11)))

-- "- a\n  1. b\n  2. c\n- d"
abbrev list_in_list_text : List ℕ
list_in_list_text = codes "- a" ++ 10 ∷ codes "  1. b" ++ 10 ∷ codes "  2. c" ++ 10 ∷ codes "- d"

abbrev list_in_list_events : List Event
list_in_list_events =
    around n.ListUnordered (at 1 1 0) (at 4 4 21)
    (around n.ListItem (at 1 1 0) (at 3 7 17)
    (around n.ListItemPrefix (at 1 1 0) (at 1 3 2)
    (pair n.ListItemMarker (at 1 1 0) (at 1 2 1)
    ++ pair n.SpaceOrTab (at 1 2 1) (at 1 3 2))
    ++ around n.Paragraph (at 1 3 2) (at 1 4 3)
    (chunk (at 1 3 2) (at 1 4 3))
    ++ pair n.LineEnding (at 1 4 3) (at 2 1 4)
    ++ pair n.SpaceOrTab (at 2 1 4) (at 2 3 6)
    ++ around n.ListOrdered (at 2 3 6) (at 3 7 17)
    (around n.ListItem (at 2 3 6) (at 2 7 10)
    (around n.ListItemPrefix (at 2 3 6) (at 2 6 9)
    (pair n.ListItemValue (at 2 3 6) (at 2 4 7)
    ++ pair n.ListItemMarker (at 2 4 7) (at 2 5 8)
    ++ pair n.SpaceOrTab (at 2 5 8) (at 2 6 9))
    ++ around n.Paragraph (at 2 6 9) (at 2 7 10)
    (chunk (at 2 6 9) (at 2 7 10)))
    ++ pair n.LineEnding (at 2 7 10) (at 3 1 11)
    ++ pair n.SpaceOrTab (at 3 1 11) (at 3 3 13)
    ++ around n.ListItem (at 3 3 13) (at 3 7 17)
    (around n.ListItemPrefix (at 3 3 13) (at 3 6 16)
    (pair n.ListItemValue (at 3 3 13) (at 3 4 14)
    ++ pair n.ListItemMarker (at 3 4 14) (at 3 5 15)
    ++ pair n.SpaceOrTab (at 3 5 15) (at 3 6 16))
    ++ around n.Paragraph (at 3 6 16) (at 3 7 17)
    (chunk (at 3 6 16) (at 3 7 17)))))
    ++ pair n.LineEnding (at 3 7 17) (at 4 1 18)
    ++ around n.ListItem (at 4 1 18) (at 4 4 21)
    (around n.ListItemPrefix (at 4 1 18) (at 4 3 20)
    (pair n.ListItemMarker (at 4 1 18) (at 4 2 19)
    ++ pair n.SpaceOrTab (at 4 2 19) (at 4 3 20))
    ++ around n.Paragraph (at 4 3 20) (at 4 4 21)
    (chunk (at 4 3 20) (at 4 4 21))))

-- "- > ```\n  > a\n  b"
abbrev fence_in_quote_in_item_text : List ℕ
fence_in_quote_in_item_text = codes "- > ```" ++ 10 ∷ codes "  > a" ++ 10 ∷ codes "  b"

abbrev fence_in_quote_in_item_events : List Event
fence_in_quote_in_item_events =
    around n.ListUnordered (at 1 1 0) (at 3 4 17)
    (around n.ListItem (at 1 1 0) (at 3 4 17)
    (around n.ListItemPrefix (at 1 1 0) (at 1 3 2)
    (pair n.ListItemMarker (at 1 1 0) (at 1 2 1)
    ++ pair n.SpaceOrTab (at 1 2 1) (at 1 3 2))
    ++ around n.BlockQuote (at 1 3 2) (at 2 6 13)
    (around n.BlockQuotePrefix (at 1 3 2) (at 1 5 4)
    (pair n.BlockQuoteMarker (at 1 3 2) (at 1 4 3)
    ++ pair n.SpaceOrTab (at 1 4 3) (at 1 5 4))
    ++ around n.CodeFenced (at 1 5 4) (at 2 6 13)
    (around n.CodeFencedFence (at 1 5 4) (at 1 8 7)
    (pair n.CodeFencedFenceSequence (at 1 5 4) (at 1 8 7))
    ++ pair n.LineEnding (at 1 8 7) (at 2 1 8)
    ++ pair n.SpaceOrTab (at 2 1 8) (at 2 3 10)
    ++ around n.BlockQuotePrefix (at 2 3 10) (at 2 5 12)
    (pair n.BlockQuoteMarker (at 2 3 10) (at 2 4 11)
    ++ pair n.SpaceOrTab (at 2 4 11) (at 2 5 12))
    ++ pair n.CodeFlowChunk (at 2 5 12) (at 2 6 13)))
    ++ pair n.LineEnding (at 2 6 13) (at 3 1 14)
    ++ pair n.SpaceOrTab (at 3 1 14) (at 3 3 16)
    ++ around n.Paragraph (at 3 3 16) (at 3 4 17)
    (chunk (at 3 3 16) (at 3 4 17))))

-- "- <div>\n\n  a"
abbrev html_in_item_text : List ℕ
html_in_item_text = codes "- <div>" ++ 10 ∷ 10 ∷ codes "  a"

abbrev html_in_item_events : List Event
html_in_item_events =
    around n.ListUnordered (at 1 1 0) (at 3 4 12)
    (around n.ListItem (at 1 1 0) (at 3 4 12)
    (around n.ListItemPrefix (at 1 1 0) (at 1 3 2)
    (pair n.ListItemMarker (at 1 1 0) (at 1 2 1)
    ++ pair n.SpaceOrTab (at 1 2 1) (at 1 3 2))
    ++ around n.HtmlFlow (at 1 3 2) (at 1 8 7)
    (pair n.HtmlFlowData (at 1 3 2) (at 1 8 7))
    ++ pair n.LineEnding (at 1 8 7) (at 2 1 8)
    ++ pair n.BlankLineEnding (at 2 1 8) (at 3 1 9)
    ++ pair n.SpaceOrTab (at 3 1 9) (at 3 3 11)
    ++ around n.Paragraph (at 3 3 11) (at 3 4 12)
    (chunk (at 3 3 11) (at 3 4 12))))

-- "- a|b\n  -|-\n  1\n\n  2"
abbrev table_in_item_text : List ℕ
table_in_item_text = codes "- a|b" ++ 10 ∷ codes "  -|-" ++ 10 ∷ codes "  1" ++ 10 ∷ 10 ∷ codes "  2"

abbrev table_in_item_events : List Event
table_in_item_events =
    around n.ListUnordered (at 1 1 0) (at 5 4 20)
    (around n.ListItem (at 1 1 0) (at 5 4 20)
    (around n.ListItemPrefix (at 1 1 0) (at 1 3 2)
    (pair n.ListItemMarker (at 1 1 0) (at 1 2 1)
    ++ pair n.SpaceOrTab (at 1 2 1) (at 1 3 2))
    ++ around n.GfmTable (at 1 3 2) (at 3 4 15)
    (around n.GfmTableHead (at 1 3 2) (at 2 6 11)
    (around n.GfmTableRow (at 1 3 2) (at 1 6 5)
    (around n.GfmTableCell (at 1 3 2) (at 1 4 3)
    (around n.GfmTableCellText (at 1 3 2) (at 1 4 3)
    (chunk (at 1 3 2) (at 1 4 3)))
    ++ around n.GfmTableCell (at 1 4 3) (at 1 6 5)
    (pair n.GfmTableCellDivider (at 1 4 3) (at 1 5 4)
    ++ around n.GfmTableCellText (at 1 5 4) (at 1 6 5)
    (chunk (at 1 5 4) (at 1 6 5))))
    ++ pair n.LineEnding (at 1 6 5) (at 2 1 6)
    ++ pair n.SpaceOrTab (at 2 1 6) (at 2 3 8)
    ++ around n.GfmTableDelimiterRow (at 2 3 8) (at 2 6 11)
    (around n.GfmTableDelimiterCell (at 2 3 8) (at 2 4 9)
    (around n.GfmTableDelimiterCellValue (at 2 3 8) (at 2 4 9)
    (pair n.GfmTableDelimiterFiller (at 2 3 8) (at 2 4 9)))
    ++ around n.GfmTableDelimiterCell (at 2 4 9) (at 2 6 11)
    (pair n.GfmTableCellDivider (at 2 4 9) (at 2 5 10)
    ++ around n.GfmTableDelimiterCellValue (at 2 5 10) (at 2 6 11)
    (pair n.GfmTableDelimiterFiller (at 2 5 10) (at 2 6 11)))))
    ++ pair n.LineEnding (at 2 6 11) (at 3 1 12)
    ++ pair n.SpaceOrTab (at 3 1 12) (at 3 3 14)
    ++ around n.GfmTableBody (at 3 3 14) (at 3 4 15)
    (around n.GfmTableRow (at 3 3 14) (at 3 4 15)
    (around n.GfmTableCell (at 3 3 14) (at 3 4 15)
    (around n.GfmTableCellText (at 3 3 14) (at 3 4 15)
    (chunk (at 3 3 14) (at 3 4 15))))))
    ++ pair n.LineEnding (at 3 4 15) (at 4 1 16)
    ++ pair n.BlankLineEnding (at 4 1 16) (at 5 1 17)
    ++ pair n.SpaceOrTab (at 5 1 17) (at 5 3 19)
    ++ around n.Paragraph (at 5 3 19) (at 5 4 20)
    (chunk (at 5 3 19) (at 5 4 20))))

-- "a|b\n-|-\n> c"
abbrev table_and_quote_text : List ℕ
table_and_quote_text = codes "a|b" ++ 10 ∷ codes "-|-" ++ 10 ∷ codes "> c"

abbrev table_and_quote_events : List Event
table_and_quote_events =
    around n.GfmTable (at 1 1 0) (at 2 4 7)
    (around n.GfmTableHead (at 1 1 0) (at 2 4 7)
    (around n.GfmTableRow (at 1 1 0) (at 1 4 3)
    (around n.GfmTableCell (at 1 1 0) (at 1 2 1)
    (around n.GfmTableCellText (at 1 1 0) (at 1 2 1)
    (chunk (at 1 1 0) (at 1 2 1)))
    ++ around n.GfmTableCell (at 1 2 1) (at 1 4 3)
    (pair n.GfmTableCellDivider (at 1 2 1) (at 1 3 2)
    ++ around n.GfmTableCellText (at 1 3 2) (at 1 4 3)
    (chunk (at 1 3 2) (at 1 4 3))))
    ++ pair n.LineEnding (at 1 4 3) (at 2 1 4)
    ++ around n.GfmTableDelimiterRow (at 2 1 4) (at 2 4 7)
    (around n.GfmTableDelimiterCell (at 2 1 4) (at 2 2 5)
    (around n.GfmTableDelimiterCellValue (at 2 1 4) (at 2 2 5)
    (pair n.GfmTableDelimiterFiller (at 2 1 4) (at 2 2 5)))
    ++ around n.GfmTableDelimiterCell (at 2 2 5) (at 2 4 7)
    (pair n.GfmTableCellDivider (at 2 2 5) (at 2 3 6)
    ++ around n.GfmTableDelimiterCellValue (at 2 3 6) (at 2 4 7)
    (pair n.GfmTableDelimiterFiller (at 2 3 6) (at 2 4 7))))))
    ++ pair n.LineEnding (at 2 4 7) (at 3 1 8)
    ++ around n.BlockQuote (at 3 1 8) (at 3 4 11)
    (around n.BlockQuotePrefix (at 3 1 8) (at 3 3 10)
    (pair n.BlockQuoteMarker (at 3 1 8) (at 3 2 9)
    ++ pair n.SpaceOrTab (at 3 2 9) (at 3 3 10))
    ++ around n.Paragraph (at 3 3 10) (at 3 4 11)
    (chunk (at 3 3 10) (at 3 4 11)))

-- "- a\n  ---\n- b\n  =\n"
abbrev headings_in_items_text : List ℕ
headings_in_items_text = codes "- a" ++ 10 ∷ codes "  ---" ++ 10 ∷ codes "- b" ++ 10 ∷ codes "  =" ++ 10 ∷ []

abbrev headings_in_items_events : List Event
headings_in_items_events =
    around n.ListUnordered (at 1 1 0) (at 5 1 18)
    (around n.ListItem (at 1 1 0) (at 2 6 9)
    (around n.ListItemPrefix (at 1 1 0) (at 1 3 2)
    (pair n.ListItemMarker (at 1 1 0) (at 1 2 1)
    ++ pair n.SpaceOrTab (at 1 2 1) (at 1 3 2))
    ++ around n.HeadingSetext (at 1 3 2) (at 2 6 9)
    (around n.HeadingSetextText (at 1 3 2) (at 1 4 3)
    (chunk (at 1 3 2) (at 1 4 3))
    ++ pair n.LineEnding (at 1 4 3) (at 2 1 4)
    ++ pair n.SpaceOrTab (at 2 1 4) (at 2 3 6)
    ++ around n.HeadingSetextUnderline (at 2 3 6) (at 2 6 9)
    (pair n.HeadingSetextUnderlineSequence (at 2 3 6) (at 2 6 9))))
    ++ pair n.LineEnding (at 2 6 9) (at 3 1 10)
    ++ around n.ListItem (at 3 1 10) (at 5 1 18)
    (around n.ListItemPrefix (at 3 1 10) (at 3 3 12)
    (pair n.ListItemMarker (at 3 1 10) (at 3 2 11)
    ++ pair n.SpaceOrTab (at 3 2 11) (at 3 3 12))
    ++ around n.HeadingSetext (at 3 3 12) (at 4 4 17)
    (around n.HeadingSetextText (at 3 3 12) (at 3 4 13)
    (chunk (at 3 3 12) (at 3 4 13))
    ++ pair n.LineEnding (at 3 4 13) (at 4 1 14)
    ++ pair n.SpaceOrTab (at 4 1 14) (at 4 3 16)
    ++ around n.HeadingSetextUnderline (at 4 3 16) (at 4 4 17)
    (pair n.HeadingSetextUnderlineSequence (at 4 3 16) (at 4 4 17)))
    ++ pair n.LineEnding (at 4 4 17) (at 5 1 18)))

-- "> a\n---"
abbrev break_after_quote_text : List ℕ
break_after_quote_text = codes "> a" ++ 10 ∷ codes "---"

abbrev break_after_quote_events : List Event
break_after_quote_events =
    around n.BlockQuote (at 1 1 0) (at 1 4 3)
    (around n.BlockQuotePrefix (at 1 1 0) (at 1 3 2)
    (pair n.BlockQuoteMarker (at 1 1 0) (at 1 2 1)
    ++ pair n.SpaceOrTab (at 1 2 1) (at 1 3 2))
    ++ around n.Paragraph (at 1 3 2) (at 1 4 3)
    (chunk (at 1 3 2) (at 1 4 3)))
    ++ pair n.LineEnding (at 1 4 3) (at 2 1 4)
    ++ around n.ThematicBreak (at 2 1 4) (at 2 4 7)
    (pair n.ThematicBreakSequence (at 2 1 4) (at 2 4 7))

-- "> [a]:\n> /b\n> 'c\n> d'\n> e"
abbrev definition_in_quote_text : List ℕ
definition_in_quote_text =
    codes "> [a]:" ++ 10 ∷ codes "> /b" ++ 10 ∷ codes "> 'c" ++ 10 ∷ codes "> d'" ++ 10 ∷ codes "> e"

abbrev definition_in_quote_events : List Event
definition_in_quote_events =
    around n.BlockQuote (at 1 1 0) (at 5 4 25)
    (around n.BlockQuotePrefix (at 1 1 0) (at 1 3 2)
    (pair n.BlockQuoteMarker (at 1 1 0) (at 1 2 1)
    ++ pair n.SpaceOrTab (at 1 2 1) (at 1 3 2))
    ++ around n.Definition (at 1 3 2) (at 4 5 21)
    (around n.DefinitionLabel (at 1 3 2) (at 1 6 5)
    (pair n.DefinitionLabelMarker (at 1 3 2) (at 1 4 3)
    ++ around n.DefinitionLabelString (at 1 4 3) (at 1 5 4)
    (string_chunk (at 1 4 3) (at 1 5 4))
    ++ pair n.DefinitionLabelMarker (at 1 5 4) (at 1 6 5))
    ++ pair n.DefinitionMarker (at 1 6 5) (at 1 7 6)
    ++ pair n.LineEnding (at 1 7 6) (at 2 1 7)
    ++ around n.BlockQuotePrefix (at 2 1 7) (at 2 3 9)
    (pair n.BlockQuoteMarker (at 2 1 7) (at 2 2 8)
    ++ pair n.SpaceOrTab (at 2 2 8) (at 2 3 9))
    ++ around n.DefinitionDestination (at 2 3 9) (at 2 5 11)
    (around n.DefinitionDestinationRaw (at 2 3 9) (at 2 5 11)
    (around n.DefinitionDestinationString (at 2 3 9) (at 2 5 11)
    (string_chunk (at 2 3 9) (at 2 5 11))))
    ++ pair n.LineEnding (at 2 5 11) (at 3 1 12)
    ++ around n.BlockQuotePrefix (at 3 1 12) (at 3 3 14)
    (pair n.BlockQuoteMarker (at 3 1 12) (at 3 2 13)
    ++ pair n.SpaceOrTab (at 3 2 13) (at 3 3 14))
    ++ around n.DefinitionTitle (at 3 3 14) (at 4 5 21)
    (pair n.DefinitionTitleMarker (at 3 3 14) (at 3 4 15)
    ++ around n.DefinitionTitleString (at 3 4 15) (at 4 4 20)
    (string_chunk (at 3 4 15) (at 4 1 17)
    ++ around n.BlockQuotePrefix (at 4 1 17) (at 4 3 19)
    (pair n.BlockQuoteMarker (at 4 1 17) (at 4 2 18)
    ++ pair n.SpaceOrTab (at 4 2 18) (at 4 3 19))
    ++ string_chunk (at 4 3 19) (at 4 4 20))
    ++ pair n.DefinitionTitleMarker (at 4 4 20) (at 4 5 21)))
    ++ pair n.LineEnding (at 4 5 21) (at 5 1 22)
    ++ around n.BlockQuotePrefix (at 5 1 22) (at 5 3 24)
    (pair n.BlockQuoteMarker (at 5 1 22) (at 5 2 23)
    ++ pair n.SpaceOrTab (at 5 2 23) (at 5 3 24))
    ++ around n.Paragraph (at 5 3 24) (at 5 4 25)
    (chunk (at 5 3 24) (at 5 4 25)))

-- "[^a]: - b\n\n      c\n    - d"
abbrev list_in_footnote_text : List ℕ
list_in_footnote_text = codes "[^a]: - b" ++ 10 ∷ 10 ∷ codes "      c" ++ 10 ∷ codes "    - d"

abbrev list_in_footnote_events : List Event
list_in_footnote_events =
    around n.GfmFootnoteDefinition (at 1 1 0) (at 4 8 26)
    (around n.GfmFootnoteDefinitionPrefix (at 1 1 0) (at 1 7 6)
    (around n.GfmFootnoteDefinitionLabel (at 1 1 0) (at 1 5 4)
    (pair n.GfmFootnoteDefinitionLabelMarker (at 1 1 0) (at 1 2 1)
    ++ pair n.GfmFootnoteDefinitionMarker (at 1 2 1) (at 1 3 2)
    ++ around n.GfmFootnoteDefinitionLabelString (at 1 3 2) (at 1 4 3)
    (string_chunk (at 1 3 2) (at 1 4 3))
    ++ pair n.GfmFootnoteDefinitionLabelMarker (at 1 4 3) (at 1 5 4))
    ++ pair n.DefinitionMarker (at 1 5 4) (at 1 6 5)
    ++ pair n.SpaceOrTab (at 1 6 5) (at 1 7 6))
    ++ around n.ListUnordered (at 1 7 6) (at 4 8 26)
    (around n.ListItem (at 1 7 6) (at 3 8 18)
    (around n.ListItemPrefix (at 1 7 6) (at 1 9 8)
    (pair n.ListItemMarker (at 1 7 6) (at 1 8 7)
    ++ pair n.SpaceOrTab (at 1 8 7) (at 1 9 8))
    ++ around n.Paragraph (at 1 9 8) (at 1 10 9)
    (chunk (at 1 9 8) (at 1 10 9))
    ++ pair n.LineEnding (at 1 10 9) (at 2 1 10)
    ++ pair n.BlankLineEnding (at 2 1 10) (at 3 1 11)
    ++ pair n.SpaceOrTab (at 3 1 11) (at 3 5 15)
    ++ pair n.SpaceOrTab (at 3 5 15) (at 3 7 17)
    ++ around n.Paragraph (at 3 7 17) (at 3 8 18)
    (chunk (at 3 7 17) (at 3 8 18)))
    ++ pair n.LineEnding (at 3 8 18) (at 4 1 19)
    ++ pair n.SpaceOrTab (at 4 1 19) (at 4 5 23)
    ++ around n.ListItem (at 4 5 23) (at 4 8 26)
    (around n.ListItemPrefix (at 4 5 23) (at 4 7 25)
    (pair n.ListItemMarker (at 4 5 23) (at 4 6 24)
    ++ pair n.SpaceOrTab (at 4 6 24) (at 4 7 25))
    ++ around n.Paragraph (at 4 7 25) (at 4 8 26)
    (chunk (at 4 7 25) (at 4 8 26)))))

-- "[^a]: $$\n    x\n    $$\ny"
abbrev math_in_footnote_text : List ℕ
math_in_footnote_text = codes "[^a]: $$" ++ 10 ∷ codes "    x" ++ 10 ∷ codes "    $$" ++ 10 ∷ codes "y"

abbrev math_in_footnote_events : List Event
math_in_footnote_events =
    around n.GfmFootnoteDefinition (at 1 1 0) (at 3 7 21)
    (around n.GfmFootnoteDefinitionPrefix (at 1 1 0) (at 1 7 6)
    (around n.GfmFootnoteDefinitionLabel (at 1 1 0) (at 1 5 4)
    (pair n.GfmFootnoteDefinitionLabelMarker (at 1 1 0) (at 1 2 1)
    ++ pair n.GfmFootnoteDefinitionMarker (at 1 2 1) (at 1 3 2)
    ++ around n.GfmFootnoteDefinitionLabelString (at 1 3 2) (at 1 4 3)
    (string_chunk (at 1 3 2) (at 1 4 3))
    ++ pair n.GfmFootnoteDefinitionLabelMarker (at 1 4 3) (at 1 5 4))
    ++ pair n.DefinitionMarker (at 1 5 4) (at 1 6 5)
    ++ pair n.SpaceOrTab (at 1 6 5) (at 1 7 6))
    ++ around n.MathFlow (at 1 7 6) (at 3 7 21)
    (around n.MathFlowFence (at 1 7 6) (at 1 9 8)
    (pair n.MathFlowFenceSequence (at 1 7 6) (at 1 9 8))
    ++ pair n.LineEnding (at 1 9 8) (at 2 1 9)
    ++ pair n.SpaceOrTab (at 2 1 9) (at 2 5 13)
    ++ pair n.MathFlowChunk (at 2 5 13) (at 2 6 14)
    ++ pair n.LineEnding (at 2 6 14) (at 3 1 15)
    ++ pair n.SpaceOrTab (at 3 1 15) (at 3 5 19)
    ++ around n.MathFlowFence (at 3 5 19) (at 3 7 21)
    (pair n.MathFlowFenceSequence (at 3 5 19) (at 3 7 21))))
    ++ pair n.LineEnding (at 3 7 21) (at 4 1 22)
    ++ around n.Paragraph (at 4 1 22) (at 4 2 23)
    (chunk (at 4 1 22) (at 4 2 23))

record AreNested : Type 0 where
  items_in_quote : exact given.ALL items_in_quote_text ≡ items_in_quote_events
  quote_in_item : exact given.ALL quote_in_item_text ≡ quote_in_item_events
  list_in_list : exact given.ALL list_in_list_text ≡ list_in_list_events
  fence_in_quote_in_item : exact given.ALL fence_in_quote_in_item_text ≡ fence_in_quote_in_item_events
  html_in_item : exact given.ALL html_in_item_text ≡ html_in_item_events
  table_in_item : exact given.ALL table_in_item_text ≡ table_in_item_events
  table_and_quote : exact given.ALL table_and_quote_text ≡ table_and_quote_events
  headings_in_items : exact given.ALL headings_in_items_text ≡ headings_in_items_events
  break_after_quote : exact given.ALL break_after_quote_text ≡ break_after_quote_events
  definition_in_quote : exact given.ALL definition_in_quote_text ≡ definition_in_quote_events
  list_in_footnote : exact given.ALL list_in_footnote_text ≡ list_in_footnote_events
  math_in_footnote : exact given.ALL math_in_footnote_text ≡ math_in_footnote_events

are-exact : AreNested
unfolding begins_raw begins_basic after_value after_assignment after_attribute ends_opening begins_complete kind_after
    html_kind html_ends is_raw_name is_basic_name is_raw_end enclosed enclosed_lines label_at balanced destination_at
    title_at definition_at cut_at_most cut_definitions pieces row_cells delimiter_columns is_head shut_paragraph
    front_of alert_at quote_taken item_continues footnote_continues opens_quote opens_item opens_footnote break_at
    heading_at code_at code_continued fence_at fence_continued html_at html_continued starts table_continued
    underline_depth
    underlined table_at fresh_line text_line all_continued stopped
are-exact = record {
  items_in_quote = refl;
  quote_in_item = refl;
  list_in_list = refl;
  fence_in_quote_in_item = refl;
  html_in_item = refl;
  table_in_item = refl;
  table_and_quote = refl;
  headings_in_items = refl;
  break_after_quote = refl;
  definition_in_quote = refl;
  list_in_footnote = refl;
  math_in_footnote = refl;
}
