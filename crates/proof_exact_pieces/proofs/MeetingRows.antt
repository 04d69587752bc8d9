-- Small texts in which containers and leaf blocks meet in more ways, each with its exact list.
use Rattle.std.proofs.Common.{◌≡◌, ℕ, List, [], ◌∷◌, ◌++◌, codes, refl}
use Rattle.md_engine.specs.declared.configuration.TheConstants.ParseOptions as given
use Rattle.md_engine.specs.declared.event.Event.{Event}
use Rattle.md_engine.specs.declared.event.Name.TheVariants as n
use Rattle.md_meaning.specs.Html.{begins_raw, begins_basic, after_value, after_assignment, after_attribute}
use Rattle.md_meaning.specs.Html.{ends_opening, begins_complete, kind_after, html_kind, html_ends, is_raw_name}
use Rattle.md_meaning.specs.Html.{is_basic_name, is_raw_end}
use Rattle.md_meaning.specs.Enclosed.{enclosed, enclosed_lines}
use Rattle.md_meaning.specs.Definition.{label_at, balanced, destination_at, title_at, definition_at, cut_at_most}
use Rattle.md_meaning.specs.Definition.{cut_definitions}
use Rattle.md_meaning.specs.Table.{pieces, row_cells, delimiter_columns, is_head}
use Rattle.md_meaning.specs.State.{shut_paragraph}
use Rattle.md_meaning.specs.Preamble.{front_of}
use Rattle.md_meaning.specs.Alert.{alert_at}
use Rattle.md_meaning.specs.Containers.{quote_taken, item_continues, footnote_continues, opens_quote, opens_item}
use Rattle.md_meaning.specs.Containers.{opens_footnote}
use Rattle.md_meaning.specs.Leaves.{break_at, heading_at, code_at, code_continued, fence_at, fence_continued, html_at}
use Rattle.md_meaning.specs.Leaves.{html_continued, starts, table_continued, underline_depth, underlined, table_at}
use Rattle.md_meaning.specs.Step.{fresh_line, text_line, all_continued, stopped}
use Rattle.md_events.specs.Events.Nested.{around, pair}
use Rattle.md_events.specs.Exact.Blocks.{exact}
use Rattle.md_events.proofs.EventRowParts.{at, within_tab, chunk, string_chunk}

-- ">\t\ta\n>\t\n>\t\tb"
abbrev code_in_quote_text : List ℕ
code_in_quote_text = codes ">" ++ 9 ∷ 9 ∷ codes "a" ++ 10 ∷ codes ">" ++ 9 ∷ 10 ∷ codes ">" ++ 9 ∷ 9 ∷ codes "b"

abbrev code_in_quote_events : List Event
code_in_quote_events =
    around n.BlockQuote (at 1 1 0) (at 3 10 12)
    (around n.BlockQuotePrefix (at 1 1 0) (within_tab 1 3 1 1)
    (pair n.BlockQuoteMarker (at 1 1 0) (at 1 2 1)
    ++ pair n.SpaceOrTab (at 1 2 1) (within_tab 1 3 1 1))
    ++ around n.CodeIndented (within_tab 1 3 1 1) (at 3 10 12)
    (pair n.SpaceOrTab (within_tab 1 3 1 1) (within_tab 1 7 2 2)
    ++ pair n.CodeFlowChunk (within_tab 1 7 2 2) (at 1 10 4)
    ++ pair n.LineEnding (at 1 10 4) (at 2 1 5)
    ++ around n.BlockQuotePrefix (at 2 1 5) (within_tab 2 3 6 1)
    (pair n.BlockQuoteMarker (at 2 1 5) (at 2 2 6)
    ++ pair n.SpaceOrTab (at 2 2 6) (within_tab 2 3 6 1))
    ++ pair n.SpaceOrTab (within_tab 2 3 6 1) (at 2 5 7)
    ++ pair n.LineEnding (at 2 5 7) (at 3 1 8)
    ++ around n.BlockQuotePrefix (at 3 1 8) (within_tab 3 3 9 1)
    (pair n.BlockQuoteMarker (at 3 1 8) (at 3 2 9)
    ++ pair n.SpaceOrTab (at 3 2 9) (within_tab 3 3 9 1))
    ++ pair n.SpaceOrTab (within_tab 3 3 9 1) (within_tab 3 7 10 2)
    ++ pair n.CodeFlowChunk (within_tab 3 7 10 2) (at 3 10 12)))

-- "1. # a\n2. ## b ##\n"
abbrev headings_and_items_text : List ℕ
headings_and_items_text = codes "1. # a" ++ 10 ∷ codes "2. ## b ##" ++ 10 ∷ []

abbrev headings_and_items_events : List Event
headings_and_items_events =
    around n.ListOrdered (at 1 1 0) (at 3 1 18)
    (around n.ListItem (at 1 1 0) (at 1 7 6)
    (around n.ListItemPrefix (at 1 1 0) (at 1 4 3)
    (pair n.ListItemValue (at 1 1 0) (at 1 2 1)
    ++ pair n.ListItemMarker (at 1 2 1) (at 1 3 2)
    ++ pair n.SpaceOrTab (at 1 3 2) (at 1 4 3))
    ++ around n.HeadingAtx (at 1 4 3) (at 1 7 6)
    (pair n.HeadingAtxSequence (at 1 4 3) (at 1 5 4)
    ++ pair n.SpaceOrTab (at 1 5 4) (at 1 6 5)
    ++ around n.HeadingAtxText (at 1 6 5) (at 1 7 6)
    (chunk (at 1 6 5) (at 1 7 6))))
    ++ pair n.LineEnding (at 1 7 6) (at 2 1 7)
    ++ around n.ListItem (at 2 1 7) (at 3 1 18)
    (around n.ListItemPrefix (at 2 1 7) (at 2 4 10)
    (pair n.ListItemValue (at 2 1 7) (at 2 2 8)
    ++ pair n.ListItemMarker (at 2 2 8) (at 2 3 9)
    ++ pair n.SpaceOrTab (at 2 3 9) (at 2 4 10))
    ++ around n.HeadingAtx (at 2 4 10) (at 2 11 17)
    (pair n.HeadingAtxSequence (at 2 4 10) (at 2 6 12)
    ++ pair n.SpaceOrTab (at 2 6 12) (at 2 7 13)
    ++ around n.HeadingAtxText (at 2 7 13) (at 2 8 14)
    (chunk (at 2 7 13) (at 2 8 14))
    ++ pair n.SpaceOrTab (at 2 8 14) (at 2 9 15)
    ++ pair n.HeadingAtxSequence (at 2 9 15) (at 2 11 17))
    ++ pair n.LineEnding (at 2 11 17) (at 3 1 18)))

-- "- a\n- - -\n- b"
abbrev break_and_items_text : List ℕ
break_and_items_text = codes "- a" ++ 10 ∷ codes "- - -" ++ 10 ∷ codes "- b"

abbrev break_and_items_events : List Event
break_and_items_events =
    around n.ListUnordered (at 1 1 0) (at 1 4 3)
    (around n.ListItem (at 1 1 0) (at 1 4 3)
    (around n.ListItemPrefix (at 1 1 0) (at 1 3 2)
    (pair n.ListItemMarker (at 1 1 0) (at 1 2 1)
    ++ pair n.SpaceOrTab (at 1 2 1) (at 1 3 2))
    ++ around n.Paragraph (at 1 3 2) (at 1 4 3)
    (chunk (at 1 3 2) (at 1 4 3))))
    ++ pair n.LineEnding (at 1 4 3) (at 2 1 4)
    ++ around n.ThematicBreak (at 2 1 4) (at 2 6 9)
    (pair n.ThematicBreakSequence (at 2 1 4) (at 2 2 5)
    ++ pair n.SpaceOrTab (at 2 2 5) (at 2 3 6)
    ++ pair n.ThematicBreakSequence (at 2 3 6) (at 2 4 7)
    ++ pair n.SpaceOrTab (at 2 4 7) (at 2 5 8)
    ++ pair n.ThematicBreakSequence (at 2 5 8) (at 2 6 9))
    ++ pair n.LineEnding (at 2 6 9) (at 3 1 10)
    ++ around n.ListUnordered (at 3 1 10) (at 3 4 13)
    (around n.ListItem (at 3 1 10) (at 3 4 13)
    (around n.ListItemPrefix (at 3 1 10) (at 3 3 12)
    (pair n.ListItemMarker (at 3 1 10) (at 3 2 11)
    ++ pair n.SpaceOrTab (at 3 2 11) (at 3 3 12))
    ++ around n.Paragraph (at 3 3 12) (at 3 4 13)
    (chunk (at 3 3 12) (at 3 4 13))))

-- "-\n\n  a"
abbrev empty_item_text : List ℕ
empty_item_text = codes "-" ++ 10 ∷ 10 ∷ codes "  a"

abbrev empty_item_events : List Event
empty_item_events =
    around n.ListUnordered (at 1 1 0) (at 1 2 1)
    (around n.ListItem (at 1 1 0) (at 1 2 1)
    (around n.ListItemPrefix (at 1 1 0) (at 1 2 1)
    (pair n.ListItemMarker (at 1 1 0) (at 1 2 1))))
    ++ pair n.BlankLineEnding (at 1 2 1) (at 2 1 2)
    ++ pair n.BlankLineEnding (at 2 1 2) (at 3 1 3)
    ++ around n.Paragraph (at 3 1 3) (at 3 4 6)
    (chunk (at 3 1 3) (at 3 4 6))

-- "-\n  a\n"
abbrev late_item_text : List ℕ
late_item_text = codes "-" ++ 10 ∷ codes "  a" ++ 10 ∷ []

abbrev late_item_events : List Event
late_item_events =
    around n.ListUnordered (at 1 1 0) (at 3 1 6)
    (around n.ListItem (at 1 1 0) (at 3 1 6)
    (around n.ListItemPrefix (at 1 1 0) (at 1 2 1)
    (pair n.ListItemMarker (at 1 1 0) (at 1 2 1))
    ++ pair n.BlankLineEnding (at 1 2 1) (at 2 1 2)
    ++ pair n.SpaceOrTab (at 2 1 2) (at 2 3 4)
    ++ around n.Paragraph (at 2 3 4) (at 2 4 5)
    (chunk (at 2 3 4) (at 2 4 5))
    ++ pair n.LineEnding (at 2 4 5) (at 3 1 6)))

-- "> a\n>\n> b\n\n> c"
abbrev blank_in_quote_text : List ℕ
blank_in_quote_text = codes "> a" ++ 10 ∷ codes ">" ++ 10 ∷ codes "> b" ++ 10 ∷ 10 ∷ codes "> c"

abbrev blank_in_quote_events : List Event
blank_in_quote_events =
    around n.BlockQuote (at 1 1 0) (at 3 4 9)
    (around n.BlockQuotePrefix (at 1 1 0) (at 1 3 2)
    (pair n.BlockQuoteMarker (at 1 1 0) (at 1 2 1)
    ++ pair n.SpaceOrTab (at 1 2 1) (at 1 3 2))
    ++ around n.Paragraph (at 1 3 2) (at 1 4 3)
    (chunk (at 1 3 2) (at 1 4 3))
    ++ pair n.LineEnding (at 1 4 3) (at 2 1 4)
    ++ around n.BlockQuotePrefix (at 2 1 4) (at 2 2 5)
    (pair n.BlockQuoteMarker (at 2 1 4) (at 2 2 5))
    ++ pair n.BlankLineEnding (at 2 2 5) (at 3 1 6)
    ++ around n.BlockQuotePrefix (at 3 1 6) (at 3 3 8)
    (pair n.BlockQuoteMarker (at 3 1 6) (at 3 2 7)
    ++ pair n.SpaceOrTab (at 3 2 7) (at 3 3 8))
    ++ around n.Paragraph (at 3 3 8) (at 3 4 9)
    (chunk (at 3 3 8) (at 3 4 9)))
    ++ pair n.LineEnding (at 3 4 9) (at 4 1 10)
    ++ pair n.BlankLineEnding (at 4 1 10) (at 5 1 11)
    ++ around n.BlockQuote (at 5 1 11) (at 5 4 14)
    (around n.BlockQuotePrefix (at 5 1 11) (at 5 3 13)
    (pair n.BlockQuoteMarker (at 5 1 11) (at 5 2 12)
    ++ pair n.SpaceOrTab (at 5 2 12) (at 5 3 13))
    ++ around n.Paragraph (at 5 3 13) (at 5 4 14)
    (chunk (at 5 3 13) (at 5 4 14)))

-- "(mark)- a\n  b"
abbrev mark_and_item_text : List ℕ
mark_and_item_text = 239 ∷ 187 ∷ 191 ∷ codes "- a" ++ 10 ∷ codes "  b"

abbrev mark_and_item_events : List Event
mark_and_item_events =
    pair n.ByteOrderMark (at 1 1 0) (at 1 4 3)
    ++ around n.ListUnordered (at 1 4 3) (at 2 4 10)
    (around n.ListItem (at 1 4 3) (at 2 4 10)
    (around n.ListItemPrefix (at 1 4 3) (at 1 6 5)
    (pair n.ListItemMarker (at 1 4 3) (at 1 5 4)
    ++ pair n.SpaceOrTab (at 1 5 4) (at 1 6 5))
    ++ around n.Paragraph (at 1 6 5) (at 2 4 10)
    (chunk (at 1 6 5) (at 2 1 7)
    ++ pair n.SpaceOrTab (at 2 1 7) (at 2 3 9)
    ++ chunk (at 2 3 9) (at 2 4 10))))

-- ">  \n>"
abbrev blank_quote_text : List ℕ
blank_quote_text = codes ">  " ++ 10 ∷ codes ">"

abbrev blank_quote_events : List Event
blank_quote_events =
    around n.BlockQuote (at 1 1 0) (at 2 2 5)
    (around n.BlockQuotePrefix (at 1 1 0) (at 1 3 2)
    (pair n.BlockQuoteMarker (at 1 1 0) (at 1 2 1)
    ++ pair n.SpaceOrTab (at 1 2 1) (at 1 3 2))
    ++ pair n.SpaceOrTab (at 1 3 2) (at 1 4 3)
    ++ pair n.BlankLineEnding (at 1 4 3) (at 2 1 4)
    ++ around n.BlockQuotePrefix (at 2 1 4) (at 2 2 5)
    (pair n.BlockQuoteMarker (at 2 1 4) (at 2 2 5)))

-- "> [a\n> b]: c"
abbrev label_in_quote_text : List ℕ
label_in_quote_text = codes "> [a" ++ 10 ∷ codes "> b]: c"

abbrev label_in_quote_events : List Event
label_in_quote_events =
    around n.BlockQuote (at 1 1 0) (at 2 8 12)
    (around n.BlockQuotePrefix (at 1 1 0) (at 1 3 2)
    (pair n.BlockQuoteMarker (at 1 1 0) (at 1 2 1)
    ++ pair n.SpaceOrTab (at 1 2 1) (at 1 3 2))
    ++ around n.Definition (at 1 3 2) (at 2 8 12)
    (around n.DefinitionLabel (at 1 3 2) (at 2 5 9)
    (pair n.DefinitionLabelMarker (at 1 3 2) (at 1 4 3)
    ++ around n.DefinitionLabelString (at 1 4 3) (at 2 4 8)
    (string_chunk (at 1 4 3) (at 2 1 5)
    ++ around n.BlockQuotePrefix (at 2 1 5) (at 2 3 7)
    (pair n.BlockQuoteMarker (at 2 1 5) (at 2 2 6)
    ++ pair n.SpaceOrTab (at 2 2 6) (at 2 3 7))
    ++ string_chunk (at 2 3 7) (at 2 4 8))
    ++ pair n.DefinitionLabelMarker (at 2 4 8) (at 2 5 9))
    ++ pair n.DefinitionMarker (at 2 5 9) (at 2 6 10)
    ++ pair n.SpaceOrTab (at 2 6 10) (at 2 7 11)
    ++ around n.DefinitionDestination (at 2 7 11) (at 2 8 12)
    (around n.DefinitionDestinationRaw (at 2 7 11) (at 2 8 12)
    (around n.DefinitionDestinationString (at 2 7 11) (at 2 8 12)
    (string_chunk (at 2 7 11) (at 2 8 12))))))

-- "> > a\n> b\n>> c"
abbrev left_inner_quote_text : List ℕ
left_inner_quote_text = codes "> > a" ++ 10 ∷ codes "> b" ++ 10 ∷ codes ">> c"

abbrev left_inner_quote_events : List Event
left_inner_quote_events =
    around n.BlockQuote (at 1 1 0) (at 3 5 14)
    (around n.BlockQuotePrefix (at 1 1 0) (at 1 3 2)
    (pair n.BlockQuoteMarker (at 1 1 0) (at 1 2 1)
    ++ pair n.SpaceOrTab (at 1 2 1) (at 1 3 2))
    ++ around n.BlockQuote (at 1 3 2) (at 3 5 14)
    (around n.BlockQuotePrefix (at 1 3 2) (at 1 5 4)
    (pair n.BlockQuoteMarker (at 1 3 2) (at 1 4 3)
    ++ pair n.SpaceOrTab (at 1 4 3) (at 1 5 4))
    ++ around n.Paragraph (at 1 5 4) (at 3 5 14)
    (chunk (at 1 5 4) (at 2 1 6)
    ++ around n.BlockQuotePrefix (at 2 1 6) (at 2 3 8)
    (pair n.BlockQuoteMarker (at 2 1 6) (at 2 2 7)
    ++ pair n.SpaceOrTab (at 2 2 7) (at 2 3 8))
    ++ chunk (at 2 3 8) (at 3 1 10)
    ++ around n.BlockQuotePrefix (at 3 1 10) (at 3 2 11)
    (pair n.BlockQuoteMarker (at 3 1 10) (at 3 2 11))
    ++ around n.BlockQuotePrefix (at 3 2 11) (at 3 4 13)
    (pair n.BlockQuoteMarker (at 3 2 11) (at 3 3 12)
    ++ pair n.SpaceOrTab (at 3 3 12) (at 3 4 13))
    ++ chunk (at 3 4 13) (at 3 5 14))))

-- "- ```\n\n  a\n\n- b"
abbrev blank_lines_in_fence_text : List ℕ
blank_lines_in_fence_text = codes "- ```" ++ 10 ∷ 10 ∷ codes "  a" ++ 10 ∷ 10 ∷ codes "- b"

abbrev blank_lines_in_fence_events : List Event
blank_lines_in_fence_events =
    around n.ListUnordered (at 1 1 0) (at 5 4 15)
    (around n.ListItem (at 1 1 0) (at 4 1 11)
    (around n.ListItemPrefix (at 1 1 0) (at 1 3 2)
    (pair n.ListItemMarker (at 1 1 0) (at 1 2 1)
    ++ pair n.SpaceOrTab (at 1 2 1) (at 1 3 2))
    ++ around n.CodeFenced (at 1 3 2) (at 4 1 11)
    (around n.CodeFencedFence (at 1 3 2) (at 1 6 5)
    (pair n.CodeFencedFenceSequence (at 1 3 2) (at 1 6 5))
    ++ pair n.LineEnding (at 1 6 5) (at 2 1 6)
    ++ pair n.LineEnding (at 2 1 6) (at 3 1 7)
    ++ pair n.SpaceOrTab (at 3 1 7) (at 3 3 9)
    ++ pair n.CodeFlowChunk (at 3 3 9) (at 3 4 10)
    ++ pair n.LineEnding (at 3 4 10) (at 4 1 11)))
    ++ pair n.BlankLineEnding (at 4 1 11) (at 5 1 12)
    ++ around n.ListItem (at 5 1 12) (at 5 4 15)
    (around n.ListItemPrefix (at 5 1 12) (at 5 3 14)
    (pair n.ListItemMarker (at 5 1 12) (at 5 2 13)
    ++ pair n.SpaceOrTab (at 5 2 13) (at 5 3 14))
    ++ around n.Paragraph (at 5 3 14) (at 5 4 15)
    (chunk (at 5 3 14) (at 5 4 15))))

-- "> <pre>\n> a\nb"
abbrev html_left_text : List ℕ
html_left_text = codes "> <pre>" ++ 10 ∷ codes "> a" ++ 10 ∷ codes "b"

abbrev html_left_events : List Event
html_left_events =
    around n.BlockQuote (at 1 1 0) (at 2 4 11)
    (around n.BlockQuotePrefix (at 1 1 0) (at 1 3 2)
    (pair n.BlockQuoteMarker (at 1 1 0) (at 1 2 1)
    ++ pair n.SpaceOrTab (at 1 2 1) (at 1 3 2))
    ++ around n.HtmlFlow (at 1 3 2) (at 2 4 11)
    (pair n.HtmlFlowData (at 1 3 2) (at 1 8 7)
    ++ pair n.LineEnding (at 1 8 7) (at 2 1 8)
    ++ around n.BlockQuotePrefix (at 2 1 8) (at 2 3 10)
    (pair n.BlockQuoteMarker (at 2 1 8) (at 2 2 9)
    ++ pair n.SpaceOrTab (at 2 2 9) (at 2 3 10))
    ++ pair n.HtmlFlowData (at 2 3 10) (at 2 4 11)))
    ++ pair n.LineEnding (at 2 4 11) (at 3 1 12)
    ++ around n.Paragraph (at 3 1 12) (at 3 2 13)
    (chunk (at 3 1 12) (at 3 2 13))

-- "---\n---\n- a\n---"
abbrev frontmatter_and_item_text : List ℕ
frontmatter_and_item_text = codes "---" ++ 10 ∷ codes "---" ++ 10 ∷ codes "- a" ++ 10 ∷ codes "---"

abbrev frontmatter_and_item_events : List Event
frontmatter_and_item_events =
    around n.Frontmatter (at 1 1 0) (at 2 4 7)
    (around n.FrontmatterFence (at 1 1 0) (at 1 4 3)
    (pair n.FrontmatterSequence (at 1 1 0) (at 1 4 3))
    ++ pair n.LineEnding (at 1 4 3) (at 2 1 4)
    ++ around n.FrontmatterFence (at 2 1 4) (at 2 4 7)
    (pair n.FrontmatterSequence (at 2 1 4) (at 2 4 7)))
    ++ pair n.LineEnding (at 2 4 7) (at 3 1 8)
    ++ around n.ListUnordered (at 3 1 8) (at 3 4 11)
    (around n.ListItem (at 3 1 8) (at 3 4 11)
    (around n.ListItemPrefix (at 3 1 8) (at 3 3 10)
    (pair n.ListItemMarker (at 3 1 8) (at 3 2 9)
    ++ pair n.SpaceOrTab (at 3 2 9) (at 3 3 10))
    ++ around n.Paragraph (at 3 3 10) (at 3 4 11)
    (chunk (at 3 3 10) (at 3 4 11))))
    ++ pair n.LineEnding (at 3 4 11) (at 4 1 12)
    ++ around n.ThematicBreak (at 4 1 12) (at 4 4 15)
    (pair n.ThematicBreakSequence (at 4 1 12) (at 4 4 15))

record AreMeeting : Type 0 where
  code_in_quote : exact given.ALL code_in_quote_text ≡ code_in_quote_events
  headings_and_items : exact given.ALL headings_and_items_text ≡ headings_and_items_events
  break_and_items : exact given.ALL break_and_items_text ≡ break_and_items_events
  empty_item : exact given.ALL empty_item_text ≡ empty_item_events
  late_item : exact given.ALL late_item_text ≡ late_item_events
  blank_in_quote : exact given.ALL blank_in_quote_text ≡ blank_in_quote_events
  mark_and_item : exact given.ALL mark_and_item_text ≡ mark_and_item_events
  blank_quote : exact given.ALL blank_quote_text ≡ blank_quote_events
  label_in_quote : exact given.ALL label_in_quote_text ≡ label_in_quote_events
  left_inner_quote : exact given.ALL left_inner_quote_text ≡ left_inner_quote_events
  blank_lines_in_fence : exact given.ALL blank_lines_in_fence_text ≡ blank_lines_in_fence_events
  html_left : exact given.ALL html_left_text ≡ html_left_events
  frontmatter_and_item : exact given.ALL frontmatter_and_item_text ≡ frontmatter_and_item_events

are-exact : AreMeeting
unfolding begins_raw begins_basic after_value after_assignment after_attribute ends_opening begins_complete kind_after
    html_kind html_ends is_raw_name is_basic_name is_raw_end enclosed enclosed_lines label_at balanced destination_at
    title_at definition_at cut_at_most cut_definitions pieces row_cells delimiter_columns is_head shut_paragraph
    front_of alert_at quote_taken item_continues footnote_continues opens_quote opens_item opens_footnote break_at
    heading_at code_at code_continued fence_at fence_continued html_at html_continued starts table_continued
    underline_depth
    underlined table_at fresh_line text_line all_continued stopped
are-exact = record {
  code_in_quote = refl;
  headings_and_items = refl;
  break_and_items = refl;
  empty_item = refl;
  late_item = refl;
  blank_in_quote = refl;
  mark_and_item = refl;
  blank_quote = refl;
  label_in_quote = refl;
  left_inner_quote = refl;
  blank_lines_in_fence = refl;
  html_left = refl;
  frontmatter_and_item = refl;
}
