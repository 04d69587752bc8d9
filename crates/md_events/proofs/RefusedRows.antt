-- Lists of events that are no block lists, each with the clause that refuses it.
--
-- Each field is one list, of the small text in its comment, and a clause of `IsBlockList` that refuses it.
use Rattle.std.proofs.Common.{◌≡◌, ℕ, ◌+◌, false, List, [], ◌∷◌, ◌++◌, refl, codes}
use Rattle.md_engine.specs.declared.event.Point.{Point}
use Rattle.md_engine.specs.declared.event.Event.{Event}
use Rattle.md_engine.specs.declared.event.Name.{Name}
use Rattle.md_engine.specs.declared.event.Name.TheVariants as n
use Rattle.md_events.specs.Events.Places.{is_placed}
use Rattle.md_events.specs.Events.Nested.{pair, around}
use Rattle.md_events.specs.Events.Inline.{pieces}
use Rattle.md_events.specs.Events.Endings.{endings_are_right}
use Rattle.md_events.specs.Events.Grammar.{keeps_grammar, unread_text}
use Rattle.md_events.specs.Events.Pieces.{are_valid_pieces}
use Rattle.md_events.specs.Events.Tiles.{are_whole_parts, chunks_in_parts}
use Rattle.md_events.proofs.EventRowParts.{at, within_tab, chunk, string_chunk}

-- How the lists are written.

-- a point on the first line, after bytes of one column each
abbrev on : ℕ → Point
on index = at 1 (index + 1) index

-- a text part of one chunk
abbrev part : Name → Point → Point → List Event
part name p q = around name p q (chunk p q)

abbrev paragraph : Point → Point → List Event
paragraph p q = part n.Paragraph p q

-- the prefixes of a quote and of an item, each a marker and whitespace
abbrev quote_prefix : Point → Point → Point → List Event
quote_prefix p q r = around n.BlockQuotePrefix p r (pair n.BlockQuoteMarker p q ++ pair n.SpaceOrTab q r)

abbrev bullet : Point → Point → Point → List Event
bullet p q r = around n.ListItemPrefix p r (pair n.ListItemMarker p q ++ pair n.SpaceOrTab q r)

-- an ATX heading: its sequence, whitespace, and its text
abbrev heading : Point → Point → Point → Point → List Event
heading p q r s =
    around n.HeadingAtx p s (pair n.HeadingAtxSequence p q ++ pair n.SpaceOrTab q r ++ part n.HeadingAtxText r s)

-- fences of code and of frontmatter that are a sequence alone
abbrev fence : Point → Point → List Event
fence p q = around n.CodeFencedFence p q (pair n.CodeFencedFenceSequence p q)

abbrev front_fence : Point → Point → List Event
front_fence p q = around n.FrontmatterFence p q (pair n.FrontmatterSequence p q)

-- a cell, a row of it, a delimiter row of one filler, and a head of both with an ending between
abbrev cell : Point → Point → List Event
cell p q = around n.GfmTableCell p q (part n.GfmTableCellText p q)

abbrev row : Point → Point → List Event
row p q = around n.GfmTableRow p q (cell p q)

abbrev delimiters : Point → Point → List Event
delimiters p q =
    around n.GfmTableDelimiterRow p q (around n.GfmTableDelimiterCell p q
    (around n.GfmTableDelimiterCellValue p q (pair n.GfmTableDelimiterFiller p q)))

abbrev head : Point → Point → Point → Point → List Event
head p q r s = around n.GfmTableHead p s (row p q ++ pair n.LineEnding q r ++ delimiters r s)

-- the label of a definition, its destination, and the label of a footnote definition
abbrev label : Point → Point → Point → Point → List Event
label p q r s =
    around n.DefinitionLabel p s (pair n.DefinitionLabelMarker p q
    ++ part n.DefinitionLabelString q r ++ pair n.DefinitionLabelMarker r s)

abbrev destination : Point → Point → List Event
destination p q =
    around n.DefinitionDestination p q (around n.DefinitionDestinationRaw p q (part n.DefinitionDestinationString p q))

abbrev note_label : Point → Point → Point → Point → Point → List Event
note_label p q r s t =
    around n.GfmFootnoteDefinitionLabel p t (pair n.GfmFootnoteDefinitionLabelMarker p q
    ++ pair n.GfmFootnoteDefinitionMarker q r ++ part n.GfmFootnoteDefinitionLabelString r s
    ++ pair n.GfmFootnoteDefinitionLabelMarker s t)

-- What is missing.

record Missing : Type 0 where
  -- a paragraph with nothing inside: "a"
  empty_paragraph : are_whole_parts (codes "a") (pair n.Paragraph (on 0) (on 1)) ≡ false
  -- a paragraph of two lines with nothing inside: "a\nb"
  bare_paragraph : keeps_grammar unread_text (pair n.Paragraph (on 0) (at 2 2 3)) ≡ false
  -- a heading text without a chunk: "# a"
  empty_heading_text : are_whole_parts (codes "# a") (
      around n.HeadingAtx (on 0) (on 3) (pair n.HeadingAtxSequence (on 0) (on 1) ++ pair n.SpaceOrTab (on 1) (on 2)
      ++ pair n.HeadingAtxText (on 2) (on 3))) ≡ false
  -- a thematic break after its bytes, with nothing inside: "***"
  break_after_its_bytes : keeps_grammar unread_text (
      pair n.SpaceOrTab (on 0) (on 3) ++ pair n.ThematicBreak (on 3) (on 3)) ≡ false
  -- a quote with a break, both after their bytes: "> ***"
  quote_after_its_bytes : keeps_grammar unread_text (
      pair n.SpaceOrTab (on 0) (on 5) ++ around n.BlockQuote (on 5) (on 5) (pair n.ThematicBreak (on 5) (on 5))) ≡ false
  -- a thematic break without a sequence: "***"
  bare_break : are_valid_pieces (codes "***") (pieces (pair n.ThematicBreak (on 0) (on 3))) ≡ false
  -- an ATX heading without its sequence: "a"
  heading_without_sequence : keeps_grammar unread_text (
      around n.HeadingAtx (on 0) (on 1) (part n.HeadingAtxText (on 0) (on 1))) ≡ false
  -- a setext heading without an underline: "a"
  setext_without_underline : keeps_grammar unread_text (
      around n.HeadingSetext (on 0) (on 1) (part n.HeadingSetextText (on 0) (on 1))) ≡ false
  -- indented code without its indent: "a"
  code_without_indent : keeps_grammar unread_text (
      around n.CodeIndented (on 0) (on 1) (pair n.CodeFlowChunk (on 0) (on 1))) ≡ false
  -- indented code without a line: "    "
  code_without_line : keeps_grammar unread_text (
      around n.CodeIndented (on 0) (on 4) (pair n.SpaceOrTab (on 0) (on 4))) ≡ false
  -- fenced code without a fence: "a"
  code_without_fence : keeps_grammar unread_text (
      around n.CodeFenced (on 0) (on 1) (pair n.CodeFlowChunk (on 0) (on 1))) ≡ false
  -- a fence with meta and no info: "``` a"
  meta_without_info : keeps_grammar unread_text (
      around n.CodeFenced (on 0) (on 5) (around n.CodeFencedFence (on 0) (on 5)
      (pair n.CodeFencedFenceSequence (on 0) (on 3) ++ pair n.SpaceOrTab (on 3) (on 4)
      ++ part n.CodeFencedFenceMeta (on 4) (on 5)))) ≡ false
  -- HTML without data: "<a>"
  empty_html : keeps_grammar unread_text (pair n.HtmlFlow (on 0) (on 3)) ≡ false
  -- frontmatter without its closing fence: "---\na"
  open_frontmatter : keeps_grammar unread_text (
      around n.Frontmatter (on 0) (at 2 2 5) (front_fence (on 0) (on 3) ++ pair n.LineEnding (on 3) (at 2 1 4)
      ++ pair n.FrontmatterChunk (at 2 1 4) (at 2 2 5))) ≡ false
  -- a definition without a destination: "[a]:"
  definition_without_destination : keeps_grammar unread_text (
      around n.Definition (on 0) (on 4) (label (on 0) (on 1) (on 2) (on 3) ++ pair n.DefinitionMarker (on 3) (on 4))) ≡
      false
  -- a definition without a label: ":a"
  definition_without_label : keeps_grammar unread_text (
      around n.Definition (on 0) (on 2) (pair n.DefinitionMarker (on 0) (on 1) ++ destination (on 1) (on 2))) ≡ false
  -- a title without its markers: "[a]:b c"
  title_without_markers : keeps_grammar unread_text (
      around n.Definition (on 0) (on 7) (label (on 0) (on 1) (on 2) (on 3) ++ pair n.DefinitionMarker (on 3) (on 4)
      ++ destination (on 4) (on 5) ++ pair n.SpaceOrTab (on 5) (on 6) ++ around n.DefinitionTitle (on 6) (on 7)
      (part n.DefinitionTitleString (on 6) (on 7)))) ≡ false
  -- a footnote definition without a label: ":"
  footnote_without_label : keeps_grammar unread_text (
      around n.GfmFootnoteDefinition (on 0) (on 1) (around n.GfmFootnoteDefinitionPrefix (on 0) (on 1)
      (pair n.DefinitionMarker (on 0) (on 1)))) ≡ false
  -- a footnote's label with an empty text: "[^]:"
  footnote_without_text : are_whole_parts (codes "[^]:") (
      around n.GfmFootnoteDefinition (on 0) (on 4) (around n.GfmFootnoteDefinitionPrefix (on 0) (on 4)
      (around n.GfmFootnoteDefinitionLabel (on 0) (on 3) (pair n.GfmFootnoteDefinitionLabelMarker (on 0) (on 1)
      ++ pair n.GfmFootnoteDefinitionMarker (on 1) (on 2) ++ pair n.GfmFootnoteDefinitionLabelString (on 2) (on 2)
      ++ pair n.GfmFootnoteDefinitionLabelMarker (on 2) (on 3)) ++ pair n.DefinitionMarker (on 3) (on 4)))) ≡ false
  -- a quote without a prefix: "a"
  quote_without_prefix : keeps_grammar unread_text (
      around n.BlockQuote (on 0) (on 1) (paragraph (on 0) (on 1))) ≡ false
  -- a prefix of a quote without a marker: " a"
  prefix_without_marker : keeps_grammar unread_text (
      around n.BlockQuote (on 0) (on 2) (around n.BlockQuotePrefix (on 0) (on 1) (pair n.SpaceOrTab (on 0) (on 1))
      ++ paragraph (on 1) (on 2))) ≡ false
  -- an item without a prefix: "a"
  item_without_prefix : keeps_grammar unread_text (
      around n.ListUnordered (on 0) (on 1) (around n.ListItem (on 0) (on 1) (paragraph (on 0) (on 1)))) ≡ false
  -- an ordered item without a marker: "1"
  item_without_marker : keeps_grammar unread_text (
      around n.ListOrdered (on 0) (on 1) (around n.ListItem (on 0) (on 1) (around n.ListItemPrefix (on 0) (on 1)
      (pair n.ListItemValue (on 0) (on 1))))) ≡ false
  -- a list without an item: "-"
  list_without_item : keeps_grammar unread_text (pair n.ListUnordered (on 0) (on 1)) ≡ false
  -- a table without its head: "a\n-"
  table_without_head : keeps_grammar unread_text (
      around n.GfmTable (on 0) (at 2 2 3) (row (on 0) (on 1) ++ pair n.LineEnding (on 1) (at 2 1 2)
      ++ delimiters (at 2 1 2) (at 2 2 3))) ≡ false
  -- a table head without a delimiter row: "a"
  head_without_delimiters : keeps_grammar unread_text (
      around n.GfmTable (on 0) (on 1) (around n.GfmTableHead (on 0) (on 1) (row (on 0) (on 1)))) ≡ false
  -- a row without a cell: "a\n-\n "
  row_without_cell : keeps_grammar unread_text (
      around n.GfmTable (on 0) (at 3 2 5) (head (on 0) (on 1) (at 2 1 2) (at 2 2 3)
      ++ pair n.LineEnding (at 2 2 3) (at 3 1 4) ++ around n.GfmTableBody (at 3 1 4) (at 3 2 5)
      (around n.GfmTableRow (at 3 1 4) (at 3 2 5) (pair n.SpaceOrTab (at 3 1 4) (at 3 2 5))))) ≡ false
  -- a cell with nothing inside: "|\n-"
  empty_cell : are_valid_pieces (codes "|" ++ 10 ∷ codes "-") (pieces (
      around n.GfmTable (on 0) (at 2 2 3) (around n.GfmTableHead (on 0) (at 2 2 3) (around n.GfmTableRow (on 0) (on 1)
      (around n.GfmTableCell (on 0) (on 1) (pair n.GfmTableCellDivider (on 0) (on 1))
      ++ pair n.GfmTableCell (on 1) (on 1)) ++ pair n.LineEnding (on 1) (at 2 1 2)
      ++ delimiters (at 2 1 2) (at 2 2 3))))) ≡ false
  -- a delimiter cell without filler: "a\n:"
  delimiters_without_filler : keeps_grammar unread_text (
      around n.GfmTable (on 0) (at 2 2 3) (around n.GfmTableHead (on 0) (at 2 2 3) (row (on 0) (on 1)
      ++ pair n.LineEnding (on 1) (at 2 1 2) ++ around n.GfmTableDelimiterRow (at 2 1 2) (at 2 2 3)
      (around n.GfmTableDelimiterCell (at 2 1 2) (at 2 2 3) (around n.GfmTableDelimiterCellValue (at 2 1 2) (at 2 2 3)
      (pair n.GfmTableDelimiterMarker (at 2 1 2) (at 2 2 3))))))) ≡ false

missing : Missing
unfolding keeps_grammar
missing = record {
  empty_paragraph = refl;
  bare_paragraph = refl;
  empty_heading_text = refl;
  break_after_its_bytes = refl;
  quote_after_its_bytes = refl;
  bare_break = refl;
  heading_without_sequence = refl;
  setext_without_underline = refl;
  code_without_indent = refl;
  code_without_line = refl;
  code_without_fence = refl;
  meta_without_info = refl;
  empty_html = refl;
  open_frontmatter = refl;
  definition_without_destination = refl;
  definition_without_label = refl;
  title_without_markers = refl;
  footnote_without_label = refl;
  footnote_without_text = refl;
  quote_without_prefix = refl;
  prefix_without_marker = refl;
  item_without_prefix = refl;
  item_without_marker = refl;
  list_without_item = refl;
  table_without_head = refl;
  head_without_delimiters = refl;
  row_without_cell = refl;
  empty_cell = refl;
  delimiters_without_filler = refl;
}

-- What is too often, or in the wrong place.

record Misplaced : Type 0 where
  -- content around a paragraph: "a"
  content_around : keeps_grammar unread_text (around n.Content (on 0) (on 1) (paragraph (on 0) (on 1))) ≡ false
  -- a paragraph in a paragraph: "a"
  paragraph_in_paragraph : keeps_grammar unread_text (
      around n.Paragraph (on 0) (on 1) (paragraph (on 0) (on 1))) ≡ false
  -- two blocks on one line: "ab"
  two_blocks_on_a_line : keeps_grammar unread_text (paragraph (on 0) (on 1) ++ paragraph (on 1) (on 2)) ≡ false
  -- a heading that reaches over the ending after it: "# a\nb"
  heading_over_ending : keeps_grammar unread_text (
      around n.HeadingAtx (on 0) (at 2 1 4) (pair n.HeadingAtxSequence (on 0) (on 1)
      ++ pair n.SpaceOrTab (on 1) (on 2) ++ part n.HeadingAtxText (on 2) (on 3)
      ++ pair n.LineEnding (on 3) (at 2 1 4)) ++ paragraph (at 2 1 4) (at 2 2 5)) ≡ false
  -- a heading in a heading: "# # a"
  heading_in_heading : keeps_grammar unread_text (
      around n.HeadingAtx (on 0) (on 5) (pair n.HeadingAtxSequence (on 0) (on 1) ++ pair n.SpaceOrTab (on 1) (on 2)
      ++ heading (on 2) (on 3) (on 4) (on 5))) ≡ false
  -- a heading with two texts: "# a b"
  two_heading_texts : keeps_grammar unread_text (
      around n.HeadingAtx (on 0) (on 5) (pair n.HeadingAtxSequence (on 0) (on 1) ++ pair n.SpaceOrTab (on 1) (on 2)
      ++ part n.HeadingAtxText (on 2) (on 3) ++ pair n.SpaceOrTab (on 3) (on 4)
      ++ part n.HeadingAtxText (on 4) (on 5))) ≡ false
  -- an underline before its text: "=\na"
  underline_in_front : keeps_grammar unread_text (
      around n.HeadingSetext (on 0) (at 2 2 3) (around n.HeadingSetextUnderline (on 0) (on 1)
      (pair n.HeadingSetextUnderlineSequence (on 0) (on 1)) ++ pair n.LineEnding (on 1) (at 2 1 2)
      ++ part n.HeadingSetextText (at 2 1 2) (at 2 2 3))) ≡ false
  -- an underline on the line of its text: "a="
  underline_on_the_line : keeps_grammar unread_text (
      around n.HeadingSetext (on 0) (on 2) (part n.HeadingSetextText (on 0) (on 1)
      ++ around n.HeadingSetextUnderline (on 1) (on 2) (pair n.HeadingSetextUnderlineSequence (on 1) (on 2)))) ≡ false
  -- a thematic break with text in it: "*a*"
  text_in_break : keeps_grammar unread_text (
      around n.ThematicBreak (on 0) (on 3) (pair n.ThematicBreakSequence (on 0) (on 1) ++ chunk (on 1) (on 2)
      ++ pair n.ThematicBreakSequence (on 2) (on 3))) ≡ false
  -- two lines of code on one line: "```\nab"
  two_code_lines : keeps_grammar unread_text (
      around n.CodeFenced (on 0) (at 2 3 6) (fence (on 0) (on 3) ++ pair n.LineEnding (on 3) (at 2 1 4)
      ++ pair n.CodeFlowChunk (at 2 1 4) (at 2 2 5) ++ pair n.CodeFlowChunk (at 2 2 5) (at 2 3 6))) ≡ false
  -- the indent of an opening fence inside the code: " ```"
  indent_in_fenced_code : keeps_grammar unread_text (
      around n.CodeFenced (on 0) (on 4) (pair n.SpaceOrTab (on 0) (on 1) ++ fence (on 1) (on 4))) ≡ false
  -- a fence with two infos: "```a b"
  two_infos : keeps_grammar unread_text (
      around n.CodeFenced (on 0) (on 6) (around n.CodeFencedFence (on 0) (on 6)
      (pair n.CodeFencedFenceSequence (on 0) (on 3) ++ part n.CodeFencedFenceInfo (on 3) (on 4)
      ++ pair n.SpaceOrTab (on 4) (on 5) ++ part n.CodeFencedFenceInfo (on 5) (on 6)))) ≡ false
  -- code with a third fence: "```\n```\n```"
  third_fence : keeps_grammar unread_text (
      around n.CodeFenced (on 0) (at 3 4 11) (fence (on 0) (on 3) ++ pair n.LineEnding (on 3) (at 2 1 4)
      ++ fence (at 2 1 4) (at 2 4 7) ++ pair n.LineEnding (at 2 4 7) (at 3 1 8) ++ fence (at 3 1 8) (at 3 4 11))) ≡
      false
  -- math with a fence of code: "```"
  fence_in_math : keeps_grammar unread_text (around n.MathFlow (on 0) (on 3) (fence (on 0) (on 3))) ≡ false
  -- code with a line of frontmatter: "```\na"
  frontmatter_line_in_code : keeps_grammar unread_text (
      around n.CodeFenced (on 0) (at 2 2 5) (fence (on 0) (on 3) ++ pair n.LineEnding (on 3) (at 2 1 4)
      ++ pair n.FrontmatterChunk (at 2 1 4) (at 2 2 5))) ≡ false
  -- code with a line of math: "```\na"
  math_line_in_code : keeps_grammar unread_text (
      around n.CodeFenced (on 0) (at 2 2 5) (fence (on 0) (on 3) ++ pair n.LineEnding (on 3) (at 2 1 4)
      ++ pair n.MathFlowChunk (at 2 1 4) (at 2 2 5))) ≡ false
  -- HTML with three pieces on its first line: "<a>"
  three_pieces_of_html : keeps_grammar unread_text (
      around n.HtmlFlow (on 0) (on 3) (pair n.HtmlFlowData (on 0) (on 1) ++ pair n.HtmlFlowData (on 1) (on 2)
      ++ pair n.HtmlFlowData (on 2) (on 3))) ≡ false
  -- HTML with two pieces on its second line: "<a\nbc"
  two_pieces_of_later_html : keeps_grammar unread_text (
      around n.HtmlFlow (on 0) (at 2 3 5) (pair n.HtmlFlowData (on 0) (on 2) ++ pair n.LineEnding (on 2) (at 2 1 3)
      ++ pair n.HtmlFlowData (at 2 1 3) (at 2 2 4) ++ pair n.HtmlFlowData (at 2 2 4) (at 2 3 5))) ≡ false
  -- a definition with two labels: "[a][b]:c"
  two_labels : keeps_grammar unread_text (
      around n.Definition (on 0) (on 8) (label (on 0) (on 1) (on 2) (on 3) ++ label (on 3) (on 4) (on 5) (on 6)
      ++ pair n.DefinitionMarker (on 6) (on 7) ++ destination (on 7) (on 8))) ≡ false
  -- a definition with a paragraph in it: "[a]:b c"
  paragraph_in_definition : keeps_grammar unread_text (
      around n.Definition (on 0) (on 7) (label (on 0) (on 1) (on 2) (on 3) ++ pair n.DefinitionMarker (on 3) (on 4)
      ++ destination (on 4) (on 5) ++ pair n.SpaceOrTab (on 5) (on 6) ++ paragraph (on 6) (on 7))) ≡ false
  -- a definition with two destinations: "[a]:b c"
  two_destinations : keeps_grammar unread_text (
      around n.Definition (on 0) (on 7) (label (on 0) (on 1) (on 2) (on 3) ++ pair n.DefinitionMarker (on 3) (on 4)
      ++ destination (on 4) (on 5) ++ pair n.SpaceOrTab (on 5) (on 6) ++ destination (on 6) (on 7))) ≡ false
  -- a footnote's label outside of its prefix: "[^a]:"
  label_outside_prefix : keeps_grammar unread_text (
      around n.GfmFootnoteDefinition (on 0) (on 5) (note_label (on 0) (on 1) (on 2) (on 3) (on 4)
      ++ around n.GfmFootnoteDefinitionPrefix (on 4) (on 5) (pair n.DefinitionMarker (on 4) (on 5)))) ≡ false
  -- a quote's marker outside of a prefix: "> a"
  marker_outside_prefix : keeps_grammar unread_text (
      around n.BlockQuote (on 0) (on 3) (pair n.BlockQuoteMarker (on 0) (on 1) ++ pair n.SpaceOrTab (on 1) (on 2)
      ++ paragraph (on 2) (on 3))) ≡ false
  -- a paragraph directly in a list: "- a\nb"
  paragraph_in_list : keeps_grammar unread_text (
      around n.ListUnordered (on 0) (at 2 2 5) (around n.ListItem (on 0) (on 3) (bullet (on 0) (on 1) (on 2)
      ++ paragraph (on 2) (on 3)) ++ pair n.LineEnding (on 3) (at 2 1 4) ++ paragraph (at 2 1 4) (at 2 2 5))) ≡ false
  -- an item outside of a list: "- a"
  item_outside_list : keeps_grammar unread_text (
      around n.ListItem (on 0) (on 3) (bullet (on 0) (on 1) (on 2) ++ paragraph (on 2) (on 3))) ≡ false
  -- two items of a list on one line: "- - "
  two_items_on_a_line : keeps_grammar unread_text (
      around n.ListUnordered (on 0) (on 4) (around n.ListItem (on 0) (on 2) (bullet (on 0) (on 1) (on 2))
      ++ around n.ListItem (on 2) (on 4) (bullet (on 2) (on 3) (on 4)))) ≡ false
  -- a list that reaches over the ending after its last item: "- a\n"
  list_over_ending : keeps_grammar unread_text (
      around n.ListUnordered (on 0) (at 2 1 4) (around n.ListItem (on 0) (on 3) (bullet (on 0) (on 1) (on 2)
      ++ paragraph (on 2) (on 3)) ++ pair n.LineEnding (on 3) (at 2 1 4))) ≡ false
  -- an item's value after its marker: ".1"
  value_after_marker : keeps_grammar unread_text (
      around n.ListOrdered (on 0) (on 2) (around n.ListItem (on 0) (on 2) (around n.ListItemPrefix (on 0) (on 2)
      (pair n.ListItemMarker (on 0) (on 1) ++ pair n.ListItemValue (on 1) (on 2))))) ≡ false
  -- an item with two prefixes: "- - a"
  two_item_prefixes : keeps_grammar unread_text (
      around n.ListUnordered (on 0) (on 5) (around n.ListItem (on 0) (on 5) (bullet (on 0) (on 1) (on 2)
      ++ bullet (on 2) (on 3) (on 4) ++ paragraph (on 4) (on 5)))) ≡ false
  -- a row outside of a head or body: "a\n-\nb"
  row_outside : keeps_grammar unread_text (
      around n.GfmTable (on 0) (at 3 2 5) (head (on 0) (on 1) (at 2 1 2) (at 2 2 3)
      ++ pair n.LineEnding (at 2 2 3) (at 3 1 4) ++ row (at 3 1 4) (at 3 2 5))) ≡ false
  -- a table with two heads: "a\n-\nb\n-"
  two_heads : keeps_grammar unread_text (
      around n.GfmTable (on 0) (at 4 2 7) (head (on 0) (on 1) (at 2 1 2) (at 2 2 3)
      ++ pair n.LineEnding (at 2 2 3) (at 3 1 4) ++ head (at 3 1 4) (at 3 2 5) (at 4 1 6) (at 4 2 7))) ≡ false
  -- a delimiter row in the body: "a\n-\n-"
  delimiters_in_body : keeps_grammar unread_text (
      around n.GfmTable (on 0) (at 3 2 5) (head (on 0) (on 1) (at 2 1 2) (at 2 2 3)
      ++ pair n.LineEnding (at 2 2 3) (at 3 1 4) ++ around n.GfmTableBody (at 3 1 4) (at 3 2 5)
      (delimiters (at 3 1 4) (at 3 2 5)))) ≡ false
  -- a cell with two texts: "a b\n-"
  two_cell_texts : keeps_grammar unread_text (
      around n.GfmTable (on 0) (at 2 2 5) (around n.GfmTableHead (on 0) (at 2 2 5) (around n.GfmTableRow (on 0) (on 3)
      (around n.GfmTableCell (on 0) (on 3) (part n.GfmTableCellText (on 0) (on 1) ++ pair n.SpaceOrTab (on 1) (on 2)
      ++ part n.GfmTableCellText (on 2) (on 3))) ++ pair n.LineEnding (on 3) (at 2 1 4)
      ++ delimiters (at 2 1 4) (at 2 2 5)))) ≡ false
  -- frontmatter after a paragraph: "a\n---\n---"
  frontmatter_after : keeps_grammar unread_text (
      paragraph (on 0) (on 1) ++ pair n.LineEnding (on 1) (at 2 1 2) ++ around n.Frontmatter (at 2 1 2) (at 3 4 9)
      (front_fence (at 2 1 2) (at 2 4 5) ++ pair n.LineEnding (at 2 4 5) (at 3 1 6)
      ++ front_fence (at 3 1 6) (at 3 4 9))) ≡ false
  -- frontmatter in a quote: "> ---\n---"
  frontmatter_in_quote : keeps_grammar unread_text (
      around n.BlockQuote (on 0) (at 2 4 9) (quote_prefix (on 0) (on 1) (on 2)
      ++ around n.Frontmatter (on 2) (at 2 4 9) (front_fence (on 2) (on 5) ++ pair n.LineEnding (on 5) (at 2 1 6)
      ++ front_fence (at 2 1 6) (at 2 4 9)))) ≡ false
  -- a byte order mark after a paragraph: "a\n(mark)"
  mark_after : keeps_grammar unread_text (
      paragraph (on 0) (on 1) ++ pair n.LineEnding (on 1) (at 2 1 2) ++ pair n.ByteOrderMark (at 2 1 2) (at 2 4 5)) ≡
      false

misplaced : Misplaced
unfolding keeps_grammar
misplaced = record {
  content_around = refl;
  paragraph_in_paragraph = refl;
  two_blocks_on_a_line = refl;
  heading_over_ending = refl;
  heading_in_heading = refl;
  two_heading_texts = refl;
  underline_in_front = refl;
  underline_on_the_line = refl;
  text_in_break = refl;
  two_code_lines = refl;
  indent_in_fenced_code = refl;
  two_infos = refl;
  third_fence = refl;
  fence_in_math = refl;
  frontmatter_line_in_code = refl;
  math_line_in_code = refl;
  three_pieces_of_html = refl;
  two_pieces_of_later_html = refl;
  two_labels = refl;
  paragraph_in_definition = refl;
  two_destinations = refl;
  label_outside_prefix = refl;
  marker_outside_prefix = refl;
  paragraph_in_list = refl;
  item_outside_list = refl;
  two_items_on_a_line = refl;
  list_over_ending = refl;
  value_after_marker = refl;
  two_item_prefixes = refl;
  row_outside = refl;
  two_heads = refl;
  delimiters_in_body = refl;
  two_cell_texts = refl;
  frontmatter_after = refl;
  frontmatter_in_quote = refl;
  mark_after = refl;
}

-- Line endings.

record Endings : Type 0 where
  -- an ending of a blank line after a paragraph: "a\n"
  blank_ending_after_paragraph : endings_are_right (
      paragraph (on 0) (on 1) ++ pair n.BlankLineEnding (on 1) (at 2 1 2)) ≡ false
  -- an ending after a blank line that is not called so: " \n"
  ending_of_blank_line : endings_are_right (
      pair n.SpaceOrTab (on 0) (on 1) ++ pair n.LineEnding (on 1) (at 2 1 2)) ≡ false
  -- an ending after a bare prefix that is not called that of a blank line: ">\n>"
  ending_of_bare_prefix : endings_are_right (
      around n.BlockQuote (on 0) (at 2 2 3) (around n.BlockQuotePrefix (on 0) (on 1)
      (pair n.BlockQuoteMarker (on 0) (on 1)) ++ pair n.LineEnding (on 1) (at 2 1 2)
      ++ around n.BlockQuotePrefix (at 2 1 2) (at 2 2 3) (pair n.BlockQuoteMarker (at 2 1 2) (at 2 2 3)))) ≡ false
  -- an ending of a blank line in fenced code: "```\n\n"
  blank_ending_in_code : endings_are_right (
      around n.CodeFenced (on 0) (at 3 1 5) (fence (on 0) (on 3) ++ pair n.LineEnding (on 3) (at 2 1 4)
      ++ pair n.BlankLineEnding (at 2 1 4) (at 3 1 5))) ≡ false
  -- an ending of a blank line after the heading of an item: "- #\n"
  blank_ending_after_bare_item : endings_are_right (
      around n.ListUnordered (on 0) (on 3) (around n.ListItem (on 0) (on 3) (bullet (on 0) (on 1) (on 2)
      ++ around n.HeadingAtx (on 2) (on 3) (pair n.HeadingAtxSequence (on 2) (on 3))))
      ++ pair n.BlankLineEnding (on 3) (at 2 1 4)) ≡ false
  -- an ending over two line endings: "a\n\n"
  two_endings_in_one : are_valid_pieces (codes "a" ++ 10 ∷ 10 ∷ []) (pieces (
      paragraph (on 0) (on 1) ++ pair n.LineEnding (on 1) (at 3 1 3))) ≡ false
  -- an ending that is called spaces and tabs: "\n"
  white_ending : are_valid_pieces (10 ∷ []) (pieces (pair n.SpaceOrTab (on 0) (at 2 1 1))) ≡ false

endings : Endings
endings = record {
  blank_ending_after_paragraph = refl;
  ending_of_blank_line = refl;
  ending_of_bare_prefix = refl;
  blank_ending_in_code = refl;
  blank_ending_after_bare_item = refl;
  two_endings_in_one = refl;
  white_ending = refl;
}

-- What pieces are over.

record Contents : Type 0 where
  -- a byte order mark over other bytes: "abc"
  mark_over_letters : are_valid_pieces (codes "abc") (pieces (pair n.ByteOrderMark (on 0) (on 3))) ≡ false
  -- a marker of a quote over a space: " a"
  quote_marker_over_space : are_valid_pieces (codes " a") (pieces (
      around n.BlockQuote (on 0) (on 2) (around n.BlockQuotePrefix (on 0) (on 1)
      (pair n.BlockQuoteMarker (on 0) (on 1)) ++ paragraph (on 1) (on 2)))) ≡ false
  -- an item's marker over two bytes: "--"
  two_bytes_of_marker : are_valid_pieces (codes "--") (pieces (
      around n.ListUnordered (on 0) (on 2) (around n.ListItem (on 0) (on 2) (around n.ListItemPrefix (on 0) (on 2)
      (pair n.ListItemMarker (on 0) (on 2)))))) ≡ false
  -- an item's value over a letter: "a."
  letters_as_value : are_valid_pieces (codes "a.") (pieces (
      around n.ListOrdered (on 0) (on 2) (around n.ListItem (on 0) (on 2) (around n.ListItemPrefix (on 0) (on 2)
      (pair n.ListItemValue (on 0) (on 1) ++ pair n.ListItemMarker (on 1) (on 2)))))) ≡ false
  -- an item's value over ten digits: "0123456789."
  ten_digits : are_valid_pieces (codes "0123456789.") (pieces (
      around n.ListOrdered (on 0) (on 11) (around n.ListItem (on 0) (on 11) (around n.ListItemPrefix (on 0) (on 11)
      (pair n.ListItemValue (on 0) (on 10) ++ pair n.ListItemMarker (on 10) (on 11)))))) ≡ false
  -- a heading's sequence over a letter: "a"
  letter_as_heading : are_valid_pieces (codes "a") (pieces (
      around n.HeadingAtx (on 0) (on 1) (pair n.HeadingAtxSequence (on 0) (on 1)))) ≡ false
  -- an underline of `#`: "a\n##"
  hashes_as_underline : are_valid_pieces (codes "a" ++ 10 ∷ codes "##") (pieces (
      around n.HeadingSetext (on 0) (at 2 3 4) (part n.HeadingSetextText (on 0) (on 1)
      ++ pair n.LineEnding (on 1) (at 2 1 2) ++ around n.HeadingSetextUnderline (at 2 1 2) (at 2 3 4)
      (pair n.HeadingSetextUnderlineSequence (at 2 1 2) (at 2 3 4))))) ≡ false
  -- an underline of `=` and `-`: "a\n=-"
  mixed_underline : are_valid_pieces (codes "a" ++ 10 ∷ codes "=-") (pieces (
      around n.HeadingSetext (on 0) (at 2 3 4) (part n.HeadingSetextText (on 0) (on 1)
      ++ pair n.LineEnding (on 1) (at 2 1 2) ++ around n.HeadingSetextUnderline (at 2 1 2) (at 2 3 4)
      (pair n.HeadingSetextUnderlineSequence (at 2 1 2) (at 2 3 4))))) ≡ false
  -- a break's sequence with a space in it: "* **"
  break_over_spaces : are_valid_pieces (codes "* **") (pieces (
      around n.ThematicBreak (on 0) (on 4) (pair n.ThematicBreakSequence (on 0) (on 4)))) ≡ false
  -- a fence of two backticks: "``"
  two_backticks : are_valid_pieces (codes "``")
      (pieces (around n.CodeFenced (on 0) (on 2) (fence (on 0) (on 2)))) ≡ false
  -- a fence of backticks and tildes: "``~"
  mixed_fence : are_valid_pieces (codes "``~")
      (pieces (around n.CodeFenced (on 0) (on 3) (fence (on 0) (on 3)))) ≡ false
  -- a fence of math of one dollar: "$"
  one_dollar : are_valid_pieces (codes "$") (pieces (
      around n.MathFlow (on 0) (on 1) (around n.MathFlowFence (on 0) (on 1)
      (pair n.MathFlowFenceSequence (on 0) (on 1))))) ≡ false
  -- a line of code over two lines: "```\na\nb"
  code_over_lines : are_valid_pieces (codes "```" ++ 10 ∷ codes "a" ++ 10 ∷ codes "b") (pieces (
      around n.CodeFenced (on 0) (at 3 2 7) (fence (on 0) (on 3) ++ pair n.LineEnding (on 3) (at 2 1 4)
      ++ pair n.CodeFlowChunk (at 2 1 4) (at 3 2 7)))) ≡ false
  -- a fence of frontmatter of two bytes: "--\n---"
  short_frontmatter : are_valid_pieces (codes "--" ++ 10 ∷ codes "---") (pieces (
      around n.Frontmatter (on 0) (at 2 4 6) (around n.FrontmatterFence (on 0) (on 2)
      (pair n.FrontmatterSequence (on 0) (on 2)) ++ pair n.LineEnding (on 2) (at 2 1 3)
      ++ front_fence (at 2 1 3) (at 2 4 6)))) ≡ false
  -- a title's markers over letters: "[a]:b xx"
  letter_as_title_marker : are_valid_pieces (codes "[a]:b xx") (pieces (
      around n.Definition (on 0) (on 8) (label (on 0) (on 1) (on 2) (on 3) ++ pair n.DefinitionMarker (on 3) (on 4)
      ++ destination (on 4) (on 5) ++ pair n.SpaceOrTab (on 5) (on 6) ++ around n.DefinitionTitle (on 6) (on 8)
      (pair n.DefinitionTitleMarker (on 6) (on 7) ++ pair n.DefinitionTitleMarker (on 7) (on 8))))) ≡ false
  -- a divider over a letter: "ab\n-"
  letter_as_divider : are_valid_pieces (codes "ab" ++ 10 ∷ codes "-") (pieces (
      around n.GfmTable (on 0) (at 2 2 4) (around n.GfmTableHead (on 0) (at 2 2 4) (around n.GfmTableRow (on 0) (on 2)
      (around n.GfmTableCell (on 0) (on 2) (pair n.GfmTableCellDivider (on 0) (on 1)
      ++ part n.GfmTableCellText (on 1) (on 2))) ++ pair n.LineEnding (on 2) (at 2 1 3)
      ++ delimiters (at 2 1 3) (at 2 2 4))))) ≡ false
  -- spaces and tabs over nothing: "a"
  nothing_as_white : are_valid_pieces (codes "a") (pieces (
      pair n.SpaceOrTab (on 0) (on 0) ++ paragraph (on 0) (on 1))) ≡ false
  -- a text part that ends within a tab: "#\ta\t"
  text_ends_in_tab : are_valid_pieces (codes "#" ++ 9 ∷ codes "a" ++ 9 ∷ []) (pieces (
      around n.HeadingAtx (on 0) (at 1 9 4) (pair n.HeadingAtxSequence (on 0) (on 1)
      ++ pair n.SpaceOrTab (on 1) (at 1 5 2) ++ part n.HeadingAtxText (at 1 5 2) (within_tab 1 7 3 1)
      ++ pair n.SpaceOrTab (within_tab 1 7 3 1) (at 1 9 4)))) ≡ false

contents : Contents
contents = record {
  mark_over_letters = refl;
  quote_marker_over_space = refl;
  two_bytes_of_marker = refl;
  letters_as_value = refl;
  ten_digits = refl;
  letter_as_heading = refl;
  hashes_as_underline = refl;
  mixed_underline = refl;
  break_over_spaces = refl;
  two_backticks = refl;
  mixed_fence = refl;
  one_dollar = refl;
  code_over_lines = refl;
  short_frontmatter = refl;
  letter_as_title_marker = refl;
  letter_as_divider = refl;
  nothing_as_white = refl;
  text_ends_in_tab = refl;
}

-- Text parts.

record Unread : Type 0 where
  -- text that no layer is asked for: "a"
  unlinked : chunks_in_parts 0 (around n.Paragraph (on 0) (on 1) (pair n.Data (on 0) (on 1))) ≡ false
  -- text that is called spaces and tabs: "a"
  white : are_whole_parts (codes "a") (around n.Paragraph (on 0) (on 1) (pair n.SpaceOrTab (on 0) (on 1))) ≡ false
  -- a chunk inside a container prefix: "a"
  inner_chunk : chunks_in_parts 0 (
      around n.Paragraph (on 0) (on 1) (around n.BlockQuotePrefix (on 0) (on 1) (chunk (on 0) (on 1)))) ≡ false
  -- a chunk outside of text parts: "a"
  chunk_outside : chunks_in_parts 0 (chunk (on 0) (on 1)) ≡ false
  -- a chunk over two lines: "a\nb"
  lines : are_whole_parts (codes "a" ++ 10 ∷ codes "b") (part n.Paragraph (on 0) (at 2 2 3)) ≡ false
  -- a chunk that does not reach over the ending of its line: "a\nb"
  short : are_whole_parts (codes "a" ++ 10 ∷ codes "b") (
      around n.Paragraph (on 0) (at 2 2 3) (chunk (on 0) (on 1) ++ pair n.LineEnding (on 1) (at 2 1 2)
      ++ chunk (at 2 1 2) (at 2 2 3))) ≡ false
  -- a chunk that begins between CR and LF: "a\r\nb"
  between_cr_and_lf : are_whole_parts (codes "a" ++ 13 ∷ 10 ∷ codes "b") (
      around n.Paragraph (on 0) (at 2 2 4) (chunk (on 0) (at 2 1 2) ++ chunk (at 2 1 2) (at 2 2 4))) ≡ false
  -- a paragraph that begins one byte before its first chunk: " a"
  late_chunk : are_whole_parts (codes " a") (
      around n.Paragraph (on 0) (on 2) (pair n.SpaceOrTab (on 0) (on 1) ++ chunk (on 1) (on 2))) ≡ false
  -- a paragraph that begins one byte before its first chunk, with nothing between: " a"
  early_part : are_whole_parts (codes " a") (around n.Paragraph (on 0) (on 2) (chunk (on 1) (on 2))) ≡ false
  -- two chunks on one line: "ab"
  two_chunks_on_a_line : are_whole_parts (codes "ab") (
      around n.Paragraph (on 0) (on 2) (chunk (on 0) (on 1) ++ chunk (on 1) (on 2))) ≡ false
  -- a string in the place of a text: "a"
  other_kind : are_whole_parts (codes "a") (around n.Paragraph (on 0) (on 1) (string_chunk (on 0) (on 1))) ≡ false
  -- a chunk over nothing: "a"
  empty_chunk : are_valid_pieces (codes "a") (pieces (
      around n.Paragraph (on 0) (on 1) (chunk (on 0) (on 1) ++ chunk (on 1) (on 1)))) ≡ false

unread : Unread
unread = record {
  unlinked = refl;
  white = refl;
  inner_chunk = refl;
  chunk_outside = refl;
  lines = refl;
  short = refl;
  between_cr_and_lf = refl;
  late_chunk = refl;
  early_part = refl;
  two_chunks_on_a_line = refl;
  other_kind = refl;
  empty_chunk = refl;
}

-- Points.

record Points : Type 0 where
  -- a virtual space in a letter: "a"
  letter_cut : is_placed (codes "a") (within_tab 1 2 0 1) ≡ false
  -- as many virtual spaces as the tab has columns: "\t"
  whole_tab_cut : is_placed (9 ∷ []) (within_tab 1 5 0 4) ≡ false
  -- a tab that is counted as one column: "\ta"
  tab_as_column : is_placed (9 ∷ codes "a") (at 1 2 1) ≡ false
  -- a point on the line before its own: "a\nb"
  earlier_line : is_placed (codes "a" ++ 10 ∷ codes "b") (at 1 3 2) ≡ false
  -- a point after the text: "a"
  after_text : is_placed (codes "a") (at 1 3 2) ≡ false
  -- the LF of a CR LF, which is one ending
  pair_cut : is_placed (13 ∷ 10 ∷ []) (at 2 1 1) ≡ false

points : Points
points = record {
  letter_cut = refl;
  whole_tab_cut = refl;
  tab_as_column = refl;
  earlier_line = refl;
  after_text = refl;
  pair_cut = refl;
}
