-- Small texts, each with the events of its blocks, and the tree that these spell out.
use Rattle.std.proofs.Common.{ℕ, true, false, List, [], ◌∷◌, ◌++◌, refl, codes, rules}
use Rattle.std.specs.Prelude.{Some, None}
use Rattle.md_engine.specs.declared.event.Event.{Event}
use Rattle.md_engine.specs.declared.event.Name.TheVariants as n
use Rattle.md_meaning.specs.Tree as t
use Rattle.md_meaning.specs.declared.outline.Word.TheVariants.{Break}
use Rattle.md_events.specs.Events.Spelled.{spelled}
use Rattle.md_events.specs.Events.Nested.{pair, around}
use Rattle.md_events.specs.Events.Grammar.{keeps_grammar}
use Rattle.md_events.proofs.EventRowParts.{at, chunk, string_chunk, line, Row}

-- nothing: ""
abbrev pub empty_text : List ℕ
empty_text = []

abbrev pub empty_events : List Event
empty_events =
    []

abbrev pub empty_tree : t.Blocks
empty_tree = t.End

row-empty : Row empty_text empty_events empty_tree
unfolding spelled keeps_grammar
row-empty = (refl, refl, refl, search rules, search rules, search rules, search rules)

-- a blank line: " \n"
abbrev pub blank_text : List ℕ
blank_text = codes " " ++ 10 ∷ []

abbrev pub blank_events : List Event
blank_events =
    pair n.SpaceOrTab (at 1 1 0) (at 1 2 1)
    ++ pair n.BlankLineEnding (at 1 2 1) (at 2 1 2)

abbrev pub blank_tree : t.Blocks
blank_tree = t.End

row-blank : Row blank_text blank_events blank_tree
unfolding spelled keeps_grammar
row-blank = (refl, refl, refl, search rules, search rules, search rules, search rules)

-- a byte order mark before a paragraph: "(mark)a"
abbrev pub mark_text : List ℕ
mark_text = 239 ∷ 187 ∷ 191 ∷ codes "a"

abbrev pub mark_events : List Event
mark_events =
    pair n.ByteOrderMark (at 1 1 0) (at 1 4 3)
    ++ around n.Paragraph (at 1 4 3) (at 1 5 4)
    (chunk (at 1 4 3) (at 1 5 4))

abbrev pub mark_tree : t.Blocks
mark_tree = t.More (t.Paragraph (codes "a" ∷ [])) t.End

row-mark : Row mark_text mark_events mark_tree
unfolding spelled keeps_grammar
row-mark = (refl, refl, refl, search rules, search rules, search rules, search rules)

-- a paragraph of two lines, which lose their leading spaces: "  a\n b \n"
abbrev pub paragraph_text : List ℕ
paragraph_text = codes "  a" ++ 10 ∷ codes " b " ++ 10 ∷ []

abbrev pub paragraph_events : List Event
paragraph_events =
    around n.Paragraph (at 1 1 0) (at 2 4 7)
    (chunk (at 1 1 0) (at 2 1 4)
    ++ chunk (at 2 1 4) (at 2 4 7))
    ++ pair n.LineEnding (at 2 4 7) (at 3 1 8)

abbrev pub paragraph_tree : t.Blocks
paragraph_tree = t.More (t.Paragraph (codes "a" ∷ codes "b " ∷ [])) t.End

row-paragraph : Row paragraph_text paragraph_events paragraph_tree
unfolding spelled keeps_grammar
row-paragraph = (refl, refl, refl, search rules, search rules, search rules, search rules)

-- a thematic break: "* **"
abbrev pub break_text : List ℕ
break_text = codes "* **"

abbrev pub break_events : List Event
break_events =
    around n.ThematicBreak (at 1 1 0) (at 1 5 4)
    (pair n.ThematicBreakSequence (at 1 1 0) (at 1 2 1)
    ++ pair n.SpaceOrTab (at 1 2 1) (at 1 3 2)
    ++ pair n.ThematicBreakSequence (at 1 3 2) (at 1 5 4))

abbrev pub break_tree : t.Blocks
break_tree = t.More (t.Bare Break) t.End

row-break : Row break_text break_events break_tree
unfolding spelled keeps_grammar
row-break = (refl, refl, refl, search rules, search rules, search rules, search rules)

-- an ATX heading with a closing sequence: "# a b ##"
abbrev pub heading_text : List ℕ
heading_text = codes "# a b ##"

abbrev pub heading_events : List Event
heading_events =
    around n.HeadingAtx (at 1 1 0) (at 1 9 8)
    (pair n.HeadingAtxSequence (at 1 1 0) (at 1 2 1)
    ++ pair n.SpaceOrTab (at 1 2 1) (at 1 3 2)
    ++ around n.HeadingAtxText (at 1 3 2) (at 1 6 5)
    (chunk (at 1 3 2) (at 1 6 5))
    ++ pair n.SpaceOrTab (at 1 6 5) (at 1 7 6)
    ++ pair n.HeadingAtxSequence (at 1 7 6) (at 1 9 8))

abbrev pub heading_tree : t.Blocks
heading_tree = t.More (t.Heading 1 (codes "a b" ∷ [])) t.End

row-heading : Row heading_text heading_events heading_tree
unfolding spelled keeps_grammar
row-heading = (refl, refl, refl, search rules, search rules, search rules, search rules)

-- an ATX heading without text: "##"
abbrev pub empty_heading_text : List ℕ
empty_heading_text = codes "##"

abbrev pub empty_heading_events : List Event
empty_heading_events =
    around n.HeadingAtx (at 1 1 0) (at 1 3 2)
    (pair n.HeadingAtxSequence (at 1 1 0) (at 1 3 2))

abbrev pub empty_heading_tree : t.Blocks
empty_heading_tree = t.More (t.Heading 2 []) t.End

row-empty-heading : Row empty_heading_text empty_heading_events empty_heading_tree
unfolding spelled keeps_grammar
row-empty-heading = (refl, refl, refl, search rules, search rules, search rules, search rules)

-- a setext heading of two lines: "a\r\nb\n---\n"
abbrev pub underlined_text : List ℕ
underlined_text = codes "a" ++ 13 ∷ 10 ∷ codes "b" ++ 10 ∷ codes "---" ++ 10 ∷ []

abbrev pub underlined_events : List Event
underlined_events =
    around n.HeadingSetext (at 1 1 0) (at 3 4 8)
    (around n.HeadingSetextText (at 1 1 0) (at 2 2 4)
    (chunk (at 1 1 0) (at 2 1 3)
    ++ chunk (at 2 1 3) (at 2 2 4))
    ++ pair n.LineEnding (at 2 2 4) (at 3 1 5)
    ++ around n.HeadingSetextUnderline (at 3 1 5) (at 3 4 8)
    (pair n.HeadingSetextUnderlineSequence (at 3 1 5) (at 3 4 8)))
    ++ pair n.LineEnding (at 3 4 8) (at 4 1 9)

abbrev pub underlined_tree : t.Blocks
underlined_tree = t.More (t.Heading 2 (codes "a" ∷ codes "b" ∷ [])) t.End

row-underlined : Row underlined_text underlined_events underlined_tree
unfolding spelled keeps_grammar
row-underlined = (refl, refl, refl, search rules, search rules, search rules, search rules)

-- a closed fence with info, meta and an empty line: "```r x y\na\n\n b\n```\n"
abbrev pub fence_text : List ℕ
fence_text = codes "```r x y" ++ 10 ∷ codes "a" ++ 10 ∷ 10 ∷ codes " b" ++ 10 ∷ codes "```" ++ 10 ∷ []

abbrev pub fence_events : List Event
fence_events =
    around n.CodeFenced (at 1 1 0) (at 5 4 18)
    (around n.CodeFencedFence (at 1 1 0) (at 1 9 8)
    (pair n.CodeFencedFenceSequence (at 1 1 0) (at 1 4 3)
    ++ around n.CodeFencedFenceInfo (at 1 4 3) (at 1 5 4)
    (string_chunk (at 1 4 3) (at 1 5 4))
    ++ pair n.SpaceOrTab (at 1 5 4) (at 1 6 5)
    ++ around n.CodeFencedFenceMeta (at 1 6 5) (at 1 9 8)
    (string_chunk (at 1 6 5) (at 1 9 8)))
    ++ pair n.LineEnding (at 1 9 8) (at 2 1 9)
    ++ pair n.CodeFlowChunk (at 2 1 9) (at 2 2 10)
    ++ pair n.LineEnding (at 2 2 10) (at 3 1 11)
    ++ pair n.LineEnding (at 3 1 11) (at 4 1 12)
    ++ pair n.CodeFlowChunk (at 4 1 12) (at 4 3 14)
    ++ pair n.LineEnding (at 4 3 14) (at 5 1 15)
    ++ around n.CodeFencedFence (at 5 1 15) (at 5 4 18)
    (pair n.CodeFencedFenceSequence (at 5 1 15) (at 5 4 18)))
    ++ pair n.LineEnding (at 5 4 18) (at 6 1 19)

abbrev pub fence_tree : t.Blocks
fence_tree =
    t.More
    (t.Fence 96 (Some (codes "r")) (Some (codes "x y"))
    (line 0 (codes "a") ∷ line 0 ([]) ∷ line 0 (codes " b") ∷ []) true) t.End

row-fence : Row fence_text fence_events fence_tree
unfolding spelled keeps_grammar
row-fence = (refl, refl, refl, search rules, search rules, search rules, search rules)

-- an open fence, whose last line ending opens no line: "~~~\na\n"
abbrev pub open_fence_text : List ℕ
open_fence_text = codes "~~~" ++ 10 ∷ codes "a" ++ 10 ∷ []

abbrev pub open_fence_events : List Event
open_fence_events =
    around n.CodeFenced (at 1 1 0) (at 3 1 6)
    (around n.CodeFencedFence (at 1 1 0) (at 1 4 3)
    (pair n.CodeFencedFenceSequence (at 1 1 0) (at 1 4 3))
    ++ pair n.LineEnding (at 1 4 3) (at 2 1 4)
    ++ pair n.CodeFlowChunk (at 2 1 4) (at 2 2 5)
    ++ pair n.LineEnding (at 2 2 5) (at 3 1 6))

abbrev pub open_fence_tree : t.Blocks
open_fence_tree = t.More (t.Fence 126 None None (line 0 (codes "a") ∷ []) false) t.End

row-open-fence : Row open_fence_text open_fence_events open_fence_tree
unfolding spelled keeps_grammar
row-open-fence = (refl, refl, refl, search rules, search rules, search rules, search rules)

-- indented code with a blank line inside: "    a\n  \n      b\n"
abbrev pub code_text : List ℕ
code_text = codes "    a" ++ 10 ∷ codes "  " ++ 10 ∷ codes "      b" ++ 10 ∷ []

abbrev pub code_events : List Event
code_events =
    around n.CodeIndented (at 1 1 0) (at 3 8 16)
    (pair n.SpaceOrTab (at 1 1 0) (at 1 5 4)
    ++ pair n.CodeFlowChunk (at 1 5 4) (at 1 6 5)
    ++ pair n.LineEnding (at 1 6 5) (at 2 1 6)
    ++ pair n.SpaceOrTab (at 2 1 6) (at 2 3 8)
    ++ pair n.LineEnding (at 2 3 8) (at 3 1 9)
    ++ pair n.SpaceOrTab (at 3 1 9) (at 3 5 13)
    ++ pair n.CodeFlowChunk (at 3 5 13) (at 3 8 16))
    ++ pair n.LineEnding (at 3 8 16) (at 4 1 17)

abbrev pub code_tree : t.Blocks
code_tree = t.More (t.Code (line 0 (codes "a") ∷ line 0 ([]) ∷ line 0 (codes "  b") ∷ [])) t.End

row-code : Row code_text code_events code_tree
unfolding spelled keeps_grammar
row-code = (refl, refl, refl, search rules, search rules, search rules, search rules)

-- HTML, its first line in two pieces, and a blank line in it: " <?\n\n x\n"
abbrev pub html_text : List ℕ
html_text = codes " <?" ++ 10 ∷ 10 ∷ codes " x" ++ 10 ∷ []

abbrev pub html_events : List Event
html_events =
    around n.HtmlFlow (at 1 1 0) (at 4 1 8)
    (pair n.HtmlFlowData (at 1 1 0) (at 1 4 3)
    ++ pair n.LineEnding (at 1 4 3) (at 2 1 4)
    ++ pair n.LineEnding (at 2 1 4) (at 3 1 5)
    ++ pair n.HtmlFlowData (at 3 1 5) (at 3 3 7)
    ++ pair n.LineEnding (at 3 3 7) (at 4 1 8))

abbrev pub html_tree : t.Blocks
html_tree = t.More (t.Html (line 0 (codes " <?") ∷ line 0 ([]) ∷ line 0 (codes " x") ∷ [])) t.End

row-html : Row html_text html_events html_tree
unfolding spelled keeps_grammar
row-html = (refl, refl, refl, search rules, search rules, search rules, search rules)

-- closed math with meta: "$$ m\na\n$$"
abbrev pub math_text : List ℕ
math_text = codes "$$ m" ++ 10 ∷ codes "a" ++ 10 ∷ codes "$$"

abbrev pub math_events : List Event
math_events =
    around n.MathFlow (at 1 1 0) (at 3 3 9)
    (around n.MathFlowFence (at 1 1 0) (at 1 5 4)
    (pair n.MathFlowFenceSequence (at 1 1 0) (at 1 3 2)
    ++ pair n.SpaceOrTab (at 1 3 2) (at 1 4 3)
    ++ around n.MathFlowFenceMeta (at 1 4 3) (at 1 5 4)
    (string_chunk (at 1 4 3) (at 1 5 4)))
    ++ pair n.LineEnding (at 1 5 4) (at 2 1 5)
    ++ pair n.MathFlowChunk (at 2 1 5) (at 2 2 6)
    ++ pair n.LineEnding (at 2 2 6) (at 3 1 7)
    ++ around n.MathFlowFence (at 3 1 7) (at 3 3 9)
    (pair n.MathFlowFenceSequence (at 3 1 7) (at 3 3 9)))

abbrev pub math_tree : t.Blocks
math_tree = t.More (t.Math (Some (codes "m")) (line 0 (codes "a") ∷ []) true) t.End

row-math : Row math_text math_events math_tree
unfolding spelled keeps_grammar
row-math = (refl, refl, refl, search rules, search rules, search rules, search rules)

-- frontmatter with an empty line, and a paragraph: "+++\nx\n\n+++ \na"
abbrev pub frontmatter_text : List ℕ
frontmatter_text = codes "+++" ++ 10 ∷ codes "x" ++ 10 ∷ 10 ∷ codes "+++ " ++ 10 ∷ codes "a"

abbrev pub frontmatter_events : List Event
frontmatter_events =
    around n.Frontmatter (at 1 1 0) (at 4 5 11)
    (around n.FrontmatterFence (at 1 1 0) (at 1 4 3)
    (pair n.FrontmatterSequence (at 1 1 0) (at 1 4 3))
    ++ pair n.LineEnding (at 1 4 3) (at 2 1 4)
    ++ pair n.FrontmatterChunk (at 2 1 4) (at 2 2 5)
    ++ pair n.LineEnding (at 2 2 5) (at 3 1 6)
    ++ pair n.LineEnding (at 3 1 6) (at 4 1 7)
    ++ around n.FrontmatterFence (at 4 1 7) (at 4 5 11)
    (pair n.FrontmatterSequence (at 4 1 7) (at 4 4 10)
    ++ pair n.SpaceOrTab (at 4 4 10) (at 4 5 11)))
    ++ pair n.LineEnding (at 4 5 11) (at 5 1 12)
    ++ around n.Paragraph (at 5 1 12) (at 5 2 13)
    (chunk (at 5 1 12) (at 5 2 13))

abbrev pub frontmatter_tree : t.Blocks
frontmatter_tree = t.More (t.Frontmatter 43 (codes "x" ∷ [] ∷ [])) (t.More (t.Paragraph (codes "a" ∷ [])) t.End)

row-frontmatter : Row frontmatter_text frontmatter_events frontmatter_tree
unfolding spelled keeps_grammar
row-frontmatter = (refl, refl, refl, search rules, search rules, search rules, search rules)

-- a definition with an empty last line of its label, an empty destination and an empty title: "[a\n]: <> ''"
abbrev pub empty_parts_text : List ℕ
empty_parts_text = codes "[a" ++ 10 ∷ codes "]: <> ''"

abbrev pub empty_parts_events : List Event
empty_parts_events =
    around n.Definition (at 1 1 0) (at 2 9 11)
    (around n.DefinitionLabel (at 1 1 0) (at 2 2 4)
    (pair n.DefinitionLabelMarker (at 1 1 0) (at 1 2 1)
    ++ around n.DefinitionLabelString (at 1 2 1) (at 2 1 3)
    (string_chunk (at 1 2 1) (at 2 1 3))
    ++ pair n.DefinitionLabelMarker (at 2 1 3) (at 2 2 4))
    ++ pair n.DefinitionMarker (at 2 2 4) (at 2 3 5)
    ++ pair n.SpaceOrTab (at 2 3 5) (at 2 4 6)
    ++ around n.DefinitionDestination (at 2 4 6) (at 2 6 8)
    (around n.DefinitionDestinationLiteral (at 2 4 6) (at 2 6 8)
    (pair n.DefinitionDestinationLiteralMarker (at 2 4 6) (at 2 5 7)
    ++ pair n.DefinitionDestinationLiteralMarker (at 2 5 7) (at 2 6 8)))
    ++ pair n.SpaceOrTab (at 2 6 8) (at 2 7 9)
    ++ around n.DefinitionTitle (at 2 7 9) (at 2 9 11)
    (pair n.DefinitionTitleMarker (at 2 7 9) (at 2 8 10)
    ++ pair n.DefinitionTitleMarker (at 2 8 10) (at 2 9 11)))

abbrev pub empty_parts_tree : t.Blocks
empty_parts_tree = t.More (t.Definition (codes "a" ∷ [] ∷ []) [] (Some ([] ∷ []))) t.End

row-empty-parts : Row empty_parts_text empty_parts_events empty_parts_tree
unfolding spelled keeps_grammar
row-empty-parts = (refl, refl, refl, search rules, search rules, search rules, search rules)

-- a definition with empty first lines of its label and its title: "[\n a]: b '\n c'"
abbrev pub empty_lines_text : List ℕ
empty_lines_text = codes "[" ++ 10 ∷ codes " a]: b '" ++ 10 ∷ codes " c'"

abbrev pub empty_lines_events : List Event
empty_lines_events =
    around n.Definition (at 1 1 0) (at 3 4 14)
    (around n.DefinitionLabel (at 1 1 0) (at 2 4 5)
    (pair n.DefinitionLabelMarker (at 1 1 0) (at 1 2 1)
    ++ around n.DefinitionLabelString (at 1 2 1) (at 2 3 4)
    (string_chunk (at 1 2 1) (at 2 1 2)
    ++ string_chunk (at 2 1 2) (at 2 3 4))
    ++ pair n.DefinitionLabelMarker (at 2 3 4) (at 2 4 5))
    ++ pair n.DefinitionMarker (at 2 4 5) (at 2 5 6)
    ++ pair n.SpaceOrTab (at 2 5 6) (at 2 6 7)
    ++ around n.DefinitionDestination (at 2 6 7) (at 2 7 8)
    (around n.DefinitionDestinationRaw (at 2 6 7) (at 2 7 8)
    (around n.DefinitionDestinationString (at 2 6 7) (at 2 7 8)
    (string_chunk (at 2 6 7) (at 2 7 8))))
    ++ pair n.SpaceOrTab (at 2 7 8) (at 2 8 9)
    ++ around n.DefinitionTitle (at 2 8 9) (at 3 4 14)
    (pair n.DefinitionTitleMarker (at 2 8 9) (at 2 9 10)
    ++ around n.DefinitionTitleString (at 2 9 10) (at 3 3 13)
    (string_chunk (at 2 9 10) (at 3 1 11)
    ++ string_chunk (at 3 1 11) (at 3 3 13))
    ++ pair n.DefinitionTitleMarker (at 3 3 13) (at 3 4 14)))

abbrev pub empty_lines_tree : t.Blocks
empty_lines_tree = t.More (t.Definition ([] ∷ codes "a" ∷ []) (codes "b") (Some ([] ∷ codes "c" ∷ []))) t.End

row-empty-lines : Row empty_lines_text empty_lines_events empty_lines_tree
unfolding spelled keeps_grammar
row-empty-lines = (refl, refl, refl, search rules, search rules, search rules, search rules)

-- a table with a row of one empty cell: "| a | b\n:-|-\n|\n"
abbrev pub table_text : List ℕ
table_text = codes "| a | b" ++ 10 ∷ codes ":-|-" ++ 10 ∷ codes "|" ++ 10 ∷ []

abbrev pub table_events : List Event
table_events =
    around n.GfmTable (at 1 1 0) (at 3 2 14)
    (around n.GfmTableHead (at 1 1 0) (at 2 5 12)
    (around n.GfmTableRow (at 1 1 0) (at 1 8 7)
    (around n.GfmTableCell (at 1 1 0) (at 1 5 4)
    (pair n.GfmTableCellDivider (at 1 1 0) (at 1 2 1)
    ++ pair n.SpaceOrTab (at 1 2 1) (at 1 3 2)
    ++ around n.GfmTableCellText (at 1 3 2) (at 1 4 3)
    (chunk (at 1 3 2) (at 1 4 3))
    ++ pair n.SpaceOrTab (at 1 4 3) (at 1 5 4))
    ++ around n.GfmTableCell (at 1 5 4) (at 1 8 7)
    (pair n.GfmTableCellDivider (at 1 5 4) (at 1 6 5)
    ++ pair n.SpaceOrTab (at 1 6 5) (at 1 7 6)
    ++ around n.GfmTableCellText (at 1 7 6) (at 1 8 7)
    (chunk (at 1 7 6) (at 1 8 7))))
    ++ pair n.LineEnding (at 1 8 7) (at 2 1 8)
    ++ around n.GfmTableDelimiterRow (at 2 1 8) (at 2 5 12)
    (around n.GfmTableDelimiterCell (at 2 1 8) (at 2 3 10)
    (around n.GfmTableDelimiterCellValue (at 2 1 8) (at 2 3 10)
    (pair n.GfmTableDelimiterMarker (at 2 1 8) (at 2 2 9)
    ++ pair n.GfmTableDelimiterFiller (at 2 2 9) (at 2 3 10)))
    ++ around n.GfmTableDelimiterCell (at 2 3 10) (at 2 5 12)
    (pair n.GfmTableCellDivider (at 2 3 10) (at 2 4 11)
    ++ around n.GfmTableDelimiterCellValue (at 2 4 11) (at 2 5 12)
    (pair n.GfmTableDelimiterFiller (at 2 4 11) (at 2 5 12)))))
    ++ pair n.LineEnding (at 2 5 12) (at 3 1 13)
    ++ around n.GfmTableBody (at 3 1 13) (at 3 2 14)
    (around n.GfmTableRow (at 3 1 13) (at 3 2 14)
    (around n.GfmTableCell (at 3 1 13) (at 3 2 14)
    (pair n.GfmTableCellDivider (at 3 1 13) (at 3 2 14)))))
    ++ pair n.LineEnding (at 3 2 14) (at 4 1 15)

abbrev pub table_tree : t.Blocks
table_tree = t.More (t.Table (codes ":-|-") ((codes "a" ∷ codes "b" ∷ []) ∷ ([] ∷ []) ∷ [])) t.End

row-table : Row table_text table_events table_tree
unfolding spelled keeps_grammar
row-table = (refl, refl, refl, search rules, search rules, search rules, search rules)
