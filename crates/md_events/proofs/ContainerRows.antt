-- Small texts with containers, each with its events, and the tree that these spell out.
use Rattle.std.proofs.Common.{◌≡◌, ℕ, false, List, [], ◌∷◌, ◌++◌, refl, codes, rules}
use Rattle.std.specs.Prelude.{Some, None}
use Rattle.md_engine.specs.declared.event.Event.{Event}
use Rattle.md_engine.specs.declared.event.Name.TheVariants as n
use Rattle.md_meaning.specs.Tree as t
use Rattle.md_events.specs.Events.Spelled.{kind_at, spelled}
use Rattle.md_events.specs.Events.Nested.{pair, around}
use Rattle.md_events.specs.Events.Grammar.{keeps_grammar}
use Rattle.md_events.proofs.EventRowParts.{at, within_tab, chunk, string_chunk, line, Row}

-- a quote whose second line is lazy: "> a\nb"
abbrev pub lazy_text : List ℕ
lazy_text = codes "> a" ++ 10 ∷ codes "b"

abbrev pub lazy_events : List Event
lazy_events =
    around n.BlockQuote (at 1 1 0) (at 2 2 5)
    (around n.BlockQuotePrefix (at 1 1 0) (at 1 3 2)
    (pair n.BlockQuoteMarker (at 1 1 0) (at 1 2 1)
    ++ pair n.SpaceOrTab (at 1 2 1) (at 1 3 2))
    ++ around n.Paragraph (at 1 3 2) (at 2 2 5)
    (chunk (at 1 3 2) (at 2 1 4)
    ++ chunk (at 2 1 4) (at 2 2 5)))

abbrev pub lazy_tree : t.Blocks
lazy_tree = t.More (t.Quote None (t.More (t.Paragraph (codes "a" ∷ codes "b" ∷ [])) t.End)) t.End

row-lazy : Row lazy_text lazy_events lazy_tree
unfolding spelled keeps_grammar kind_at
row-lazy = (refl, refl, refl, search rules, search rules, search rules, search rules)

-- a quote whose second line has the prefix, after a space: "> a\n > b"
abbrev pub prefix_text : List ℕ
prefix_text = codes "> a" ++ 10 ∷ codes " > b"

abbrev pub prefix_events : List Event
prefix_events =
    around n.BlockQuote (at 1 1 0) (at 2 5 8)
    (around n.BlockQuotePrefix (at 1 1 0) (at 1 3 2)
    (pair n.BlockQuoteMarker (at 1 1 0) (at 1 2 1)
    ++ pair n.SpaceOrTab (at 1 2 1) (at 1 3 2))
    ++ around n.Paragraph (at 1 3 2) (at 2 5 8)
    (chunk (at 1 3 2) (at 2 1 4)
    ++ pair n.SpaceOrTab (at 2 1 4) (at 2 2 5)
    ++ around n.BlockQuotePrefix (at 2 2 5) (at 2 4 7)
    (pair n.BlockQuoteMarker (at 2 2 5) (at 2 3 6)
    ++ pair n.SpaceOrTab (at 2 3 6) (at 2 4 7))
    ++ chunk (at 2 4 7) (at 2 5 8)))

abbrev pub prefix_tree : t.Blocks
prefix_tree = t.More (t.Quote None (t.More (t.Paragraph (codes "a" ∷ codes "b" ∷ [])) t.End)) t.End

row-prefix : Row prefix_text prefix_events prefix_tree
unfolding spelled keeps_grammar kind_at
row-prefix = (refl, refl, refl, search rules, search rules, search rules, search rules)

-- an ordered list, with the digits as written: "01) a\n7) b"
abbrev pub ordered_text : List ℕ
ordered_text = codes "01) a" ++ 10 ∷ codes "7) b"

abbrev pub ordered_events : List Event
ordered_events =
    around n.ListOrdered (at 1 1 0) (at 2 5 10)
    (around n.ListItem (at 1 1 0) (at 1 6 5)
    (around n.ListItemPrefix (at 1 1 0) (at 1 5 4)
    (pair n.ListItemValue (at 1 1 0) (at 1 3 2)
    ++ pair n.ListItemMarker (at 1 3 2) (at 1 4 3)
    ++ pair n.SpaceOrTab (at 1 4 3) (at 1 5 4))
    ++ around n.Paragraph (at 1 5 4) (at 1 6 5)
    (chunk (at 1 5 4) (at 1 6 5)))
    ++ pair n.LineEnding (at 1 6 5) (at 2 1 6)
    ++ around n.ListItem (at 2 1 6) (at 2 5 10)
    (around n.ListItemPrefix (at 2 1 6) (at 2 4 9)
    (pair n.ListItemValue (at 2 1 6) (at 2 2 7)
    ++ pair n.ListItemMarker (at 2 2 7) (at 2 3 8)
    ++ pair n.SpaceOrTab (at 2 3 8) (at 2 4 9))
    ++ around n.Paragraph (at 2 4 9) (at 2 5 10)
    (chunk (at 2 4 9) (at 2 5 10))))

abbrev pub ordered_tree : t.Blocks
ordered_tree =
    t.More
    (t.ListOf 41
    (t.More (t.Item 41 (codes "01") (t.More (t.Paragraph (codes "a" ∷ [])) t.End))
    (t.More (t.Item 41 (codes "7") (t.More (t.Paragraph (codes "b" ∷ [])) t.End)) t.End))) t.End

row-ordered : Row ordered_text ordered_events ordered_tree
unfolding spelled keeps_grammar kind_at
row-ordered = (refl, refl, refl, search rules, search rules, search rules, search rules)

-- items before they are grouped into lists: "- a\n+ b"
abbrev pub items_text : List ℕ
items_text = codes "- a" ++ 10 ∷ codes "+ b"

abbrev pub items_events : List Event
items_events =
    around n.ListItem (at 1 1 0) (at 1 4 3)
    (around n.ListItemPrefix (at 1 1 0) (at 1 3 2)
    (pair n.ListItemMarker (at 1 1 0) (at 1 2 1)
    ++ pair n.SpaceOrTab (at 1 2 1) (at 1 3 2))
    ++ around n.Paragraph (at 1 3 2) (at 1 4 3)
    (chunk (at 1 3 2) (at 1 4 3)))
    ++ pair n.LineEnding (at 1 4 3) (at 2 1 4)
    ++ around n.ListItem (at 2 1 4) (at 2 4 7)
    (around n.ListItemPrefix (at 2 1 4) (at 2 3 6)
    (pair n.ListItemMarker (at 2 1 4) (at 2 2 5)
    ++ pair n.SpaceOrTab (at 2 2 5) (at 2 3 6))
    ++ around n.Paragraph (at 2 3 6) (at 2 4 7)
    (chunk (at 2 3 6) (at 2 4 7)))

abbrev pub items_tree : t.Blocks
items_tree =
    t.More (t.Item 45 [] (t.More (t.Paragraph (codes "a" ∷ [])) t.End))
    (t.More (t.Item 43 [] (t.More (t.Paragraph (codes "b" ∷ [])) t.End)) t.End)

row-items : spelled items_events items_text ≡ items_tree
unfolding spelled kind_at
row-items = refl

-- a list in a quote, with a blank line and a line of the second paragraph indented: "> - a\n>\n>   b\n> -"
abbrev pub nested_text : List ℕ
nested_text = codes "> - a" ++ 10 ∷ codes ">" ++ 10 ∷ codes ">   b" ++ 10 ∷ codes "> -"

abbrev pub nested_events : List Event
nested_events =
    around n.BlockQuote (at 1 1 0) (at 4 4 17)
    (around n.BlockQuotePrefix (at 1 1 0) (at 1 3 2)
    (pair n.BlockQuoteMarker (at 1 1 0) (at 1 2 1)
    ++ pair n.SpaceOrTab (at 1 2 1) (at 1 3 2))
    ++ around n.ListUnordered (at 1 3 2) (at 4 4 17)
    (around n.ListItem (at 1 3 2) (at 3 6 13)
    (around n.ListItemPrefix (at 1 3 2) (at 1 5 4)
    (pair n.ListItemMarker (at 1 3 2) (at 1 4 3)
    ++ pair n.SpaceOrTab (at 1 4 3) (at 1 5 4))
    ++ around n.Paragraph (at 1 5 4) (at 1 6 5)
    (chunk (at 1 5 4) (at 1 6 5))
    ++ pair n.LineEnding (at 1 6 5) (at 2 1 6)
    ++ around n.BlockQuotePrefix (at 2 1 6) (at 2 2 7)
    (pair n.BlockQuoteMarker (at 2 1 6) (at 2 2 7))
    ++ pair n.BlankLineEnding (at 2 2 7) (at 3 1 8)
    ++ around n.BlockQuotePrefix (at 3 1 8) (at 3 3 10)
    (pair n.BlockQuoteMarker (at 3 1 8) (at 3 2 9)
    ++ pair n.SpaceOrTab (at 3 2 9) (at 3 3 10))
    ++ pair n.SpaceOrTab (at 3 3 10) (at 3 5 12)
    ++ around n.Paragraph (at 3 5 12) (at 3 6 13)
    (chunk (at 3 5 12) (at 3 6 13)))
    ++ pair n.LineEnding (at 3 6 13) (at 4 1 14)
    ++ around n.BlockQuotePrefix (at 4 1 14) (at 4 3 16)
    (pair n.BlockQuoteMarker (at 4 1 14) (at 4 2 15)
    ++ pair n.SpaceOrTab (at 4 2 15) (at 4 3 16))
    ++ around n.ListItem (at 4 3 16) (at 4 4 17)
    (around n.ListItemPrefix (at 4 3 16) (at 4 4 17)
    (pair n.ListItemMarker (at 4 3 16) (at 4 4 17)))))

abbrev pub nested_tree : t.Blocks
nested_tree =
    t.More
    (t.Quote None
    (t.More
    (t.ListOf 45
    (t.More (t.Item 45 [] (t.More (t.Paragraph (codes "a" ∷ [])) (t.More (t.Paragraph (codes "b" ∷ [])) t.End)))
    (t.More (t.Item 45 [] t.End) t.End))) t.End)) t.End

row-nested : Row nested_text nested_events nested_tree
unfolding spelled keeps_grammar kind_at
row-nested = (refl, refl, refl, search rules, search rules, search rules, search rules)

-- an open fence whose container ends after a blank line: "- ```\n\nb"
abbrev pub left_fence_text : List ℕ
left_fence_text = codes "- ```" ++ 10 ∷ 10 ∷ codes "b"

abbrev pub left_fence_events : List Event
left_fence_events =
    around n.ListUnordered (at 1 1 0) (at 2 1 6)
    (around n.ListItem (at 1 1 0) (at 2 1 6)
    (around n.ListItemPrefix (at 1 1 0) (at 1 3 2)
    (pair n.ListItemMarker (at 1 1 0) (at 1 2 1)
    ++ pair n.SpaceOrTab (at 1 2 1) (at 1 3 2))
    ++ around n.CodeFenced (at 1 3 2) (at 2 1 6)
    (around n.CodeFencedFence (at 1 3 2) (at 1 6 5)
    (pair n.CodeFencedFenceSequence (at 1 3 2) (at 1 6 5))
    ++ pair n.LineEnding (at 1 6 5) (at 2 1 6))))
    ++ pair n.BlankLineEnding (at 2 1 6) (at 3 1 7)
    ++ around n.Paragraph (at 3 1 7) (at 3 2 8)
    (chunk (at 3 1 7) (at 3 2 8))

abbrev pub left_fence_tree : t.Blocks
left_fence_tree =
    t.More (t.ListOf 45 (t.More (t.Item 45 [] (t.More (t.Fence 96 None None (line 0 ([]) ∷ []) false) t.End)) t.End))
    (t.More (t.Paragraph (codes "b" ∷ [])) t.End)

row-left-fence : Row left_fence_text left_fence_events left_fence_tree
unfolding spelled keeps_grammar kind_at
row-left-fence = (refl, refl, refl, search rules, search rules, search rules, search rules)

-- a tab that a prefix, the indent of a fence and a line share: ">  ~~~\n>\ta"
abbrev pub shared_tab_text : List ℕ
shared_tab_text = codes ">  ~~~" ++ 10 ∷ codes ">" ++ 9 ∷ codes "a"

abbrev pub shared_tab_events : List Event
shared_tab_events =
    around n.BlockQuote (at 1 1 0) (at 2 6 10)
    (around n.BlockQuotePrefix (at 1 1 0) (at 1 3 2)
    (pair n.BlockQuoteMarker (at 1 1 0) (at 1 2 1)
    ++ pair n.SpaceOrTab (at 1 2 1) (at 1 3 2))
    ++ pair n.SpaceOrTab (at 1 3 2) (at 1 4 3)
    ++ around n.CodeFenced (at 1 4 3) (at 2 6 10)
    (around n.CodeFencedFence (at 1 4 3) (at 1 7 6)
    (pair n.CodeFencedFenceSequence (at 1 4 3) (at 1 7 6))
    ++ pair n.LineEnding (at 1 7 6) (at 2 1 7)
    ++ around n.BlockQuotePrefix (at 2 1 7) (within_tab 2 3 8 1)
    (pair n.BlockQuoteMarker (at 2 1 7) (at 2 2 8)
    ++ pair n.SpaceOrTab (at 2 2 8) (within_tab 2 3 8 1))
    ++ pair n.SpaceOrTab (within_tab 2 3 8 1) (within_tab 2 4 8 2)
    ++ pair n.CodeFlowChunk (within_tab 2 4 8 2) (at 2 6 10)))

abbrev pub shared_tab_tree : t.Blocks
shared_tab_tree = t.More (t.Quote None (t.More (t.Fence 126 None None (line 1 (codes "a") ∷ []) false) t.End)) t.End

row-shared-tab : Row shared_tab_text shared_tab_events shared_tab_tree
unfolding spelled keeps_grammar kind_at
row-shared-tab = (refl, refl, refl, search rules, search rules, search rules, search rules)

-- code after tabs that are cut: ">\t\ta"
abbrev pub tabs_text : List ℕ
tabs_text = codes ">" ++ 9 ∷ 9 ∷ codes "a"

abbrev pub tabs_events : List Event
tabs_events =
    around n.BlockQuote (at 1 1 0) (at 1 10 4)
    (around n.BlockQuotePrefix (at 1 1 0) (within_tab 1 3 1 1)
    (pair n.BlockQuoteMarker (at 1 1 0) (at 1 2 1)
    ++ pair n.SpaceOrTab (at 1 2 1) (within_tab 1 3 1 1))
    ++ around n.CodeIndented (within_tab 1 3 1 1) (at 1 10 4)
    (pair n.SpaceOrTab (within_tab 1 3 1 1) (within_tab 1 7 2 2)
    ++ pair n.CodeFlowChunk (within_tab 1 7 2 2) (at 1 10 4)))

abbrev pub tabs_tree : t.Blocks
tabs_tree = t.More (t.Quote None (t.More (t.Code (line 2 (codes "a") ∷ [])) t.End)) t.End

row-tabs : Row tabs_text tabs_events tabs_tree
unfolding spelled keeps_grammar kind_at
row-tabs = (refl, refl, refl, search rules, search rules, search rules, search rules)

-- a definition over four lines of a quote: "> [a\n> b]: c\n> 'd\n>e'"
abbrev pub definition_text : List ℕ
definition_text = codes "> [a" ++ 10 ∷ codes "> b]: c" ++ 10 ∷ codes "> 'd" ++ 10 ∷ codes ">e'"

abbrev pub definition_events : List Event
definition_events =
    around n.BlockQuote (at 1 1 0) (at 4 4 21)
    (around n.BlockQuotePrefix (at 1 1 0) (at 1 3 2)
    (pair n.BlockQuoteMarker (at 1 1 0) (at 1 2 1)
    ++ pair n.SpaceOrTab (at 1 2 1) (at 1 3 2))
    ++ around n.Definition (at 1 3 2) (at 4 4 21)
    (around n.DefinitionLabel (at 1 3 2) (at 2 5 9)
    (pair n.DefinitionLabelMarker (at 1 3 2) (at 1 4 3)
    ++ around n.DefinitionLabelString (at 1 4 3) (at 2 4 8)
    (string_chunk (at 1 4 3) (at 2 1 5)
    ++ around n.BlockQuotePrefix (at 2 1 5) (at 2 3 7)
    (pair n.BlockQuoteMarker (at 2 1 5) (at 2 2 6)
    ++ pair n.SpaceOrTab (at 2 2 6) (at 2 3 7))
    ++ string_chunk (at 2 3 7) (at 2 4 8))
    ++ pair n.DefinitionLabelMarker (at 2 4 8) (at 2 5 9))
    ++ pair n.DefinitionMarker (at 2 5 9) (at 2 6 10)
    ++ pair n.SpaceOrTab (at 2 6 10) (at 2 7 11)
    ++ around n.DefinitionDestination (at 2 7 11) (at 2 8 12)
    (around n.DefinitionDestinationRaw (at 2 7 11) (at 2 8 12)
    (around n.DefinitionDestinationString (at 2 7 11) (at 2 8 12)
    (string_chunk (at 2 7 11) (at 2 8 12))))
    ++ pair n.LineEnding (at 2 8 12) (at 3 1 13)
    ++ around n.BlockQuotePrefix (at 3 1 13) (at 3 3 15)
    (pair n.BlockQuoteMarker (at 3 1 13) (at 3 2 14)
    ++ pair n.SpaceOrTab (at 3 2 14) (at 3 3 15))
    ++ around n.DefinitionTitle (at 3 3 15) (at 4 4 21)
    (pair n.DefinitionTitleMarker (at 3 3 15) (at 3 4 16)
    ++ around n.DefinitionTitleString (at 3 4 16) (at 4 3 20)
    (string_chunk (at 3 4 16) (at 4 1 18)
    ++ around n.BlockQuotePrefix (at 4 1 18) (at 4 2 19)
    (pair n.BlockQuoteMarker (at 4 1 18) (at 4 2 19))
    ++ string_chunk (at 4 2 19) (at 4 3 20))
    ++ pair n.DefinitionTitleMarker (at 4 3 20) (at 4 4 21))))

abbrev pub definition_tree : t.Blocks
definition_tree =
    t.More
    (t.Quote None
    (t.More (t.Definition (codes "a" ∷ codes "b" ∷ []) (codes "c") (Some (codes "d" ∷ codes "e" ∷ []))) t.End))
    t.End

row-definition : Row definition_text definition_events definition_tree
unfolding spelled keeps_grammar kind_at
row-definition = (refl, refl, refl, search rules, search rules, search rules, search rules)

-- a footnote definition with two paragraphs: "[^a]: b\n\n    c"
abbrev pub footnote_text : List ℕ
footnote_text = codes "[^a]: b" ++ 10 ∷ 10 ∷ codes "    c"

abbrev pub footnote_events : List Event
footnote_events =
    around n.GfmFootnoteDefinition (at 1 1 0) (at 3 6 14)
    (around n.GfmFootnoteDefinitionPrefix (at 1 1 0) (at 1 7 6)
    (around n.GfmFootnoteDefinitionLabel (at 1 1 0) (at 1 5 4)
    (pair n.GfmFootnoteDefinitionLabelMarker (at 1 1 0) (at 1 2 1)
    ++ pair n.GfmFootnoteDefinitionMarker (at 1 2 1) (at 1 3 2)
    ++ around n.GfmFootnoteDefinitionLabelString (at 1 3 2) (at 1 4 3)
    (string_chunk (at 1 3 2) (at 1 4 3))
    ++ pair n.GfmFootnoteDefinitionLabelMarker (at 1 4 3) (at 1 5 4))
    ++ pair n.DefinitionMarker (at 1 5 4) (at 1 6 5)
    ++ pair n.SpaceOrTab (at 1 6 5) (at 1 7 6))
    ++ around n.Paragraph (at 1 7 6) (at 1 8 7)
    (chunk (at 1 7 6) (at 1 8 7))
    ++ pair n.LineEnding (at 1 8 7) (at 2 1 8)
    ++ pair n.BlankLineEnding (at 2 1 8) (at 3 1 9)
    ++ pair n.SpaceOrTab (at 3 1 9) (at 3 5 13)
    ++ around n.Paragraph (at 3 5 13) (at 3 6 14)
    (chunk (at 3 5 13) (at 3 6 14)))

abbrev pub footnote_tree : t.Blocks
footnote_tree =
    t.More
    (t.Footnote (codes "a") (t.More (t.Paragraph (codes "b" ∷ [])) (t.More (t.Paragraph (codes "c" ∷ [])) t.End))) t.End

row-footnote : Row footnote_text footnote_events footnote_tree
unfolding spelled keeps_grammar kind_at
row-footnote = (refl, refl, refl, search rules, search rules, search rules, search rules)

-- a line of a paragraph that begins within the tab of its item's indent: "- a\n\tb"
abbrev pub cut_chunk_text : List ℕ
cut_chunk_text = codes "- a" ++ 10 ∷ 9 ∷ codes "b"

abbrev pub cut_chunk_events : List Event
cut_chunk_events =
    around n.ListUnordered (at 1 1 0) (at 2 6 6)
    (around n.ListItem (at 1 1 0) (at 2 6 6)
    (around n.ListItemPrefix (at 1 1 0) (at 1 3 2)
    (pair n.ListItemMarker (at 1 1 0) (at 1 2 1)
    ++ pair n.SpaceOrTab (at 1 2 1) (at 1 3 2))
    ++ around n.Paragraph (at 1 3 2) (at 2 6 6)
    (chunk (at 1 3 2) (at 2 1 4)
    ++ pair n.SpaceOrTab (at 2 1 4) (within_tab 2 3 4 2)
    ++ chunk (within_tab 2 3 4 2) (at 2 6 6))))

abbrev pub cut_chunk_tree : t.Blocks
cut_chunk_tree =
    t.More (t.ListOf 45 (t.More (t.Item 45 [] (t.More (t.Paragraph (codes "a" ∷ codes "b" ∷ [])) t.End)) t.End)) t.End

row-cut-chunk : Row cut_chunk_text cut_chunk_events cut_chunk_tree
unfolding spelled keeps_grammar kind_at
row-cut-chunk = (refl, refl, refl, search rules, search rules, search rules, search rules)

-- a setext heading after a definition in a quote: "> [a]: b\n> c\n> ="
abbrev pub after_definition_text : List ℕ
after_definition_text = codes "> [a]: b" ++ 10 ∷ codes "> c" ++ 10 ∷ codes "> ="

abbrev pub after_definition_events : List Event
after_definition_events =
    around n.BlockQuote (at 1 1 0) (at 3 4 16)
    (around n.BlockQuotePrefix (at 1 1 0) (at 1 3 2)
    (pair n.BlockQuoteMarker (at 1 1 0) (at 1 2 1)
    ++ pair n.SpaceOrTab (at 1 2 1) (at 1 3 2))
    ++ around n.Definition (at 1 3 2) (at 1 9 8)
    (around n.DefinitionLabel (at 1 3 2) (at 1 6 5)
    (pair n.DefinitionLabelMarker (at 1 3 2) (at 1 4 3)
    ++ around n.DefinitionLabelString (at 1 4 3) (at 1 5 4)
    (string_chunk (at 1 4 3) (at 1 5 4))
    ++ pair n.DefinitionLabelMarker (at 1 5 4) (at 1 6 5))
    ++ pair n.DefinitionMarker (at 1 6 5) (at 1 7 6)
    ++ pair n.SpaceOrTab (at 1 7 6) (at 1 8 7)
    ++ around n.DefinitionDestination (at 1 8 7) (at 1 9 8)
    (around n.DefinitionDestinationRaw (at 1 8 7) (at 1 9 8)
    (around n.DefinitionDestinationString (at 1 8 7) (at 1 9 8)
    (string_chunk (at 1 8 7) (at 1 9 8)))))
    ++ pair n.LineEnding (at 1 9 8) (at 2 1 9)
    ++ around n.BlockQuotePrefix (at 2 1 9) (at 2 3 11)
    (pair n.BlockQuoteMarker (at 2 1 9) (at 2 2 10)
    ++ pair n.SpaceOrTab (at 2 2 10) (at 2 3 11))
    ++ around n.HeadingSetext (at 2 3 11) (at 3 4 16)
    (around n.HeadingSetextText (at 2 3 11) (at 2 4 12)
    (chunk (at 2 3 11) (at 2 4 12))
    ++ pair n.LineEnding (at 2 4 12) (at 3 1 13)
    ++ around n.BlockQuotePrefix (at 3 1 13) (at 3 3 15)
    (pair n.BlockQuoteMarker (at 3 1 13) (at 3 2 14)
    ++ pair n.SpaceOrTab (at 3 2 14) (at 3 3 15))
    ++ around n.HeadingSetextUnderline (at 3 3 15) (at 3 4 16)
    (pair n.HeadingSetextUnderlineSequence (at 3 3 15) (at 3 4 16))))

abbrev pub after_definition_tree : t.Blocks
after_definition_tree =
    t.More
    (t.Quote None
    (t.More (t.Definition (codes "a" ∷ []) (codes "b") None) (t.More (t.Heading 1 (codes "c" ∷ [])) t.End)))
    t.End

row-following-definition : Row after_definition_text after_definition_events after_definition_tree
unfolding spelled keeps_grammar kind_at
row-following-definition = (refl, refl, refl, search rules, search rules, search rules, search rules)

-- a table after a paragraph in a quote, its head a lazy line: "> a\nb|c\n> -|-"
abbrev pub lazy_head_text : List ℕ
lazy_head_text = codes "> a" ++ 10 ∷ codes "b|c" ++ 10 ∷ codes "> -|-"

abbrev pub lazy_head_events : List Event
lazy_head_events =
    around n.BlockQuote (at 1 1 0) (at 3 6 13)
    (around n.BlockQuotePrefix (at 1 1 0) (at 1 3 2)
    (pair n.BlockQuoteMarker (at 1 1 0) (at 1 2 1)
    ++ pair n.SpaceOrTab (at 1 2 1) (at 1 3 2))
    ++ around n.Paragraph (at 1 3 2) (at 1 4 3)
    (chunk (at 1 3 2) (at 1 4 3))
    ++ pair n.LineEnding (at 1 4 3) (at 2 1 4)
    ++ around n.GfmTable (at 2 1 4) (at 3 6 13)
    (around n.GfmTableHead (at 2 1 4) (at 3 6 13)
    (around n.GfmTableRow (at 2 1 4) (at 2 4 7)
    (around n.GfmTableCell (at 2 1 4) (at 2 2 5)
    (around n.GfmTableCellText (at 2 1 4) (at 2 2 5)
    (chunk (at 2 1 4) (at 2 2 5)))
    ++ around n.GfmTableCell (at 2 2 5) (at 2 4 7)
    (pair n.GfmTableCellDivider (at 2 2 5) (at 2 3 6)
    ++ around n.GfmTableCellText (at 2 3 6) (at 2 4 7)
    (chunk (at 2 3 6) (at 2 4 7))))
    ++ pair n.LineEnding (at 2 4 7) (at 3 1 8)
    ++ around n.BlockQuotePrefix (at 3 1 8) (at 3 3 10)
    (pair n.BlockQuoteMarker (at 3 1 8) (at 3 2 9)
    ++ pair n.SpaceOrTab (at 3 2 9) (at 3 3 10))
    ++ around n.GfmTableDelimiterRow (at 3 3 10) (at 3 6 13)
    (around n.GfmTableDelimiterCell (at 3 3 10) (at 3 4 11)
    (around n.GfmTableDelimiterCellValue (at 3 3 10) (at 3 4 11)
    (pair n.GfmTableDelimiterFiller (at 3 3 10) (at 3 4 11)))
    ++ around n.GfmTableDelimiterCell (at 3 4 11) (at 3 6 13)
    (pair n.GfmTableCellDivider (at 3 4 11) (at 3 5 12)
    ++ around n.GfmTableDelimiterCellValue (at 3 5 12) (at 3 6 13)
    (pair n.GfmTableDelimiterFiller (at 3 5 12) (at 3 6 13)))))))

abbrev pub lazy_head_tree : t.Blocks
lazy_head_tree =
    t.More
    (t.Quote None
    (t.More (t.Paragraph (codes "a" ∷ [])) (t.More (t.Table (codes "-|-") ((codes "b" ∷ codes "c" ∷ []) ∷ [])) t.End)))
    t.End

row-lazy-head : Row lazy_head_text lazy_head_events lazy_head_tree
unfolding spelled keeps_grammar kind_at
row-lazy-head = (refl, refl, refl, search rules, search rules, search rules, search rules)

-- indented code in a quote, with a line that is blank but for what is left of two tabs: ">     a\n>\t\t\n>     b"
abbrev pub blank_code_text : List ℕ
blank_code_text = codes ">     a" ++ 10 ∷ codes ">" ++ 9 ∷ 9 ∷ 10 ∷ codes ">     b"

abbrev pub blank_code_events : List Event
blank_code_events =
    around n.BlockQuote (at 1 1 0) (at 3 8 19)
    (around n.BlockQuotePrefix (at 1 1 0) (at 1 3 2)
    (pair n.BlockQuoteMarker (at 1 1 0) (at 1 2 1)
    ++ pair n.SpaceOrTab (at 1 2 1) (at 1 3 2))
    ++ around n.CodeIndented (at 1 3 2) (at 3 8 19)
    (pair n.SpaceOrTab (at 1 3 2) (at 1 7 6)
    ++ pair n.CodeFlowChunk (at 1 7 6) (at 1 8 7)
    ++ pair n.LineEnding (at 1 8 7) (at 2 1 8)
    ++ around n.BlockQuotePrefix (at 2 1 8) (within_tab 2 3 9 1)
    (pair n.BlockQuoteMarker (at 2 1 8) (at 2 2 9)
    ++ pair n.SpaceOrTab (at 2 2 9) (within_tab 2 3 9 1))
    ++ pair n.SpaceOrTab (within_tab 2 3 9 1) (within_tab 2 7 10 2)
    ++ pair n.CodeFlowChunk (within_tab 2 7 10 2) (at 2 9 11)
    ++ pair n.LineEnding (at 2 9 11) (at 3 1 12)
    ++ around n.BlockQuotePrefix (at 3 1 12) (at 3 3 14)
    (pair n.BlockQuoteMarker (at 3 1 12) (at 3 2 13)
    ++ pair n.SpaceOrTab (at 3 2 13) (at 3 3 14))
    ++ pair n.SpaceOrTab (at 3 3 14) (at 3 7 18)
    ++ pair n.CodeFlowChunk (at 3 7 18) (at 3 8 19)))

abbrev pub blank_code_tree : t.Blocks
blank_code_tree =
    t.More (t.Quote None (t.More (t.Code (line 0 (codes "a") ∷ line 2 [] ∷ line 0 (codes "b") ∷ [])) t.End)) t.End

row-blank-code : Row blank_code_text blank_code_events blank_code_tree
unfolding spelled keeps_grammar kind_at
row-blank-code = (refl, refl, refl, search rules, search rules, search rules, search rules)

-- HTML in a quote, its first line in two pieces, of which one begins within a tab: ">\t<a>"
abbrev pub cut_html_text : List ℕ
cut_html_text = codes ">" ++ 9 ∷ codes "<a>"

abbrev pub cut_html_events : List Event
cut_html_events =
    around n.BlockQuote (at 1 1 0) (at 1 8 5)
    (around n.BlockQuotePrefix (at 1 1 0) (within_tab 1 3 1 1)
    (pair n.BlockQuoteMarker (at 1 1 0) (at 1 2 1)
    ++ pair n.SpaceOrTab (at 1 2 1) (within_tab 1 3 1 1))
    ++ around n.HtmlFlow (within_tab 1 3 1 1) (at 1 8 5)
    (pair n.HtmlFlowData (within_tab 1 3 1 1) (at 1 8 5)))

abbrev pub cut_html_tree : t.Blocks
cut_html_tree = t.More (t.Quote None (t.More (t.Html (line 2 (codes "<a>") ∷ [])) t.End)) t.End

row-cut-html : Row cut_html_text cut_html_events cut_html_tree
unfolding spelled keeps_grammar kind_at
row-cut-html = (refl, refl, refl, search rules, search rules, search rules, search rules)
