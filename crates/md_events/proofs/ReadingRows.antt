-- Events that show a thing twice, or name a list wrongly: none is read as the tree of its text.
use Rattle.std.proofs.Common.{◌≡◌, ℕ, ◌+◌, false, List, [], ◌∷◌, ◌++◌, refl, codes}
use Rattle.std.specs.Prelude.{Some, None}
use Rattle.md_engine.specs.declared.event.Point.{Point}
use Rattle.md_engine.specs.declared.event.Event.{Event}
use Rattle.md_engine.specs.declared.event.Name.{Name}
use Rattle.md_engine.specs.declared.event.Name.TheVariants as n
use Rattle.md_events.specs.Events.Nested.{around, pair}
use Rattle.md_events.specs.Events.Spelled.{spelled}
use Rattle.md_meaning.specs.Tree as t

-- a place on the first line
abbrev place : ℕ → Point
place index = record { line = 1; column = index + 1; index = index; vs = 0 }

-- a part from a byte to a byte
abbrev part : Name → ℕ → ℕ → List Event
part name first end = pair name (place first) (place end)

-- the same around others
abbrev whole : Name → ℕ → ℕ → List Event → List Event
whole name first end inside = around name (place first) (place end) inside

abbrev one : t.Block → t.Blocks
one block = t.More block t.End

-- Lists.

-- a list of this name around a bullet: "- a"
abbrev bullets : Name → List Event
bullets name =
    whole name 0 3
    (whole n.ListItem 0 3
    (whole n.ListItemPrefix 0 2 (part n.ListItemMarker 0 1 ++ part n.SpaceOrTab 1 2)
    ++ whole n.Paragraph 2 3 (part n.Data 2 3)))

abbrev bullets_tree : ℕ → t.Blocks
bullets_tree marker = one (t.ListOf marker (one (t.Item 45 [] (one (t.Paragraph (codes "a" ∷ []))))))

-- it has the item's marker by its own name, and none by the other
bullets-unordered : spelled (bullets n.ListUnordered) (codes "- a") ≡ bullets_tree 45
unfolding spelled
bullets-unordered = refl

bullets-ordered : spelled (bullets n.ListOrdered) (codes "- a") ≡ bullets_tree 0
unfolding spelled
bullets-ordered = refl

-- a list of this name around a numbered item: "1. a"
abbrev numbers : Name → List Event
numbers name =
    whole name 0 4
    (whole n.ListItem 0 4
    (whole n.ListItemPrefix 0 3 (part n.ListItemValue 0 1 ++ part n.ListItemMarker 1 2 ++ part n.SpaceOrTab 2 3)
    ++ whole n.Paragraph 3 4 (part n.Data 3 4)))

abbrev numbers_tree : ℕ → t.Blocks
numbers_tree marker = one (t.ListOf marker (one (t.Item 46 (codes "1") (one (t.Paragraph (codes "a" ∷ []))))))

-- and so it is with these
numbers-ordered : spelled (numbers n.ListOrdered) (codes "1. a") ≡ numbers_tree 46
unfolding spelled
numbers-ordered = refl

numbers-unordered : spelled (numbers n.ListUnordered) (codes "1. a") ≡ numbers_tree 0
unfolding spelled
numbers-unordered = refl

-- What is said twice: the first is.

-- the digits of an item, in two parts: "12. a"
digits-twice :
    spelled
    (whole n.ListItem 0 5
    (whole n.ListItemPrefix 0 4
    (part n.ListItemValue 0 1 ++ part n.ListItemValue 1 2 ++ part n.ListItemMarker 2 3 ++ part n.SpaceOrTab 3 4)
    ++ whole n.Paragraph 4 5 (part n.Data 4 5)))
    (codes "12. a")
    ≡ one (t.Item 46 (codes "1") (one (t.Paragraph (codes "a" ∷ []))))
unfolding spelled
digits-twice = refl

-- its marker: "1.) a"
marker-twice :
    spelled
    (whole n.ListItem 0 5
    (whole n.ListItemPrefix 0 4
    (part n.ListItemValue 0 1 ++ part n.ListItemMarker 1 2 ++ part n.ListItemMarker 2 3 ++ part n.SpaceOrTab 3 4)
    ++ whole n.Paragraph 4 5 (part n.Data 4 5)))
    (codes "1.) a")
    ≡ one (t.Item 46 (codes "1") (one (t.Paragraph (codes "a" ∷ []))))
unfolding spelled
marker-twice = refl

-- the label of a footnote: "[^ab]: c"
footnote-twice :
    spelled
    (whole n.GfmFootnoteDefinition 0 8
    (whole n.GfmFootnoteDefinitionPrefix 0 7
    (part n.GfmFootnoteDefinitionLabelString 2 3 ++ part n.GfmFootnoteDefinitionLabelString 3 4)
    ++ whole n.Paragraph 7 8 (part n.Data 7 8)))
    (codes "[^ab]: c")
    ≡ one (t.Footnote (codes "a") (one (t.Paragraph (codes "c" ∷ []))))
unfolding spelled
footnote-twice = refl

-- the info of a fence, where it should have a meta: "``` a b"
info-twice :
    spelled
    (whole n.CodeFenced 0 7
    (whole n.CodeFencedFence 0 7
    (part n.CodeFencedFenceSequence 0 3
    ++ part n.SpaceOrTab 3 4
    ++ part n.CodeFencedFenceInfo 4 5
    ++ part n.SpaceOrTab 5 6
    ++ part n.CodeFencedFenceInfo 6 7)))
    (codes "``` a b")
    ≡ one (t.Fence 96 (Some (codes "a")) None [] false)
unfolding spelled
info-twice = refl

-- its meta, in two parts: "``` a bc"
meta-twice :
    spelled
    (whole n.CodeFenced 0 8
    (whole n.CodeFencedFence 0 8
    (part n.CodeFencedFenceSequence 0 3
    ++ part n.SpaceOrTab 3 4
    ++ part n.CodeFencedFenceInfo 4 5
    ++ part n.SpaceOrTab 5 6
    ++ part n.CodeFencedFenceMeta 6 7 ++ part n.CodeFencedFenceMeta 7 8)))
    (codes "``` a bc")
    ≡ one (t.Fence 96 (Some (codes "a")) (Some (codes "b")) [] false)
unfolding spelled
meta-twice = refl

-- the text of a heading, in two parts: "# a b"
text-twice :
    spelled
    (whole n.HeadingAtx 0 5
    (part n.HeadingAtxSequence 0 1
    ++ part n.SpaceOrTab 1 2
    ++ part n.HeadingAtxText 2 3
    ++ part n.SpaceOrTab 3 4
    ++ part n.HeadingAtxText 4 5))
    (codes "# a b")
    ≡ one (t.Heading 1 (codes "a" ∷ []))
unfolding spelled
text-twice = refl

-- the label, the destination and the title of a definition: "[ab]: cd 'ef'"
definition-twice :
    spelled
    (whole n.Definition 0 13
    (part n.DefinitionLabelString 1 2 ++ part n.DefinitionLabelString 2 3
    ++ part n.DefinitionDestinationString 6 7 ++ part n.DefinitionDestinationString 7 8
    ++ whole n.DefinitionTitle 9 13 (part n.DefinitionTitleString 10 11 ++ part n.DefinitionTitleString 11 12)))
    (codes "[ab]: cd 'ef'")
    ≡ one (t.Definition (codes "a" ∷ []) (codes "c") (Some (codes "e" ∷ [])))
unfolding spelled
definition-twice = refl

-- a title after an empty one: "[a]: b '' 'c'"
title-twice :
    spelled
    (whole n.Definition 0 13
    (part n.DefinitionLabelString 1 2
    ++ part n.DefinitionDestinationString 5 6
    ++ part n.DefinitionTitle 7 9
    ++ whole n.DefinitionTitle 10 13 (part n.DefinitionTitleString 11 12)))
    (codes "[a]: b '' 'c'")
    ≡ one (t.Definition (codes "a" ∷ []) (codes "b") (Some ([] ∷ [])))
unfolding spelled
title-twice = refl

-- the delimiter row of a table, and the text of a cell: "|ab|--"
cell-twice :
    spelled
    (whole n.GfmTable 0 6
    (whole n.GfmTableRow 0 4 (whole n.GfmTableCell 0 4 (part n.GfmTableCellText 1 2 ++ part n.GfmTableCellText 2 3))
    ++ part n.GfmTableDelimiterRow 4 5 ++ part n.GfmTableDelimiterRow 4 6))
    (codes "|ab|--")
    ≡ one (t.Table (codes "-") ((codes "a" ∷ []) ∷ []))
unfolding spelled
cell-twice = refl
