-- Small texts with items, each with its events and the lists around its items.
use Rattle.std.proofs.Common.{◌≡◌, ℕ, ◌+◌, Bool, true, false, cond, List, [], ◌∷◌, ◌++◌, refl, codes, rules}
use Rattle.md_engine.specs.declared.event.Event.{Event}
use Rattle.md_engine.specs.declared.event.Name.{Name}
use Rattle.md_engine.specs.declared.event.Name.TheVariants as n
use Rattle.md_engine.specs.declared.event.Point.{Point}
use Rattle.md_containers.specs.ItemsHeld.{ItemsHeld}
use Rattle.md_containers.specs.ItemsAllowed.{ItemsAllowed, root}
use Rattle.md_containers.specs.Listed.{listed}
use Rattle.md_containers.specs.Unlisted.{keeps_unlisted}
use Rattle.md_events.specs.Events.Grammar.{plain_text}
use Rattle.md_events.specs.Events.Nested.{around, pair}

-- Points are known from their bytes alone.
abbrev at : ℕ → Point
at index = record { line = 1; column = index + 1; index = index; vs = 0 }

abbrev is_list : Name → Bool
is_list n.ListOrdered = true
is_list n.ListUnordered = true
is_list _ = false

abbrev without_lists : List Event → List Event
without_lists [] = []
without_lists (e ∷ es) = cond (is_list e.name) (without_lists es) (e ∷ without_lists es)

-- an item with a bullet, of digits and a marker, a paragraph of a line, a list, an ending
abbrev bullet : ℕ → ℕ → List Event → List Event
bullet i j inside =
    around n.ListItem (at i) (at j)
    (around n.ListItemPrefix (at i) (at (i + 2))
    (pair n.ListItemMarker (at i) (at (i + 1))
    ++ pair n.SpaceOrTab (at (i + 1)) (at (i + 2)))
    ++ inside)

abbrev ordered : ℕ → ℕ → List Event → List Event
ordered i j inside =
    around n.ListItem (at i) (at j)
    (around n.ListItemPrefix (at i) (at (i + 3))
    (pair n.ListItemValue (at i) (at (i + 1))
    ++ pair n.ListItemMarker (at (i + 1)) (at (i + 2))
    ++ pair n.SpaceOrTab (at (i + 2)) (at (i + 3)))
    ++ inside)

abbrev line : ℕ → List Event
line i = around n.Paragraph (at i) (at (i + 1)) (pair n.Data (at i) (at (i + 1)))

abbrev list : ℕ → ℕ → List Event → List Event
list i j items = around n.ListUnordered (at i) (at j) items

abbrev ending : ℕ → List Event
ending i = pair n.LineEnding (at i) (at (i + 1))

abbrev blank : ℕ → List Event
blank i = pair n.BlankLineEnding (at i) (at (i + 1))

abbrev prefix : ℕ → List Event
prefix i =
    around n.BlockQuotePrefix (at i) (at (i + 2))
    (pair n.BlockQuoteMarker (at i) (at (i + 1)) ++ pair n.SpaceOrTab (at (i + 1)) (at (i + 2)))

-- The events of a text with its lists are those without, listed; and those without are as it is asked of them.
abbrev IsRow : List ℕ → List Event → Type 0
IsRow text events =
    (listed text (without_lists events) ≡ events) × ItemsAllowed text root (without_lists events)
    × ItemsHeld [] (without_lists events) × (keeps_unlisted plain_text (without_lists events) ≡ true)

-- one list
row-same : IsRow (codes "- a" ++ 10 ∷ codes "- b") (list 0 7 (bullet 0 3 (line 2) ++ ending 3 ++ bullet 4 7 (line 6)))
unfolding keeps_unlisted
row-same = (refl, search rules, search rules, refl)

-- two lists, by their markers (CommonMark 5.3)
row-markers : IsRow (codes "- a" ++ 10 ∷ codes "+ b")
    (list 0 3 (bullet 0 3 (line 2)) ++ ending 3 ++ list 4 7 (bullet 4 7 (line 6)))
unfolding keeps_unlisted
row-markers = (refl, search rules, search rules, refl)

row-ordered : IsRow (codes "1. a" ++ 10 ∷ codes "2) b")
    (around n.ListOrdered (at 0) (at 4) (ordered 0 4 (line 3)) ++ ending 4
    ++ around n.ListOrdered (at 5) (at 9) (ordered 5 9 (line 8)))
unfolding keeps_unlisted
row-ordered = (refl, search rules, search rules, refl)

-- a list continues over blank lines, and ends before those after its last item
row-blank : IsRow (codes "- a" ++ 10 ∷ 10 ∷ codes "- b" ++ 10 ∷ 10 ∷ codes "c")
    (list 0 8 (bullet 0 3 (line 2) ++ ending 3 ++ blank 4 ++ bullet 5 8 (line 7)) ++ ending 8 ++ blank 9 ++ line 10)
unfolding keeps_unlisted
row-blank = (refl, search rules, search rules, refl)

-- prefixes of quotes are in the list
row-quote : IsRow (codes "> - a" ++ 10 ∷ codes "> - b")
    (around n.BlockQuote (at 0) (at 11)
    (prefix 0 ++ list 2 11 (bullet 2 5 (line 4) ++ ending 5 ++ prefix 6 ++ bullet 8 11 (line 10))))
unfolding keeps_unlisted
row-quote = (refl, search rules, search rules, refl)

-- a quote parts lists
row-parted : IsRow (codes "- a" ++ 10 ∷ codes "> b" ++ 10 ∷ codes "- c")
    (list 0 3 (bullet 0 3 (line 2)) ++ ending 3 ++ around n.BlockQuote (at 4) (at 7) (prefix 4 ++ line 6) ++ ending 7
    ++ list 8 11 (bullet 8 11 (line 10)))
unfolding keeps_unlisted
row-parted = (refl, search rules, search rules, refl)

-- and so does a break
row-break : IsRow (codes "- a" ++ 10 ∷ codes "***" ++ 10 ∷ codes "- b")
    (list 0 3 (bullet 0 3 (line 2)) ++ ending 3
    ++ around n.ThematicBreak (at 4) (at 7) (pair n.ThematicBreakSequence (at 4) (at 7)) ++ ending 7
    ++ list 8 11 (bullet 8 11 (line 10)))
unfolding keeps_unlisted
row-break = (refl, search rules, search rules, refl)

-- items in items have lists of their own
row-nested : IsRow (codes "- - a" ++ 10 ∷ codes "- - b")
    (list 0 11
    (bullet 0 5 (list 2 5 (bullet 2 5 (line 4))) ++ ending 5 ++ bullet 6 11 (list 8 11 (bullet 8 11 (line 10)))))
unfolding keeps_unlisted
row-nested = (refl, search rules, search rules, refl)

-- a list in an item is another than the one after that item
row-following : IsRow (codes "+ - a" ++ 10 ∷ codes "- b")
    (list 0 5 (bullet 0 5 (list 2 5 (bullet 2 5 (line 4)))) ++ ending 5 ++ list 6 9 (bullet 6 9 (line 8)))
unfolding keeps_unlisted
row-following = (refl, search rules, search rules, refl)
