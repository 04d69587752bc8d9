-- Which line endings end a blank line.
--
-- A line is blank if nothing but whitespace is on it after the prefixes of its containers, and no leaf continues over
-- it. Its ending is a `BlankLineEnding`; any other is a `LineEnding`.
use Rattle.std.specs.Prelude.{Bool, true, false, ◌&&◌, ◌||◌, not, List, [], ◌∷◌}
use Rattle.md_engine.specs.declared.event.Event.{Event}
use Rattle.md_engine.specs.declared.event.Kind.{Kind}
use Rattle.md_engine.specs.declared.event.Kind.TheVariants.{Enter, Exit}
use Rattle.md_engine.specs.declared.event.Name.{Name}
use Rattle.md_events.specs.Events.Names.{facts}
pub use Rattle.md_events.specs.Events.Names.{OnLine, IsLeaf, Ends, IsOther}

-- What a name says of the line on which it is.
abbrev pub on_line : Name → OnLine
on_line name = (facts name).line

-- where one is in a text: whether in a leaf, and whether one was on the line before here
pub record EndingPlace : Type 0 where
  pub in_leaf : Bool
  pub after_leaf : Bool

-- whether the line holds a leaf, so far
abbrev pub is_filled : EndingPlace → Bool
is_filled s = s.in_leaf || s.after_leaf

abbrev pub spot_after : Kind → OnLine → EndingPlace → EndingPlace
spot_after Enter IsLeaf s = record { in_leaf = true; after_leaf = true }
spot_after Exit IsLeaf s = record s { in_leaf = false }
spot_after Enter (Ends blank) s = s
spot_after Exit (Ends blank) s = record s { after_leaf = false }
spot_after Enter IsOther s = record s { after_leaf = is_filled s }
spot_after Exit IsOther s = s

-- whether an ending has the right name
abbrev pub ends_as_begun : Kind → OnLine → EndingPlace → Bool
ends_as_begun Enter (Ends true) s = not (is_filled s)
ends_as_begun Enter (Ends false) s = is_filled s
ends_as_begun kind x s = true

abbrev pub endings_are_right_from : EndingPlace → List Event → Bool
endings_are_right_from s [] = true
endings_are_right_from s (e ∷ es) =
    ends_as_begun e.kind (on_line e.name) s && endings_are_right_from (spot_after e.kind (on_line e.name) s) es

-- at the begin of a line, outside of leaves
abbrev pub line_start : EndingPlace
line_start = record { in_leaf = false; after_leaf = false }

abbrev pub endings_are_right : List Event → Bool
endings_are_right events = endings_are_right_from line_start events
