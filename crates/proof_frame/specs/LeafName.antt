-- The names of the leaves that take a line, and lists of them: which there are, and nothing of what they do.
use Rattle.std.specs.Prelude.{Bool, ℕ, ◌==◌, if◌then◌else◌, List, [], ◌∷◌, Option, Some, None}

pub data LeafName : Type 0 where
  CodeIndented : LeafName
  CodeFurther : LeafName
  Fence : LeafName
  FenceFurther : LeafName
  HtmlFlow : LeafName
  HtmlFurther : LeafName
  HeadingAtx : LeafName
  HeadingSetext : LeafName
  ThematicBreak : LeafName
  GfmTable : LeafName

-- the first of them that passes a test
abbrev pub first_of : (LeafName → Bool) → List LeafName → Option LeafName
first_of test [] = None
first_of test (l ∷ ls) = if test l then Some l else first_of test ls

-- a number by which each is known
abbrev pub number : LeafName → ℕ
number CodeIndented = 0
number CodeFurther = 1
number Fence = 2
number FenceFurther = 3
number HtmlFlow = 4
number HtmlFurther = 5
number HeadingAtx = 6
number HeadingSetext = 7
number ThematicBreak = 8
number GfmTable = 9

-- the leaves that are tried after one, where it has not taken the line
abbrev pub after_in : ℕ → List LeafName → List LeafName
after_in k [] = []
after_in k (l ∷ ls) = if number l == k then ls else after_in k ls
