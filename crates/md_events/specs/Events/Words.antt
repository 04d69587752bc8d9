-- Words of names: regular expressions over names, and those that the grammar of events is made of.
use Rattle.std.specs.Prelude.{Bool, true, false, ◌&&◌, ◌||◌, if◌then◌else◌, List, [], ◌∷◌}
use Rattle.std.specs.List.{list_any}
use Rattle.md_engine.specs.contracts.event.NamePartialEq.TheImpl as names
use Rattle.md_engine.specs.declared.event.Name.{Name}
use Rattle.md_engine.specs.declared.event.Name.TheVariants as n

-- whether two names are the same, as the derived test of the names has it
abbrev pub same_name : Name → Name → Bool
same_name a b = names.ghosts.eq a b

-- Regular expressions over names.

pub data Expression : Type 0 where
  -- no word at all
  Never : Expression
  -- the empty word
  Nothing : Expression
  -- one of these names
  One : List Name → Expression
  -- a word of the one, and after it one of the other
  Then : Expression → Expression → Expression
  -- a word of the one or of the other
  Or : Expression → Expression → Expression
  -- any number of words
  Many : Expression → Expression

-- whether the word may end here
abbrev pub may_end : Expression → Bool
may_end Never = false
may_end Nothing = true
may_end (One names) = false
may_end (Then x y) = may_end x && may_end y
may_end (Or x y) = may_end x || may_end y
may_end (Many x) = true

abbrev pub and_then : Expression → Expression → Expression
and_then Never y = Never
and_then Nothing y = y
and_then x y = Then x y

abbrev pub or_else : Expression → Expression → Expression
or_else Never y = y
or_else x Never = x
or_else x y = Or x y

-- what may come after this name
abbrev pub following : Name → Expression → Expression
following name Never = Never
following name Nothing = Never
following name (One names) = if list_any (same_name name) names then Nothing else Never
following name (Then x y) = or_else (and_then (following name x) y) (if may_end x then following name y else Never)
following name (Or x y) = or_else (following name x) (following name y)
following name (Many x) = and_then (following name x) (Many x)

-- Words of the grammar.

abbrev pub one : Name → Expression
one name = One (name ∷ [])

abbrev pub optional : Expression → Expression
optional x = Or x Nothing

-- one at least
abbrev pub some : Expression → Expression
some x = Then x (Many x)

-- spaces and tabs, if there are any
abbrev pub white : Expression
white = optional (one n.SpaceOrTab)

-- what containers take of a line: indents, and prefixes of quotes
abbrev pub prefixes : Expression
prefixes = Many (One (n.SpaceOrTab ∷ n.BlockQuotePrefix ∷ []))

-- a line ending, and what containers take of the next line: inside of a leaf, and between blocks
abbrev pub next_line : Expression
next_line = Then (one n.LineEnding) prefixes

abbrev pub line_break : Expression
line_break = Then (One (n.LineEnding ∷ n.BlankLineEnding ∷ [])) prefixes

-- a text part that is not read yet: its chunks, one a line
abbrev pub unread_text : Expression
unread_text = Then (one n.Data) (Many (One (n.Data ∷ n.SpaceOrTab ∷ n.BlockQuotePrefix ∷ [])))

-- a text part as the plain layer reads it
abbrev pub plain_text : Expression
plain_text = Then (optional (one n.Data)) (Many (Then next_line (optional (one n.Data))))
