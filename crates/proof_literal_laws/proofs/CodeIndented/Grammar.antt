-- Lines of indented code in the grammar of code, and blank lines in it.
use Rattle.std.proofs.Common.{◌≡◌, ℕ, true, List, [], ◌∷◌, ◌++◌, refl}
use Rattle.md_engine.specs.declared.event.Name.TheVariants as n
use Rattle.md_engine.specs.declared.event.Point.{Point}
use Rattle.md_meaning.specs.Rest.{Rest, lose}
use Rattle.md_events.specs.Events.Grammar.{Expression, following, inside, may_end, plain_text}
use Rattle.md_events.specs.Events.Nested.{pair}
use Rattle.md_events.proofs.GrammarLemmas.{Leads}
use Rattle.proof_frame.specs.RestLine.{rest_line}
use Rattle.proof_literal_laws.specs.Leaf.CodeIndented.{code_parts}
use Rattle.proof_frame.proofs.ContainerNames.{TakesPrefixes}
use Rattle.proof_literal_laws.proofs.IndentRemoved.Grammar.{left_over, lost-leads}

-- What is left of code, which has no text parts: at its begin, after a line with something in it, and where a further
-- line begins.
abbrev pub code_begun : Expression
code_begun = inside plain_text n.CodeIndented

abbrev pub following_line : Expression
following_line = following n.CodeFlowChunk (following n.SpaceOrTab code_begun)

abbrev pub in_line : Expression
in_line = following n.LineEnding following_line

-- after a line of it
abbrev pub line_left : Rest → Expression
line_left r = left_over in_line following_line (rest_line (lose 4 r))

-- An ending begins a further line, also after an empty one; prefixes may be before it, and code may end after any line.
pub line-ending : (line : List ℕ) → following n.LineEnding (left_over in_line following_line line) ≡ in_line
line-ending [] = refl
line-ending (b ∷ bs) = refl

pub line-ends : (line : List ℕ) → may_end (left_over in_line following_line line) ≡ true
line-ends [] = refl
line-ends (b ∷ bs) = refl

pub line-takes : TakesPrefixes in_line
line-takes = (refl, refl)

-- The first line has its four columns, and something after them;
pub first-leads : (text : Expression) (p at q : Point) →
    Leads text (code_begun ∷ []) (following_line ∷ []) (pair n.SpaceOrTab p at ++ pair n.CodeFlowChunk at q)
first-leads text p at q = λ outer. refl

-- any other has what it has.
pub line-leads : (text : Expression) (r : Rest) (p q : Point) →
    Leads text (in_line ∷ []) (line_left r ∷ []) (code_parts r p q)
line-leads text r p q = lost-leads text in_line following_line n.CodeFlowChunk 4 r p q refl refl refl
