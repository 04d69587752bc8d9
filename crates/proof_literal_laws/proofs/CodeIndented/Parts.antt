-- What is on a line of indented code, its first one or a further one, blank or not.
use Rattle.std.proofs.Common.{◌≡◌, ℕ, List, drop, refl, sym, ap₂}
use Rattle.md_engine.specs.declared.event.Event.{Event}
use Rattle.md_engine.specs.declared.event.Name.TheVariants as n
use Rattle.md_engine.specs.declared.event.Point.{Point}
use Rattle.md_meaning.specs.Rest.{Rest}
use Rattle.md_events.specs.Events.Nested.{enter}
use Rattle.md_events.specs.Events.Places.{past_text}
use Rattle.proof_frame.specs.RestLine.{rest_line}
use Rattle.proof_literal_laws.specs.Leaf.CodeIndented.{code_events, code_parts, further_events, further_parts}
use Rattle.proof_literal_laws.specs.Leaf.CodeIndented.{line_parts}
use Rattle.proof_frame.specs.LineColumns.{rest_of}
use Rattle.proof_frame.proofs.IndentRemoved.Columns.{rest-again}
use Rattle.proof_literal_laws.proofs.IndentRemoved.Names.{AreInside, lost-inside}
use Rattle.proof_frame.proofs.IndentRemoved.Places.{FurtherAt, further-rest}

-- They are whitespace, and a part of a leaf.
pub code-inside : (r : Rest) (p q : Point) → AreInside (code_parts r p q)
code-inside r p q = lost-inside n.CodeFlowChunk 4 r p q refl

-- What is said of a line by its bytes is said of its rest, where it is,
parts-at : (parts : Rest → Point → List Event) (bytes : List ℕ) (r : Rest) (p q : Point) → FurtherAt bytes r p q →
    parts (rest_of p (rest_line r)) (past_text (rest_line r) p) ≡ parts r q
parts-at parts bytes r p q is =
    ap₂ parts (rest-again bytes (drop q.index bytes) r p (further-rest bytes r p q is)) (sym is.at.end)

-- so also what is on the first line, and on a further one.
pub code-is : (bytes : List ℕ) (r : Rest) (p q : Point) → FurtherAt bytes r p q →
    code_events (rest_line r) p ≡ line_parts (enter n.CodeIndented p) r p q
code-is bytes r p q is =
    parts-at (λ (s : Rest) (x : Point). line_parts (enter n.CodeIndented p) s p x) bytes r p q is

pub further-is : (bytes : List ℕ) (r : Rest) (p q : Point) → FurtherAt bytes r p q →
    further_events (rest_line r) p ≡ further_parts r p q
further-is bytes r p q is = parts-at (λ (s : Rest) (x : Point). further_parts s p x) bytes r p q is
