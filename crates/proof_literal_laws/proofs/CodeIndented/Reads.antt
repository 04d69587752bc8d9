-- How a line of code is read, and a blank line where code is open: as the last line of the code.
use Rattle.std.proofs.Common.{◌≡◌, ℕ, List, [], ◌∷◌, ◌++◌, refl, ◌∙◌, ap}
use Rattle.std.specs.Prelude.{Some}
use Rattle.md_engine.specs.declared.event.Name.TheVariants as n
use Rattle.md_engine.specs.declared.event.Point.{Point}
use Rattle.md_meaning.specs.Leaves.{code_line}
use Rattle.md_meaning.specs.Rest.{Rest}
use Rattle.md_meaning.specs.Tree.{Line}
use Rattle.md_events.specs.Events.Spelled.{AsLine, CodeLeaf, OpenLeaf, Reading, empty_line, joined, noted}
use Rattle.proof_literal_laws.specs.Leaf.CodeIndented.{code_parts}
use Rattle.proof_frame.proofs.IndentRemoved.Places.{FurtherAt}
use Rattle.proof_frame.proofs.IndentRemoved.Reads.{empty-joined, on-last}
use Rattle.proof_literal_laws.proofs.IndentRemoved.Reads.{lost-read}
use Rattle.proof_frame.proofs.PartsFacts.{ReadsLeaf}

-- an empty line becomes the one that is said
line-noted : (before : List Line) (line : Line) →
    noted AsLine line (CodeLeaf (before ++ empty_line ∷ [])) ≡ CodeLeaf (before ++ line ∷ [])
line-noted before line =
    ap CodeLeaf
    (on-last (λ (l : Line). joined l line) before empty_line
    ∙ ap (λ (l : Line). before ++ l ∷ []) (empty-joined line))

-- The line becomes what the line definition has of it.
pub parts-read : (bytes : List ℕ) (r : Rest) (p q : Point) (before : List Line) → FurtherAt bytes r p q →
    ReadsLeaf bytes (CodeLeaf (before ++ empty_line ∷ [])) (CodeLeaf (before ++ code_line r ∷ [])) (code_parts r p q)
parts-read bytes r p q before is = λ rd none at.
    lost-read bytes n.CodeFlowChunk 4 r p q refl is rd (CodeLeaf (before ++ empty_line ∷ [])) none at
    (line-noted before empty_line)
    ∙ ap (λ (l : OpenLeaf). let x : Reading = record rd { leaf = Some l } in x) (line-noted before (code_line r))
