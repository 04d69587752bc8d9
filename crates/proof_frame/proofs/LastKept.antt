-- The last line of an open text, and what is held of it.
use Rattle.std.proofs.Common.{◌≡◌, ℕ, List, [], ◌∷◌, ◌++◌, refl}
use Rattle.md_meaning.specs.State.{ParagraphLine}
use Rattle.proof_frame.specs.Leaf.Paragraph.{of_last}

-- a number of the line that comes last
pub last-is : (number : ParagraphLine → ℕ) (lines : List ParagraphLine) (k : ParagraphLine) →
    of_last number (lines ++ k ∷ []) ≡ number k
last-is number [] k = refl
last-is number (first ∷ []) k = refl
last-is number (first ∷ next ∷ lines) k = last-is number (next ∷ lines) k
