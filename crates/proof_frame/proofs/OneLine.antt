-- Texts that are on one line.
use Rattle.std.proofs.Common.{◌≡◌, ℕ, true, List, [], ◌∷◌, refl, ap, ◌∙◌, arith}
use Rattle.std.proofs.lemmas.Bool.{and_from}
use Rattle.md_engine.specs.declared.event.Point.{Point}
use Rattle.md_meaning.specs.Texts.{split_lines}
use Rattle.md_events.specs.Events.Inline.{are_lines, is_one_line}
use Rattle.md_events.specs.Events.Places.{past_text, same_place}
use Rattle.md_events.proofs.InlineLemmas.{same-refl}
use Rattle.proof_frame.proofs.LineWalk.{At}
use Rattle.proof_frame.proofs.LineTexts.{one-last}
use Rattle.proof_frame.proofs.PieceFacts.{over-front}

-- it is a line
pub one-line : (bytes : List ℕ) (b : ℕ) (bs rest : List ℕ) (p : Point) → At bytes (b ∷ bs) p rest →
    are_lines bytes (past_text (b ∷ bs) p) (record { first = p; after = past_text (b ∷ bs) p } ∷ []) ≡ true
one-line bytes b bs rest p at =
    let q = past_text (b ∷ bs) p in
    let over = over-front bytes p q (b ∷ bs) rest at.valid (omega arith) refl in
    and_from _ _
    (ap (λ (l : List ℕ). is_one_line (split_lines l) (same_place q q)) over.slice
    ∙ one-last (b ∷ bs) (omega arith) at.none (same_place q q) (same-refl q))
    refl
