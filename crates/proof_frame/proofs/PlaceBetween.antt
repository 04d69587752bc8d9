-- Low bytes after a place.
use Rattle.std.proofs.Common.{◌≡◌, ℕ, ◌-◌, true, List, ◌∷◌, ◌++◌, drop, refl, arith}
use Rattle.std.specs.List.{list_all}
use Rattle.md_engine.specs.declared.event.Point.{Point}
use Rattle.md_outline.specs.Between.{is_between}
use Rattle.md_events.specs.Events.Places.{past_text}
use Rattle.md_events.proofs.InlineLemmas.{past-index}
use Rattle.proof_frame.proofs.BetweenFacts.{between-following, is_low, low-at}
use Rattle.proof_frame.proofs.PieceFacts.{over-front}

abbrev pub IsPlace : List ℕ → Point → Type 0
IsPlace bytes p = is_between bytes p.index ≡ true

-- after bytes of ASCII
pub low-following : (bytes : List ℕ) (b : ℕ) (bs rest : List ℕ) (p : Point) → drop p.index bytes ≡ (b ∷ bs) ++ rest →
    list_all is_low (b ∷ bs) ≡ true → IsPlace bytes (past_text (b ∷ bs) p)
low-following bytes b bs rest p is low =
    let q = past_text (b ∷ bs) p in
    let over = over-front bytes p q (b ∷ bs) rest is (omega arith) refl in
    let size = past-index (b ∷ bs) p in
    between-following bytes q.index
    (low-at bytes (b ∷ bs) p.index q.index (q.index - 1) over.slice size low (omega (arith, size))
    (omega (arith, size)))
