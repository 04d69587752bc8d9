-- A text on one line is one chunk.
use Rattle.std.proofs.Common.{ℕ, List, ◌∷◌, refl, arith}
use Rattle.md_engine.specs.declared.event.Point.{Point}
use Rattle.md_events.specs.Events.Places.{past_text}
use Rattle.md_events.proofs.InlineLemmas.{past-index}
use Rattle.proof_frame.proofs.ChunkFacts.{Chunked, chunked-alone}
use Rattle.proof_frame.proofs.LineWalk.{At}
use Rattle.proof_frame.proofs.PieceFacts.{over-front}

pub text-chunked : (bytes : List ℕ) (b : ℕ) (bs rest : List ℕ) (p : Point) → At bytes (b ∷ bs) p rest →
    Chunked bytes p (past_text (b ∷ bs) p)
text-chunked bytes b bs rest p at =
    let q = past_text (b ∷ bs) p in
    let over = over-front bytes p q (b ∷ bs) rest at.valid (omega arith) refl in
    chunked-alone bytes (b ∷ bs) p q (omega arith) at.none over.whole (past-index (b ∷ bs) p) over.slice
