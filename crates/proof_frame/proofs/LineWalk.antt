-- A place in a line.
use Rattle.std.proofs.Common.{◌≡◌, ℕ, List, ◌++◌, drop, ap, ◌∙◌}
use Rattle.md_engine.specs.declared.event.Point.{Point}
use Rattle.md_meaning.proofs.TextsLemmas.{NoEnding}
use Rattle.md_events.specs.Events.Places.{past_text}
use Rattle.md_events.proofs.FeedLines.{drop-past}
use Rattle.md_events.proofs.InlineLemmas.{past-index}

-- Bytes of a line that are at a point of a text, which cuts no tab.
pub record At (bytes xs : List ℕ) (p : Point) (rest : List ℕ) : Type 0 where
  pub valid : drop p.index bytes ≡ xs ++ rest
  pub none : NoEnding xs
  pub whole : p.vs ≡ 0

pub past-valid : (bytes xs rest : List ℕ) (p : Point) → drop p.index bytes ≡ xs ++ rest →
    drop (past_text xs p).index bytes ≡ rest
past-valid bytes xs rest p is = ap (λ (i : ℕ). drop i bytes) (past-index xs p) ∙ drop-past bytes p.index xs rest is
