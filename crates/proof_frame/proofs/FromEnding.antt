-- What is left of some cells from the ending of their line on.
use Rattle.std.proofs.Common.{◌≡◌, Bool, true, false, cond, nat_eq, List, [], ◌∷◌, refl, ap, subst}
use Rattle.md_engine.specs.Meaning.{Cell}
use Rattle.md_events.specs.Ahead.{from_ending}
use Rattle.md_events.proofs.FeedLines.{Stops}
use Rattle.md_link_definitions.proofs.LineCells.{line-stops}

-- from there on, the same is left of it
pub from_ending-again : (cells : List Cell) → from_ending (from_ending cells) ≡ from_ending cells
from_ending-again [] = refl
from_ending-again (c ∷ cs) = go (nat_eq c.byte 10) refl (from_ending-again cs)
  where
    go : (x : Bool) → nat_eq c.byte 10 ≡ x → from_ending (from_ending cs) ≡ from_ending cs →
        from_ending (cond x (c ∷ cs) (from_ending cs)) ≡ cond x (c ∷ cs) (from_ending cs)
    go true e h = ap (λ (y : Bool). cond y (c ∷ cs) (from_ending cs)) e
    go false e h = h

-- so what is the same from its ending on begins with one
pub stops-same : (cells : List Cell) → from_ending cells ≡ cells → Stops cells
stops-same cells e = subst Stops e (line-stops cells)
