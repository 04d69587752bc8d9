-- A piece of a line of a text.
use Rattle.std.specs.Prelude.{◌≡◌, ◌++◌, ℕ, List, drop}
use Rattle.md_engine.specs.declared.event.Point.{Point}
use Rattle.md_engine.specs.Place.{IsPlaced}
use Rattle.md_meaning.proofs.TextsLemmas.{NoEnding}

-- these bytes are at a point of a text, and none of them ends the line
pub record IsOnLine (bytes piece : List ℕ) (p : Point) : Type 0 where
  pub placed : IsPlaced bytes p
  pub rest : List ℕ
  pub here : drop p.index bytes ≡ piece ++ rest
  pub line : NoEnding piece
