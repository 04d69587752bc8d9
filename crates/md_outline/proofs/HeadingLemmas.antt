-- What an outline knows and shows of a heading is what the events spell out.
use Rattle.std.proofs.Common.{◌≡◌, ℕ, true, cond, List, [], ◌∷◌, refl, ap, arith}
use Rattle.std.specs.Prelude.{nat_le, nat_lt}
use Rattle.std.proofs.lemmas.Bool.Decides.{nat_tests}
use Rattle.md_events.specs.Events.Spelled.{first_recorded}
use Rattle.md_meaning.specs.Texts.{split_lines, trim_each}
use Rattle.md_meaning.specs.Tree.{Block, Heading}
use Rattle.md_events.proofs.PlacesLemmas.{Some_line, some-split}
use Rattle.md_outline.specs.HeadingDepths.{fitted, is_shallow}

-- a heading that is not too deep is shown with its depth
pub fitted-same : (b : Block) → is_shallow b ≡ true → fitted b ≡ b
fitted-same (Heading depth lines) h =
    let le : nat_le depth 6 ≡ true = h in
    let byte : nat_lt depth 256 ≡ true = grind (arith, nat_tests) in
    ap (λ x. Heading (cond x depth 255) lines) byte
fitted-same _ h = refl

-- the lines of a title are, whatever is said next
pub title-valid : (text : List ℕ) (now : List (List ℕ)) →
    first_recorded (trim_each (split_lines text)) now ≡ trim_each (split_lines text)
title-valid text now = go (split_lines text) (some-split text)
  where
    go : (lines : List (List ℕ)) → Some_line lines → first_recorded (trim_each lines) now ≡ trim_each lines
    go [] h = absurd h
    go (line ∷ lines) h = refl
