-- A row nests with its cells: its parts lie side by side, and cells and what they hold are put around whole parts.
use Rattle.std.proofs.Common.{◌≡◌, List, [], ◌∷◌, ◌++◌}
use Rattle.md_engine.specs.declared.event.Event.{Event}
use Rattle.md_engine.specs.declared.event.Kind.TheVariants.{Enter, Exit}

-- One event.

-- The names that are open in a row.

-- Names.

-- A row of text: between two words of a cell nothing is given, and the first word stays open.

-- A delimiter row: what a cell holds stays open over colons and dashes.

-- Whole rows.

-- parts side by side: each begin has its end right after it
abbrev pub ArePairs : List Event → Type 0
ArePairs [] = Unit {0}
ArePairs (a ∷ []) = ⊥
ArePairs (a ∷ b ∷ es) = (a.kind ≡ Enter) × (b.kind ≡ Exit) × (a.name ≡ b.name) × ArePairs es

pub pairs-append : (xs ys : List Event) → ArePairs xs → ArePairs ys → ArePairs (xs ++ ys)
pairs-append [] ys h k = k
pairs-append (a ∷ []) ys h k = absurd h
pairs-append (a ∷ b ∷ xs) ys h k = (h.0, h.1, h.2, pairs-append xs ys h.3 k)
