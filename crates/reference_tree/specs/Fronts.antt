-- The lines that rests are, and the frontmatter before them.
use Rattle.std.specs.Prelude.{◌≡◌, ℕ, List, map, drop}
use Rattle.md_meaning.specs.Preamble as p
use Rattle.reference_tree.specs.declared.preamble.Front.{Front}
use Rattle.reference_tree.specs.declared.rest.Rest.{Rest}
use Rattle.reference_tree.specs.Trees.{meaning}

-- the bytes of these lines
abbrev pub lines_in : List Rest → List (List ℕ)
lines_in rests = map (λ x. x.bytes.now) rests

abbrev pub front_meaning : Front → p.Front
front_meaning f = record { block = meaning f.block; after = lines_in f.after.now }

-- the last of these lines
pub record IsEnd (rests after : List Rest) : Type 0 where
  pub before : ℕ
  pub is : after ≡ drop before rests
