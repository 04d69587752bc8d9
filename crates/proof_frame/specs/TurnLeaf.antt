-- The interface of what a line turns a text into: what the frame knows of it, beside the line (`LineLeaf`).
use Rattle.std.specs.Prelude.{ℕ, List}
use Rattle.md_engine.specs.declared.event.Name.{Name}
use Rattle.md_meaning.specs.Rest.{Rest}
use Rattle.md_meaning.specs.Tree.{Block}

pub record TurnLeaf : Type 0 where
  -- its name, from the point where the first line of the text begins to the one where the line that turns it ends, and
  -- that of its text
  pub name : Name
  pub text : Name
  -- its block, by the texts of the lines and the rest of the line that turns them
  pub block : List (List ℕ) → Rest → Block
