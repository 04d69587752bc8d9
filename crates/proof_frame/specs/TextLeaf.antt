-- The interface of a leaf of lines of text, which are joined and read later, as a paragraph: what the frame knows of
-- it.
use Rattle.std.specs.Prelude.{ℕ, List}
use Rattle.md_engine.specs.declared.configuration.ParseOptions.{ParseOptions}
use Rattle.md_engine.specs.declared.event.Link.{Link}
use Rattle.md_engine.specs.declared.event.Name.{Name}
use Rattle.md_meaning.specs.State.{ParagraphLine, Leaf}
use Rattle.md_meaning.specs.Tree.{Block, Blocks}

pub record TextLeaf : Type 0 where
  -- its name, from the point where its first line begins to the one where its last ends
  pub name : Name
  -- how each of its lines is linked, so that it is read later
  pub link : Link
  -- its block, by the texts of its lines, and what the line definition holds of it where it is open
  pub block : List (List ℕ) → Block
  pub held : List ParagraphLine → Leaf
  -- blocks, with those of these lines after them where it is shut: what is cut from its front, and its block of the
  -- lines that remain, if any do
  pub following : ParseOptions → Blocks → List (List ℕ) → Blocks
