-- What the plain program makes of a text.
use Rattle.std.specs.Prelude.{◌≡◌, ℕ, List}
use Rattle.md_engine.specs.declared.configuration.ParseOptions.{ParseOptions}
use Rattle.md_program.specs.Listing.{Listing}
use Rattle.md_meaning.specs.Label.{labels}
use Rattle.md_meaning.specs.Meaning.{tree}
use Rattle.md_meaning.specs.Outline.{outline}
use Rattle.md_meaning.specs.Tree.{Blocks}

-- the listing of a tree: its outline, and its labels in source order, repeats kept
pub record Lists (blocks : Blocks) (listing : Listing) : Type 0 where
  pub lines : listing.lines ≡ outline 0 blocks
  pub definitions : listing.definitions ≡ (labels blocks).definitions
  pub footnotes : listing.footnotes ≡ (labels blocks).footnotes

-- the listing of a text is that of its block tree
abbrev pub Outlines : List ℕ → ParseOptions → Listing → Type 0
Outlines text options listing = Lists (tree options text) listing
