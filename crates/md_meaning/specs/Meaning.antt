-- What a text means: its block tree.
use Rattle.std.specs.Prelude.{ℕ, List, Option, Some, None}
use Rattle.md_engine.specs.declared.configuration.ParseOptions.{ParseOptions}
use Rattle.md_meaning.specs.Tree.{Block, Blocks, End, More}
use Rattle.md_meaning.specs.State.{At, closed}
use Rattle.md_meaning.specs.Preamble.{preamble}
use Rattle.md_meaning.specs.Step.{spot_of, steps}
use Rattle.md_meaning.specs.Grouped.{grouped}

abbrev pub with_frontmatter : Option Block → Blocks → Blocks
with_frontmatter None bs = bs
with_frontmatter (Some b) bs = More b bs

-- the frontmatter, and then the lines of the body one after another, closed at the end of the text and grouped into
-- lists
abbrev pub tree : ParseOptions → List ℕ → Blocks
tree options text =
    let p = preamble options text in
    with_frontmatter p.front (grouped (closed options (steps options (At (spot_of End)) p.body)))
