-- What a line reaches where a container does not continue.
use Rattle.std.specs.Prelude.{List, [], ◌∷◌, ◌++◌}
use Rattle.md_engine.specs.declared.configuration.ParseOptions.{ParseOptions}
use Rattle.md_meaning.specs.Tree.{Blocks}
use Rattle.md_meaning.specs.Rest.{Rest}
use Rattle.md_meaning.specs.State.{Leaf, OpenParagraph, Innermost, Path, kept}
use Rattle.md_meaning.specs.Step.{stopped}
use Rattle.reference_tree.specs.Held.{blocks_meaning}
use Rattle.reference_tree.specs.declared.state.Frame.{Frame}
use Rattle.reference_tree.specs.States.{container_meaning, within}

-- these blocks, and after them this leaf
abbrev pub spot_at : Blocks → Leaf → Innermost
spot_at bs x = record { here = bs; leaf = x }

-- a paragraph with this line after its own; no other leaf takes it
abbrev pub with_more : Leaf → Rest → Leaf
with_more (OpenParagraph lines) r = OpenParagraph (lines ++ kept r ∷ [])
with_more leaf r = leaf

-- what is open with this line after those of the paragraph
abbrev pub more_text : Innermost → Rest → Innermost
more_text s r = record { here = s.here; leaf = with_more s.leaf r }

-- these containers, and in them this path, where the outermost does not continue
abbrev pub stopped_in : ParseOptions → List Frame → Path → Rest → Path
stopped_in options [] p r = p
stopped_in options (f ∷ fs) p r =
    stopped options (blocks_meaning f.before) (container_meaning f.container) (within fs p) r
