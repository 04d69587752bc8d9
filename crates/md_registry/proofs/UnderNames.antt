-- A line that continues text is one of a table, if it takes the last line of that as its head, or else the underline of
-- a setext heading.
use Rattle.std.proofs.Common.{◌≡◌, true, false, refl, ap}
use Rattle.md_engine.specs.declared.configuration.ParseOptions.{ParseOptions}
use Rattle.md_engine.specs.declared.tokenizer.held_leaf.HeldLeaf.{HeldLeaf}
use Rattle.md_engine.specs.declared.tokenizer.held_leaf.HeldLeaf.TheVariants as held_leaf
use Rattle.md_engine.specs.declared.tokenizer.held_leaf.OpenText.{OpenText}
use Rattle.md_meaning.specs.Rest.{Rest}
use Rattle.proof_frame.specs.LeafName.{GfmTable, HeadingSetext, LeafName}
use Rattle.md_registry.specs.Registry.{leaf}

pub further-text : (at : OpenText) (l : LeafName) → (leaf l).further (held_leaf.Text at) ≡ true →
    (leaf l).heads ≡ false → l ≡ HeadingSetext
further-text at HeadingSetext f h = refl
further-text at _ f h = cc

-- no leaf is open after it
pub under-shuts : (at : OpenText) (l : LeafName) → (leaf l).further (held_leaf.Text at) ≡ true →
    (leaf l).heads ≡ false →
    (options : ParseOptions) (on : HeldLeaf) (r : Rest) → (leaf l).holds options on r ≡ held_leaf.None
under-shuts at l f h options on r = ap (λ (l : LeafName). (leaf l).holds options on r) (further-text at l f h)

-- a line that takes one as its head is one of a table
pub heads-table : (l : LeafName) → (leaf l).heads ≡ true → l ≡ GfmTable
heads-table GfmTable h = refl
heads-table _ h = cc
