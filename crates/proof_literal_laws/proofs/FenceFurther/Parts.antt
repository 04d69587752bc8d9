-- What is in a further line of fenced code or math, by its names: parts of a leaf, no line of one, no linked text, and
-- none that ends a line.
use Rattle.md_engine.specs.declared.configuration.ParseOptions.{ParseOptions}
use Rattle.md_engine.specs.declared.event.Point.{Point}
use Rattle.md_engine.specs.declared.tokenizer.held_leaf.HeldLeaf.{HeldLeaf}
use Rattle.md_meaning.specs.Rest.{Rest}
use Rattle.md_leaves.proofs.SpannedLines.{NoLines}
use Rattle.md_events.proofs.EndingsLemmas.{AreOthers}
use Rattle.proof_literal_laws.specs.Leaf.FenceFurther.{further_parts}
use Rattle.proof_literal_laws.proofs.FenceFurther.Names.{parts-inside}
use Rattle.proof_literal_laws.proofs.IndentRemoved.Parts as part

-- they are of no line of a leaf,
pub further-lines : (options : ParseOptions) (on : HeldLeaf) (r : Rest) (p q : Point) →
    NoLines (further_parts options on r p q)
further-lines options on r p q = part.inside-lines (further_parts options on r p q) (parts-inside options on r p q)

-- and none ends a line
pub further-others : (options : ParseOptions) (on : HeldLeaf) (r : Rest) (p q : Point) →
    AreOthers (further_parts options on r p q)
further-others options on r p q = part.inside-others (further_parts options on r p q) (parts-inside options on r p q)
