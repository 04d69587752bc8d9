-- What a line is against, by the leaf that it meets: no text that is open, text, or text that it is lazy for.
use Rattle.md_engine.specs.declared.tokenizer.held_leaf.HeldLeaf.{HeldLeaf}
use Rattle.md_engine.specs.declared.tokenizer.held_leaf.HeldLeaf.TheVariants as held_leaf
use Rattle.md_meaning.specs.Leaves.{ParagraphContext, NoText, Text, LazyText}

abbrev pub context_of : HeldLeaf → ParagraphContext
context_of (held_leaf.Text at) = Text
context_of (held_leaf.LazyText at) = LazyText
context_of _ = NoText
