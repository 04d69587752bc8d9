-- Which leaf takes lines of text.
use Rattle.proof_frame.specs.Leaf.Paragraph.{paragraph_leaf}
use Rattle.proof_frame.specs.TextLeaf.{TextLeaf}

abbrev pub text_leaf : TextLeaf
text_leaf = paragraph_leaf
