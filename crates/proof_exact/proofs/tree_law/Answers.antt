use Rattle.proof_exact.proofs.TextCut.{tree-text}
use Rattle.proof_exact.proofs.TreeParts.{labels-joined, outline-joined, tree-parts}
use Rattle.proof_exact.proofs.tree_law.Goals as goal

pub returns : goal.returns
returns c = record {
  cut = tree-parts c.args.options.now;
  before_empty = tree-text c.args.options.now;
  labels_are = labels-joined;
  outline_is = outline-joined;
}
