use Rattle.std.proofs.Common.{arith}
use Rattle.reference_tree.proofs.ParagraphLemmas.{texts-next}
use Rattle.reference_tree.proofs.paragraph.texts.Goals as goal

pub loop-kept-preserved : goal.loop-kept-preserved
loop-kept-preserved c =
    texts-next c.loop-kept.texts.items c.push.new.items.items c.args.lines.now _ c.loop-kept.kept-index
    (omega arith) c.in_ok-push.ensures c.loop-kept.invariant
