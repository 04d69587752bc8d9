use Rattle.md_content.proofs.LabelWalks.{Reading}
use Rattle.md_content.proofs.labels.read_label.Given as goal

abbrev pub invariant-loop-at : goal.invariant-loop-at
invariant-loop-at l = Reading l.fn.bytes l.fn.events l.at l.text.items
