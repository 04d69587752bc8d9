use Rattle.md_content.proofs.LabelWalks.{label-cut}
use Rattle.md_content.proofs.labels.read_label.Goals as goal

pub returns-in_default : goal.returns-in_default
returns-in_default c =
    label-cut c.args.bytes.now c.args.events.now c.loop-at.at c.loop-at.text.items c.in_default.ensures.lookup.3
    c.loop-at.invariant
