use Rattle.std.proofs.Common.{List, ap, ◌∙◌}
use Rattle.md_engine.specs.declared.event.Event.{Event}
use Rattle.md_content.specs.FootnoteLabels.{footnote_labels_from}
use Rattle.md_content.proofs.FootnoteWalk.{footnotes-passed}
use Rattle.md_content.proofs.footnote_labels.footnote_labels.Goals as goal

pub loop-event-init : goal.loop-event-init
loop-event-init c =
    rw c.new-found.ensures.items
    (ap (λ (es : List Event). footnote_labels_from c.args.bytes.now 0 es) c.from_label-event-items.ensures
    ∙ footnotes-passed c.args.bytes.now 0 c.args.events.now)
