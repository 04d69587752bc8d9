use Rattle.std.proofs.Common.{◌≡◌, ◌++◌, drop, map}
use Rattle.std.specs.Prelude.{string_bytes}
use Rattle.md_content.specs.FootnoteLabels.{footnote_labels_from, footnote_labels_in}
use Rattle.md_content.proofs.footnote_labels.footnote_labels.Given as goal

abbrev pub invariant-loop-event : goal.invariant-loop-event
invariant-loop-event l =
    map string_bytes l.found.items ++ footnote_labels_from l.fn.bytes l.from (drop l.event-index l.event-items) ≡
    footnote_labels_in l.fn.bytes l.fn.events
