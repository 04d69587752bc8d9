use Rattle.std.proofs.Common.{◌≡◌, ◌++◌, ◌-◌, drop, length, map}
use Rattle.std.specs.Prelude.{string_bytes}
use Rattle.md_content.specs.Labels.{labels_in}
use Rattle.md_content.proofs.labels.labels.Given as goal

abbrev pub invariant-loop-at : goal.invariant-loop-at
invariant-loop-at l =
    map string_bytes l.found.items ++ labels_in l.fn.bytes (drop l.at l.fn.events) ≡ labels_in l.fn.bytes l.fn.events

abbrev pub decreases-loop-at : goal.decreases-loop-at
decreases-loop-at l = length l.events - l.at
