use Rattle.std.proofs.Common.{◌≡◌, ◌-◌, length, map}
use Rattle.std.specs.Prelude.{string_bytes}
use Rattle.md_inlines.specs.Content.{has_form}
use Rattle.reference_inlines.specs.Reading.{left, level_nodes, state_of}
use Rattle.reference_inlines.proofs.brackets.read.Given as goal

abbrev pub invariant-loop-byte : goal.invariant-loop-byte
invariant-loop-byte l =
    left l.options (has_form (map string_bytes l.fn.labels.definitions.now))
    (has_form (map string_bytes l.fn.labels.footnotes.now)) l.text (state_of l.reading) ≡
    level_nodes l.options (has_form (map string_bytes l.fn.labels.definitions.now))
    (has_form (map string_bytes l.fn.labels.footnotes.now)) l.text l.fn.start

abbrev pub decreases-loop-byte : goal.decreases-loop-byte
decreases-loop-byte l = length l.text - l.reading.at
