use Rattle.std.proofs.Common.{◌≡◌, ◌+◌, ◌-◌, ◌≤◌, drop, length}
use Rattle.markdown_inlines.specs.Plain.{inner_len}
use Rattle.markdown_inlines.proofs.plain.each_inner_len.Given as goal

abbrev pub invariant-loop-at : goal.invariant-loop-at
invariant-loop-at l = record {
  within : l.at ≤ length l.text;
  counted : l.at + inner_len l.literals (drop l.at l.text) ≡ inner_len l.literals l.text;
}

abbrev pub decreases-loop-at : goal.decreases-loop-at
decreases-loop-at l = length l.text - l.at
