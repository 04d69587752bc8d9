use Rattle.std.proofs.Common.{◌≡◌, ℕ, ◌+◌, ◌-◌, ◌<◌, ◌≤◌, true, drop, length}
use Rattle.markdown_inlines.specs.Plain.{begins_text}
use Rattle.markdown_inlines.proofs.plain.text_len.Given as goal

abbrev pub invariant-loop-len : goal.invariant-loop-len
invariant-loop-len l = record {
  within : l.at + l.len ≤ length l.text;
  passed : (k : ℕ) → k < l.at + l.len → begins_text l.literals (drop k l.text) ≡ true;
}

abbrev pub decreases-loop-len : goal.decreases-loop-len
decreases-loop-len l = length l.text - l.at
