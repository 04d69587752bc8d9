use Rattle.std.proofs.Common.{◌≡◌, ℕ, ◌≤◌, None, drop, length}
use Rattle.md_inlines.specs.RawHtml.{after_word}
use Rattle.markdown_inlines.proofs.ends.last_word.Given as goal

abbrev pub invariant-loop-at : goal.invariant-loop-at
invariant-loop-at l = record {
  fits : l.at ≤ length l.text;
  last : (q : ℕ) → l.at ≤ q → after_word l.word (drop q l.text) ≡ None;
}

abbrev pub decreases-loop-at : goal.decreases-loop-at
decreases-loop-at l = l.at
