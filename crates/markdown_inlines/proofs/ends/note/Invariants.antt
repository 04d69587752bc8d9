use Rattle.std.proofs.Common.{◌≡◌, ℕ, ◌+◌, ◌-◌, get_or, length}
use Rattle.markdown_inlines.proofs.ends.note.Given as goal

abbrev pub invariant-loop-last : goal.invariant-loop-last
invariant-loop-last l = (size : ℕ) → get_or l.last.items size 0 ≡ get_or l.initial.last.items size 0

abbrev pub decreases-loop-last : goal.decreases-loop-last
decreases-loop-last l = (l.len + 1) - length l.last.items
