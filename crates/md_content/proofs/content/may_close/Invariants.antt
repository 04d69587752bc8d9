use Rattle.std.proofs.Common.{◌≡◌, ◌-◌, drop, length}
use Rattle.md_content.specs.LabelLook.{may_close}
use Rattle.md_content.proofs.content.may_close.Given as goal

abbrev pub invariant-loop-at : goal.invariant-loop-at
invariant-loop-at l = may_close (drop l.at l.text) ≡ may_close l.text

abbrev pub decreases-loop-at : goal.decreases-loop-at
decreases-loop-at l = length l.text - l.at
