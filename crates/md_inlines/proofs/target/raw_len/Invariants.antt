use Rattle.std.proofs.Common.{◌≡◌, ◌-◌, ◌≤◌, false, length}
use Rattle.md_inlines.specs.Target as target
use Rattle.md_inlines.proofs.CodeLemmas.{further}
use Rattle.md_inlines.proofs.target.raw_len.Given as goal

abbrev pub invariant-loop-first : goal.invariant-loop-first
invariant-loop-first l = record {
  front : length l.rest ≤ length l.fn.text;
  few : l.depth ≤ 32;
  same :
      further (length l.fn.text - length l.rest) (target.raw_len l.depth l.escaped l.rest) ≡
      target.raw_len 0 false l.fn.text;
}

abbrev pub decreases-loop-first : goal.decreases-loop-first
decreases-loop-first l = length l.rest
