use Rattle.std.proofs.Common.{◌≡◌, ◌-◌, ◌≤◌, false, length}
use Rattle.md_inlines.specs.Code as code
use Rattle.md_inlines.proofs.CodeLemmas.{further}
use Rattle.md_inlines.proofs.code.before_run.Given as goal

abbrev pub invariant-loop-first : goal.invariant-loop-first
invariant-loop-first l = record {
  front : length l.rest ≤ length l.fn.text;
  same :
      further (length l.fn.text - length l.rest) (code.before_run l.mark l.size false l.rest) ≡
      code.before_run l.mark l.size false l.fn.text;
}

abbrev pub decreases-loop-first : goal.decreases-loop-first
decreases-loop-first l = length l.rest
