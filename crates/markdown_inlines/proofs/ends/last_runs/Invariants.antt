use Rattle.std.proofs.Common.{◌≡◌, ◌+◌, ◌≤◌, drop, length}
use Rattle.md_meaning.specs.Rest.{run_len}
use Rattle.markdown_inlines.proofs.EndLemmas.{LastFrom}
use Rattle.markdown_inlines.proofs.ends.last_runs.Given as goal

abbrev pub invariant-loop-at : goal.invariant-loop-at
invariant-loop-at l = record {
  fits : l.at ≤ length l.text;
  short : l.run + l.at ≤ length l.text;
  run : l.run ≡ run_len l.mark (drop l.at l.text);
  last : LastFrom l.mark l.text l.last.items l.at;
}

abbrev pub decreases-loop-at : goal.decreases-loop-at
decreases-loop-at l = l.at
