use Rattle.std.proofs.Common.{◌≡◌, ◌≤◌, ◌-◌, drop, length, true}
use Rattle.md_content.specs.Lines.{begins_chunk, lines_from}
use Rattle.md_content.specs.WholeLines.{are_lines}
use Rattle.md_content.proofs.ParagraphLines.{CountsTo}
use Rattle.md_content.proofs.lines.further_lines.Given as goal

abbrev pub invariant-loop-following : goal.invariant-loop-following
invariant-loop-following l = record {
  begins : begins_chunk (drop l.at l.events) ≡ true;
  lines : CountsTo l.events l.at l.more;
  whole : are_lines (lines_from (drop l.at l.events)) ≡ are_lines (lines_from l.events);
  few : l.more ≤ l.at;
}

abbrev pub decreases-loop-following : goal.decreases-loop-following
decreases-loop-following l = length l.events - l.at
